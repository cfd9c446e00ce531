-- The list of an old station, and where the first fault of any bytes lies: its number and its place.
-- Assumes nothing.
use Rattle.std.specs.Prelude.{◌≡◌, ◌⊎◌, List, [], ◌∷◌, ◌++◌, map, ℕ, ◌+◌, ◌≤◌, ◌<◌, length, get_or}
use Rattle.byte_format.specs.Number.{bytes_of, number_at}
use Rattle.byte_format.specs.Stands.{Stands}
use Rattle.byte_format.specs.Format.{FitEach, encodes, encode_section}
use Rattle.settings_entry.specs.declared.Setting.{Setting}
use Rattle.settings_list.specs.declared.Migration.{Migration}
use Rattle.settings_entry.specs.Entry.{Entry, entries, setting_of}
use Rattle.settings_list.specs.Migration.{slots, refused_at}
use Rattle.settings_demands.specs.Values.{CodeOf, Good}

-- none of these entries is a bad float
unfoldable pub GoodEach : List Entry → Type 0
GoodEach [] = Unit {0}
GoodEach (e ∷ es) = Good (setting_of e) × GoodEach es

-- the bytes s are the list of these entries
pub record OldList (s : List ℕ) (es : List Entry) : Type 0 where
  -- "a count byte, 1 to 64,
  pub few : (1 ≤ length es) × (length es ≤ 64)
  -- then entries of a code byte and 8 bytes, little-endian"
  pub bytes : s ≡ encode_section entries es
  pub fits : FitEach entries es
  -- no bad float
  pub good : GoodEach es

-- a count from 1 to 64 and the first entries after it, none a bad float, are what stands in s before the place p
pub record EntriesBegun (s : List ℕ) (count : ℕ) (es : List Entry) (p : ℕ) : Type 0 where
  pub few : (1 ≤ count) × (count ≤ 64)
  pub bytes : Stands s 0 (bytes_of 1 count ++ encodes entries es) p
  pub fits : FitEach entries es
  pub good : GoodEach es

-- `ListFault s r p`: the first fault of the bytes s has the number r and lies at the place p
pub data ListFault (s : List ℕ) : ℕ → ℕ → Type 0 where
  -- the count: 1 "cut short", 2 "count"
  no_count : length s ≡ 0 → ListFault s 1 0
  bad_count : 1 ≤ length s → (get_or s 0 0 ≡ 0) ⊎ (64 < get_or s 0 0) → ListFault s 2 0
  -- an entry, in the order of document 01's events: "kind byte missing (1),
  no_code : {n p : ℕ} {es : List Entry} → EntriesBegun s n es p → length es < n → p ≡ length s → ListFault s 1 p
  -- kind unknown (11),
  unknown_code : {n p : ℕ} {es : List Entry} → EntriesBegun s n es p → length es < n → p < length s →
      ((say : ℕ → Setting) → CodeOf (get_or s p 0) say → ⊥) → ListFault s 11 p
  -- rest missing (1)",
  cut_entry : {n p : ℕ} {es : List Entry} {say : ℕ → Setting} → EntriesBegun s n es p → length es < n → p < length s →
      CodeOf (get_or s p 0) say → length s < p + 9 → ListFault s 1 p
  -- then 26 "bad float"
  a_bad_float : {n p : ℕ} {es : List Entry} {say : ℕ → Setting} → EntriesBegun s n es p → length es < n →
      CodeOf (get_or s p 0) say → p + 9 ≤ length s → (Good (say (number_at 8 s (p + 1))) → ⊥) → ListFault s 26 p
  -- after all entries: 17 "extra bytes"
  extra_bytes : {p : ℕ} {es : List Entry} → EntriesBegun s (length es) es p → p < length s → ListFault s 17 p

-- the answer with the settings of these entries, and how many there are
abbrev pub holding : List Entry → ℕ → Migration
holding es p = record { refusal = 0; place = p; number = length es; settings = slots (map setting_of es) }

-- every answer is that of the first fault of the bytes, or of an old list: "On acceptance the place is the length"
pub data ListExplained (s : List ℕ) (m : Migration) : Type 0 where
  refused : {r p : ℕ} → ListFault s r p → m ≡ refused_at r p → ListExplained s m
  accepted : {es : List Entry} → OldList s es → m ≡ holding es (length s) → ListExplained s m
