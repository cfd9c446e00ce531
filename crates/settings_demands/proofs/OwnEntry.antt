-- Each setting of an answer comes from its own entry of the list: its code, its 8 bytes, and no bad float.
-- Assumes nothing.
use mathlib.Core.Path.{◌≡◌, sym, ap, ◌∙◌}
use mathlib.Core.List.{List, [], ◌∷◌, ◌++◌, map}
use Prim.Native.Nat.{ℕ, suc, ◌+◌, ◌*◌, ◌<◌}
use native.Mathlib.Omega.{arith}
use lib.ListN.{length, take, drop, get_or, length-map, get_or-map}
use lib.Seq.{split_at, length-take-le}
use Rattle.byte_format.specs.Number.{bytes_of, number_at, Wide}
use Rattle.byte_format.specs.Stands.{Stands}
use Rattle.byte_format.specs.Format.{encodes}
use Rattle.byte_format.proofs.Standing.{stands_first, stands_left, byte_stands, number_stands}
use Rattle.byte_format.proofs.Sections.{section_records}
use Rattle.byte_format.proofs.Lengths.{length_fixed, encodes_join}
use Rattle.settings_entry.specs.declared.Setting.{Setting}
use Rattle.settings_entry.specs.declared.code.Code.TheVariants as code
use Rattle.settings_list.specs.declared.Migration.{Migration}
use Rattle.settings_entry.specs.Entry.{Entry, byte_of, encode_entry, entries, setting_made, setting_of, entry_of}
use Rattle.settings.specs.Writing.{setting_at}
use Rattle.settings_entry.proofs.Records.{length_entry}
use Rattle.settings_demands.specs.Ensured.{Migrates}
use Rattle.settings_demands.specs.Values.{Good}
use Rattle.settings_demands.specs.FromList.{FromEntry}
use Rattle.settings_demands.specs.OldList.{OldList, ListExplained, refused, accepted}
use Rattle.settings_demands.proofs.Values.{code_known}
use Rattle.settings_demands.proofs.Settings.{entry_kept}
use Rattle.settings_demands.proofs.Lists.{old_whole, good_at_lem}
use Rattle.settings_demands.proofs.Slots.{slot_holds, fit_at}
use Rattle.settings_demands.proofs.Explained.{every_answer}

-- entry i of an old list: its code byte and its 8 bytes, at the place 1 + 9 i
entry_stands : (s : List ℕ) (es : List Entry) (d : Entry) → OldList s es → (i : ℕ) → i < length es → Stands s (1 + 9 * i) (encode_entry (get_or es i d)) (1 + 9 * (i + 1))
unfolding encodes
entry_stands s es d o i h =
    let e = get_or es i d in
    let a = encodes entries (take i es) in
    let b = encodes entries (drop (suc i) es) in
    let c : es ≡ take i es ++ (e ∷ drop (suc i) es) = split_at es i d h in
    let f : encodes entries es ≡ a ++ (encode_entry e ++ b) = ap (encodes entries) c ∙ encodes_join entries (take i es) (e ∷ drop (suc i) es) in
    let r : Stands s 1 (a ++ (encode_entry e ++ b)) (length s) = rw f at (section_records entries es (old_whole o).bytes) in
    let l : length a ≡ 9 * i = length_fixed entries 9 length_entry (take i es) ∙ ap (λ (k : ℕ). 9 * k) (length-take-le i es (omega arith)) in
    let p : 1 + length a ≡ 1 + 9 * i = omega arith in
    let q : 1 + 9 * i + length (encode_entry e) ≡ 1 + 9 * (i + 1) = omega (arith, length_entry e) in
    rw q at (stands_first (encode_entry e) b (rw p at (stands_left a (encode_entry e ++ b) r)))

-- x is the setting of a good entry that stands there as entry i
record Its (s : List ℕ) (i : ℕ) (x : Setting) : Type 0 where
  entry : Entry
  wide : Wide 8 entry.bits
  good : Good (setting_of entry)
  stands : Stands s (1 + 9 * i) (encode_entry entry) (1 + 9 * (i + 1))
  setting : x ≡ setting_of entry

module _ {s : List ℕ} {i : ℕ} {x : Setting} (its : Its s i x) where
  -- the entry of the setting is that one
  kept : entry_of x ≡ its.entry
  kept = ap entry_of its.setting ∙ entry_kept its.entry its.wide its.good

  its_number : number_at 8 s (1 + 9 * i + 1) ≡ its.entry.bits
  its_number = number_stands 8 its.entry.bits its.wide (stands_left (byte_of its.entry.kind ∷ []) (bytes_of 8 its.entry.bits) its.stands)

  its_bits : (entry_of x).bits ≡ number_at 8 s (1 + 9 * i + 1)
  its_bits = ap (λ (e : Entry). e.bits) kept ∙ sym its_number

  from_entry : FromEntry s i x
  from_entry = record {
    entry = rw kept its.stands;
    say = λ n. setting_made its.entry.kind n;
    code = code_known its.entry.kind (byte_stands (stands_first (byte_of its.entry.kind ∷ []) (bytes_of 8 its.entry.bits) its.stands));
    value = its.setting ∙ sym (rw its_number);
  }

module _ {s : List ℕ} {m : Migration} (said : Migrates s m) where
  -- each setting of an answer
  its_entry : (i : ℕ) → i < m.number → Its s i (setting_at m.settings i)
  its_entry i h = go (every_answer said)
    where
      go : ListExplained s m → Its s i (setting_at m.settings i)
      go (refused f e) = let z = ap (λ (x : Migration). x.number) e in absurd (omega arith)
      go (accepted {es} o e) =
          let d : Entry = record { kind = code.Count; bits = 0 } in
          let l : i < length es = let z = ap (λ (x : Migration). x.number) e in omega arith in
          record {
            entry = get_or es i d;
            wide = fit_at es i d o.fits l;
            good = good_at_lem es i d o.good l;
            stands = entry_stands s es d o i l;
            setting =
                ap (λ (y : Migration). setting_at y.settings i) e ∙ slot_holds (map setting_of es) i (omega (arith, length-map es setting_of))
                ∙ get_or-map setting_of es i d;
          }

  -- no setting comes from anywhere else: setting i is what the code and the 8 bytes of entry i say
  pub from_the_list : (i : ℕ) → i < m.number → FromEntry s i (setting_at m.settings i)
  from_the_list i h = from_entry (its_entry i h)

  -- none is a bad float
  pub good : (i : ℕ) → i < m.number → Good (setting_at m.settings i)
  good i h = let t = its_entry i h in rw t.setting t.good

  -- each has the bits of its entry
  pub bits : (i : ℕ) → i < m.number → (entry_of (setting_at m.settings i)).bits ≡ number_at 8 s (1 + 9 * i + 1)
  bits i h = its_bits (its_entry i h)
