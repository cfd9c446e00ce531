-- The old list, and one that is begun, as the reader sees them.
-- Assumes nothing.
use mathlib.Core.Path.{◌≡◌}
use mathlib.Core.List.{List, [], ◌∷◌}
use Prim.Native.Nat.{ℕ, zero, suc, ◌+◌, ◌≤◌, ◌<◌}
use native.Mathlib.Nat.{le_of_suc-le-suc}
use native.Mathlib.Omega.{arith}
use lib.ListN.{length, get_or}
use Rattle.byte_format.specs.Number.{bytes_of}
use Rattle.byte_format.specs.Play.{Allowed, finally, refusal_at}
use Rattle.byte_format.proofs.Standing.{stands_join, stands_first, stands_left, stands_all, stands_whole}
use Rattle.byte_format.proofs.Unique.{whole_unique}
use Rattle.settings_entry.specs.declared.Setting.{Setting}
use Rattle.settings_entry.specs.Entry.{Entry, entries, setting_of}
use Rattle.settings_list.specs.Migration.{count_limit, bad_float, and_setting}
use Rattle.settings_list.proofs.Counting.{count_fine, count_range}
use Rattle.settings_entry.proofs.Records.{entries_lawful}
use Rattle.settings_demands.specs.Values.{Good}
use Rattle.settings_demands.specs.OldList.{GoodEach, OldList, EntriesBegun}
use Rattle.settings_demands.proofs.Values.{good_fine, fine_good}
use Rattle.settings_demands.proofs.Outcomes.{ListTo, FaultAt}

-- entries are good exactly when each is allowed, whatever was read before
good_allowed : (xs : List Setting) (es : List Entry) → GoodEach es → Allowed bad_float and_setting xs es
unfolding GoodEach Allowed
good_allowed xs [] g = tt
good_allowed xs (e ∷ es) g = (good_fine g.0, good_allowed (and_setting xs e) es g.1)

allowed_good : (xs : List Setting) (es : List Entry) → Allowed bad_float and_setting xs es → GoodEach es
unfolding GoodEach Allowed
allowed_good xs [] a = tt
allowed_good xs (e ∷ es) a = (fine_good (setting_of e) a.0, allowed_good (and_setting xs e) es a.1)

-- each of good entries is good
pub good_at_lem : (es : List Entry) (i : ℕ) (d : Entry) → GoodEach es → i < length es → Good (setting_of (get_or es i d))
unfolding GoodEach
good_at_lem [] i d g h = absurd (omega arith)
good_at_lem (e ∷ es) zero d g h = g.0
good_at_lem (e ∷ es) (suc i) d g h = good_at_lem es i d g.1 (le_of_suc-le-suc h)

-- a count from 1 to 64 has no fault, and one without a fault is so
few_fine : (n : ℕ) → (1 ≤ n) × (n ≤ 64) → count_limit n ≡ 0
few_fine n h = count_fine n (λ z. omega (arith, h.0)) h.1

fine_few : (n : ℕ) → count_limit n ≡ 0 → (1 ≤ n) × (n ≤ 64)
fine_few n e = let k = count_range n e in (omega (arith, k.0), k.1)

module _ {s : List ℕ} {es : List Entry} where
  -- all entries are begun, as many as their count says
  pub whole_begun : {p : ℕ} → ListTo s es p → EntriesBegun s (length es) es p
  whole_begun w = record { few = fine_few (length es) w.kept.few; bytes = w.bytes; fits = w.kept.fits; good = allowed_good [] es w.kept.allowed }

  pub begun_whole : {p : ℕ} → EntriesBegun s (length es) es p → ListTo s es p
  begun_whole b = record {
    kept = record { counted = omega (arith, b.few.1); few = few_fine (length es) b.few; fits = b.fits; allowed = good_allowed [] es b.good };
    bytes = b.bytes;
  }

  -- the old list is all the bytes
  pub old_whole : OldList s es → ListTo s es (length s)
  old_whole o = begun_whole (record { few = o.few; bytes = rw (← o.bytes) (stands_all s); fits = o.fits; good = o.good })

  pub whole_old : ListTo s es (length s) → OldList s es
  whole_old w = let b = whole_begun w in record { few = b.few; bytes = stands_whole b.bytes; fits = b.fits; good = b.good }

  -- an entry at fault comes after those that are begun
  pub fault_begun : {r p : ℕ} (f : FaultAt s es r p) → EntriesBegun s f.total es p
  fault_begun f = record {
    few = fine_few f.total f.few;
    bytes = stands_join f.count f.played.bytes;
    fits = f.played.fits;
    good = allowed_good [] es f.played.allowed;
  }

  pub begun_fault : {n r p : ℕ} → EntriesBegun s n es p → length es < n → r ≡ refusal_at entries bad_float and_setting (finally and_setting [] es) s p → FaultAt s es r p
  begun_fault {n} b more e = record {
    total = n;
    counted = omega (arith, b.few.1);
    few = few_fine n b.few;
    first = 0 + length (bytes_of 1 n);
    count = stands_first (bytes_of 1 n) _ b.bytes;
    played = record { fits = b.fits; allowed = good_allowed [] es b.good; bytes = stands_left (bytes_of 1 n) _ b.bytes };
    more = more;
    fault = e;
  }

-- the bytes fix the entries
pub one_reading : {s : List ℕ} {es es' : List Entry} → OldList s es → OldList s es' → es ≡ es'
one_reading {s} o o' = (whole_unique entries entries_lawful s (old_whole o) (old_whole o')).0
