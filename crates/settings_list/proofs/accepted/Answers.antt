-- `settings_list::accepted` meets its contract: each entry is taken into its slot or refused, and then the bytes are at their end or not.
-- Assumes nothing.
use mathlib.Core.Path.{◌≡◌, refl, sym, ap, ◌∙◌}
use mathlib.Core.List.{List, [], ◌∷◌, ◌++◌}
use Prim.Native.Nat.{ℕ, ◌+◌, ◌-◌, ◌*◌, ◌≤◌, ◌<◌}
use native.Mathlib.Omega.{arith}
use borrow.Author.Rules.{rules}
use lib.ListN.{length, set, take, drop, length-append, take-append-drop}
use lib.Seq.{length-take-le}
use Rattle.std.specs.Prelude.{Result, Ok}
use Rattle.std.proofs.lemmas.List.{set-append_left}
use Rattle.std.proofs.lemmas.Result.{err_from_is_err_and}
use Rattle.byte_format.specs.Number.{Bytes}
use Rattle.byte_format.specs.Format.{got, stop}
use Rattle.byte_format.specs.Section.{count_at}
use Rattle.byte_format.proofs.Plays.{play_end}
use Rattle.refusals.specs.declared.Refusal.{Refusal}
use Rattle.refusals.specs.declared.Refused.{Refused}
use Rattle.refusals.specs.Numbers.{number}
use Rattle.settings_entry.specs.Entry.{entries}
use Rattle.settings_entry.specs.Found.{setting_taken}
use Rattle.settings_list.specs.declared.Slot.{Slot}
use Rattle.settings_list.specs.Counted.{counted_of}
use Rattle.settings_list.specs.Migration.{count_limit, bad_float, and_setting, slot, slots}
use Rattle.settings_list.proofs.Placed.{Placed, placed_ok, placed_err}
use Rattle.settings_list.proofs.Counting.{count_said, count_stopped}
use Rattle.settings_list.proofs.Turns.{taken_on, taken_stops}
use Rattle.settings_list.proofs.Answers.{no_slots, slots_more, refused_answer, extra_answer, whole_answer, list_counted, list_uncounted}
use Rattle.settings_list.proofs.accepted.Goals as goal

-- a count that was accepted is right, and 64 at most
counted : (s : List ℕ) → Bytes s → (r : Result ℕ Refusal) {m : Result ℕ Refused} {n : ℕ} → Placed r m 0 → m ≡ Ok n → counted_of r ≡ count_at 1 count_limit s 0 →
    (got n 1 ≡ count_at 1 count_limit s 0) × (n ≤ 64)
counted s b r p e k =
    let u = ap counted_of (sym (placed_ok r 0 p e)) ∙ k in
    (u, count_said s b u)

-- as many slots as the count are there
so_many : {ss : List Slot} (n : ℕ) → ss ≡ slots [] → n ≤ 64 → length (take n ss) ≡ n
so_many n e h = rw e (length-take-le n (slots []) (rw no_slots h))

pub returns-in_err-number : goal.returns-in_err-number
returns-in_err-number c =
    let s = c.args.s.now in
    let out = err_from_is_err_and c.from_residual.result c.from_residual.ensures.1 in
    let k : Placed c.count.result c.map_err.result 0 = search rules in
    let d = placed_err c.count.result 0 k c.in_err-number.was in
    let e = ap counted_of (sym d.0) ∙ c.count.ensures in
    rw (out.1, out.2, d.1) (list_uncounted s (count_stopped s (λ i. omega (arith, c.type_inv.s i)) e) e)

pub slice_bounds-settings-end : goal.slice_bounds-settings-end
slice_bounds-settings-end c =
    let k : Placed c.count.result c.map_err.result 0 = search rules in
    let f = counted c.args.s.now (λ i. omega (arith, c.type_inv.s i)) c.count.result k c.in_ok-number.was c.count.ensures in
    rw (c.no_settings-settings.ensures, no_slots) f.1

pub slice_bounds-slot-items-end : goal.slice_bounds-slot-items-end
slice_bounds-slot-items-end c =
    let k : Placed c.count.result c.map_err.result 0 = search rules in
    let f = counted c.args.s.now (λ i. omega (arith, c.type_inv.s i)) c.count.result k c.in_ok-number.was c.count.ensures in
    sym (so_many c.in_ok-number.number c.no_settings-settings.ensures f.1)

pub loop-i-init : goal.loop-i-init
loop-i-init c =
    let n = c.in_ok-number.number in
    let k : Placed c.count.result c.map_err.result 0 = search rules in
    let f = counted c.args.s.now (λ i. omega (arith, c.type_inv.s i)) c.count.result k c.in_ok-number.was c.count.ensures in
    let z : n - 0 ≡ n = omega arith in
    record {
      counted = f.0;
      few = f.1;
      taken = ([], (refl, (rw c.no_settings-settings.ensures (take-append-drop n (slots [])), rw z)));
    }

pub returns-in_err-slot : goal.returns-in_err-slot
returns-in_err-slot c =
    let i = c.loop-i.i in
    let v = c.loop-i.invariant in
    let s = c.args.s.now in
    let xs = v.taken.0 in
    let at = 1 + 9 * i in
    let out = err_from_is_err_and c.from_residual-in_err-slot.result c.from_residual-in_err-slot.ensures.1 in
    let h : Placed c.entry_at.result c.map_err-in-loop-i.result at = search rules in
    let d = placed_err c.entry_at.result at h c.in_err-slot.was in
    let t : setting_taken s at ≡ stop (number c.in_err-slot.field-0.0.refusal) = sym c.entry_at.ensures ∙ rw d.0 in
    let n = c.in_ok-number.number in
    let l : length (take n c.no_settings-settings.result) ≡ n = so_many n c.no_settings-settings.ensures v.few in
    let w = taken_stops xs s at i n (omega (arith, c.loop-i-test.true)) v.taken.1.1.1 (number c.in_err-slot.field-0.0.refusal) t in
    rw (out.1, out.2, d.1) (list_counted s v.counted (refused_answer s at xs w.0 w.1))

pub loop-i-preserved : goal.loop-i-preserved
loop-i-preserved c =
    let i = c.loop-i.i in
    let v = c.loop-i.invariant in
    let s = c.args.s.now in
    let n = c.in_ok-number.number in
    let x = c.in_ok-slot.field-0 in
    let xs = v.taken.0 in
    let k = v.taken.1 in
    let at = 1 + 9 * i in
    let l : length (take n c.no_settings-settings.result) ≡ n = so_many n c.no_settings-settings.ensures v.few in
    let m : i < n = omega (arith, c.loop-i-test.true) in
    let h : Placed c.entry_at.result c.map_err-in-loop-i.result at = search rules in
    let t : setting_taken s at ≡ got x (at + 9) = sym c.entry_at.ensures ∙ rw (placed_ok c.entry_at.result at h c.in_ok-slot.was) in
    let e : set (slots xs) i (slot x) ≡ slots (xs ++ (x ∷ [])) = rw (← k.0) (slots_more xs x (omega arith)) in
    let a : set c.loop-i.slot-items i (slot x) ++ drop n (slots []) ≡ slots (xs ++ (x ∷ [])) =
    sym (set-append_left c.loop-i.slot-items (drop n (slots [])) i (slot x) (omega arith)) ∙ rw k.1.0 e in
    let p : at + 9 ≡ 1 + 9 * (i + 1) = omega arith in
    record {
      counted = v.counted;
      few = v.few;
      taken = (xs ++ (x ∷ []), (omega (arith, length-append xs (x ∷ [])), (a, rw p at (taken_on xs s at i n m k.1.1 x (at + 9) t))));
    }

pub overflow_mul-end : goal.overflow_mul-end
overflow_mul-end c = omega (arith, c.loop-i.invariant.few)

pub overflow_add-end : goal.overflow_add-end
overflow_add-end c = omega (arith, c.loop-i.invariant.few)

pub returns-then-end-s : goal.returns-then-end-s
returns-then-end-s c =
    let i = c.loop-i.i in
    let v = c.loop-i.invariant in
    let s = c.args.s.now in
    let n = c.in_ok-number.number in
    let l : length (take n c.no_settings-settings.result) ≡ n = so_many n c.no_settings-settings.ensures v.few in
    let e : i ≡ n = omega (arith, c.loop-i-test.false) in
    let p : 1 + 9 * i ≡ 1 + 9 * n = omega arith in
    rw c.at.ensures
    (list_counted s v.counted
    (extra_answer s (1 + 9 * n) v.taken.0 c.if-end-s.true (rw p at (play_end entries bad_float and_setting v.taken.0 s (1 + 9 * i) i n v.taken.1.1.1 (omega arith)))))

pub returns : goal.returns
returns c =
    let i = c.loop-i.i in
    let v = c.loop-i.invariant in
    let s = c.args.s.now in
    let n = c.in_ok-number.number in
    let l : length (take n c.no_settings-settings.result) ≡ n = so_many n c.no_settings-settings.ensures v.few in
    let e : i ≡ n = omega (arith, c.loop-i-test.false) in
    let p : 1 + 9 * i ≡ 1 + 9 * n = omega arith in
    list_counted s v.counted
    (whole_answer s (1 + 9 * n) v.taken.0 c.if-end-s.false (sym e ∙ sym v.taken.1.0) (rw c.no_settings-settings.ensures v.taken.1.1.0)
    (rw p at (play_end entries bad_float and_setting v.taken.0 s (1 + 9 * i) i n v.taken.1.1.1 (omega arith))))
