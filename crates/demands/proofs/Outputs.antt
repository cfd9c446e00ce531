-- What a link is due is the output of a run that has finished; where there was none, the default by a direct link, the start value by a delayed one.
-- Assumes nothing.
use mathlib.Core.Path.{◌≡◌, refl, sym, ◌∙◌}
use mathlib.Core.Bool.{Bool, true, false, cond}
use mathlib.Core.List.{List, [], ◌∷◌}
use Prim.Native.Nat.{ℕ, zero, suc, pred, ◌≤◌, ◌<◌}
use native.Mathlib.Omega.{arith}
use borrow.Author.Tests.{eqb-true, lt-ltb, le-ltb}
use lib.Dec.{eqb}
use Rattle.protocol.specs.Event.{Event, arrival, start, read, finish}
use Rattle.protocol.specs.Given.{there}
use Rattle.protocol.specs.Table.{Table, early}
use Rattle.protocol.specs.History.{finishes, output}
use Rattle.protocol.specs.ZeroTime.{had, due}
use Rattle.demands.specs.Outputs.{Gave, last, earlier, Output, none}
use Rattle.demands.specs.Outputs as outputs

-- an output that is there was given
gave : (w k : ℕ) (h : List (Event ℕ)) {v : ℕ} → output h w k ≡ there v → Gave w h k v
unfolding finishes output
gave w k [] e = let z : ◌≡◌ {A = ℕ} 0 1 = cc in absurd (omega arith)
gave w k (arrival m ∷ h) e = earlier (arrival m) (gave w k h e)
gave w k (start t ∷ h) e = earlier (start t) (gave w k h e)
gave w k (read l ∷ h) e = earlier (read l) (gave w k h e)
gave w k (finish u x ∷ h) {v} e = go (eqb u w) refl e (λ i. gave w k h i)
  where
    here : (c : Bool) → eqb k (suc (finishes h w)) ≡ c → u ≡ w → cond c (there x) (output h w k) ≡ there v → (output h w k ≡ there v → Gave w h k v) → Gave w (finish u x ∷ h) k v
    here true i j e f = let y : x ≡ v = cc in rw (j, eqb-true k (suc (finishes h w)) i, y) (last h v)
    here false i j e f = earlier (finish u x) (f e)

    go : (c : Bool) → eqb u w ≡ c → cond c (cond (eqb k (suc (finishes h w))) (there x) (output h w k)) (output h w k) ≡ there v → (output h w k ≡ there v → Gave w h k v)
        → Gave w (finish u x ∷ h) k v
    go true i e f = here (eqb k (suc (finishes h w))) refl (eqb-true u w i) e f
    go false i e f = earlier (finish u x) (f e)

module _ (T : Table ℕ) (h : List (Event ℕ)) (l n : ℕ) (e : there n ≡ due T h l) where
  -- what a direct link is due
  pub due_direct : T.delayed l ≡ false → Output T h (T.writer l) (had T h l) n
  due_direct d = go (had T h l) (e ∙ rw d)
    where
      go : (k : ℕ) → there n ≡ cond (early false k) (there (T.default (T.writer l))) (output h (T.writer l) k) → Output T h (T.writer l) k n
      go zero i = let y : n ≡ T.default (T.writer l) = cc in rw y none
      go (suc k) i = outputs.output (gave (T.writer l) (suc k) h (sym (i ∙ rw (le-ltb (suc k) 1 (omega arith)))))

  -- what a delayed link is due, before its writer's second arrival and from it on
  pub due_start : T.delayed l ≡ true → had T h l < 2 → n ≡ T.start_value l
  due_start d k =
      let s : there n ≡ there (T.start_value l) = e ∙ rw (d, lt-ltb (had T h l) 2 k) in
      cc

  pub due_delayed : T.delayed l ≡ true → 2 ≤ had T h l → Gave (T.writer l) h (pred (had T h l)) n
  due_delayed d k = gave (T.writer l) (pred (had T h l)) h (sym (e ∙ rw (d, le-ltb (had T h l) 2 k)))
