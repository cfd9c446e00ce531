-- Bytes put one behind the other from a place on: some are put, and the rest is left to put.
-- Assumes nothing.
use mathlib.Core.Path.{◌≡◌, refl, sym, ap, ◌∙◌}
use mathlib.Core.List.{List, [], ◌++◌, append_assoc, append-nil}
use Prim.Native.Nat.{ℕ, ◌+◌, ◌-◌, ◌≤◌, min}
use native.Mathlib.Omega.{arith}
use lib.ListN.{length, length-append}
use lib.Seq.{paste-zero}
use Rattle.lent_bytes.specs.Put.{put_at}
use Rattle.lent_bytes.proofs.Puts.{put_past, length_put, put_put}

-- of the bytes `all`, which are to be put into `old` from a place on, those up to the place `next` are put, which makes `new`; `rest` is left
pub record Halfway (old : List ℕ) (at : ℕ) (all new : List ℕ) (next : ℕ) (rest : List ℕ) : Type 0 where
  pub done : List ℕ
  pub put : new ≡ put_at old at done
  pub place : next ≡ at + length done
  pub left : all ≡ done ++ rest

module _ {old : List ℕ} {at : ℕ} {all : List ℕ} where
  -- nothing is put
  pub halfway_first : Halfway old at all old at all
  halfway_first = record { done = []; put = let z : min 0 (length old - at) ≡ 0 = omega arith in rw z (paste-zero old at []); place = omega arith; left = refl }

  -- the next bytes are put
  pub halfway_on :
      (x : List ℕ) {new new' rest : List ℕ} {next : ℕ} → Halfway old at all new next (x ++ rest) → new' ≡ put_at new next x → Halfway old at all new' (next + length x) rest
  halfway_on x {rest = rest} h e =
      record {
        done = h.done ++ x;
        put = e ∙ rw (h.put, h.place) (put_put old at h.done x);
        place = omega (arith, h.place, length-append h.done x);
        left = h.left ∙ sym (append_assoc h.done x rest);
      }

  -- all are put
  pub halfway_last : {new : List ℕ} {next : ℕ} → Halfway old at all new next [] → new ≡ put_at old at all
  halfway_last h = h.put ∙ ap (put_at old at) (sym (h.left ∙ append-nil h.done))

  -- the place is past the end, where nothing more has room
  pub halfway_past : {new rest : List ℕ} {next : ℕ} → length old ≤ next → Halfway old at all new next rest → new ≡ put_at old at all
  halfway_past {rest = rest} l h =
      let e : put_at (put_at old at h.done) (at + length h.done) rest ≡ put_at old at h.done = put_past (put_at old at h.done) (at + length h.done) rest (omega (arith, h.place, length_put old at h.done)) in
      h.put ∙ sym e ∙ put_put old at h.done rest ∙ ap (put_at old at) (sym h.left)
