-- Numbers of up to eight bytes as the library has them: the number of eight bytes, and the bytes of a number.
-- Assumes nothing.
use mathlib.Core.Path.{◌≡◌, refl, sym, ap, ◌∙◌}
use mathlib.Core.Bool.{Bool, true, false}
use mathlib.Core.List.{List, [], ◌∷◌, ◌++◌}
use Prim.Native.Nat.{ℕ, zero, suc, ◌+◌, ◌-◌, ◌*◌, ◌/◌, ◌%◌, ◌^◌, ◌≤◌, min}
use native.Mathlib.Nat.{pow-suc, div-div-eq-div-mul, div-one}
use native.Mathlib.Omega.{arith}
use borrow.Author.Tests.{leb-true, leb-false}
use lib.Dec.{leb}
use lib.ListN.{length, take, drop, replicate, length-append, length-replicate}
use lib.Seq.{take_all, length-take-le}
use Rattle.std.specs.Int.{w64, byte_at, bytes_low_first, to_le_bytes, from_le_bytes}
use Rattle.byte_format.specs.Number.{bytes_of, number_of, number_at}
use Rattle.byte_format.proofs.Numbers.{number_none, number_more}

-- so many zeros
abbrev pub zeros : ℕ → List ℕ
zeros n = replicate n 0

-- behind a number's bytes they add nothing
zeros_behind : (x : List ℕ) (j : ℕ) → number_of (x ++ zeros j) ≡ number_of x
unfolding number_of
zeros_behind [] zero = refl
zeros_behind [] (suc j) = let z : number_of (zeros j) ≡ 0 = zeros_behind [] j in rw z
zeros_behind (b ∷ x) j = ap (λ (n : ℕ). b + 256 * n) (zeros_behind x j)

zeros_left : (k n : ℕ) → drop k (zeros n) ≡ zeros (n - k)
zeros_left zero n = let z : n - 0 ≡ n = omega arith in rw z
zeros_left (suc k) zero = let z : 0 - suc k ≡ 0 = omega arith in rw z
zeros_left (suc k) (suc n) = let z : suc n - suc k ≡ n - k = omega arith in rw z (zeros_left k n)

-- the library's number of eight bytes
le_number : (bs : List ℕ) → from_le_bytes w64 bs ≡ number_at 8 bs 0
le_number bs =
    omega (
      arith,
      number_more 7 bs 0,
      number_more 6 bs 1,
      number_more 5 bs 2,
      number_more 4 bs 3,
      number_more 3 bs 4,
      number_more 2 bs 5,
      number_more 1 bs 6,
      number_more 0 bs 7,
      number_none bs 8,
    )

-- of fewer bytes, with zeros behind them
eight_bytes : (x : List ℕ) (k : ℕ) → length x ≡ k → k ≤ 8 → from_le_bytes w64 (x ++ drop k (zeros 8)) ≡ number_of x
eight_bytes x k e h =
    let r : drop k (zeros 8) ≡ zeros (8 - k) = zeros_left k 8 in
    let l : length (x ++ zeros (8 - k)) ≤ 8 = omega (arith, length-append x (zeros (8 - k)), length-replicate {A = ℕ} (8 - k) 0) in
    rw (r, le_number (x ++ zeros (8 - k)), take_all 8 (x ++ zeros (8 - k)) l) (zeros_behind x (8 - k))

-- the bytes of a number that stand in what is left, copied to the start of eight
pub number_copied :
    (s : List ℕ) (at w k : ℕ) {x y : List ℕ} → x ≡ drop at s → w ≤ 8 → k ≡ min w (length x) → y ≡ take k x →
    from_le_bytes w64 (y ++ drop k (zeros 8)) ≡ number_at w s at
number_copied s at w k {x} {y} e h f g =
    let t : take k x ≡ take w x = go (leb w (length x)) refl in
    let l : length (take k x) ≡ k = length-take-le k x (omega arith) in
    rw (g, eight_bytes (take k x) k l (omega arith), t, e)
  where
    go : (b : Bool) → leb w (length x) ≡ b → take k x ≡ take w x
    go true t = let l = leb-true w (length x) t in let i : k ≡ w = omega arith in rw i
    go false t =
        let l = leb-false w (length x) t in
        rw (take_all k x (omega arith), take_all w x (omega arith))

-- the bytes of a number, each by a division of its own
low_first : (i k n : ℕ) → bytes_low_first i k n ≡ bytes_of k (n / 256 ^ i)
unfolding bytes_of
low_first i zero n = refl
low_first i (suc k) n =
    let b : byte_at i n ≡ n / 256 ^ i % 256 = its_byte i n in
    let e : n / 256 ^ suc i ≡ n / 256 ^ i / 256 = rw (pow-suc 256 i) (sym (div-div-eq-div-mul n (256 ^ i) 256)) in
    rw (b, low_first (suc i) k n, e)
  where
    its_byte : (i n : ℕ) → byte_at i n ≡ n / 256 ^ i % 256
    its_byte zero n = ap (λ (m : ℕ). m % 256) (sym (div-one n))
    its_byte (suc i) n = refl

-- the first k of them
first_bytes : (k w n : ℕ) → k ≤ w → take k (bytes_of w n) ≡ bytes_of k n
unfolding bytes_of
first_bytes zero w n h = refl
first_bytes (suc k) zero n h = absurd (omega arith)
first_bytes (suc k) (suc w) n h = ap (λ (l : List ℕ). n % 256 ∷ l) (first_bytes k w (n / 256) (omega arith))

-- of a number of 64 bits, as the library has them
pub le_bytes : (k w n : ℕ) → k ≤ w → w ≤ 8 → take k (to_le_bytes w64 n) ≡ take k (bytes_of w n)
le_bytes k w n h g =
    let e : to_le_bytes w64 n ≡ bytes_of 8 n = low_first 0 8 n ∙ ap (bytes_of 8) (div-one n) in
    rw (e, first_bytes k 8 n (omega arith), first_bytes k w n h)
