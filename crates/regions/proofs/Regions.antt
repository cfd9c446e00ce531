-- What stands in a region stands in the list, and what is put into one changes no other.
-- Assumes nothing.
use mathlib.Core.Path.{◌≡◌, refl, sym, ap, ◌∙◌}
use mathlib.Core.List.{List, [], ◌∷◌, ◌++◌}
use Prim.Native.Nat.{ℕ, zero, suc, ◌+◌, ◌*◌, ◌≤◌, ◌<◌}
use native.Mathlib.Nat.{not-suc-le-zero, le_of_suc-le-suc, min-le_left, min-eq_left, zero-mul, suc-mul}
use native.Mathlib.Omega.{arith}
use lib.ListN.{length, get_or, set, take, drop, replicate, length-take, length-drop, length-append, take-append-drop, get_or-eq_default}
use lib.Seq.{get_or-take, get_or-drop, take-set-lt, take-set-le, drop-set-lt, drop-set-add, set_out, set-get_or, take-append_seam, drop-append_seam}
use Rattle.regions.specs.Regions.{regions, region, start, width, extent, joined, Widths}

-- what stands at place i of region k
pub region_at : (ws xs : List ℕ) (k i : ℕ) → i < width ws k → get_or (region (regions ws xs) k) i 0 ≡ get_or xs (start ws k + i) 0
unfolding regions start
region_at [] xs k i h = absurd (not-suc-le-zero h)
region_at (w ∷ ws) xs zero i h =
    get_or-take w xs i 0 h ∙ ap (λ (j : ℕ). get_or xs j 0) (omega arith)
region_at (w ∷ ws) xs (suc k) i h =
    region_at ws (drop w xs) k i h ∙ get_or-drop w xs (start ws k + i) 0 ∙ ap (λ (j : ℕ). get_or xs j 0) (omega arith)

-- a region is no longer than its width
pub region_length : (ws xs : List ℕ) (k : ℕ) → length (region (regions ws xs) k) ≤ width ws k
unfolding regions
region_length [] xs k = omega arith
region_length (w ∷ ws) xs zero = rw length-take (min-le_left w (length xs))
region_length (w ∷ ws) xs (suc k) = region_length ws (drop w xs) k

-- and as long, where the list is as long as all widths together
pub region_full : (ws xs : List ℕ) → length xs ≡ extent ws → (k : ℕ) → length (region (regions ws xs) k) ≡ width ws k
unfolding regions start
region_full [] xs e k = refl
region_full (w ∷ ws) xs e zero = length-take w xs ∙ min-eq_left (omega arith)
region_full (w ∷ ws) xs e (suc k) = region_full ws (drop w xs) (length-drop w xs ∙ omega arith) k

-- past its width nothing stands there
pub region_past : (ws xs : List ℕ) (k i : ℕ) → width ws k ≤ i → get_or (region (regions ws xs) k) i 0 ≡ 0
region_past ws xs k i h =
    get_or-eq_default (region (regions ws xs) k) 0 (omega (arith, region_length ws xs k))

-- and nothing can be put there
pub region_set_past : (ws xs : List ℕ) (k i v : ℕ) → width ws k ≤ i → set (region (regions ws xs) k) i v ≡ region (regions ws xs) k
region_set_past ws xs k i v h = set_out (region (regions ws xs) k) i v (omega (arith, region_length ws xs k))

-- THE LAW: what is put at place i of region k changes that region, there, and no other
pub regions_put :
    (ws xs : List ℕ) (k i v : ℕ) → i < width ws k →
    regions ws (set xs (start ws k + i) v) ≡ set (regions ws xs) k (set (region (regions ws xs) k) i v)
unfolding regions start
regions_put [] xs k i v h = absurd (not-suc-le-zero h)
regions_put (w ∷ ws) xs zero i v h =
    let e : 0 + i ≡ i = omega arith in
    rw (e, take-set-lt w xs i v h, drop-set-lt w xs i v h)
regions_put (w ∷ ws) xs (suc k) i v h =
    let e : w + start ws k + i ≡ w + (start ws k + i) = omega arith in
    rw (e, take-set-le w xs (w + (start ws k + i)) v (omega arith), drop-set-add w xs (start ws k + i) v, regions_put ws (drop w xs) k i v h)

-- lists that are as long as all widths together are equal where their regions are: nothing of a list lies outside its regions
pub regions_whole :
    (ws xs ys : List ℕ) → length xs ≤ extent ws → length ys ≤ extent ws → regions ws xs ≡ regions ws ys → xs ≡ ys
unfolding regions start
regions_whole [] xs ys h k e = short xs (omega arith) ∙ sym (short ys (omega arith)) where
  short : (zs : List ℕ) → length zs ≤ 0 → zs ≡ []
  short [] l = refl
  short (z ∷ zs) l = absurd (not-suc-le-zero l)
regions_whole (w ∷ ws) xs ys h k e =
    let t : take w xs ≡ take w ys = cc in
    let r : regions ws (drop w xs) ≡ regions ws (drop w ys) = cc in
    let d : drop w xs ≡ drop w ys =
    regions_whole ws (drop w xs) (drop w ys) (rw length-drop (omega arith)) (rw length-drop (omega arith)) r in
    sym (take-append-drop w xs) ∙ rw (t, d) (take-append-drop w ys)

-- where regions of one width begin: a of width w, and then those of ws
module _ (w : ℕ) (ws : List ℕ) where
  pub start_even : (a k : ℕ) → k < a → start (replicate a w ++ ws) k ≡ k * w
  unfolding start
  start_even zero k h = absurd (not-suc-le-zero h)
  start_even (suc a) zero h = sym (zero-mul w)
  start_even (suc a) (suc k) h =
      let e : start (replicate a w ++ ws) k ≡ k * w = start_even a k (le_of_suc-le-suc h) in
      let m : suc k * w ≡ k * w + w = suc-mul k w in
      omega arith

  pub width_even : (a k : ℕ) → k < a → width (replicate a w ++ ws) k ≡ w
  width_even zero k h = absurd (not-suc-le-zero h)
  width_even (suc a) zero h = refl
  width_even (suc a) (suc k) h = width_even a k (le_of_suc-le-suc h)

  -- and where those of ws begin after them
  pub start_after : (a k : ℕ) → start (replicate a w ++ ws) (a + k) ≡ a * w + start ws k
  unfolding start
  start_after zero k =
      let e : 0 + k ≡ k = omega arith in
      let m : 0 * w ≡ 0 = zero-mul w in
      rw (e, m) (omega arith)
  start_after (suc a) k =
      let e : suc a + k ≡ suc (a + k) = omega arith in
      let m : suc a * w ≡ a * w + w = suc-mul a w in
      let i : start (replicate a w ++ ws) (a + k) ≡ a * w + start ws k = start_after a k in
      rw (e, m) (omega arith)

  pub width_after : (a k : ℕ) → width (replicate a w ++ ws) (a + k) ≡ width ws k
  width_after zero k =
      let e : 0 + k ≡ k = omega arith in
      rw e
  width_after (suc a) k =
      let e : suc a + k ≡ suc (a + k) = omega arith in
      rw e (width_after a k)

-- past the last region there is none: it would begin where all of them end,
pub start_past : (ws : List ℕ) (k : ℕ) → length ws ≤ k → start ws k ≡ extent ws
unfolding start
start_past [] zero h = refl
start_past [] (suc k) h = refl
start_past (w ∷ ws) zero h = absurd (not-suc-le-zero h)
start_past (w ∷ ws) (suc k) h = ap (λ (n : ℕ). w + n) (start_past ws k (le_of_suc-le-suc h))

-- and has no place
pub width_past : (ws : List ℕ) (k : ℕ) → length ws ≤ k → width ws k ≡ 0
width_past ws k h = get_or-eq_default ws 0 {n = k} h

-- what is put past a region changes nothing
pub regions_put_past :
    (ws xs : List ℕ) (k i v : ℕ) → width ws k ≤ i → regions ws xs ≡ set (regions ws xs) k (set (region (regions ws xs) k) i v)
regions_put_past ws xs k i v h =
    sym (set-get_or (regions ws xs) k []) ∙ ap (set (regions ws xs) k) (sym (region_set_past ws xs k i v h))

-- nor does what is put past the end of the list
pub regions_put_out :
    (ws xs : List ℕ) (k i v : ℕ) → i < width ws k → length xs ≤ start ws k + i →
    regions ws xs ≡ set (regions ws xs) k (set (region (regions ws xs) k) i v)
regions_put_out ws xs k i v h l = ap (regions ws) (sym (set_out xs (start ws k + i) v l)) ∙ regions_put ws xs k i v h

-- regions put together are cut into themselves, and fill the list
pub regions_joined : (ws : List ℕ) (rs : List (List ℕ)) → Widths ws rs → regions ws (joined rs) ≡ rs
unfolding regions joined Widths
regions_joined [] [] h = refl
regions_joined [] (r ∷ rs) h = absurd h
regions_joined (w ∷ ws) [] h = absurd h
regions_joined (w ∷ ws) (r ∷ rs) h =
    let t : take w (r ++ joined rs) ≡ r = rw (sym h.0) (take-append_seam r (joined rs)) in
    let d : drop w (r ++ joined rs) ≡ joined rs = rw (sym h.0) (drop-append_seam r (joined rs)) in
    rw (t, d, regions_joined ws rs h.1)

pub joined_length : (ws : List ℕ) (rs : List (List ℕ)) → Widths ws rs → length (joined rs) ≡ extent ws
unfolding joined Widths start
joined_length [] [] h = refl
joined_length [] (r ∷ rs) h = absurd h
joined_length (w ∷ ws) [] h = absurd h
joined_length (w ∷ ws) (r ∷ rs) h = length-append r (joined rs) ∙ omega (arith, h.0, joined_length ws rs h.1)
