-- Lists of records, place by place: a table handed over in arrays, and one field of all links.
-- Assumes nothing.
use mathlib.Core.Path.{◌≡◌, refl, sym, ap, ◌∙◌}
use mathlib.Core.List.{List, [], ◌∷◌, ◌++◌, map}
use Prim.Native.Nat.{ℕ, zero, suc, ◌+◌, ◌≤◌, ◌<◌}
use native.Mathlib.Numerals.{add-one}
use native.Mathlib.Omega.{arith}
use native.Mathlib.Decide.{dec_le}
use lib.ListN.{length, length-map, get_or, replicate, length-replicate, get_or-map, get_or-eq_default}
use Rattle.lists.specs.Lists.{upto}
use Rattle.lists.proofs.Lists.{upto_at, upto_past, length_upto}
use Rattle.protocol.specs.Instant.{upward}
use Rattle.protocol_state.specs.Records.{Task, no_task, task_of, Link, no_link, link_of, task_from, first_tasks, link_from, first_links}
use Rattle.protocol_state.specs.Saved.{at}
use Rattle.protocol_state.specs.Fresh.{copied, column}
use Rattle.protocol_state.proofs.Places.{zeros}

-- the numbers of a list that was made from the numbers k, k + 1, ..
module _ {A : Type 0} (f : ℕ → A) where
  pub length_numbered : (k n : ℕ) → length (map f (upward k n)) ≡ n
  unfolding upward
  length_numbered k zero = refl
  length_numbered k (suc n) = ap suc (length_numbered (suc k) n)

  pub numbered_at : (d : A) (k n i : ℕ) → i < n → get_or (map f (upward k n)) i d ≡ f (k + i)
  unfolding upward
  numbered_at d k zero i h = absurd (omega arith)
  numbered_at d k (suc n) zero h = ap f (omega arith)
  numbered_at d k (suc n) (suc i) h = numbered_at d (suc k) n i (omega arith) ∙ ap f (omega arith)

  -- one more
  pub numbered_more : (k n : ℕ) → map f (upward k (suc n)) ≡ map f (upward k n) ++ (f (k + n) ∷ [])
  unfolding upward
  numbered_more k zero = ap (λ (i : ℕ). f i ∷ []) (omega arith)
  numbered_more k (suc n) = ap (λ (xs : List A). f k ∷ xs) (numbered_more (suc k) n ∙ ap (λ (i : ℕ). map f (upward (suc k) n) ++ (f i ∷ [])) (omega arith))

-- the first tasks of two arrays
module _ (T : ℕ) (D X : List ℕ) where
  pub first_tasks_length : length (first_tasks T D X) ≡ T
  first_tasks_length = length_numbered (task_from D X) 0 T

  pub first_task : (t : ℕ) → t < T → task_of (first_tasks T D X) t ≡ task_from D X t
  first_task t h = numbered_at (task_from D X) no_task 0 T t h ∙ ap (task_from D X) (omega arith)

  -- one more
  pub first_tasks_more : first_tasks (T + 1) D X ≡ first_tasks T D X ++ (task_from D X T ∷ [])
  first_tasks_more =
      let z : 0 + T ≡ T = omega arith in
      ap (λ (n : ℕ). first_tasks n D X) (add-one T)
      ∙ numbered_more (task_from D X) 0 T
      ∙ ap (λ (t : ℕ). first_tasks T D X ++ (task_from D X t ∷ [])) z

-- the first links of four arrays
module _ (L : ℕ) (W R K B : List ℕ) where
  pub first_links_length : length (first_links L W R K B) ≡ L
  first_links_length = length_numbered (link_from W R K B) 0 L

  pub first_link : (l : ℕ) → l < L → link_of (first_links L W R K B) l ≡ link_from W R K B l
  first_link l h = numbered_at (link_from W R K B) no_link 0 L l h ∙ ap (link_from W R K B) (omega arith)

  -- one more
  pub first_links_more : first_links (L + 1) W R K B ≡ first_links L W R K B ++ (link_from W R K B L ∷ [])
  first_links_more =
      let z : 0 + L ≡ L = omega arith in
      ap (λ (n : ℕ). first_links n W R K B) (add-one L)
      ∙ numbered_more (link_from W R K B) 0 L
      ∙ ap (λ (l : ℕ). first_links L W R K B ++ (link_from W R K B l ∷ [])) z

-- lists changed alike below n are the same
pub upto_same : {A : Type 0} (f g : ℕ → A → A) (n : ℕ) (xs : List A) → ((i : ℕ) (x : A) → i < n → f i x ≡ g i x) → upto f n xs ≡ upto g n xs
unfolding upto
upto_same f g n [] e = refl
upto_same f g zero (x ∷ xs) e = refl
upto_same {A} f g (suc n) (x ∷ xs) e =
    ap (λ (y : A). y ∷ upto (λ i. f (suc i)) n xs) (e 0 x (omega arith))
    ∙ ap (λ (ys : List A). g 0 x ∷ ys) (upto_same (λ i. f (suc i)) (λ i. g (suc i)) n xs (λ i y h. e (suc i) y (omega arith)))

-- so copies of lists that begin alike are the same
pub copied_same : (size n : ℕ) (xs ys : List ℕ) → ((i : ℕ) → i < n → at xs i ≡ at ys i) → copied size n xs ≡ copied size n ys
copied_same size n xs ys e = upto_same (λ i x. at xs i) (λ i x. at ys i) n (replicate size 0) (λ i x h. e i h)

-- a copied list has what it was copied from
pub copied_at : (size n : ℕ) (xs : List ℕ) → n ≤ size → (i : ℕ) → i < n → at (copied size n xs) i ≡ at xs i
copied_at size n xs l i h = upto_at (λ i x. at xs i) n (replicate size 0) i 0 h (omega (arith, length-replicate {A = ℕ} size 0))

-- one field of records has the length of its room
pub column_length : {A : Type 0} (size : ℕ) (f : A → ℕ) (xs : List A) → length (column size f xs) ≡ size
column_length size f xs = length_upto (λ i x. at (map f xs) i) (length xs) (replicate size 0) ∙ length-replicate {A = ℕ} size 0

-- a whole list that was copied is itself, and 0 past its end
pub copied_whole : (size : ℕ) (xs : List ℕ) → length xs ≤ size → (i : ℕ) → at (copied size (length xs) xs) i ≡ at xs i
copied_whole size xs l i = go (dec_le (length xs) i)
  where
    go : Dec (length xs ≤ i) → at (copied size (length xs) xs) i ≡ at xs i
    go (yes h) = upto_past (λ j x. at xs j) (length xs) (replicate size 0) i 0 h ∙ zeros size i ∙ sym (get_or-eq_default xs 0 h)
    go (no h) = copied_at size (length xs) xs l i (omega arith)

-- one field of all records, copied to its room; of what stands past the last it is 0
column_of : {A : Type 0} (size : ℕ) (f : A → ℕ) (d : A) → f d ≡ 0 → (xs : List A) → length xs ≤ size → (i : ℕ) → at (column size f xs) i ≡ f (get_or xs i d)
column_of size f d z xs h i =
    ap (λ (n : ℕ). at (copied size n (map f xs)) i) (sym (length-map xs f))
    ∙ copied_whole size (map f xs) (omega (arith, length-map xs f)) i
    ∙ ap (λ (y : ℕ). get_or (map f xs) i y) (sym z)
    ∙ get_or-map f xs i d

pub column_whole : (size : ℕ) (f : Link → ℕ) → f no_link ≡ 0 → (ls : List Link) → length ls ≤ size → (l : ℕ) → at (column size f ls) l ≡ f (link_of ls l)
column_whole size f z ls h l = column_of size f no_link z ls h l

pub column_tasks : (size : ℕ) (f : Task → ℕ) → f no_task ≡ 0 → (ts : List Task) → length ts ≤ size → (t : ℕ) → at (column size f ts) t ≡ f (task_of ts t)
column_tasks size f z ts h t = column_of size f no_task z ts h t
