-- Ticks as they are put: the arrival ticks of a set, task by task, then the last tick.
-- Assumes nothing.
use mathlib.Core.Path.{◌≡◌, refl, sym, ap, ◌∙◌}
use mathlib.Core.Logic.{◌≢◌}
use mathlib.Core.Bool.{true, false}
use mathlib.Core.List.{List, [], ◌∷◌}
use Prim.Native.Nat.{ℕ, ◌+◌, ◌≤◌}
use borrow.Author.Tests.{ne_eqb}
use lib.ListN.{set, take, drop}
use lib.Seq.{set-get_or}
use Rattle.lists.specs.Lists.{upto}
use Rattle.lists.proofs.Lists.{at_bound, upto_none, upto_more}
use Rattle.protocol.specs.Event.{Event, has}
use Rattle.protocol_state.specs.Saved.{Saved, at, state_room}
use Rattle.protocol_state.specs.Next.{with_ticks, since_at, since_after, clocked}
use Rattle.regions.specs.Regions.{regions, region}
use Rattle.mailbox_layout.specs.Layout.{since_region, last_region, policy_region, cut_times, since_in, policy_in, state_of}
use Rattle.mailbox_layout.proofs.Fields.{since_put, last_put_lem}

-- arrival ticks that are put as they were
pub ticks_same : (x : List ℕ) → cut_times x ≡ set (cut_times x) since_region (since_in x)
ticks_same x = sym (set-get_or (cut_times x) since_region [])

-- an arrival of the set s at tick n: after t turns the first t tasks have their arrival ticks; x₀ are the times before
module _ (s n : ℕ) (x₀ : List ℕ) where
  abbrev pub KeptTo : ℕ → List ℕ → Type 0
  KeptTo t x = cut_times x ≡ set (cut_times x₀) since_region (upto (since_at s n) t (since_in x₀))

  pub kept_none : KeptTo 0 x₀
  kept_none = ticks_same x₀ ∙ ap (set (cut_times x₀) since_region) (sym (upto_none (since_at s n) (since_in x₀)))

  module _ (t : ℕ) (x : List ℕ) (e : KeptTo t x) where
    -- the turn of task t: y is its arrival tick afterwards
    turn : {y : ℕ} → y ≡ since_at s n t (at (since_in x) t) → (x' : List ℕ) → cut_times x' ≡ set (cut_times x) since_region (set (since_in x) t y) → KeptTo (t + 1) x'
    unfolding regions
    turn {y} h x' p =
        p ∙ ap (λ (R : List (List ℕ)). set R since_region (set (since_in x) t y)) e
        ∙ ap (set (cut_times x₀) since_region) (upto_more (since_at s n) t (since_in x₀) 0 (ap (λ (R : List (List ℕ)). region R since_region) e) h)

    -- of one in the set
    pub kept_in : has s t ≡ true → (x' : List ℕ) → cut_times x' ≡ set (cut_times x) since_region (set (since_in x) t n) → KeptTo (t + 1) x'
    kept_in h x' p = turn (rw h) x' p

    -- of one that is not
    pub kept_out : has s t ≡ false → KeptTo (t + 1) x
    kept_out h = turn (rw h) x (ticks_same x ∙ ap (set (cut_times x) since_region) (sym (set-get_or (since_in x) t 0)))

  pub kept_end : (i m : ℕ) (x : List ℕ) → KeptTo i x → i ≤ m → m ≤ i → KeptTo m x
  kept_end i m x = at_bound (λ (k : ℕ). set (cut_times x₀) since_region (upto (since_at s n) k (since_in x₀))) i m

-- of two places one after the other: where the second holds a number other than 0, the first is there to be put
there : (z : List ℕ) (n : ℕ) → at (take 1 (drop 1 z)) 0 ≢ 0 → at (set (take 1 z) 0 n) 0 ≡ n
there [] n h = absurd (h refl)
there (y ∷ z) n h = refl

-- the length of a lent array is not known to a proof: but where the policy, in the last place, is not 0, there is a place before it for the last tick
last_there : (x : List ℕ) (n : ℕ) → policy_in x ≢ 0 → at (set (region (cut_times x) last_region) 0 n) 0 ≡ n
unfolding regions
last_there x n h = there (drop state_room.tasks (drop state_room.tasks x)) n h

-- under fixed priorities nothing is kept
pub clock_stands : (q : Saved) (n : ℕ) (e : Event ℕ) → q.policy ≡ 0 → q ≡ clocked n e q
clock_stands q n e h = rw h

-- else, of an event at tick n and the times x, the arrival ticks are put, then the last tick
pub clock_goes :
    (T L : ℕ) (c v x : List ℕ) (n : ℕ) (e : Event ℕ) → policy_in x ≢ 0 → (x₁ x₂ : List ℕ) → cut_times x₁ ≡ set (cut_times x) since_region (since_after n e (state_of T L c v x)) →
    cut_times x₂ ≡ set (cut_times x₁) last_region (set (region (cut_times x₁) last_region) 0 n) → state_of T L c v x₂ ≡ clocked n e (state_of T L c v x)
unfolding regions
clock_goes T L c v x n e dated x₁ x₂ s p =
    let same : policy_in x₁ ≡ policy_in x = ap (λ (R : List (List ℕ)). at (region R policy_region) 0) s in
    last_put_lem T L c v x₁ x₂ _ p
    ∙ rw (last_there x₁ n (λ z. dated (sym same ∙ z)), ne_eqb (policy_in x) 0 dated) (ap (λ (q : Saved). with_ticks q.since n q) (since_put T L c v x x₁ s))
