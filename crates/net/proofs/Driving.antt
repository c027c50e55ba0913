-- A net by position: what a position drives is its sink and what those behind it show, and depends on the positions after it alone.
use mathlib.Core.Path.{◌≡◌, refl, ap}
use mathlib.Core.List.{List}
use Prim.Native.Nat.{ℕ, zero, suc, ◌+◌, ◌≤◌, ◌<◌}
use native.Mathlib.Omega.{arith}
use borrow.Author.Tests.{eqb-true}
use lib.Dec.{eqb}
use Rattle.lattice.specs.Lists.{at}
use Rattle.net.specs.Driving.{Driving, load_at, behind, driven_to, driven_load, shown_load, added_delay}
use Rattle.net.proofs.Sum.{sum_same}
use Rattle.net.proofs.Branches.{cond_same}

module _ (d : Driving) (falls : (t : ℕ) → t < d.places → d.hangs_at t ≤ t) where
  -- what hangs behind a position stands after it
  pub behind-same : (f g : ℕ → ℕ) (t : ℕ) → ((u : ℕ) → t < u → u < d.places → f u ≡ g u) → behind d f t ≡ behind d g t
  unfolding behind
  behind-same f g t e =
      sum_same d.places _ _
      (λ u h. cond_same (eqb (d.hangs_at u) (suc t)) (f u) (g u) (λ b. e u (omega (arith, eqb-true (d.hangs_at u) (suc t) b, falls u h)) h))

  -- what a position drives where f says what those after it do
  next : (y : List ℕ) (f g : ℕ → ℕ) (t : ℕ) → ((u : ℕ) → t < u → u < d.places → f u ≡ g u)
      → d.sink t + behind d (λ u. load_at d u (at y u) (f u)) t ≡ d.sink t + behind d (λ u. load_at d u (at y u) (g u)) t
  next y f g t e = ap (λ (l : ℕ). d.sink t + l) (behind-same _ _ t (λ u a b. ap (load_at d u (at y u)) (e u a b)))

  module _ (y : List ℕ) where
    -- a depth that reaches the last position is enough
    driven-enough : (n m t : ℕ) → t < d.places → d.places ≤ t + n → d.places ≤ t + m → driven_to d y n t ≡ driven_to d y m t
    unfolding driven_to
    driven-enough zero m t h a b = absurd (omega arith)
    driven-enough (suc n) zero t h a b = absurd (omega arith)
    driven-enough (suc n) (suc m) t h a b =
        next y (driven_to d y n) (driven_to d y m) t (λ u k l. driven-enough n m u l (omega arith) (omega arith))

    -- the load that a position drives: its sink, and what the positions behind it show
    pub driven-behind : (t : ℕ) → t < d.places → driven_load d y t ≡ d.sink t + behind d (shown_load d y) t
    unfolding driven_to driven_load
    driven-behind t h = driven-enough d.places (suc d.places) t h (omega arith) (omega arith)

    -- nothing else has this property
    module _ (f : ℕ → ℕ) (drives : (t : ℕ) → t < d.places → f t ≡ d.sink t + behind d (λ u. load_at d u (at y u) (f u)) t) where
      only-to : (n t : ℕ) → t < d.places → d.places ≤ t + n → driven_to d y n t ≡ f t
      unfolding driven_to
      only-to zero t h a = absurd (omega arith)
      only-to (suc n) t h a = rw (drives t h) (next y (driven_to d y n) f t (λ u k l. only-to n u l (omega arith)))

      pub driven-only : (t : ℕ) → t < d.places → driven_load d y t ≡ f t
      unfolding driven_load
      driven-only t h = only-to d.places t h (omega arith)

  -- what a position drives depends on the positions after it
  module _ (y z : List ℕ) where
    reads-to : (n t : ℕ) → ((u : ℕ) → t < u → u < d.places → at y u ≡ at z u) → driven_to d y n t ≡ driven_to d z n t
    unfolding driven_to
    reads-to zero t e = refl
    reads-to (suc n) t e =
        ap (λ (l : ℕ). d.sink t + l) (behind-same _ _ t (λ u a b. cc (e u a b, reads-to n u (λ v k l. e v (omega arith) l))))

    pub driven-reads : (t : ℕ) → ((u : ℕ) → t < u → u < d.places → at y u ≡ at z u) → driven_load d y t ≡ driven_load d z t
    unfolding driven_load
    driven-reads t e = reads-to d.places t e

    -- and what it shows on those from it on
    pub shown-reads : (t : ℕ) → t < d.places → ((u : ℕ) → t ≤ u → u < d.places → at y u ≡ at z u) → shown_load d y t ≡ shown_load d z t
    shown-reads t h e = cc (e t (omega arith) h, driven-reads t (λ u a b. e u (omega arith) b))

    pub added-reads : (t : ℕ) → t < d.places → ((u : ℕ) → t ≤ u → u < d.places → at y u ≡ at z u) → added_delay d y t ≡ added_delay d z t
    added-reads t h e = cc (e t (omega arith) h, driven-reads t (λ u a b. e u (omega arith) b))
