-- One position of a sizing, the rest held: by how much its index changes the delay of the whole net is told by its own weighted delay and by its load,
-- times the weighted resistance upstream.
use mathlib.Core.Path.{◌≡◌, refl, sym, ap, ◌∙◌}
use mathlib.Core.Bool.{Bool, true, false, cond}
use mathlib.Core.List.{List}
use Prim.Native.Nat.{ℕ, suc, ◌+◌, ◌*◌, ◌-◌, ◌≤◌, ◌<◌}
use native.Mathlib.Decide.{dec_le}
use native.Mathlib.Omega.{arith}
use borrow.Author.Tests.{eqb-true, eqb-false, ne_eqb}
use lib.Dec.{eqb}
use lib.ListN.{length, set}
use lib.Seq.{get_or-set_same, get_or-set_other}
use Rattle.lattice.specs.Lists.{at, sum}
use Rattle.net.specs.Driving.{Driving, delay_at, load_at, behind, slope, before, driven_load, shown_load, added_delay, delay_by, UpstreamTo, cost}
use Rattle.net.proofs.Sum.{sum_same, sum-add, sum-at}
use Rattle.net.proofs.Driving.{driven-behind, driven-reads, shown-reads}
use Rattle.net.proofs.Held.{before_same, apart}

-- the terms that pass a test, and those that do not
sum-apart : (n : ℕ) (b : ℕ → Bool) (f : ℕ → ℕ) → sum n f ≡ sum n (λ q. cond (b q) 0 (f q)) + sum n (λ q. cond (b q) (f q) 0)
sum-apart n b f = sum_same n f _ (λ q h. go (b q) (f q)) ∙ sum-add n _ _
  where
    go : (t : Bool) (v : ℕ) → v ≡ cond t 0 v + cond t v 0
    go true v = omega arith
    go false v = omega arith

module _ (d : Driving) (falls : (t : ℕ) → t < d.places → d.hangs_at t ≤ t) (x : List ℕ) (long : length x ≡ d.places)
    (p : ℕ) (few : p < d.places) (upstream : ℕ → ℕ) (priced : UpstreamTo d x (suc p) upstream) where
  here : (j : ℕ) → at (set x p j) p ≡ j
  here j = get_or-set_same x p j 0 (omega arith)

  else-where : (j q : ℕ) → (q ≡ p → ⊥) → at (set x p j) q ≡ at x q
  else-where j q n = get_or-set_other x p q j 0 n

  driven : (j : ℕ) → driven_load d (set x p j) p ≡ driven_load d x p
  driven j = driven-reads d falls (set x p j) x p (λ q h m. else-where j q (λ e. omega arith))

  load_here : (j : ℕ) → shown_load d (set x p j) p ≡ load_at d p j (driven_load d x p)
  load_here j = cc (here j, driven j)

  delay-here : (j : ℕ) → added_delay d (set x p j) p ≡ d.weight p * delay_at d p j (driven_load d x p)
  delay-here j = cc (here j, driven j)

  module _ (i j : ℕ) (h : load_at d p i (driven_load d x p) ≤ load_at d p j (driven_load d x p)) where
    abbrev y : List ℕ
    y = set x p j

    abbrev z : List ℕ
    z = set x p i

    loaded : (v q : ℕ) → q < d.places → eqb q p ≡ false → shown_load d (set x p v) q ≡ load_at d q (at x q) (d.sink q + behind d (shown_load d (set x p v)) q)
    loaded v q m t = cc (else-where v q (eqb-false q p t), driven-behind d falls (set x p v) q m)

    smaller : (q : ℕ) → q < d.places → eqb q p ≡ true → shown_load d z q ≤ shown_load d y q
    smaller q m t = let e = eqb-true q p t in rw (e, load_here i, load_here j) h

    after : (q : ℕ) → p < q → q < d.places → shown_load d y q ≡ shown_load d z q
    after q l m = shown-reads d falls y z q m (λ r n o. else-where j r (λ e. omega arith) ∙ sym (else-where i r (λ e. omega arith)))

    upstream-holds : (q : ℕ) → q < d.places
        → upstream q * (shown_load d y q - shown_load d z q)
        ≡ before (λ a. cond (eqb a p) 0 (slope d a (at x a) + cond (d.driver a) 0 (upstream a))) (d.hangs_at q) * (shown_load d y q - shown_load d z q)
    upstream-holds q m = go (dec_le q p)
      where
        go : Dec (q ≤ p) → upstream q * (shown_load d y q - shown_load d z q)
            ≡ before (λ a. cond (eqb a p) 0 (slope d a (at x a) + cond (d.driver a) 0 (upstream a))) (d.hangs_at q) * (shown_load d y q - shown_load d z q)
        go (yes n) =
            ap (λ (v : ℕ). v * (shown_load d y q - shown_load d z q))
            (priced.held q (omega arith) m
            ∙ before_same _ _ (d.hangs_at q) (λ a e. let f = falls q m in rw (ne_eqb a p (λ g. omega arith))))
        go (no n) =
            let e : shown_load d y q - shown_load d z q ≡ 0 = omega (arith, after q (omega arith) m) in
            rw e (omega arith)

    raised : delay_by d y + cost d (d.weight p) (upstream p) p (driven_load d x p) i ≡ delay_by d z + cost d (d.weight p) (upstream p) p (driven_load d x p) j
    unfolding delay_by
    raised =
        let a = apart d falls (λ q. eqb q p) (at x) (shown_load d y) (shown_load d z) (loaded j) (loaded i) smaller upstream upstream-holds (at y) (λ q m t. else-where j q (eqb-false q p t)) in
        let b = sum_same d.places (added_delay d y) (λ q. d.weight q * delay_at d q (at y q) (d.sink q + behind d (shown_load d y) q)) (λ q m. rw (driven-behind d falls y q m)) in
        let c = sum_same d.places (λ q. cond (eqb q p) 0 (added_delay d z q)) (λ q. cond (eqb q p) 0 (d.weight q * delay_at d q (at x q) (d.sink q + behind d (shown_load d z) q)))
        (λ q m. other q m (eqb q p) refl) in
        let g = sum-apart d.places (λ q. eqb q p) (added_delay d z) in
        let e = sum-at d.places p (added_delay d z) few in
        let f = sum-at d.places p (λ q. d.weight q * delay_at d q (at y q) (d.sink q + behind d (shown_load d y) q) + upstream q * (shown_load d y q - shown_load d z q)) few in
        let l : d.weight p * delay_at d p (at y p) (d.sink p + behind d (shown_load d y) p) ≡ d.weight p * delay_at d p j (driven_load d x p) = rw (← (driven-behind d falls y p few)) (delay-here j) in
        let m = delay-here i in
        let n = load_here i in
        let o = load_here j in
        let u = load_at d p i (driven_load d x p) in
        let v = load_at d p j (driven_load d x p) in
        let q : upstream p * (v - u) + upstream p * u ≡ upstream p * v = let s : v ≡ (v - u) + u = omega arith in omega (arith, ap (λ (w : ℕ). upstream p * w) s) in
        let r : upstream p * (shown_load d y p - shown_load d z p) ≡ upstream p * (v - u) = rw (n, o) in
        omega arith
      where
        other : (q : ℕ) → q < d.places → (t : Bool) → eqb q p ≡ t
            → cond t 0 (added_delay d z q) ≡ cond t 0 (d.weight q * delay_at d q (at x q) (d.sink q + behind d (shown_load d z) q))
        other q m true t = refl
        other q m false t = cc (else-where i q (eqb-false q p t), driven-behind d falls z q m)

  -- the delay changes as the cost does
  pub traded : (i j : ℕ) → delay_by d (set x p j) + cost d (d.weight p) (upstream p) p (driven_load d x p) i ≡ delay_by d (set x p i) + cost d (d.weight p) (upstream p) p (driven_load d x p) j
  traded i j = go (dec_le (load_at d p i (driven_load d x p)) (load_at d p j (driven_load d x p)))
    where
      go : Dec (load_at d p i (driven_load d x p) ≤ load_at d p j (driven_load d x p)) → delay_by d (set x p j) + cost d (d.weight p) (upstream p) p (driven_load d x p) i ≡ delay_by d (set x p i) + cost d (d.weight p) (upstream p) p (driven_load d x p) j
      go (yes h) = raised i j h
      go (no h) = sym (raised j i (omega arith))
