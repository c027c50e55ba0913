-- A sizing that has the held places' only index: its delay is what these add once for all, and what the free places add with what their loads
-- cost upstream; and a free place drives what it drives without the others, and the loads of the free places that arrive behind it.
use mathlib.Core.Path.{◌≡◌, refl, sym, ap, ◌∙◌}
use mathlib.Core.Bool.{Bool, true, false, cond, not, true≢false}
use mathlib.Core.List.{List}
use Prim.Native.Nat.{ℕ, zero, suc, ◌+◌, ◌*◌, ◌≤◌, ◌<◌}
use native.Mathlib.Omega.{arith}
use borrow.Author.Tests.{le-ltb, ne_eqb}
use lib.Dec.{eqb, ltb}
use Rattle.lattice.specs.Lists.{at, sum}
use Rattle.net.specs.Driving.{Driving, delay_at, load_at, behind, before, driven_load, shown_load, added_delay, delay_by, Placed}
use Rattle.net.proofs.Sum.{eqb-iff, sum_same, sum-only}
use Rattle.net.proofs.Driving.{driven-behind}
use Rattle.net.proofs.Held.{more, behind_more, charged, apart}
use Rattle.place.specs.Held.{sum_after, free, held_load, DrivenFrom, UpstreamTo, fixed_from}
use Rattle.free.specs.Searching.{arrives, UpsTo, free_load, priced_from}

-- a load arrives at no node behind its place
pub ups-fall : (net : Driving) → Placed net → (lower upper ups : List ℕ) (n : ℕ) → UpsTo net lower upper n ups → (d q : ℕ) → q < d → q < n → q < net.places → at ups q ≤ q
unfolding before
ups-fall net o lower upper ups n u zero q h k m = absurd (omega arith)
ups-fall net o lower upper ups n u (suc d) q h k m =
    rw (u.held q k m) (go (net.hangs_at q) (o.falls q m) (λ a l. ups-fall net o lower upper ups n u d a (omega arith) (omega arith) (omega arith)))
  where
    go : (r : ℕ) → r ≤ q → ((a : ℕ) → a < q → at ups a ≤ a) → before (arrives net lower upper ups) r ≤ q
    go zero l rest = omega arith
    go (suc a) l rest = cases (free lower upper a) (net.driver a)
      where
        cases : (b t : Bool) → cond b (suc a) (cond t (suc a) (at ups a)) ≤ q
        cases true t = l
        cases false true = l
        cases false false = omega (arith, rest a l)

module _ (net : Driving) (o : Placed net) (lower upper driven upstream ups : List ℕ) (d : DrivenFrom net lower upper 0 driven)
    (u : UpstreamTo net lower upper net.places upstream) (n : UpsTo net lower upper net.places ups)
    (y : List ℕ) (held : (q : ℕ) → q < net.places → free lower upper q ≡ false → at y q ≡ at lower q) where
  loaded : (q : ℕ) → q < net.places → free lower upper q ≡ false → shown_load net y q ≡ load_at net q (at lower q) (net.sink q + behind net (shown_load net y) q)
  loaded q h t = cc (held q h t, driven-behind net o.falls y q h)

  less_loaded : (q : ℕ) → q < net.places → free lower upper q ≡ false
      → held_load net lower upper driven q ≡ load_at net q (at lower q) (net.sink q + behind net (held_load net lower upper driven) q)
  less_loaded q h t = rw t (ap (load_at net q (at lower q)) (d.held q (omega arith) h))

  smaller : (q : ℕ) → q < net.places → free lower upper q ≡ true → held_load net lower upper driven q ≤ shown_load net y q
  smaller q h t = rw t (omega arith)

  abbrev extra : ℕ → ℕ
  extra = more net o.falls (free lower upper) (at lower) (shown_load net y) (held_load net lower upper driven) loaded less_loaded smaller

  extra-free : (q : ℕ) → free lower upper q ≡ true → extra q ≡ shown_load net y q
  extra-free q t = rw t (omega arith)

  -- the delay, apart
  pub delay-apart : delay_by net y ≡ fixed_from net lower upper driven 0 + priced_from net lower upper upstream y 0
  unfolding sum_after delay_by
  delay-apart =
      let a = apart net o.falls (free lower upper) (at lower) (shown_load net y) (held_load net lower upper driven) loaded less_loaded smaller
      (at upstream) (λ q h. ap (λ (v : ℕ). v * extra q) (u.held q h h)) (at y) held in
      let b = sum_same net.places (added_delay net y) (λ q. net.weight q * delay_at net q (at y q) (net.sink q + behind net (shown_load net y) q)) (λ q h. rw (driven-behind net o.falls y q h)) in
      let c = sum_same net.places (λ q. cond (ltb q 0) 0 (cond (free lower upper q) 0 (net.weight q * delay_at net q (at lower q) (at driven q))))
      (λ q. cond (free lower upper q) 0 (net.weight q * delay_at net q (at lower q) (net.sink q + behind net (held_load net lower upper driven) q)))
      (λ q h. let z : 0 ≤ q = omega arith in rw (le-ltb q 0 z, d.held q (omega arith) h)) in
      let e = sum_same net.places (λ q. cond (ltb q 0) 0 (cond (free lower upper q) (added_delay net y q + at upstream q * shown_load net y q) 0))
      (λ q. cond (free lower upper q) (net.weight q * delay_at net q (at y q) (net.sink q + behind net (shown_load net y) q) + at upstream q * extra q) 0)
      (λ q h. let z : 0 ≤ q = omega arith in rw (le-ltb q 0 z) (priced q h (free lower upper q) refl)) in
      omega arith
    where
      priced : (q : ℕ) → q < net.places → (t : Bool) → free lower upper q ≡ t
          → cond t (added_delay net y q + at upstream q * shown_load net y q) 0
          ≡ cond t (net.weight q * delay_at net q (at y q) (net.sink q + behind net (shown_load net y) q) + at upstream q * extra q) 0
      priced q h true t = rw (extra-free q t, ← (driven-behind net o.falls y q h))
      priced q h false t = refl

  -- what arrives behind a free place p
  module _ (p : ℕ) (few : p < net.places) (frees : free lower upper p ≡ true) where
    abbrev arrived : ℕ → ℕ
    arrived q = cond (eqb (at ups q) (suc p)) 1 0

    -- through held segments alone
    abbrev through-held : ℕ → ℕ
    through-held a = cond (eqb p a) 1 0 + cond (cond (free lower upper a) false (not (net.driver a))) (arrived a) 0

    arrives-by : (q : ℕ) → q < net.places → arrived q ≡ before through-held (net.hangs_at q)
    unfolding before
    arrives-by q h = rw (n.held q h h) (go (net.hangs_at q))
      where
        through : (a : ℕ) (b : Bool) → free lower upper a ≡ b → (t : Bool) → net.driver a ≡ t
            → cond (eqb (cond b (suc a) (cond t (suc a) (at ups a))) (suc p)) 1 0 ≡ cond (eqb p a) 1 0 + cond (cond b false (not t)) (arrived a) 0
        through a true e t f = rw (eqb-iff (suc a) (suc p) p a (λ g. omega arith) (λ g. omega arith)) (omega arith)
        through a false e true f = rw (eqb-iff (suc a) (suc p) p a (λ g. omega arith) (λ g. omega arith)) (omega arith)
        through a false e false f =
            rw (ne_eqb p a (λ g. true≢false (sym frees ∙ ap (free lower upper) g ∙ e))) (omega arith)

        go : (r : ℕ) → cond (eqb (before (arrives net lower upper ups) r) (suc p)) 1 0 ≡ before through-held r
        go zero = rw (ne_eqb 0 (suc p) (λ e. omega arith))
        go (suc a) = through a (free lower upper a) refl (net.driver a) refl

    arrives-all : behind net extra p ≡ sum net.places (λ q. cond (eqb (at ups q) (suc p)) (free_load net lower upper y q) 0)
    arrives-all =
        let a = sum-only net.places p 1 (behind net extra) few in
        let b = charged net o.falls (free lower upper) (at lower) (shown_load net y) (held_load net lower upper driven) loaded less_loaded smaller
        (λ a. cond (eqb p a) 1 0) arrived (λ q h. ap (λ (v : ℕ). v * extra q) (arrives-by q h)) in
        let c = sum_same net.places (λ q. cond (free lower upper q) (arrived q * extra q) 0) (λ q. cond (eqb (at ups q) (suc p)) (free_load net lower upper y q) 0)
        (λ q h. shown q (free lower upper q) refl (eqb (at ups q) (suc p))) in
        omega arith
      where
        shown : (q : ℕ) (b : Bool) → free lower upper q ≡ b → (w : Bool) → cond b (cond w 1 0 * extra q) 0 ≡ cond w (cond b (shown_load net y q) 0) 0
        shown q true f true = rw (extra-free q f) (omega arith)
        shown q true f false = omega arith
        shown q false f true = refl
        shown q false f false = refl

    pub driven-apart : driven_load net y p ≡ at driven p + sum net.places (λ q. cond (eqb (at ups q) (suc p)) (free_load net lower upper y q) 0)
    driven-apart =
        let a = driven-behind net o.falls y p few in
        let b = behind_more net o.falls (free lower upper) (at lower) (shown_load net y) (held_load net lower upper driven) loaded less_loaded smaller p in
        let c = d.held p (omega arith) few in
        let e = arrives-all in
        omega arith
