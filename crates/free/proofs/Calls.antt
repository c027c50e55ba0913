-- What the calls of the search ask, from its own state at the free place before `left`.
use mathlib.Core.Path.{◌≡◌, refl, ap, ◌∙◌}
use mathlib.Core.Bool.{Bool, true, false, cond}
use mathlib.Core.List.{List}
use Prim.Native.Nat.{ℕ, zero, suc, ◌+◌, ◌*◌, ◌-◌, ◌^◌, ◌≤◌, ◌<◌}
use native.Mathlib.Nat.{mul-le-mul_right}
use native.Mathlib.Numerals.{add-one}
use native.Mathlib.Omega.{arith}
use lib.ListN.{length, set}
use Rattle.lattice.specs.Lists.{at}
use Rattle.lattice.specs.Search.{Found, take}
use Rattle.net.specs.declared.Counts.{Counts}
use Rattle.net.specs.Job.{places_by}
use Rattle.net.specs.Net.{net_by}
use Rattle.net.specs.Driving.{delay_at, load_at, cost, driven_load, shown_load, delay_by}
use Rattle.net.specs.Order.{order, placed_by, driving_by}
use Rattle.net.proofs.InOrder.{allowed-by, placed, in_limits}
use Rattle.place.specs.declared.PlaceStep.{PlaceStep}
use Rattle.place.specs.Partial.{StepOf}
use Rattle.place.specs.Held.{free}
use Rattle.place.proofs.Upstream.{upstream-most}
use Rattle.place.proofs.Gathering.{gathered-small}
use Rattle.place.proofs.Steps.{cost-same, step_same, place_at_lem}
use Rattle.free.specs.Searching.{free_load, Prepared, Sized, FreeBefore, Searched, PassedTo}
use Rattle.free.proofs.Apart.{ups-fall}
use Rattle.free.proofs.Tables.{skip-le, skip-free}
use Rattle.free.proofs.Turns.{Standing, Turning, stands, load_is, turning-start, highs, reached-fits, complete, turn-ready, turn-done, taken-done, passed-done, turning-end}

module _ {c : Counts} {job orders weights upstream driven ups skips lower upper : List ℕ} (r : Prepared c job orders weights upstream driven ups skips lower upper)
    {left added : ℕ} {x gathered : List ℕ} {best : Found} (here : FreeBefore (driving_by c job) lower upper upstream driven ups left added x gathered best) where
  pub few : left - 1 < (driving_by c job).places
  few = omega (arith, here.sized.few, here.some)

  -- the place at the position
  pub place-few : at orders (left - 1) < places_by c
  place-few = place_at_lem r.checked r.ordered (left - 1) few

  place_is : at orders (left - 1) ≡ order (net_by c job) (left - 1)
  place_is = r.ordered.held (left - 1) few

  start : Sized (driving_by c job) lower upper upstream driven ups (suc (left - 1)) added x gathered best.lean best.wide
  start = let e : left ≡ suc (left - 1) = omega (arith, here.some) in rw e at here.sized

  -- the load that the place drives
  pub load_value : at driven (left - 1) + at gathered (left - 1 + 1) ≡ driven_load (driving_by c job) x (left - 1)
  load_value = rw (add-one (left - 1)) (load_is r (left - 1) few here.frees best start)

  pub load-most : (load : ℕ) → load ≡ at driven (left - 1) + at gathered (left - 1 + 1) → load ≤ 13700000
  load-most load e = rw (e, load_value) ((in_limits r.checked).drives x here.sized.allowed (left - 1) few)

  weight-value : at weights (left - 1) ≡ (driving_by c job).weight (left - 1)
  weight-value = r.weighed.held (left - 1) (omega arith) few

  pub weight-most : at weights (left - 1) ≤ 32640
  weight-most = rw weight-value ((in_limits r.checked).weights (left - 1) few)

  pub resistance-most : at upstream (left - 1) ≤ 496128000000
  resistance-most =
      omega (
        arith,
        upstream-most (driving_by c job) (placed r.checked) (in_limits r.checked) lower upper r.lower_allowed upstream (driving_by c job).places r.known (left - 1) few few,
        few,
        (in_limits r.checked).few,
      )

  -- where the load of the place arrives
  pub node-low : at ups (left - 1) ≤ left - 1
  node-low = ups-fall (driving_by c job) (placed r.checked) lower upper ups (driving_by c job).places r.lifted (suc (left - 1)) (left - 1) (omega arith) few few

  -- what has arrived there is small
  pub others-small : at gathered (at ups (left - 1)) ≤ 1048800000
  others-small =
      omega (
        arith,
        here.sized.gathers.held (at ups (left - 1)) (omega (arith, node-low, few)),
        gathered-small (driving_by c job).places (at ups) (free_load (driving_by c job) lower upper x) left (at ups (left - 1)) 13800000 (λ q h m. go q m (free lower upper q)),
        mul-le-mul_right 13800000 (in_limits r.checked).few,
      )
    where
      go : (q : ℕ) → q < (driving_by c job).places → (b : Bool) → cond b (shown_load (driving_by c job) x q) 0 ≤ 13800000
      go q m true =
          (in_limits r.checked).shows q (at x q) (driven_load (driving_by c job) x q) m (((allowed-by (driving_by c job) x).0 here.sized.allowed).high q m)
          ((in_limits r.checked).drives x here.sized.allowed q m)
      go q m false = omega arith

  -- the places left after this one
  pub rest-low : at skips (left - 1) ≤ left - 1
  rest-low = skip-le lower upper (driving_by c job).places skips r.skipped (left - 1) (omega (arith, few))

  pub rest-free : (at skips (left - 1) ≡ 0 → ⊥) → free lower upper (at skips (left - 1) - 1) ≡ true
  rest-free n = skip-free lower upper (driving_by c job).places skips r.skipped (left - 1) (omega (arith, few)) n

  -- an index is small
  pub small : at upper (left - 1) < 16
  small =
      let h = (in_limits r.checked).indices (left - 1) few in
      omega (arith, h, ((allowed-by (driving_by c job) upper).0 r.upper_allowed).high (left - 1) few)

  pub begin : Turning (driving_by c job) lower upper (left - 1) x best x (at lower (left - 1)) best
  begin = turning-start r (left - 1) few here.frees best start

  -- x at the index k of the place
  standing : (k : ℕ) → at lower (left - 1) ≤ k → Standing (driving_by c job) lower upper (left - 1) x x k
  standing k l = record { allowed = here.sized.allowed; held = here.sized.held; same = λ q h m. refl; low = l }

  abbrev reached : ℕ → ℕ
  reached k = added + cost (driving_by c job) (at weights (left - 1)) (at upstream (left - 1)) (left - 1) (at driven (left - 1) + at gathered (left - 1 + 1)) k

  reached-value : (k : ℕ) → reached k
      ≡ added + ((driving_by c job).weight (left - 1) * delay_at (driving_by c job) (left - 1) k (driven_load (driving_by c job) x (left - 1))
      + at upstream (left - 1) * load_at (driving_by c job) (left - 1) k (driven_load (driving_by c job) x (left - 1)))
  reached-value k = rw (weight-value, load_value)

  -- every index of the place gives a delay that fits
  pub all_fit : (load : ℕ) → load ≡ at driven (left - 1) + at gathered (left - 1 + 1) → (k : ℕ) → at lower (left - 1) ≤ k → k ≤ at upper (left - 1)
      → added + cost (placed_by c job) (at weights (left - 1)) (at upstream (left - 1)) (at orders (left - 1)) load k < 2 ^ 63
  all_fit load e k l h =
      rw (cost-same c job (at weights (left - 1)) (at upstream (left - 1)) (left - 1) load k (at orders (left - 1)) place_is, e)
      (reached-fits r (left - 1) few here.frees best start (standing k l) h (reached k) (reached-value k))

  pub top-high : at upper (left - 1) ≤ (net_by c job).highest (at orders (left - 1))
  top-high = rw place_is (((allowed-by (driving_by c job) upper).0 r.upper_allowed).high (left - 1) few)

  -- indices passed over by the load that the place drives
  pub passed-by : (load : ℕ) → load ≡ at driven (left - 1) + at gathered (left - 1 + 1) → (k : ℕ)
      → PassedTo (placed_by c job) (at weights (left - 1)) (at upstream (left - 1)) (at orders (left - 1)) load added best.least (at lower (left - 1)) (at upper (left - 1)) k
      → PassedTo (driving_by c job) (at weights (left - 1)) (at upstream (left - 1)) (left - 1) (at driven (left - 1) + at gathered (left - 1 + 1)) added best.least (at lower (left - 1)) (at upper (left - 1)) k
  unfolding delay_at load_at
  passed-by load e k p = let z = rw (e, place_is) at p in record { from = z.from; within = z.within; above = z.above }

  -- the indices that are passed over are done with
  pub passed_to : at skips (left - 1) ≡ 0 → (k : ℕ)
      → PassedTo (driving_by c job) (at weights (left - 1)) (at upstream (left - 1)) (left - 1) (at driven (left - 1) + at gathered (left - 1 + 1)) added best.least (at lower (left - 1)) (at upper (left - 1)) k
      → Turning (driving_by c job) lower upper (left - 1) x best x k best
  passed_to z k p = let e : at lower (left - 1) + (k - at lower (left - 1)) ≡ k = omega (arith, p.from) in rw e at (go (k - at lower (left - 1)) (omega (arith, p.from)))
    where
      go : (d : ℕ) → at lower (left - 1) + d ≤ k → Turning (driving_by c job) lower upper (left - 1) x best x (at lower (left - 1) + d) best
      go zero h = let e : at lower (left - 1) + 0 ≡ at lower (left - 1) = omega arith in rw e begin
      go (suc d) h =
          let e : at lower (left - 1) + suc d ≡ at lower (left - 1) + d + 1 = omega arith in
          let inside : at lower (left - 1) + d ≤ at upper (left - 1) = omega (arith, p.within) in
          rw e (passed-done r (left - 1) few here.frees best start (go d (omega arith)) inside z
          (omega (
            arith,
            p.above (at lower (left - 1) + d) (omega arith) (omega arith),
            complete r (left - 1) few here.frees best start (standing (at lower (left - 1) + d) (omega arith)) inside (reached (at lower (left - 1) + d)) (reached-value (at lower (left - 1) + d)) z,
          )))

  -- the loop at the index k of y, and what was found
  module _ {y : List ℕ} {k : ℕ} {f : Found} (t : Turning (driving_by c job) lower upper (left - 1) x best y k f) (inside : k ≤ at upper (left - 1)) where
    high : k ≤ (driving_by c job).highest (left - 1)
    high = highs r (left - 1) few here.frees best start (stands t) inside

    pub high-at : k ≤ (net_by c job).highest (at orders (left - 1))
    high-at = rw place_is high

    module _ (load : ℕ) (drives : load ≡ at driven (left - 1) + at gathered (left - 1 + 1))
        (step : PlaceStep) (by : StepOf (placed_by c job) (at weights (left - 1)) (at upstream (left - 1)) (at orders (left - 1)) k load step) where
      of : StepOf (driving_by c job) (at weights (left - 1)) (at upstream (left - 1)) (left - 1) k load step
      of = step_same c job (at weights (left - 1)) (at upstream (left - 1)) (left - 1) load k (at orders (left - 1)) step place_is by

      step-delay : added + step.delay.0
          ≡ added + ((driving_by c job).weight (left - 1) * delay_at (driving_by c job) (left - 1) k (driven_load (driving_by c job) x (left - 1))
          + at upstream (left - 1) * load_at (driving_by c job) (left - 1) k (driven_load (driving_by c job) x (left - 1)))
      step-delay = ap (λ (v : ℕ). added + v) (of.delay ∙ rw (drives, weight-value, load_value))

      step-load : step.load.0 ≡ load_at (driving_by c job) (left - 1) k (driven_load (driving_by c job) x (left - 1))
      step-load = of.load ∙ rw (drives, load_value)

      pub shown-small : step.load.0 ≤ 13800000
      shown-small = rw step-load ((in_limits r.checked).shows (left - 1) k (driven_load (driving_by c job) x (left - 1)) few high
          ((in_limits r.checked).drives x here.sized.allowed (left - 1) few))

      pub fits : added + step.delay.0 < 2 ^ 63
      fits = reached-fits r (left - 1) few here.frees best start (stands t) inside (added + step.delay.0) step-delay

      -- the recursive call
      pub ready : (d v : ℕ) (gathered' : List ℕ) → d ≡ added + step.delay.0 → v ≡ at gathered (at ups (left - 1)) + step.load.0
          → ((w : ℕ) → set gathered' (at ups (left - 1)) w ≡ set gathered (at ups (left - 1)) w)
          → Sized (driving_by c job) lower upper upstream driven ups (at skips (left - 1)) d (set y (left - 1) k) (set gathered' (at ups (left - 1)) v) f.lean f.wide
      ready d v gathered' e g same =
          turn-ready r (left - 1) few here.frees best start t inside d (e ∙ step-delay) v gathered' (g ∙ ap (λ (w : ℕ). at gathered (at ups (left - 1)) + w) step-load) same

      -- the sizing is complete
      pub whole : at skips (left - 1) ≡ 0 → (d : ℕ) → d ≡ added + step.delay.0 → d ≡ delay_by (driving_by c job) (set y (left - 1) k)
      whole z d e = complete r (left - 1) few here.frees best start (stands t) inside d (e ∙ step-delay) z

      pub taken : at skips (left - 1) ≡ 0 → (d : ℕ) → d ≡ added + step.delay.0 → (f' : Found) → length f'.lean ≡ length f.lean → length f'.wide ≡ length f.wide
          → f' ≡ take (set y (left - 1) k) d f → Turning (driving_by c job) lower upper (left - 1) x best (set y (left - 1) k) (k + 1) f'
      taken z d e f' a b g =
          taken-done r (left - 1) few here.frees best start t inside z a b (g ∙ ap (λ (v : ℕ). take (set y (left - 1) k) v f) (whole z d e))

      pub passed : at skips (left - 1) ≡ 0 → (d : ℕ) → d ≡ added + step.delay.0 → f.least < d → Turning (driving_by c job) lower upper (left - 1) x best y (k + 1) f
      passed z d e h = passed-done r (left - 1) few here.frees best start t inside z (omega (arith, whole z d e, h))

    pub done : {x' gathered' gathered'' : List ℕ} (f' : Found) → length f'.lean ≡ length f.lean → length f'.wide ≡ length f.wide
        → Searched (driving_by c job) lower upper (at skips (left - 1)) (set y (left - 1) k) gathered' f x' gathered'' f'
        → Turning (driving_by c job) lower upper (left - 1) x best x' (k + 1) f'
    done f' a b g = turn-done r (left - 1) few here.frees best start t inside a b g

  pub ended : {y : List ℕ} {k : ℕ} {f : Found} (gathered' : List ℕ) → Turning (driving_by c job) lower upper (left - 1) x best y k f → at upper (left - 1) < k → gathered' ≡ gathered
      → Searched (driving_by c job) lower upper left x gathered best y gathered' f
  ended {y} {k} {f} gathered' t h e =
      let z : suc (left - 1) ≡ left = omega (arith, here.some) in
      rw z at (turning-end r (left - 1) few here.frees best start gathered' t h e)
