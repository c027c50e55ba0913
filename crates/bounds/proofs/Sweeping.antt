-- A sweep of refining, place by place: what its loop knows, and that a sweep that changes nothing has come to the bound.
use mathlib.Core.Path.{◌≡◌, ◌∙◌, refl, sym, ap, subst}
use mathlib.Core.Bool.{Bool, true, false, not, ◌||◌, true≢false, false≢true}
use mathlib.Core.List.{List}
use Prim.Native.Nat.{ℕ, suc, ◌+◌, ◌≤◌, ◌<◌}
use native.Mathlib.Omega.{arith}
use lib.Dec.{eqb}
use lib.ListN.{set}
use lib.Seq.{set-get_or, get_or-set_same, get_or-set_other}
use borrow.Author.Count.{below_more}
use borrow.Author.Tests.{eqb-true, eqb-false}
use Rattle.lattice.specs.Side.{Side}
use Rattle.lattice.specs.Lists.{at}
use Rattle.lattice.specs.Space.{Space, Lattice, Submodular, within}
use Rattle.lattice.specs.Refine.{best, bound, refine, slack, Approaching}
use Rattle.lattice.proofs.Refining.{at_set, approaching-step, approaching-stop}
use Rattle.lattice.proofs.Theorems.{approaching-slack}
use Rattle.net.specs.Driving.{Driving, allowed_by, driven_load, delay_by, before, Placed, InLimits}
use Rattle.net.proofs.Driving.{driven-reads}
use Rattle.net.proofs.InOrder.{driving-lattice}
use Rattle.place.specs.Partial.{WeightsFrom}
use Rattle.place.specs.Held.{onward, DrivenFrom, UpstreamTo}
use Rattle.place.proofs.Driving.{driven-all}
use Rattle.place.proofs.Upstream.{before-step, onward-reads, upstream-reads}
use Rattle.refine.specs.declared.Ends.{Ends}
use Rattle.refine.specs.Settled.{end_from, Settled, EndsAt}
use Rattle.refine.proofs.Settling.{figures-small, settled-ends}
use Rattle.bounds.specs.Sweep.{Swept}

module _ {s : Side} {sp : Space} {D : List ℕ → ℕ} where
  pub swept-start : (x : List ℕ) → Approaching s sp D x → Swept s sp D x 0 x false
  swept-start x a = record { approaching = a; closer = λ e. absurd (false≢true e); same = λ e. refl; still = λ e p h. absurd (omega arith) }

  -- an index has changed
  changed : (x₀ : List ℕ) (n : ℕ) (x : List ℕ) → Approaching s sp D x → slack s sp x < slack s sp x₀ → Swept s sp D x₀ n x true
  changed x₀ n x a l = record { approaching = a; closer = λ e. l; same = λ e. absurd (true≢false e); still = λ e. absurd (true≢false e) }

module _ {sp : Space} {D : List ℕ → ℕ} (la : Lattice sp) (sub : Submodular sp D) (s : Side) where
  -- one place more, with the index b
  pub swept_step : (x₀ x : List ℕ) (p b : ℕ) (c : Bool) → Swept s sp D x₀ p x c → p < sp.places → b ≡ best s sp D x p
      → Swept s sp D x₀ (p + 1) (set x p b) (c || not (eqb b (at x p)))
  unfolding refine
  swept_step x₀ x p b c i h e = go c i (eqb b (at x p)) refl
    where
      y : List ℕ
      y = set x p b

      stepped : y ≡ refine s sp D x p
      stepped = ap (λ v. set x p v) e

      a : Approaching s sp D y
      a = rw stepped (approaching-step la sub s x i.approaching p h)

      kept : eqb b (at x p) ≡ true → y ≡ x
      kept f = ap (λ v. set x p v) (eqb-true b (at x p) f) ∙ set-get_or x p 0

      moved : eqb b (at x p) ≡ false → slack s sp y < slack s sp x
      moved f =
          rw stepped
          (approaching-slack la sub s x i.approaching p h
          (λ g. eqb-false b (at x p) f (sym (at_set la x i.approaching.allowed p h b) ∙ ap (λ z. at z p) (stepped ∙ g))))

      go : (d : Bool) → Swept s sp D x₀ p x d → (t : Bool) → eqb b (at x p) ≡ t → Swept s sp D x₀ (p + 1) y (d || not t)
      go true j true f = changed x₀ (p + 1) y a (rw (kept f) (j.closer refl))
      go true j false f = changed x₀ (p + 1) y a (omega (arith, moved f, j.closer refl))
      go false j true f =
          record {
            approaching = a;
            closer = λ g. absurd (false≢true g);
            same = λ g. kept f ∙ j.same refl;
            still = λ g. subst (λ z. (q : ℕ) → q < p + 1 → refine s sp D z q ≡ z) (sym (kept f)) (below_more _ p (j.still refl) (sym stepped ∙ kept f));
          }
      go false j false f = changed x₀ (p + 1) y a (subst (λ z. slack s sp y < slack s sp z) (j.same refl) (moved f))

  -- a sweep that changed nothing
  pub swept-end : {x₀ x : List ℕ} {c : Bool} → Swept s sp D x₀ sp.places x c → c ≡ false → x ≡ bound s sp D
  swept-end {x = x} i e = approaching-stop la sub s x i.approaching (i.still e)

-- What a sweep's loop knows: the places from p on are as they were, and what is upstream of those before p is known.
pub record Sweeping (net : Driving) (s : Side) (x₀ : List ℕ) (p : ℕ) (x upstream : List ℕ) (changed : Bool) : Type 0 where
  pub up_to : p ≤ net.places
  pub swept : Swept s (allowed_by net) (delay_by net) x₀ p x changed
  pub known : UpstreamTo net x x p upstream
  pub later : (q : ℕ) → p ≤ q → q < net.places → at x q ≡ at x₀ q

module _ (net : Driving) (o : Placed net) (s : Side) (x₀ : List ℕ) where
  module _ (p : ℕ) (few : p < net.places) (x upstream : List ℕ) (changed : Bool) (i : Sweeping net s x₀ p x upstream changed) where
    -- the place drives what it drove when the sweep began
    drives-yet : (driven : List ℕ) → DrivenFrom net x₀ x₀ 0 driven → at driven p ≡ driven_load net x p
    drives-yet driven d =
        driven-all net o x₀ driven d p few ∙ driven-reads net o.falls x₀ x p (λ q l m. sym (i.later q (omega arith) m))

    module _ (v : ℕ) (e : v ≡ before (onward net x x upstream) (net.hangs_at p)) where
      known_more : UpstreamTo net x x (suc p) (set upstream p v)
      known_more = let z : p + 1 ≡ suc p = omega arith in rw z at (before-step net o _ (onward-reads net x x) upstream p v few i.known e)

      -- what settling the place finds: both ends of its tie
      module _ (l : InLimits net) (weights driven : List ℕ) (w : WeightsFrom net 0 weights) (d : DrivenFrom net x₀ x₀ 0 driven) where
        here : at (set upstream p v) p ≡ v
        here = get_or-set_same upstream p v 0 (omega (arith, i.known.long))

        pub settle-asks : (at weights p ≤ 32640) × (v ≤ 496128000000) × (at driven p ≤ 13700000)
        settle-asks = rw here at (figures-small net o l (set upstream p v) x i.swept.approaching.allowed p (at weights p) (at driven p) few (w.held p (omega arith) few) known_more (drives-yet driven d))

        pub settle-finds : (r : Ends) → Settled net (at weights p) v p (at driven p) r → EndsAt net x p r
        settle-finds r t =
            settled-ends net o l (set upstream p v) x i.swept.approaching.allowed p (at weights p) (at driven p) few (w.held p (omega arith) few) known_more (drives-yet driven d) r (rw here t)

      -- the end that is taken from s is put
      pub sweeping-step : (r : Ends) (b : ℕ) → Submodular (allowed_by net) (delay_by net) → EndsAt net x p r → b ≡ end_from s r
          → Sweeping net s x₀ (p + 1) (set x p b) (set upstream p v) (changed || not (eqb b (at x p)))
      unfolding within
      sweeping-step r b sub f g =
          record {
            up_to = omega arith;
            swept = swept_step (driving-lattice net) sub s x₀ x p b changed i.swept few (g ∙ f.ends s);
            known = let z : suc p ≡ p + 1 = omega arith in rw z at (upstream-reads net o x (set x p b) (set upstream p v) (suc p) (λ a l. sym (elsewhere a (λ h. omega arith))) known_more);
            later = λ q l m. elsewhere q (λ h. omega arith) ∙ i.later q (omega arith) m;
          }
        where
          elsewhere : (q : ℕ) → (q ≡ p → ⊥) → at (set x p b) q ≡ at x q
          elsewhere q n = get_or-set_other x p q b 0 n
