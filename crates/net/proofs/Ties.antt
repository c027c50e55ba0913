-- What refine answers of the tie at a place: both ends, and the delay that either reaches. Said of every call that is answered.
use mathlib.Core.Path.{◌≡◌, ◌∙◌, sym, ap}
use mathlib.Core.Logic.{◌↔◌}
use mathlib.Core.List.{List, [], ◌∷◌}
use Prim.Native.Nat.{ℕ, ◌≤◌, ◌<◌}
use native.Mathlib.Decide.{ℕ_discrete}
use native.Mathlib.Omega.{arith}
use lib.Dec.{T, ltb→lt}
use lib.ListN.{set}
use Rattle.lattice.specs.Side.{Side, below, above}
use Rattle.lattice.specs.Space.{Allowed, within}
use Rattle.lattice.specs.Refine.{best, best_below, best_above}
use Rattle.lattice.proofs.Theorems.{ends-win, ends-alike, ends-enclose}
use Rattle.net.specs.Net.{Net, places, net_of}
use Rattle.net.specs.Delay.{delay}
use Rattle.net.specs.Sizings.{allowed}
use Rattle.net.specs.Questions.{ask, first_no, refusal}
use Rattle.net.specs.Answers.{Refined, question15, question16, question17, sizing_in, refine_number, refined}
use Rattle.net.proofs.Dominance.{allowed-lattice}
use Rattle.net.proofs.Questions.{first_no-zero}
use Rattle.net.proofs.Answers.{job-passes, job-fails, sizing-ranges, ranges-allowed, refined-answered}

module _ (job x : List ℕ) (p : ℕ) (answered : refine_number job x p ≡ 0) where
  abbrev net : Net
  net = net_of job

  -- the sizing with the index k at the place
  abbrev put : ℕ → List ℕ
  put k = set (sizing_in net x) p k

  own : first_no (ask 15 (question15 net x) ∷ ask 16 (question16 net x) ∷ ask 17 (question17 net p) ∷ []) ≡ 0
  unfolding refine_number
  own = go (ℕ_discrete (refusal job) 0)
    where
      go : Dec (refusal job ≡ 0) → first_no (ask 15 (question15 net x) ∷ ask 16 (question16 net x) ∷ ask 17 (question17 net p) ∷ []) ≡ 0
      go (yes e) = sym (job-passes job _ e) ∙ answered
      go (no z) = absurd (z (sym (job-fails job _ z) ∙ answered))

  passed : T (question15 net x) × T (question16 net x) × T (question17 net p)
  passed =
      let a = first_no-zero 14 (question15 net x) _ own in
      let b = first_no-zero 15 (question16 net x) _ a.1 in
      let c = first_no-zero 16 (question17 net p) _ b.1 in
      (a.0, b.0, c.0)

  held : Allowed (allowed net) (sizing_in net x)
  held = ranges-allowed net x (sizing-ranges net x passed.0 passed.1)

  few : p < places net
  few = ltb→lt p (places net) passed.2

  -- The index k is allowed at the place, and the sizing with k there has the delay that is answered.
  abbrev pub Reaches : ℕ → Type 0
  Reaches k = Allowed (allowed net) (put k) × (delay net (put k) ≡ (refined job x p).delay)

  -- the ends that are answered
  lowest-is : (refined job x p).lowest ≡ best_below (allowed net) (delay net) (sizing_in net x) p
  lowest-is = ap (λ (r : Refined). r.lowest) (refined-answered job x p answered)

  highest-is : (refined job x p).highest ≡ best_above (allowed net) (delay net) (sizing_in net x) p
  highest-is = ap (λ (r : Refined). r.highest) (refined-answered job x p answered)

  end-reaches : (s : Side) → Reaches (best s (allowed net) (delay net) (sizing_in net x) p)
  unfolding within
  end-reaches s = (
    (ends-win (allowed-lattice net) (delay net) (sizing_in net x) held p few s).0,
    ends-alike (allowed-lattice net) (delay net) (sizing_in net x) held p few s below
        ∙ sym (ap (λ (r : Refined). r.delay) (refined-answered job x p answered)),
  )

  -- Either end of the tie reaches the delay that is answered.
  pub either_end : Reaches (refined job x p).lowest × Reaches (refined job x p).highest
  either_end = (rw lowest-is (end-reaches below), rw highest-is (end-reaches above))

  -- No index that is allowed at the place reaches a smaller one.
  pub reached-least : (k : ℕ) → Allowed (allowed net) (put k) → (refined job x p).delay ≤ delay net (put k)
  unfolding within
  reached-least k a = rw (← (end-reaches below).1) ((ends-win (allowed-lattice net) (delay net) (sizing_in net x) held p few below).1 k a)

  -- Every index that reaches it lies between the ends.
  pub reached-between : (k : ℕ) → Reaches k → ((refined job x p).lowest ≤ k) × (k ≤ (refined job x p).highest)
  unfolding within
  reached-between k r =
      rw (lowest-is, highest-is)
      (ends-enclose (allowed-lattice net) (delay net) (sizing_in net x) held p few k (r.0, λ j a. rw r.1 (reached-least j a)))

  -- The ends are equal exactly when one index alone reaches it.
  pub reached-one : ((refined job x p).lowest ≡ (refined job x p).highest) ↔ ((i j : ℕ) → Reaches i → Reaches j → i ≡ j)
  reached-one = (λ e i j v w. omega (arith, e, reached-between i v, reached-between j w), λ f. f _ _ either_end.0 either_end.1)
