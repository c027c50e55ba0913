-- Questions 11 and 22 by the first segment at each node: a segment has branches where there is a first segment at its far end.
use mathlib.Core.Path.{◌≡◌, ◌∙◌, refl, sym, ap₂}
use mathlib.Core.Bool.{Bool, false, ◌&&◌}
use mathlib.Core.List.{List}
use Prim.Native.Nat.{ℕ, zero, suc, ◌+◌, ◌-◌, ◌≤◌, ◌<◌}
use native.Mathlib.Nat.{add_assoc}
use native.Mathlib.Numerals.{add-one}
use native.Mathlib.Decide.{dec_le}
use native.Mathlib.Omega.{arith}
use borrow.Author.Tests.{lt-ltb, le-ltb, ne_eqb}
use lib.Dec.{ltb, eqb}
use lib.ListN.{get_or}
use Rattle.lattice.specs.Lists.{every, some}
use Rattle.lattice.proofs.ListLaws.{is_true, eq-T, at_some}
use Rattle.net.specs.declared.Counts.{Counts}
use Rattle.net.specs.Net.{net_by}
use Rattle.net.specs.Questions.{has_branches, question11, question22}
use Rattle.segments.specs.Tests.{branched, sink_or_branch, site_branched, sites_rise}
use Rattle.asked.specs.Parts.{Firsts}
use Rattle.asked.proofs.Regroup.{first_repeater, repeater-at}
use Rattle.lattice.proofs.Every.{every-same}

some-none : (n : ℕ) (f : ℕ → Bool) → ((p : ℕ) → p < n → f p ≡ false) → some n f ≡ false
unfolding some
some-none zero f e = refl
some-none (suc n) f e = rw (e n (omega arith)) (some-none n f (λ p h. e p (omega arith)))

module _ (c : Counts) (b first : List ℕ) (h : Firsts (net_by c b) first) where
  abbrev n : ℕ
  n = c.segments

  has-branches : (k : ℕ) → k < n → ltb (get_or first (k + 1) 0) n ≡ has_branches c b k
  unfolding has_branches
  has-branches k l = rw (add-one k) (go (dec_le (suc i) n))
    where
      i : ℕ
      i = get_or first (suc k) 0

      go : Dec (suc i ≤ n) → ltb i n ≡ some n (λ j. eqb ((net_by c b).parent j) (suc k))
      go (yes m) = lt-ltb i n m ∙ sym (is_true _ (at_some n (λ j. eqb ((net_by c b).parent j) (suc k)) i m (eq-T _ _ ((h.firsts (suc k) l).there m))))
      go (no m) =
          let g : n ≤ i = omega arith in
          le-ltb i n g ∙ sym (some-none n (λ j. eqb ((net_by c b).parent j) (suc k)) (λ p q. ne_eqb _ _ ((h.firsts (suc k) l).none p (omega arith) (omega arith))))

  pub question11-by : {p : Bool} → p ≡ every n (sink_or_branch b first (c.widths + c.sizes + c.stages) n) → p ≡ question11 c b
  unfolding question11
  question11-by d = d ∙ every-same _ _ _ (λ k l. rw (add_assoc (c.widths + c.sizes) c.stages k, has-branches k l))

  -- a segment that is not there is not asked for its branches
  there-with-branches : (i : ℕ) → branched first n i ≡ ltb i n && has_branches c b i
  there-with-branches i = go (dec_le (suc i) n)
    where
      go : Dec (suc i ≤ n) → branched first n i ≡ ltb i n && has_branches c b i
      go (yes l) = rw (has-branches i l)
      go (no l) = rw (le-ltb i n (omega arith))

  pub question22-by : {p : Bool}
      → p ≡ every c.repeaters (site_branched b first (first_repeater c) n) && every (c.repeaters - 1) (sites_rise b (first_repeater c))
      → p ≡ question22 c b
  unfolding question22
  question22-by d =
      d
      ∙ ap₂ ◌&&◌
      (every-same _ _ _ (λ k l. rw (repeater-at c k) (there-with-branches _)))
      (every-same _ _ _ (λ k l. rw (add-one k, repeater-at c k, repeater-at c (suc k))))
