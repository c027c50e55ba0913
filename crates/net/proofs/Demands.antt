-- What lean, wide, the least delay and the bounds of a job are: the theory of the crate `lattice`, said of every job that passes its
-- questions.
use mathlib.Core.Path.{◌≡◌}
use mathlib.Core.Logic.{◌↔◌}
use mathlib.Core.List.{List}
use Prim.Native.Nat.{ℕ, ◌≤◌, ◌<◌}
use Rattle.lattice.specs.Side.{below, above}
use Rattle.lattice.specs.Lists.{at}
use Rattle.lattice.specs.Space.{Allowed, within}
use Rattle.lattice.specs.Refine.{Fixed}
use Rattle.lattice.proofs.Leasts.{least_delay-le, least_delay-one, lean-least, wide-least, between, only_one}
use Rattle.lattice.proofs.Refining.{bound-before}
use Rattle.lattice.proofs.Theorems.{lower-fixed, upper-fixed, in_order, never-cross}
use Rattle.net.specs.declared.Counts.{Counts}
use Rattle.net.specs.Net.{places, net_by, net_of}
use Rattle.net.specs.Delay.{delay}
use Rattle.net.specs.Sizings.{allowed, least_delay, LeastDelaySizing, lean, wide, lower_bound, upper_bound}
use Rattle.net.specs.Checked.{Checked}
use Rattle.net.specs.Questions.{refusal}
use Rattle.net.proofs.Dominance.{allowed-lattice}
use Rattle.net.proofs.Questions.{lowest_sizing, checked, checked-allowed, checked-submodular, job-allowed, job-submodular}

-- `bounds-never-cross`, below, from the facts of `Checked`: what the code has at hand where it needs it.
module _ {c : Counts} {b : List ℕ} (k : Checked c b) where
  pub checked-never-cross : (p : ℕ) → p < places (net_by c b) → at (lower_bound (net_by c b)) p ≤ at (upper_bound (net_by c b)) p
  unfolding within
  checked-never-cross p h = never-cross (allowed-lattice (net_by c b)) (checked-submodular k) (lowest_sizing (net_by c b)) (checked-allowed k) p h

module _ (b : List ℕ) (e : refusal b ≡ 0) where
  -- the least delay is reached, and no allowed sizing is below it
  pub least-reached : (x : List ℕ) × Allowed (allowed (net_of b)) x × (delay (net_of b) x ≡ least_delay (net_of b))
  least-reached = least_delay-one (allowed-lattice (net_of b)) (delay (net_of b)) (lowest_sizing (net_of b)) (job-allowed b e)

  pub least-below : (x : List ℕ) → Allowed (allowed (net_of b)) x → least_delay (net_of b) ≤ delay (net_of b) x
  least-below = least_delay-le (allowed-lattice (net_of b)) (delay (net_of b))

  -- lean and wide are least-delay sizings
  pub lean-is-least : LeastDelaySizing (net_of b) (lean (net_of b))
  lean-is-least = lean-least (allowed-lattice (net_of b)) (job-submodular b e) (lowest_sizing (net_of b)) (job-allowed b e)

  pub wide-is-least : LeastDelaySizing (net_of b) (wide (net_of b))
  wide-is-least = wide-least (allowed-lattice (net_of b)) (job-submodular b e) (lowest_sizing (net_of b)) (job-allowed b e)

  -- every least-delay sizing lies between them
  pub least-between : (x : List ℕ) → LeastDelaySizing (net_of b) x → (p : ℕ) → p < places (net_of b)
      → (at (lean (net_of b)) p ≤ at x p) × (at x p ≤ at (wide (net_of b)) p)
  unfolding within
  least-between x l p h = between (allowed-lattice (net_of b)) (job-submodular b e) (lowest_sizing (net_of b)) (job-allowed b e) x l p h

  -- they are equal exactly when the job has one least-delay sizing
  pub equal-when-one : (lean (net_of b) ≡ wide (net_of b)) ↔ ((x y : List ℕ) → LeastDelaySizing (net_of b) x → LeastDelaySizing (net_of b) y → x ≡ y)
  equal-when-one = only_one (allowed-lattice (net_of b)) (job-submodular b e) (lowest_sizing (net_of b)) (job-allowed b e)

  -- refining from below leaves the lower bound, which is below every sizing that it leaves; from above likewise
  pub lower_bound-fixed : Fixed below (allowed (net_of b)) (delay (net_of b)) (lower_bound (net_of b))
  lower_bound-fixed = lower-fixed (allowed-lattice (net_of b)) (job-submodular b e) (lowest_sizing (net_of b)) (job-allowed b e)

  pub upper_bound-fixed : Fixed above (allowed (net_of b)) (delay (net_of b)) (upper_bound (net_of b))
  upper_bound-fixed = upper-fixed (allowed-lattice (net_of b)) (job-submodular b e) (lowest_sizing (net_of b)) (job-allowed b e)

  pub lower_bound-least : (x : List ℕ) → Fixed below (allowed (net_of b)) (delay (net_of b)) x → (p : ℕ) → p < places (net_of b) → at (lower_bound (net_of b)) p ≤ at x p
  unfolding within
  lower_bound-least x f p h = bound-before (allowed-lattice (net_of b)) (delay (net_of b)) below x f p h

  pub upper_bound-greatest : (x : List ℕ) → Fixed above (allowed (net_of b)) (delay (net_of b)) x → (p : ℕ) → p < places (net_of b) → at x p ≤ at (upper_bound (net_of b)) p
  unfolding within
  upper_bound-greatest x f p h = bound-before (allowed-lattice (net_of b)) (delay (net_of b)) above x f p h

  -- lower ≤ lean ≤ wide ≤ upper, at each place
  pub bounds-enclose : (p : ℕ) → p < places (net_of b)
      → (at (lower_bound (net_of b)) p ≤ at (lean (net_of b)) p) × (at (lean (net_of b)) p ≤ at (wide (net_of b)) p)
      × (at (wide (net_of b)) p ≤ at (upper_bound (net_of b)) p)
  unfolding within
  bounds-enclose p h = in_order (allowed-lattice (net_of b)) (job-submodular b e) (lowest_sizing (net_of b)) (job-allowed b e) p h

  -- The lower bound never exceeds the upper, because every least-delay sizing lies between the two, and there is one.
  pub bounds-never-cross : (p : ℕ) → p < places (net_of b) → at (lower_bound (net_of b)) p ≤ at (upper_bound (net_of b)) p
  bounds-never-cross = checked-never-cross (checked b e)
