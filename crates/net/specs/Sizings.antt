-- The allowed sizings of a net and the least of them: the section 'Bounds and search' of the specification. The words are defined in the crate
-- `lattice` for any set of sizings and any delay; here they are said of a net.
use Rattle.std.specs.Prelude.{true, List, ℕ}
use Rattle.lattice.specs.Space.{Space, within}
use Rattle.lattice.specs.Least as least
use Rattle.lattice.specs.Refine as refining
use Rattle.net.specs.Net.{Net, places}
use Rattle.net.specs.Delay.{delay}

-- A sizing is allowed when each index is in its place's range, lowest and highest included.
abbrev pub allowed : Net → Space
allowed net = within (places net) net.lowest net.highest (λ x. true)

module _ (net : Net) where
  -- The least scaled delay, over all allowed sizings.
  abbrev pub least_delay : ℕ
  least_delay = least.least_delay (allowed net) (delay net)

  -- A least-delay sizing: an allowed one such that every other allowed one has at least its scaled delay.
  abbrev pub LeastDelaySizing : List ℕ → Type 0
  LeastDelaySizing x = least.Least (allowed net) (delay net) x

  -- Lean and wide: at each place the smallest, and the largest, index found there among all least-delay sizings.
  abbrev pub lean : List ℕ
  lean = least.lean (allowed net) (delay net)

  abbrev pub wide : List ℕ
  wide = least.wide (allowed net) (delay net)

  -- The lower and the upper bound: the least, place by place, of the sizings that refining from below leaves as they are at every place, and
  -- the greatest of those that refining from above leaves.
  abbrev pub lower_bound : List ℕ
  lower_bound = refining.lower (allowed net) (delay net)

  abbrev pub upper_bound : List ℕ
  upper_bound = refining.upper (allowed net) (delay net)

  -- Room: the product over places of upper − lower + 1.
  abbrev pub room : ℕ
  room = refining.room (allowed net) (delay net)
