-- The steps of the walk over the tree: where it goes next, and what hangs at the far end of a segment.
use mathlib.Core.Path.{◌≡◌}
use mathlib.Core.List.{List}
use Prim.Native.Nat.{ℕ, ◌+◌, ◌≤◌, ◌<◌}
use native.Mathlib.Omega.{arith}
use Rattle.std.specs.Prelude.{Some, None, get_or}
use Rattle.lattice.specs.Lists.{at}
use Rattle.net.specs.Net.{Net}
use Rattle.net.proofs.Questions.{ordered}
use Rattle.links.specs.Links.{First, siblings}
use Rattle.links.proofs.Siblings.{first-behind}
use Rattle.parts.specs.declared.Part.{Part}
use Rattle.parts.specs.Entries.{nothing, part_at}
use Rattle.parts.specs.Tally.{Hanging}
use Rattle.parts.proofs.Seating.{seat-none}
use Rattle.parts.proofs.Tallies.{bare-hanging}
use Rattle.elmore.specs.declared.tables.Walk.{Walk}
use Rattle.elmore.specs.Tables.{PartsBehind}
use Rattle.elmore.specs.Walks.{net_of, sizing_of, Parted, CountedUp}
use Rattle.elmore.proofs.Passing.{below-tally, leaf-hanging}

-- from a later segment on fewer parts are needed
pub parted-later : {net : Net} {x : List ℕ} {parts : List Part} {i j : ℕ} → i ≤ j → PartsBehind net x i parts → PartsBehind net x j parts
parted-later h p = record { long = p.long; held = λ r k m. p.held r k (omega arith) }

module _ (w : Walk) (i : ℕ) (h : i < w.net.now.job.counts.segments) where
  -- the first branch at a segment's far end stands after the segment
  child-first : First (net_of w) (i + 1) 0 (at w.links.now.first (i + 1))
  child-first = w.linked.firsts (i + 1) (omega arith)

  pub child-later : (i < at w.links.now.first (i + 1)) × (at w.links.now.first (i + 1) ≤ w.net.now.job.counts.segments)
  child-later =
      (omega (arith, first-behind _ (ordered w.net.now.ready.checked).parents (i + 1) (at w.links.now.first (i + 1)) (omega arith) child-first), child-first.within)

  -- what hangs there where nothing is below the segment, where a repeater has its seat, and where none has
  pub leaf-there : at w.links.now.first (i + 1) ≡ w.net.now.job.counts.segments → Hanging (net_of w) (sizing_of w) i nothing
  leaf-there = leaf-hanging w.net.now.ready i _ h child-first

  pub seat-there : (r : ℕ) → get_or w.seats.now i None ≡ Some r → Parted w i → Hanging (net_of w) (sizing_of w) i (part_at w.parts r)
  seat-there r e p = let s = w.seated.only i r h e in rw s.1 at (p.held r s.0 (omega (arith, s.1)))

  pub bare-there : get_or w.seats.now i None ≡ None → (u : Part) → CountedUp w siblings (at w.links.now.first (i + 1)) u
      → Hanging (net_of w) (sizing_of w) i u
  bare-there e u v = bare-hanging w.net.now.ready i u (seat-none _ w.seated i e) (below-tally w.net.now.ready i _ h child-first u v)
