-- `place::go_upstream` meets its contract: the loop has the positions passed.
use Rattle.net.specs.Order.{driving_by}
use Rattle.place.specs.Figures.{resistances}
use Rattle.place.specs.Held.{UpstreamTo}
use Rattle.place.proofs.go_upstream.Given as goal

abbrev pub invariant-loop-t : goal.invariant-loop-t
invariant-loop-t l = UpstreamTo (driving_by l.places.arranged.job.counts l.places.arranged.job.bytes.now) l.bounds.lower.now l.bounds.upper.now l.t (resistances l.upstream)
