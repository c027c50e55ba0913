-- `links::link` meets its contract; the loop's invariant is that the segments from j on are in order and linked.
use Rattle.net.specs.Net.{net_by}
use Rattle.links.specs.Links.{SameLengths}
use Rattle.links.proofs.Linking.{Linking}
use Rattle.links.proofs.link.Given as goal

abbrev pub invariant-loop-j : goal.invariant-loop-j
invariant-loop-j l =
    SameLengths l.initial.first l.initial.next l.first l.next × Linking (net_by l.records.counts l.records.bytes.now) l.first l.next l.j
