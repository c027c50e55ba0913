-- `Walk::repeat_all` meets its contract; the loop's invariant is that the repeaters passed are in the table, and their charges in the sum.
use mathlib.Core.Path.{◌≡◌}
use Rattle.elmore.specs.Walks.{net_of, sizing_of}
use Rattle.elmore.proofs.Filling.{RepeatedFrom}
use Rattle.elmore.proofs.tables.Walk.repeat_all.Given as goal

abbrev pub invariant-loop-r : goal.invariant-loop-r
invariant-loop-r l =
    record {
      net : l.self.net ≡ l.fn.self.net;
      repeated : RepeatedFrom (net_of l.self) (sizing_of l.self) l.r l.self.parts l.all.0;
    }
