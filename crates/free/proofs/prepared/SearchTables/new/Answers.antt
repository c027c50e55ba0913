-- The tables are filled as the search asks.
use Rattle.place.proofs.Steps.{bounds-of}
use Rattle.free.proofs.Placed.{between-long}
use Rattle.free.proofs.prepared.SearchTables.new.Goals as goal

pub drive_and_add-fixed-requires : goal.drive_and_add-fixed-requires
drive_and_add-fixed-requires c = record { bounds_of = bounds-of c.args.bounds c.requires.lower_allowed (between-long c.requires).1 }

pub go_upstream-requires-clause-bounds_of : goal.go_upstream-requires-clause-bounds_of
go_upstream-requires-clause-bounds_of c = bounds-of c.args.bounds c.requires.lower_allowed (between-long c.requires).1

pub lift-requires : goal.lift-requires
lift-requires c = between-long c.requires

pub skip-requires : goal.skip-requires
skip-requires c = between-long c.requires
