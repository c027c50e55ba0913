-- The tables are filled, so the order and both bounds reach all places.
use Rattle.free.proofs.Placed.{prepared-long}
use Rattle.free.proofs.prepared.SearchTables.free_place.Goals as goal

pub new-requires : goal.new-requires
new-requires c =
    let p = c.args.self.now.prepared in
    record { places_in_order = p.ordered; both_long = prepared-long p; t_bound = c.requires }
