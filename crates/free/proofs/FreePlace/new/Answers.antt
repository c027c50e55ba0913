-- The figures are those of the tables.
use mathlib.Core.Path.{refl}
use Rattle.place.proofs.Loads.{loads-at, resistances-at}
use Rattle.place.proofs.Steps.{place_at_lem}
use Rattle.free.proofs.FreePlace.new.Goals as goal

pub new-requires : goal.new-requires
new-requires c = place_at_lem c.args.job.now.checked c.requires.places_in_order c.args.t c.requires.t_bound

pub returns : goal.returns
returns c =
    record {
      spot = rw (resistances-at c.args.upstream.now c.args.t) at c.new.ensures;
      driven = loads-at c.args.driven.now c.args.t;
      low = refl;
      top = refl;
    }
