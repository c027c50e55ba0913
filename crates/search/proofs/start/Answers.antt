-- One sizing where no place is free, else the search from the last free place on.
use mathlib.Core.Path.{refl, sym, ap, ◌∙◌}
use native.Mathlib.Omega.{arith}
use lib.ListN.{length}
use Rattle.net.proofs.InOrder.{allowed-by}
use Rattle.envelope.specs.Kept.{found_of}
use Rattle.free.specs.ByTables.{net_of}
use Rattle.free.proofs.Passing.{passing-start}
use Rattle.free.proofs.Tables.{skip-le, skip-free}
use Rattle.search.proofs.Starting.{start-sized, start-found, start-one}
use Rattle.search.proofs.start.Goals as goal

pub keep-requires-clause-lean_len : goal.keep-requires-clause-lean_len
keep-requires-clause-lean_len c =
    ap length c.requires.x_value ∙ ((allowed-by (net_of c.args.tables.now) c.args.tables.now.bounds.lower.now).0 c.args.tables.now.prepared.lower_allowed).long ∙ sym c.requires.for_places.0

pub keep-requires-clause-wide_len : goal.keep-requires-clause-wide_len
keep-requires-clause-wide_len c =
    ap length c.requires.x_value ∙ ((allowed-by (net_of c.args.tables.now) c.args.tables.now.bounds.lower.now).0 c.args.tables.now.prepared.lower_allowed).long ∙ sym c.requires.for_places.1

pub returns-then-left-eq0-clause-taken : goal.returns-then-left-eq0-clause-taken
returns-then-left-eq0-clause-taken c =
    start-one c.args.tables.now.prepared c.args.fixed.0 (found_of c.args.kept.now) c.requires.x_value c.requires.held_add (rw c.places.ensures.0 at c.if-left-eq0.true) c.keep.ensures.taken

pub offset_bounds-tables-left : goal.offset_bounds-tables-left
offset_bounds-tables-left c =
    let k = c.args.tables.now.prepared.checked in
    omega (arith, c.places.ensures.0, rw (← c.places.ensures.0) at (skip-le c.args.tables.now.bounds.lower.now c.args.tables.now.bounds.upper.now (net_of c.args.tables.now).places c.args.tables.now.skips.now c.args.tables.now.prepared.skipped (net_of c.args.tables.now).places (omega arith)), k.few_stages, k.few_segments, k.few_repeaters)

pub bounds-tables-left : goal.bounds-tables-left
bounds-tables-left c =
    let k = c.args.tables.now.prepared.checked in
    omega (arith, c.places.ensures.0, rw (← c.places.ensures.0) at (skip-le c.args.tables.now.bounds.lower.now c.args.tables.now.bounds.upper.now (net_of c.args.tables.now).places c.args.tables.now.skips.now c.args.tables.now.prepared.skipped (net_of c.args.tables.now).places (omega arith)), k.few_stages, k.few_segments, k.few_repeaters)

pub bounds-tables-left-then-tables-left-eq0 : goal.bounds-tables-left-then-tables-left-eq0
bounds-tables-left-then-tables-left-eq0 c =
    let k = c.args.tables.now.prepared.checked in
    omega (arith, c.places.ensures.0, rw (← c.places.ensures.0) at (skip-le c.args.tables.now.bounds.lower.now c.args.tables.now.bounds.upper.now (net_of c.args.tables.now).places c.args.tables.now.skips.now c.args.tables.now.prepared.skipped (net_of c.args.tables.now).places (omega arith)), k.few_stages, k.few_segments, k.few_repeaters, ((allowed-by (net_of c.args.tables.now) c.args.tables.now.bounds.lower.now).0 c.args.tables.now.prepared.lower_allowed).long)

pub take_from-requires-clause-before : goal.take_from-requires-clause-before
take_from-requires-clause-before c =
    record {
      some = omega (arith, c.if-left-eq0.false);
      frees = rw c.places.ensures.0 (skip-free c.args.tables.now.bounds.lower.now c.args.tables.now.bounds.upper.now (net_of c.args.tables.now).places c.args.tables.now.skips.now c.args.tables.now.prepared.skipped (net_of c.args.tables.now).places (omega arith) (rw c.places.ensures.0 at c.if-left-eq0.false));
      sized = rw c.places.ensures.0 (start-sized c.args.tables.now.prepared c.args.fixed.0 _ refl c.requires.x_value c.requires.held_add c.requires.for_places.0 c.requires.for_places.1);
    }

pub take_from-requires-clause-passed_at : goal.take_from-requires-clause-passed_at
take_from-requires-clause-passed_at c =
    let k = c.args.tables.now.prepared.checked in
    passing-start (c.args.tables.now.prepared.in_order _ (omega (arith, c.places.ensures.0, rw (← c.places.ensures.0) at (skip-le c.args.tables.now.bounds.lower.now c.args.tables.now.bounds.upper.now (net_of c.args.tables.now).places c.args.tables.now.skips.now c.args.tables.now.prepared.skipped (net_of c.args.tables.now).places (omega arith)), k.few_stages, k.few_segments, k.few_repeaters, c.if-left-eq0.false)))

pub returns-then-tables-left-eq0-clause-taken : goal.returns-then-tables-left-eq0-clause-taken
returns-then-tables-left-eq0-clause-taken c =
    start-found c.args.tables.now.prepared c.requires.x_value (rw c.places.ensures.0 at c.take_from.ensures.searched)

pub search-requires-clause-before : goal.search-requires-clause-before
search-requires-clause-before c =
    record {
      some = omega (arith, c.if-left-eq0.false);
      frees = rw c.places.ensures.0 (skip-free c.args.tables.now.bounds.lower.now c.args.tables.now.bounds.upper.now (net_of c.args.tables.now).places c.args.tables.now.skips.now c.args.tables.now.prepared.skipped (net_of c.args.tables.now).places (omega arith) (rw c.places.ensures.0 at c.if-left-eq0.false));
      sized = rw c.places.ensures.0 (start-sized c.args.tables.now.prepared c.args.fixed.0 _ refl c.requires.x_value c.requires.held_add c.requires.for_places.0 c.requires.for_places.1);
    }

pub returns-else-tables-left-eq0-clause-taken : goal.returns-else-tables-left-eq0-clause-taken
returns-else-tables-left-eq0-clause-taken c =
    start-found c.args.tables.now.prepared c.requires.x_value (rw c.places.ensures.0 at c.search.ensures.searched)
