-- The loop has the sizings with the indices passed, and each call has fewer places left.
use mathlib.Core.Path.{◌≡◌, refl, ap, ◌∙◌}
use mathlib.Core.List.{List}
use Prim.Native.Nat.{ℕ, suc, ◌+◌, ◌-◌, ◌≤◌, ◌<◌}
use native.Mathlib.Omega.{arith}
use lib.ListN.{set}
use lib.Seq.{set-set, set-get_or}
use Rattle.quantity.specs.declared.Capacitance.{Capacitance}
use Rattle.lattice.specs.Lists.{at}
use Rattle.net.proofs.InOrder.{allowed-by}
use Rattle.place.specs.Figures.{loads}
use Rattle.place.proofs.Loads.{loads-at, loads-set}
use Rattle.envelope.specs.declared.Kept.{Kept}
use Rattle.envelope.specs.Kept.{found_of, SameSpace}
use Rattle.free.specs.ByTables.{net_of, IsBefore, SearchedFrom}
use Rattle.free.proofs.Turns.{Turning}
use Rattle.free.proofs.Passing.{first-none}
use Rattle.free.proofs.Calls.{few, place-few, load-most, weight-most, resistance-most, node-low, others-small, rest-low, rest-free, small, begin, top-high, all_fit, passed-by, passed_to, high-at, shown-small, fits, ready, done, ended}
use Rattle.free.proofs.Placed.{limits-at, top-limits-at, step-at, gathered-at, loaded, inside-at, outside-at, range_at, fit_at, passed-at}
use Rattle.search.proofs.+search.Goals as goal
use Rattle.search.proofs.+search.Goals.{Start, After-add, then-further-eq0+in-Some, then-further-eq0+in_default, else-further-eq0}

-- the place before `left`, how many are left behind it, and the node at which its load arrives
module _ {t : ℕ} (c : Start t) where
  here-few : c.args.left - 1 < (net_of c.args.tables.now).places
  here-few = few c.args.tables.now.prepared c.requires.before

  few-places : (net_of c.args.tables.now).places ≤ 76
  few-places = let k = c.args.tables.now.prepared.checked in omega (arith, k.few_stages, k.few_segments, k.few_repeaters)

  rest-few : at c.args.tables.now.skips.now (c.args.left - 1) < 76
  rest-few = omega (arith, here-few, few-places, rest-low c.args.tables.now.prepared c.requires.before)

  node-few : at c.args.tables.now.ups.now (c.args.left - 1) < 76
  node-few = omega (arith, here-few, few-places, node-low c.args.tables.now.prepared c.requires.before)

pub free_place-then-requires : goal.free_place-then-requires
free_place-then-requires t c = omega (arith, rest-low c.args.tables.now.prepared c.requires.before, few c.args.tables.now.prepared c.requires.before)

pub offset_bounds-tables-next : goal.offset_bounds-tables-next
offset_bounds-tables-next t c = omega (arith, rest-few (goal.at.offset_bounds-tables-next t c).Start)

pub bounds-tables-next : goal.bounds-tables-next
bounds-tables-next t c = omega (arith, rest-few (goal.at.bounds-tables-next t c).Start)

pub add-load-requires : goal.add-load-requires
add-load-requires t c =
    omega (arith, c.free_place-here.ensures.driven, gathered-at c.args.gathered.now c.args.left _ 0 (omega arith) refl, load-most c.args.tables.now.prepared c.requires.before _ refl)

pub offset_bounds-gathered-node : goal.offset_bounds-gathered-node
offset_bounds-gathered-node t c = omega (arith, node-few (goal.at.offset_bounds-gathered-node t c).Start)

pub bounds-gathered-node : goal.bounds-gathered-node
bounds-gathered-node t c = omega (arith, node-few (goal.at.bounds-gathered-node t c).Start)

pub overflow_add-k-end : goal.overflow_add-k-end
overflow_add-k-end t c = omega (arith, c.free_place-here.ensures.top, small c.args.tables.now.prepared c.requires.before)

pub loop-k-init : goal.loop-k-init
loop-k-init t c =
    record {
      turning = rw c.free_place-here.ensures.low (begin c.args.tables.now.prepared c.requires.before);
      same_space = record { lean = refl; wide = refl; lean_long = refl; wide_long = refl };
      same_loads = λ v. refl;
    }

pub step-step-requires-clause-step_in_limits : goal.step-step-requires-clause-step_in_limits
step-step-requires-clause-step_in_limits t c =
    let l = c.loop-k in
    let f = c.free_place-here.ensures in
    limits-at f c.from.result c.add-load.result.0 (
      place-few c.args.tables.now.prepared c.requires.before,
      rw c.from.ensures (high-at c.args.tables.now.prepared c.requires.before l.invariant.turning (inside-at f l.k (omega arith))),
      weight-most c.args.tables.now.prepared c.requires.before,
      resistance-most c.args.tables.now.prepared c.requires.before,
      load-most c.args.tables.now.prepared c.requires.before _ (loaded f c.args.gathered.now c.args.left _ c.requires.before.some c.add-load.ensures.0),
    )

pub add-reached-requires : goal.add-reached-requires
add-reached-requires t c =
    let l = c.loop-k in
    let f = c.free_place-here.ensures in
    fits c.args.tables.now.prepared c.requires.before l.invariant.turning (inside-at f l.k (omega arith)) _ (loaded f c.args.gathered.now c.args.left _ c.requires.before.some c.add-load.ensures.0) c.step-step.result
    (step-at f l.k c.add-load.result.0 c.step-step.result (rw c.from.ensures at c.step-step.ensures))

pub bounds-x-t : goal.bounds-x-t
bounds-x-t t c =
    let l = c.loop-k in
    omega (arith, c.requires.before.sized.few, c.requires.before.some, ((allowed-by (net_of c.args.tables.now) l.x).0 l.invariant.turning.allowed).long)

pub add-requires : goal.add-requires
add-requires t c =
    let l = c.loop-k in
    let f = c.free_place-here.ensures in
    omega (
      arith,
      loads-at c.args.gathered.now (at c.args.tables.now.ups.now (c.args.left - 1)),
      others-small c.args.tables.now.prepared c.requires.before,
      shown-small c.args.tables.now.prepared c.requires.before l.invariant.turning (inside-at f l.k (omega arith)) _ (loaded f c.args.gathered.now c.args.left _ c.requires.before.some c.add-load.ensures.0) c.step-step.result
          (step-at f l.k c.add-load.result.0 c.step-step.result (rw c.from.ensures at c.step-step.ensures)),
    )

pub offset_bounds-gathered-node-in-loop-k : goal.offset_bounds-gathered-node-in-loop-k
offset_bounds-gathered-node-in-loop-k t c = omega (arith, node-few (goal.at.offset_bounds-gathered-node-in-loop-k t c).Start)

pub bounds-gathered-node-in-loop-k : goal.bounds-gathered-node-in-loop-k
bounds-gathered-node-in-loop-k t c = omega (arith, node-few (goal.at.bounds-gathered-node-in-loop-k t c).Start)

pub offset_bounds-gathered-node-2 : goal.offset_bounds-gathered-node-2
offset_bounds-gathered-node-2 t c = omega (arith, node-few (goal.at.offset_bounds-gathered-node-2 t c).Start)

pub bounds-gathered-node-2 : goal.bounds-gathered-node-2
bounds-gathered-node-2 t c = omega (arith, node-few (goal.at.bounds-gathered-node-2 t c).Start)

-- what the calls behind the step ask, and what they leave
module _ {t : ℕ} (c : After-add t) where
  abbrev rest : ℕ
  rest = at c.args.tables.now.skips.now (c.args.left - 1)

  abbrev put : List ℕ
  put = set c.loop-k.x (c.args.left - 1) c.loop-k.k

  abbrev arrived : List Capacitance
  arrived = set c.loop-k.gathered (at c.args.tables.now.ups.now (c.args.left - 1)) c.add.result

  before : IsBefore c.args.tables.now rest c.add-reached.result.0 put arrived c.loop-k.kept
  before =
      let l = c.loop-k in
      let f = c.free_place-here.ensures in
      let node = at c.args.tables.now.ups.now (c.args.left - 1) in
      record {
        some = c.requires.more;
        frees = rest-free c.args.tables.now.prepared c.requires.before (λ e. omega (arith, c.requires.more));
        sized = rw (loads-set l.gathered node c.add.result)
            (ready c.args.tables.now.prepared c.requires.before l.invariant.turning (inside-at f l.k (omega arith)) _ (loaded f c.args.gathered.now c.args.left _ c.requires.before.some c.add-load.ensures.0) c.step-step.result
            (step-at f l.k c.add-load.result.0 c.step-step.result (rw c.from.ensures at c.step-step.ensures)) c.add-reached.result.0 _ (loads l.gathered) c.add-reached.ensures.0 (rw (loads-at c.args.gathered.now node) at c.add.ensures.0) l.invariant.same_loads);
      }

  -- the loop at the next index
  turned : (x : List ℕ) (gathered : List Capacitance) (kept : Kept) → SameSpace c.loop-k.kept kept → SearchedFrom c.args.tables.now rest put arrived c.loop-k.kept x gathered kept
      → record {
        turning : Turning (net_of c.args.tables.now) c.args.tables.now.bounds.lower.now c.args.tables.now.bounds.upper.now (c.args.left - 1) c.args.x.now (found_of c.args.kept.now) x (c.loop-k.k + 1) (found_of kept);
        same_space : SameSpace c.args.kept.now kept;
        same_loads : (v : ℕ) → set (loads gathered) (at c.args.tables.now.ups.now (c.args.left - 1)) v ≡ set (loads c.args.gathered.now) (at c.args.tables.now.ups.now (c.args.left - 1)) v;
      }
  turned x gathered kept new e =
      let l = c.loop-k in
      let f = c.free_place-here.ensures in
      let old = l.invariant.same_space in
      let node = at c.args.tables.now.ups.now (c.args.left - 1) in
      record {
        turning = done c.args.tables.now.prepared c.requires.before l.invariant.turning (inside-at f l.k (omega arith)) _ new.lean_long new.wide_long e;
        same_space = record { lean = new.lean ∙ old.lean; wide = new.wide ∙ old.wide; lean_long = new.lean_long ∙ old.lean_long; wide_long = new.wide_long ∙ old.wide_long };
        same_loads = λ v. ap (λ (g : List ℕ). set g node v) (e.gathers ∙ loads-set l.gathered node c.add.result) ∙ set-set (loads l.gathered) node _ v ∙ l.invariant.same_loads v;
      }

pub offset_bounds-gathered-rest : goal.offset_bounds-gathered-rest
offset_bounds-gathered-rest t c = omega (arith, rest-few (goal.at.offset_bounds-gathered-rest t c).Start)

pub bounds-gathered-rest : goal.bounds-gathered-rest
bounds-gathered-rest t c = omega (arith, rest-few (goal.at.bounds-gathered-rest t c).Start)

pub add-drives-requires : goal.add-drives-requires
add-drives-requires t c =
    let b = (goal.at.add-drives-requires t c).After-add in
    let g = c.free_place-then.ensures in
    omega (arith, g.driven, gathered-at (arrived b) (rest b) _ 0 c.requires.more refl, load-most c.args.tables.now.prepared (before b) _ refl)

pub pass_over-requires-clause-step_in_limits : goal.pass_over-requires-clause-step_in_limits
pass_over-requires-clause-step_in_limits t c =
    let b = (goal.at.pass_over-requires-clause-step_in_limits t c).After-add in
    let g = c.free_place-then.ensures in
    top-limits-at g c.add-drives.result.0 (place-few c.args.tables.now.prepared (before b), top-high c.args.tables.now.prepared (before b), weight-most c.args.tables.now.prepared (before b), resistance-most c.args.tables.now.prepared (before b), load-most c.args.tables.now.prepared (before b) _ (loaded g (arrived b) (rest b) _ c.requires.more c.add-drives.ensures.0))

pub pass_over-requires-clause-low_le_top : goal.pass_over-requires-clause-low_le_top
pass_over-requires-clause-low_le_top t c =
    let b = (goal.at.pass_over-requires-clause-low_le_top t c).After-add in
    let g = c.free_place-then.ensures in
    range_at g (c.args.tables.now.prepared.in_order _ (few c.args.tables.now.prepared (before b)), small c.args.tables.now.prepared (before b))

pub pass_over-requires-clause-all_fit : goal.pass_over-requires-clause-all_fit
pass_over-requires-clause-all_fit t c =
    let b = (goal.at.pass_over-requires-clause-all_fit t c).After-add in
    let g = c.free_place-then.ensures in
    fit_at g c.add-drives.result.0 c.add-reached.result.0 (all_fit c.args.tables.now.prepared (before b) _ (loaded g (arrived b) (rest b) _ c.requires.more c.add-drives.ensures.0))

pub take_from-requires-clause-before : goal.take_from-requires-clause-before
take_from-requires-clause-before t c = before (goal.at.take_from-requires-clause-before t c).After-add

pub take_from-requires-clause-passed_at : goal.take_from-requires-clause-passed_at
take_from-requires-clause-passed_at t c =
    let b = (goal.at.take_from-requires-clause-passed_at t c).After-add in
    let g = c.free_place-then.ensures in
    passed-by c.args.tables.now.prepared (before b) _ (loaded g (arrived b) (rest b) _ c.requires.more c.add-drives.ensures.0) _ (passed-at g c.add-drives.result.0 c.add-reached.result.0 c.loop-k.kept.least.0 _ c.in-Some.ensures.passed)

pub search-requires : goal.search-requires
search-requires t c =
    let b = (goal.at.search-requires t c).After-add in
    (omega (arith, rest-low c.args.tables.now.prepared c.requires.before, c.requires.before.some), (before b, omega (arith, c.if-further-eq0.false)))

pub loop-k-preserved : goal.loop-k-preserved
loop-k-preserved t c =
    let b = (goal.at.loop-k-preserved t c).After-add in
    elim c.if-further-eq0.branch [
      | then-further-eq0+in-Some w ↦ rw (w.x-is, w.gathered-is, w.kept-is) (turned b _ _ _ w.take_from.ensures.same_space w.take_from.ensures.searched)
      | then-further-eq0+in_default w ↦
          let g = c.free_place-then.ensures in
          let all = rw (first-none _ _ w.in_default.not-Some) at w.pass_over.ensures.passed in
          let passed = passed-by c.args.tables.now.prepared (before b) _ (loaded g (arrived b) (rest b) _ c.requires.more w.add-drives.ensures.0) _ (passed-at g w.add-drives.result.0 c.add-reached.result.0 c.loop-k.kept.least.0 _ all) in
          rw (w.x-is, w.gathered-is, w.kept-is)
          (turned b _ _ _ (record { lean = refl; wide = refl; lean_long = refl; wide_long = refl })
          (ended c.args.tables.now.prepared (before b) _ (passed_to c.args.tables.now.prepared (before b) w.if-further-eq0.true _ passed) (outside-at g (suc c.free_place-then.result.range.highest) (omega arith)) refl))
      | else-further-eq0 w ↦ rw (w.x-is, w.gathered-is, w.kept-is) (turned b _ _ _ w.search.ensures.same_space w.search.ensures.searched)
    ]

pub returns-clause-searched : goal.returns-clause-searched
returns-clause-searched t c =
    let l = c.loop-k in
    let node = at c.args.tables.now.ups.now (c.args.left - 1) in
    ended c.args.tables.now.prepared c.requires.before _ l.invariant.turning (outside-at c.free_place-here.ensures l.k (omega arith))
    (loads-set l.gathered node _ ∙ l.invariant.same_loads _ ∙ ap (λ (v : ℕ). set (loads c.args.gathered.now) node v) (loads-at c.args.gathered.now node) ∙ set-get_or (loads c.args.gathered.now) node 0)
