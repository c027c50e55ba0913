-- The loop has the sizings with the indices passed.
use mathlib.Core.Path.{◌≡◌, refl, sym, ◌∙◌}
use mathlib.Core.List.{List}
use Prim.Native.Nat.{ℕ, ◌+◌, ◌-◌, ◌<◌}
use native.Mathlib.Omega.{arith}
use lib.ListN.{length, set, length-set}
use Rattle.std.proofs.lemmas.Bool.Decides.{nat_tests}
use Rattle.lattice.specs.Search.{Found, take}
use Rattle.net.proofs.InOrder.{allowed-by}
use Rattle.envelope.specs.Kept.{found_of}
use Rattle.free.specs.ByTables.{net_of}
use Rattle.free.proofs.Placed.{limits-at, step-at, gathered-at, loaded, inside-at, outside-at}
use Rattle.free.proofs.Turns.{Turning}
use Rattle.free.proofs.Calls.{few, place-few, load-most, weight-most, resistance-most, passed_to, high-at, fits, taken, passed, ended}
use Rattle.free.proofs.prepared.SearchTables.take_from.Goals as goal
use Rattle.free.proofs.prepared.SearchTables.take_from.Goals.{After-le, then-le, else-le}

pub free_place-here-requires : goal.free_place-here-requires
free_place-here-requires c =
    let r = c.requires in
    few c.args.self.now.prepared r.before

pub add-load-requires : goal.add-load-requires
add-load-requires c =
    let r = c.requires in
    omega (arith, c.free_place-here.ensures.driven, gathered-at c.args.gathered.now c.args.left _ 0 (omega arith) refl, load-most c.args.self.now.prepared r.before _ refl)

pub loop-k-init : goal.loop-k-init
loop-k-init c =
    let r = c.requires in
    record {
      turning = passed_to c.args.self.now.prepared r.before r.last c.args.start r.passed_at;
      same_space = record { lean = refl; wide = refl; lean_long = refl; wide_long = refl };
    }

pub step-step-requires-clause-step_in_limits : goal.step-step-requires-clause-step_in_limits
step-step-requires-clause-step_in_limits c =
    let r = c.requires in
    let l = c.loop-k in
    let f = c.free_place-here.ensures in
    let p = c.args.self.now.prepared in
    limits-at f c.from.result c.add-load.result.0 (
      place-few p r.before,
      rw c.from.ensures (high-at p r.before l.invariant.turning (inside-at f l.k (omega arith))),
      weight-most p r.before,
      resistance-most p r.before,
      load-most p r.before _ (loaded f c.args.gathered.now c.args.left _ r.before.some c.add-load.ensures.0),
    )

pub add-reached-requires : goal.add-reached-requires
add-reached-requires c =
    let r = c.requires in
    let l = c.loop-k in
    let f = c.free_place-here.ensures in
    fits c.args.self.now.prepared r.before l.invariant.turning (inside-at f l.k (omega arith)) _
    (loaded f c.args.gathered.now c.args.left _ r.before.some c.add-load.ensures.0) c.step-step.result (step-at f l.k c.add-load.result.0 c.step-step.result (rw c.from.ensures at c.step-step.ensures))

pub bounds-x-t : goal.bounds-x-t
bounds-x-t c =
    let l = c.loop-k in
    omega (arith, c.requires.before.sized.few, c.requires.before.some, ((allowed-by (net_of c.args.self.now) l.x).0 l.invariant.turning.allowed).long)

pub keep-requires-clause-lean_len : goal.keep-requires-clause-lean_len
keep-requires-clause-lean_len c =
    let l = c.loop-k in
    length-set l.x (c.args.left - 1) l.k ∙ ((allowed-by (net_of c.args.self.now) l.x).0 l.invariant.turning.allowed).long ∙ sym l.invariant.turning.lean_long

pub keep-requires-clause-wide_len : goal.keep-requires-clause-wide_len
keep-requires-clause-wide_len c =
    let l = c.loop-k in
    length-set l.x (c.args.left - 1) l.k ∙ ((allowed-by (net_of c.args.self.now) l.x).0 l.invariant.turning.allowed).long ∙ sym l.invariant.turning.wide_long

-- the loop at the next index, where the sizing is taken and where it is passed over
module _ (c : After-le) where
  abbrev turning : List ℕ → Found → Type 0
  turning x f =
      let s = c.args.self.now in
      Turning (net_of s) s.bounds.lower.now s.bounds.upper.now (c.args.left - 1) c.args.x.now (found_of c.args.kept.now) x (c.loop-k.k + 1) f

  kept-turn : (f : Found) → length f.lean ≡ length c.loop-k.kept.lean.now → length f.wide ≡ length c.loop-k.kept.wide.now
      → f ≡ take (set c.loop-k.x (c.args.left - 1) c.loop-k.k) c.add-reached.result.0 (found_of c.loop-k.kept) → turning (set c.loop-k.x (c.args.left - 1) c.loop-k.k) f
  kept-turn f lean wide e =
      let r = c.requires in
      let l = c.loop-k in
      let here = c.free_place-here.ensures in
      taken c.args.self.now.prepared r.before l.invariant.turning (inside-at here l.k (omega arith)) _
      (loaded here c.args.gathered.now c.args.left _ r.before.some c.add-load.ensures.0) c.step-step.result
      (step-at here l.k c.add-load.result.0 c.step-step.result (rw c.from.ensures at c.step-step.ensures)) r.last _ c.add-reached.ensures.0 f lean wide e

  passed-turn : c.loop-k.kept.least.0 < c.add-reached.result.0 → turning c.loop-k.x (found_of c.loop-k.kept)
  passed-turn more =
      let r = c.requires in
      let l = c.loop-k in
      let here = c.free_place-here.ensures in
      passed c.args.self.now.prepared r.before l.invariant.turning (inside-at here l.k (omega arith)) _
      (loaded here c.args.gathered.now c.args.left _ r.before.some c.add-load.ensures.0) c.step-step.result
      (step-at here l.k c.add-load.result.0 c.step-step.result (rw c.from.ensures at c.step-step.ensures)) r.last _ c.add-reached.ensures.0 more

pub loop-k-preserved : goal.loop-k-preserved
loop-k-preserved c =
    let turn = (goal.at.loop-k-preserved c).After-le in
    let old = c.loop-k.invariant.same_space in
    elim c.if-le.branch [
      | then-le w ↦ let new = w.keep.ensures.same_space in rw (w.x-is, w.kept-is) record {
        turning = kept-turn turn _ new.lean_long new.wide_long w.keep.ensures.taken;
        same_space = record { lean = new.lean ∙ old.lean; wide = new.wide ∙ old.wide; lean_long = new.lean_long ∙ old.lean_long; wide_long = new.wide_long ∙ old.wide_long };
      }
      | else-le w ↦ let h = w.if-le.ensures in rw (w.x-is, w.kept-is) record { turning = passed-turn turn (grind (arith, nat_tests)); same_space = old }
    ]

pub returns-clause-searched : goal.returns-clause-searched
returns-clause-searched c =
    let r = c.requires in
    let l = c.loop-k in
    let f = c.free_place-here.ensures in
    ended c.args.self.now.prepared r.before _ l.invariant.turning (outside-at f l.k (omega arith)) refl

pub returns-after-le-clause-searched : goal.returns-after-le-clause-searched
returns-after-le-clause-searched c =
    let turn = (goal.at.returns-after-le-clause-searched c).After-le in
    let r = c.requires in
    let past = outside-at c.free_place-here.ensures (c.loop-k.k + 1) (omega arith) in
    elim c.if-le.branch [
      | then-le w ↦ let new = w.keep.ensures.same_space in
          rw (w.x-is, w.kept-is) (ended c.args.self.now.prepared r.before _ (kept-turn turn _ new.lean_long new.wide_long w.keep.ensures.taken) past refl)
      | else-le w ↦ let h = w.if-le.ensures in
          rw (w.x-is, w.kept-is) (ended c.args.self.now.prepared r.before _ (passed-turn turn (grind (arith, nat_tests))) past refl)
    ]
