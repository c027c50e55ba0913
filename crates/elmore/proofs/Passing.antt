-- The siblings that a walk over the branches at a node has passed: that each sum is below 2 ^ 63, and that it is what the definitions say.
use mathlib.Core.Path.{◌≡◌, refl, sym, ap, ◌∙◌}
use mathlib.Core.Bool.{Bool, true, false}
use mathlib.Core.HLevel.{⊥_prop}
use mathlib.Core.Logic.{∥∥₁_elim}
use mathlib.Core.List.{List}
use Prim.Native.Nat.{ℕ, zero, suc, ◌+◌, ◌-◌, ◌≤◌, ◌<◌}
use native.Mathlib.Nat.{zero-add, add-zero, add-suc, suc-add}
use native.Mathlib.Numerals.{add-one}
use native.Mathlib.Omega.{arith}
use Rattle.net.specs.declared.Counts.{Counts}
use Rattle.net.specs.Net.{Net, net_by}
use Rattle.net.specs.Delay.{repeated}
use Rattle.net.specs.Segments.{forest}
use Rattle.net.specs.Checked.{Ordered, Limited, InRanges}
use Rattle.net.proofs.Branches.{branches-are}
use Rattle.net.proofs.Order.{repeated-one}
use Rattle.net.proofs.Questions.{ordered, limited}
use Rattle.net.proofs.Bound.{branches-bounded, branches_load-small}
use Rattle.links.specs.Links.{First, siblings}
use Rattle.links.proofs.Siblings.{siblings-none, siblings-branches, siblings-step}
use Rattle.parts.specs.declared.Part.{Part}
use Rattle.stages.specs.Ready.{Ready}
use Rattle.parts.specs.Entries.{nothing}
use Rattle.parts.specs.Step.{RoomJoined, Joined}
use Rattle.parts.proofs.Tallies.{inside-small, bare-hanging}
use Rattle.parts.specs.Tally.{branches_of, branch_of, weight_with, load_with, delay_with, Tally, Hanging}

-- past the last segment
none-tally : {net : Net} {x : List ℕ} (j : ℕ) → j ≡ net.segments → Tally net x siblings j nothing
none-tally {net} {x} j e =
    record {
      weight = sym (siblings-none net (weight_with net x) j e);
      load = sym (siblings-none net (load_with net x) j e);
      delay = sym (siblings-none net (delay_with net x) j e);
    }

-- r is counted up over the siblings from j on that stand before i: with those from i on it is all of them.
pub record Passed (net : Net) (x : List ℕ) (j i : ℕ) (r : Part) : Type 0 where
  pub from : j ≤ i
  pub within : i ≤ net.segments
  pub weight : r.weight + siblings net (weight_with net x) i ≡ siblings net (weight_with net x) j
  pub load : r.load.0 + siblings net (load_with net x) i ≡ siblings net (load_with net x) j
  pub delay : r.delay.0 + siblings net (delay_with net x) i ≡ siblings net (delay_with net x) j

-- past the last segment all are passed
pub passed-all : {net : Net} {x : List ℕ} (j i : ℕ) → net.segments ≤ i → (r : Part) → Passed net x j i r → Tally net x siblings j r
passed-all {net} {x} j i h r p =
    let e : i ≡ net.segments = omega (arith, p.within) in
    record {
      weight = omega (arith, p.weight, siblings-none net (weight_with net x) i e);
      load = omega (arith, p.load, siblings-none net (load_with net x) i e);
      delay = omega (arith, p.delay, siblings-none net (delay_with net x) i e);
    }

-- what hangs at a node from a later segment on is a part of what hangs there
forest-later : (parent : ℕ → ℕ) (has : ℕ → ℕ → ℕ) (k d q j : ℕ) → forest parent has d q (k + j) ≤ forest parent has (k + d) q j
unfolding forest
forest-later parent has zero d q j = rw (zero-add d, zero-add j) (omega arith)
forest-later parent has (suc k) d q j = rw (suc-add k d, suc-add k j, ← add-suc k j) (omega (arith, forest-later parent has k d q (suc j)))

module _ {c : Counts} {job x : List ℕ} (ready : Ready c job x) where
  abbrev net : Net
  net = net_by c job

  o : Ordered net
  o = ordered ready.checked

  l : Limited net
  l = limited ready.checked

  a : InRanges net x
  a = ready.in_ranges

  -- the first segment at a node and its siblings are the branches there
  pub node-tally : (q i : ℕ) (u : Part) → q ≤ net.segments → First net q 0 i → Tally net x siblings i u → Tally net x branches_of q u
  node-tally q i u h f t =
      record {
        weight = t.weight ∙ sym (siblings-branches net o.parents (weight_with net x) q i h f);
        load = t.load ∙ sym (siblings-branches net o.parents (load_with net x) q i h f);
        delay = t.delay ∙ sym (siblings-branches net o.parents (delay_with net x) q i h f);
      }

  -- the siblings from one on are among the branches at their node
  siblings-most : (has : ℕ → ℕ → ℕ) (j : ℕ) → j < net.segments → siblings net has j ≤ branches_of net has (net.parent j)
  siblings-most has j m =
      let e : j + (net.segments - j) ≡ net.segments = omega arith in
      let k = forest-later net.parent has j (net.segments - j) (net.parent j) 0 in
      rw (branches-are net o.parents has (net.parent j) (omega (arith, o.parents j m))) (rw (e, add-zero j) at k)

  module _ (i child : ℕ) (h : i < net.segments) (first : First net (i + 1) 0 child) where
    pub below-tally : (u : Part) → Tally net x siblings child u → Tally net x branches_of (suc i) u
    below-tally u v = rw add-one at (node-tally (i + 1) child u (omega arith) first v)

    -- a segment without branches has no repeater, and nothing hangs there
    leaf-none : child ≡ net.segments → repeated net i ≡ false
    leaf-none e = go (repeated net i) refl
      where
        go : (b : Bool) → repeated net i ≡ b → b ≡ false
        go false f = refl
        go true f =
            let k = repeated-one net i f in
            absurd (∥∥₁_elim (ready.checked.branched k.0 k.1) ⊥_prop
            (λ b. first.none b.0 (omega arith) (omega (arith, b.1)) (b.2 ∙ ap suc k.2 ∙ sym (add-one i))))

    pub leaf-hanging : child ≡ net.segments → Hanging net x i nothing
    leaf-hanging e = bare-hanging ready i nothing (leaf-none e) (below-tally nothing (none-tally child e))

  -- one more sibling: i joins what is passed, and k is the next
  module _ (j i k : ℕ) (h : i < net.segments) (f : First net (net.parent i) (suc i) k) (b d : Part) (p : Passed net x j i b) (t : Tally net x branch_of i d) where
    m : j < net.segments
    m = omega (arith, p.from)

    n : net.parent j ≤ net.segments
    n = omega (arith, o.parents j m)

    step : (has : ℕ → ℕ → ℕ) → siblings net has i ≡ branch_of net has i + siblings net has k
    step has = siblings-step net o.parents has i k h f

    pub joined-room : RoomJoined b d
    joined-room =
        record {
          weight = omega (arith, p.weight, t.weight, step (weight_with net x), siblings-most (weight_with net x) j m, branches-bounded net o l 255 l.weights (net.parent j) n);
          load = omega (arith, p.load, t.load, step (load_with net x), siblings-most (load_with net x) j m, branches_load-small net o l x a (net.parent j) n);
          delay = omega (arith, p.delay, t.delay, step (delay_with net x), siblings-most (delay_with net x) j m, inside-small ready (net.parent j) n);
        }

    pub joined-passed : (r : Part) → Joined b d r → Passed net x j k r
    joined-passed r e =
        record {
          from = omega (arith, p.from, f.from);
          within = f.within;
          weight = omega (arith, p.weight, t.weight, e.weight, step (weight_with net x));
          load = omega (arith, p.load, t.load, e.load, step (load_with net x));
          delay = omega (arith, p.delay, t.delay, e.delay, step (delay_with net x));
        }
