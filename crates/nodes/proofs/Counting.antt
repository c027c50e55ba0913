-- The table of what hangs at each node, filled from the last segment to the first: what it lacks yet, that each sum is below 2 ^ 63, and that in the
-- end it lacks nothing.
use mathlib.Core.Path.{◌≡◌, sym, ◌∙◌}
use mathlib.Core.Bool.{cond}
use mathlib.Core.List.{List}
use Prim.Native.Nat.{ℕ, suc, ◌+◌, ◌≤◌, ◌<◌}
use native.Mathlib.Decide.{ℕ_discrete}
use native.Mathlib.Omega.{arith}
use borrow.Author.Tests.{eq-eqb, ne_eqb}
use lib.Dec.{eqb}
use lib.ListN.{length, replicate, set, length-set, length-replicate, get_or-replicate}
use lib.Seq.{get_or-set_same, get_or-set_other}
use Rattle.lattice.specs.Lists.{sum}
use Rattle.net.specs.declared.Counts.{Counts}
use Rattle.net.specs.Net.{Net, net_by}
use Rattle.net.specs.Checked.{Ordered, Limited}
use Rattle.net.proofs.Sum.{sum-suc, sum-zero}
use Rattle.net.proofs.Branches.{branches-sum}
use Rattle.net.proofs.Questions.{ordered, limited}
use Rattle.net.proofs.Bound.{branches-bounded, branches_load-small}
use Rattle.stages.specs.Ready.{Ready}
use Rattle.parts.specs.declared.Part.{Part}
use Rattle.parts.specs.Step.{RoomJoined, Joined}
use Rattle.parts.specs.Entries.{nothing, part_at}
use Rattle.parts.specs.Tally.{branches_of, branch_of, weight_with, load_with, delay_with, Tally}
use Rattle.parts.proofs.Tallies.{inside-small}
use Rattle.nodes.specs.Counted.{Counted}

-- Of the branches at the node q, those of the segments before i: what the table lacks while it has those from i on.
abbrev lacking : Net → ℕ → (ℕ → ℕ → ℕ) → ℕ → ℕ
lacking net i has q = sum i (λ j. cond (eqb (net.parent j) q) (branch_of net has j) 0)

-- r and what the table lacks are the branches at the node q.
pub record Lacks (net : Net) (x : List ℕ) (i q : ℕ) (r : Part) : Type 0 where
  pub weight : r.weight + lacking net i (weight_with net x) q ≡ branches_of net (weight_with net x) q
  pub load : r.load.0 + lacking net i (load_with net x) q ≡ branches_of net (load_with net x) q
  pub delay : r.delay.0 + lacking net i (delay_with net x) q ≡ branches_of net (delay_with net x) q

-- The branches of the segments from i on are in the table, each at the node that its segment hangs at.
pub record CountedFrom (net : Net) (x : List ℕ) (i : ℕ) (nodes : List Part) : Type 0 where
  pub long : length nodes ≡ 65
  pub within : i ≤ net.segments
  pub held : (q : ℕ) → q ≤ net.segments → Lacks net x i q (part_at nodes q)

module _ (net : Net) (has : ℕ → ℕ → ℕ) where
  -- segment i hangs at q
  lacking-here : (i q : ℕ) → q ≡ net.parent i → lacking net (suc i) has q ≡ branch_of net has i + lacking net i has q
  lacking-here i q e = sum-suc i _ ∙ rw (eq-eqb (net.parent i) q (sym e))

  -- segment i hangs elsewhere
  lacking-past : (i q : ℕ) → (q ≡ net.parent i → ⊥) → lacking net (suc i) has q ≡ lacking net i has q
  lacking-past i q d = sum-suc i _ ∙ rw (ne_eqb (net.parent i) q (λ e. d (sym e))) (omega arith)

  module _ (falls : (j : ℕ) → j < net.segments → net.parent j ≤ j) where
    -- at first all is lacking
    lacking-all : (q : ℕ) → q ≤ net.segments → lacking net net.segments has q ≡ branches_of net has q
    lacking-all q h = sym (branches-sum net falls has q h)

    -- a segment hangs at no node behind it
    lacking-none : (i q : ℕ) → i ≤ q → i ≤ net.segments → lacking net i has q ≡ 0
    lacking-none i q h k = sum-zero i _ (λ j l. rw (ne_eqb (net.parent j) q (λ e. omega (arith, falls j (omega arith)))))

module _ {c : Counts} {job x : List ℕ} (ready : Ready c job x) where
  abbrev net : Net
  net = net_by c job

  o : Ordered net
  o = ordered ready.checked

  l : Limited net
  l = limited ready.checked

  -- a node from i on lacks nothing once the segments from i on are in
  whole : {i q : ℕ} {r : Part} → i ≤ q → i ≤ net.segments → Lacks net x i q r → Tally net x branches_of q r
  whole {i} {q} h k v =
      record {
        weight = omega (arith, v.weight, lacking-none net (weight_with net x) o.parents i q h k);
        load = omega (arith, v.load, lacking-none net (load_with net x) o.parents i q h k);
        delay = omega (arith, v.delay, lacking-none net (delay_with net x) o.parents i q h k);
      }

  pub counted_none : CountedFrom net x net.segments (replicate 65 nothing)
  counted_none =
      record {
        long = length-replicate {A = Part} 65 nothing;
        within = omega arith;
        held = λ q h.
            rw (get_or-replicate {A = Part} 65 q nothing nothing (omega (arith, l.segments)))
            record {
              weight = omega (arith, lacking-all net (weight_with net x) o.parents q h);
              load = omega (arith, lacking-all net (load_with net x) o.parents q h);
              delay = omega (arith, lacking-all net (delay_with net x) o.parents q h);
            };
      }

  pub counted-all : (i : ℕ) (nodes : List Part) → i ≤ 0 → CountedFrom net x i nodes → Counted net x nodes
  counted-all i nodes h v = record { long = v.long; held = λ q k. whole (omega arith) v.within (v.held q k) }

  -- segment i is next
  module _ (i : ℕ) (nodes : List Part) (v : CountedFrom net x (suc i) nodes) where
    pub next-within : i < net.segments
    next-within = v.within

    -- what hangs at its far end comes after it, so it is in the table
    pub far-tally : Tally net x branches_of (suc i) (part_at nodes (suc i))
    far-tally = whole (omega arith) v.within (v.held (suc i) next-within)

    -- it hangs at the node q, which stands before its far end
    module _ (q : ℕ) (f : q ≡ net.parent i) where
      node : q ≤ net.segments
      node = omega (arith, o.parents i next-within, next-within)

      -- its branch b joins the part there
      module _ (b : Part) (s : Tally net x branch_of i b) where
        there : Lacks net x (suc i) q (part_at nodes q)
        there = v.held q node

        pub joined-room : RoomJoined (part_at nodes q) b
        joined-room =
            record {
              weight = omega (arith, there.weight, s.weight, lacking-here net (weight_with net x) i q f, branches-bounded net o l 255 l.weights q node);
              load = omega (arith, there.load, s.load, lacking-here net (load_with net x) i q f, branches_load-small net o l x ready.in_ranges q node);
              delay = omega (arith, there.delay, s.delay, lacking-here net (delay_with net x) i q f, inside-small ready q node);
            }

        pub counted_step : (r : Part) → Joined (part_at nodes q) b r → CountedFrom net x i (set nodes q r)
        counted_step r j =
            record { long = length-set nodes q r ∙ v.long; within = omega (arith, next-within); held = λ k h. go k h (ℕ_discrete k q) }
          where
            go : (k : ℕ) → k ≤ net.segments → Dec (k ≡ q) → Lacks net x i k (part_at (set nodes q r) k)
            go k h (yes m) =
                rw (m, get_or-set_same nodes q r nothing (omega (arith, node, l.segments, v.long)))
                record {
                  weight = omega (arith, there.weight, s.weight, j.weight, lacking-here net (weight_with net x) i q f);
                  load = omega (arith, there.load, s.load, j.load, lacking-here net (load_with net x) i q f);
                  delay = omega (arith, there.delay, s.delay, j.delay, lacking-here net (delay_with net x) i q f);
                }
            go k h (no m) =
                let w = v.held k h in
                let n : k ≡ net.parent i → ⊥ = λ z. m (z ∙ sym f) in
                rw (get_or-set_other nodes q k r nothing m)
                record {
                  weight = omega (arith, w.weight, lacking-past net (weight_with net x) i k n);
                  load = omega (arith, w.load, lacking-past net (load_with net x) i k n);
                  delay = omega (arith, w.delay, lacking-past net (delay_with net x) i k n);
                }
