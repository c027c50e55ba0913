-- The filling of the links, step by step.
use mathlib.Core.Path.{◌≡◌, refl, sym, ap, ◌∙◌}
use mathlib.Core.Logic.{◌⊎◌, inl, inr}
use mathlib.Core.Bool.{true, false}
use mathlib.Core.List.{List}
use Prim.Native.Nat.{ℕ, suc, ◌+◌, ◌≤◌, ◌<◌}
use native.Mathlib.Nat.{add_assoc, eq-or-lt_of_le}
use native.Mathlib.Decide.{ℕ_discrete}
use native.Mathlib.Omega.{arith}
use borrow.Author.Tests.{lt-leb}
use lib.Dec.{leb, le→leb}
use lib.ListN.{length, get_or, set, length-set}
use lib.Seq.{get_or-set_same, get_or-set_other}
use Rattle.lattice.proofs.ListLaws.{is_true, at_every}
use Rattle.lattice.proofs.Every.{every-fails}
use Rattle.net.specs.declared.Counts.{Counts}
use Rattle.net.specs.Job.{segment_parent}
use Rattle.net.specs.Net.{Net, net_by}
use Rattle.net.specs.Questions.{question9}
use Rattle.job.specs.declared.runs.Run.{Run}
use Rattle.job.specs.Runs.{byte_of}
use Rattle.job.specs.RunOf.{RunOf}
use Rattle.links.specs.Links.{First, Linked, Unlinked}

-- what the filling of the links knows when the segments from j on are linked: each of them hangs at a node that stands before it
pub record Linking (net : Net) (first next : List ℕ) (j : ℕ) : Type 0 where
  pub nodes : net.segments < length first
  pub segments : net.segments ≤ length next
  pub falls : (i : ℕ) → j ≤ i → i < net.segments → net.parent i ≤ i
  pub firsts : (q : ℕ) → q ≤ net.segments → First net q j (get_or first q 0)
  pub nexts : (i : ℕ) → j ≤ i → i < net.segments → First net (net.parent i) (suc i) (get_or next i 0)

module _ (net : Net) where
  -- before any segment is linked, each node has the one past the last
  pub linking-start : (long : ℕ) (first next : List ℕ) → net.segments < long → net.segments ≤ length next → Unlinked net.segments long first (net.segments + 1)
      → Linking net first next net.segments
  linking-start long first next h k u =
      record {
        nodes = omega arith;
        segments = k;
        falls = λ i l m. absurd (omega arith);
        firsts = λ q l. rw (u.none q (omega arith)) record {
          from = omega arith;
          within = omega arith;
          none = λ i m n. absurd (omega arith);
          there = λ m. absurd (omega arith);
        };
        nexts = λ i l m. absurd (omega arith);
      }

  -- segment i goes before the first at its node
  pub linking-step : (first next : List ℕ) (i : ℕ) → i < net.segments → net.parent i ≤ i → Linking net first next (suc i)
      → Linking net (set first (net.parent i) i) (set next i (get_or first (net.parent i) 0)) i
  linking-step first next i h o l =
      record {
        nodes = rw (length-set first (net.parent i) i) l.nodes;
        segments = rw (length-set next i (get_or first (net.parent i) 0)) l.segments;
        falls = λ k m n. before k n (eq-or-lt_of_le m);
        firsts = λ q k. node q k (ℕ_discrete q (net.parent i));
        nexts = λ k m n. sibling k n (eq-or-lt_of_le m);
      }
    where
      before : (k : ℕ) → k < net.segments → (i ≡ k) ⊎ (i < k) → net.parent k ≤ k
      before k n (inl e) = rw (← e) o
      before k n (inr m) = l.falls k m n

      node : (q : ℕ) → q ≤ net.segments → Dec (q ≡ net.parent i) → First net q i (get_or (set first (net.parent i) i) q 0)
      node q k (yes e) =
          rw (e, get_or-set_same first (net.parent i) i 0 (omega (arith, o, l.nodes)))
          record { from = omega arith; within = omega arith; none = λ j m n. absurd (omega arith); there = λ m. refl }
      node q k (no e) =
          let f = l.firsts q k in
          rw (get_or-set_other first (net.parent i) q i 0 e)
          record { from = omega arith; within = f.within; none = λ j m n. past j n (eq-or-lt_of_le m); there = f.there }
        where
          past : (j : ℕ) → j < get_or first q 0 → (i ≡ j) ⊎ (i < j) → net.parent j ≡ q → ⊥
          past j n (inl d) g = e (sym g ∙ ap net.parent (sym d))
          past j n (inr d) g = (l.firsts q k).none j d n g

      sibling : (k : ℕ) → k < net.segments → (i ≡ k) ⊎ (i < k) → First net (net.parent k) (suc k) (get_or (set next i (get_or first (net.parent i) 0)) k 0)
      sibling k n (inl e) =
          rw (← e, get_or-set_same next i (get_or first (net.parent i) 0) 0 (omega (arith, l.segments)))
          (l.firsts (net.parent i) (omega (arith, o)))
      sibling k n (inr m) = rw (get_or-set_other next i k (get_or first (net.parent i) 0) 0 (λ e. omega arith)) (l.nexts k m n)

  pub linking-end : (first next : List ℕ) → Linking net first next 0 → Linked net first next
  linking-end first next l = record { nodes = l.nodes; segments = l.segments; firsts = l.firsts; nexts = λ i h. l.nexts i (omega arith) h }

-- The parent of a segment, read from the run of the segments.
pub parent-read : (c : Counts) (b : List ℕ) {r : Run} (i q : ℕ) → RunOf b (c.widths + c.sizes + c.stages) c.segments r → q ≡ byte_of r.bytes.now r.start 2 i → q ≡ (net_by c b).parent i
parent-read c b {r} i q o e = rw (o.bytes, o.start, add_assoc (c.widths + c.sizes) c.stages i) at e

-- Question 9 of the net of a job, by how the loop ends: at a segment that hangs behind itself, or after all segments.
module _ (c : Counts) (b : List ℕ) where
  pub parent-behind : {i q : ℕ} → i < c.segments → q ≡ (net_by c b).parent i → i < q → false ≡ question9 c b
  unfolding question9
  parent-behind {i} {q} h e l = sym (every-fails c.segments (λ k. leb (segment_parent c b k) k) i h (lt-leb (segment_parent c b i) i (omega arith)))

  pub parents-before : {first next : List ℕ} → Linking (net_by c b) first next 0 → true ≡ question9 c b
  unfolding question9
  parents-before l =
      sym (is_true _ (at_every c.segments (λ k. leb (segment_parent c b k) k) (λ k h. le→leb (segment_parent c b k) k (l.falls k (omega arith) h))))
