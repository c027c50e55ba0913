-- How the table of segments is filled, and that of parts, from the last repeater to the first, and that the tables serve the walk.
use mathlib.Core.Path.{◌≡◌, ap, ◌∙◌}
use mathlib.Core.Logic.{◌⊎◌, inl, inr}
use mathlib.Core.List.{List}
use Prim.Native.Nat.{ℕ, suc, ◌+◌, ◌^◌, ◌≤◌, ◌<◌}
use native.Mathlib.Nat.{eq-or-lt_of_le}
use native.Mathlib.Decide.{dec_le}
use native.Mathlib.Omega.{arith}
use lib.ListN.{set, length-set}
use lib.Seq.{get_or-set_same, get_or-set_other}
use Rattle.lattice.specs.Lists.{at, sum}
use Rattle.net.specs.declared.Counts.{Counts}
use Rattle.net.specs.Net.{Net, net_by}
use Rattle.net.specs.Segments.{repeater_charge}
use Rattle.net.proofs.Sum.{sum-suc}
use Rattle.net.proofs.Questions.{ordered}
use Rattle.links.specs.Links.{First, LinkedBy, siblings}
use Rattle.links.proofs.Siblings.{first-behind}
use Rattle.parts.specs.declared.Part.{Part}
use Rattle.parts.specs.declared.PartAndCharge.{PartAndCharge}
use Rattle.parts.specs.declared.Segment.{Segment}
use Rattle.stages.specs.Ready.{Ready}
use Rattle.parts.specs.Entries.{nothing, part_at}
use Rattle.parts.specs.Step.{Fields}
use Rattle.parts.specs.Tally.{branches_of, Tally, Hanging, RepeatedOf}
use Rattle.elmore.specs.Tables.{segment_at, SizedTo, PartsFrom, PartsBehind}
use Rattle.elmore.proofs.Passing.{node-tally, below-tally}

module _ (net : Net) (x : List ℕ) where
  -- segment i is next
  pub sized-step : (t : List Segment) (i : ℕ) (s : Segment) → i < 64 → Fields net x i s → SizedTo net x i t → SizedTo net x (i + 1) (set t i s)
  sized-step t i s h f z = record { long = length-set t i s ∙ z.long; held = λ k l. go k (eq-or-lt_of_le (omega arith)) }
    where
      go : (k : ℕ) → (k ≡ i) ⊎ (k < i) → Fields net x k (segment_at (set t i s) k)
      go k (inl e) = rw (e, get_or-set_same t i s _ (omega (arith, z.long))) f
      go k (inr l) = rw (get_or-set_other t i k s _ (λ e. omega arith)) (z.held k l)

  -- The repeaters from t on are gone through: what hangs at their segments is in the table, and `all` is what they charge.
  pub record RepeatedFrom (t : ℕ) (table : List Part) (all : ℕ) : Type 0 where
    pub within : t ≤ net.repeaters
    pub parts : PartsFrom net x t table
    pub charge : all + sum t (repeater_charge net x) ≡ sum net.repeaters (repeater_charge net x)

  pub repeated-all : (t : ℕ) (parts : List Part) (all : ℕ) → t ≤ 0 → RepeatedFrom t parts all → all ≡ sum net.repeaters (repeater_charge net x)
  unfolding sum
  repeated-all t parts all h v =
      let e : t ≡ 0 = omega arith in
      let w = rw e at v in
      omega (arith, w.charge)

  -- repeater r is next
  module _ (r : ℕ) (parts : List Part) (all : ℕ) (v : RepeatedFrom (suc r) parts all) (h : PartAndCharge) (q : RepeatedOf net x r h) where
    charge-step : all + h.charge.0 + sum r (repeater_charge net x) ≡ sum net.repeaters (repeater_charge net x)
    charge-step = omega (arith, v.charge, sum-suc r (repeater_charge net x), q.charge)

    pub charge-room : sum net.repeaters (repeater_charge net x) ≤ 109600000 → all + h.charge.0 < 2 ^ 63
    charge-room m = omega (arith, charge-step)

    pub repeated-step : r < 8 → (a : ℕ) → a ≡ all + h.charge.0 → RepeatedFrom r (set parts r h.part) a
    repeated-step s a f =
        record {
          within = omega (arith, v.within);
          parts = record { long = length-set parts r h.part ∙ v.parts.long; held = λ k l m. go k m (eq-or-lt_of_le l) };
          charge = omega (arith, charge-step);
        }
      where
        go : (k : ℕ) → k < net.repeaters → (r ≡ k) ⊎ (r < k) → Hanging net x (net.site k) (part_at (set parts r h.part) k)
        go k l (inl g) = rw (← g, get_or-set_same parts r h.part nothing (omega (arith, v.parts.long))) q.part
        go k l (inr m) = rw (get_or-set_other parts r k h.part nothing (λ g. omega arith)) (v.parts.held k (omega arith) l)

-- the tables serve
module _ {c : Counts} {job x : List ℕ} (ready : Ready c job x) {first next : List ℕ} (l : LinkedBy c job first next) where
  abbrev net : Net
  net = net_by c job

  -- a walk from the source
  pub source-tally : (u : Part) → Tally net x siblings (at first 0) u → Tally net x branches_of 0 u
  source-tally u t = node-tally ready 0 (at first 0) u (omega arith) (l.firsts 0 (omega arith)) t

  -- a walk behind repeater r, at its segment, where the parts of those after it are in the table: none behind it stands before it
  module _ (r : ℕ) (h : r < c.repeaters) where
    abbrev top : ℕ
    top = at first (net.site r + 1)

    here : net.site r < c.segments
    here = omega (arith, ready.checked.sites r h)

    child : First net (net.site r + 1) 0 top
    child = l.firsts (net.site r + 1) (omega (arith, here))

    later : (k : ℕ) → k < c.repeaters → top ≤ net.site k → suc r ≤ k
    later k g m = go (dec_le (suc r) k)
      where
        b : net.site r + 1 ≤ top
        b = first-behind net (ordered ready.checked).parents (net.site r + 1) top (omega (arith, here)) child

        before : (k ≡ r) ⊎ (k < r) → ⊥
        before (inl q) = let d : net.site k ≡ net.site r = ap net.site q in omega (arith, b)
        before (inr q) = omega (arith, b, (ordered ready.checked).rising k r q h)

        go : Dec (suc r ≤ k) → suc r ≤ k
        go (yes q) = q
        go (no q) = absurd (before (eq-or-lt_of_le (omega arith)))

    pub child-parted : {parts : List Part} → PartsFrom net x (suc r) parts → PartsBehind net x top parts
    child-parted p = record { long = p.long; held = λ k g m. p.held k (later k g m) g }

    pub child-tally : (u : Part) → Tally net x siblings top u → Tally net x branches_of (suc (net.site r)) u
    child-tally u t = below-tally ready (net.site r) top here child u t
