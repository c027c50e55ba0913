-- The steps by which the tree is counted up: that each sum is below 2 ^ 63, and that it is what the definitions say.
use mathlib.Core.Path.{◌≡◌, sym, ◌∙◌}
use mathlib.Core.Bool.{false}
use mathlib.Core.List.{List}
use Prim.Native.Nat.{ℕ, suc, ◌+◌, ◌*◌, ◌^◌, ◌≤◌, ◌<◌}
use native.Mathlib.Nat.{mul-le-mul_right}
use native.Mathlib.Omega.{arith}
use borrow.Author.Tests.{ne_eqb}
use Rattle.lattice.specs.Lists.{sum}
use Rattle.net.specs.declared.Counts.{Counts}
use Rattle.net.specs.Net.{Net, net_by}
use Rattle.net.specs.Delay.{repeated, at_repeater, load_under, segment_delay, stages_delay, delay, load_figure}
use Rattle.net.specs.Delay as net-delay
use Rattle.net.specs.Segments.{weight_below, own_delay, own_repeater_delay, stage_charge, repeater_charge}
use Rattle.net.specs.Checked.{Ordered, Limited, InRanges}
use Rattle.net.proofs.Sum.{sum-zero, sum-part, sum-add, sum-bounded}
use Rattle.net.proofs.Order.{repeated-none}
use Rattle.net.proofs.Questions.{ordered, limited, checked-charged}
use Rattle.net.proofs.Bound.{branches-most, stages-bounded, weight_below-small, charged-small, segment_delay-small, own_delay-small, repeater_charge-small, own_repeater_delay-small, stage_charge-small, driven-small}
use Rattle.net.proofs.Exchange.{repeaters-whole, delay-inside}
use Rattle.parts.specs.declared.Segment.{Segment}
use Rattle.parts.specs.declared.Part.{Part}
use Rattle.stages.specs.Ready.{Ready}
use Rattle.parts.specs.Step.{Fields, lag, under, RoomBehind, Behind}
use Rattle.parts.specs.Tally.{branches_of, branch_of, delay_with, Tally, Hanging}

module _ {c : Counts} {job x : List ℕ} (ready : Ready c job x) where
  abbrev net : Net
  net = net_by c job

  o : Ordered net
  o = ordered ready.checked

  l : Limited net
  l = limited ready.checked

  a : InRanges net x
  a = ready.in_ranges

  -- what a segment and its repeater add to the delay
  abbrev own : ℕ → ℕ
  own i = own_delay net x i + at_repeater net (own_repeater_delay net x) i

  -- all of it, 64 × 45,581,250,000,000,000 + 8 × 44,716,800,000,000,000: a branch is below twice that
  own-small : sum net.segments own ≤ 3274934400000000000
  own-small =
      omega (
        arith,
        sum-add net.segments (own_delay net x) (at_repeater net (own_repeater_delay net x)),
        sum-bounded net.segments 45581250000000000 (own_delay net x) (own_delay-small net o l x a),
        mul-le-mul_right 45581250000000000 l.segments,
        repeaters-whole net o.parents o.sites (own_repeater_delay net x),
        sum-bounded net.repeaters 44716800000000000 (own_repeater_delay net x) (own_repeater_delay-small net o l x a),
        mul-le-mul_right 44716800000000000 l.repeaters,
      )

  pub inside-small : (q : ℕ) → q ≤ net.segments → branches_of net (delay_with net x) q ≤ 3274934400000000000
  inside-small q h = omega (arith, branches-most net o l (delay_with net x) own (λ i m k. omega arith) q h, own-small)

  -- eight repeaters charge at most 13,700,000 each
  pub charged-most : sum net.repeaters (repeater_charge net x) ≤ 109600000
  charged-most =
      omega (arith, sum-bounded net.repeaters 13700000 (repeater_charge net x) (repeater_charge-small net o l x a), mul-le-mul_right 13700000 l.repeaters)

  -- where no repeater sits at the far end of segment i
  none-there : (i : ℕ) → repeated net i ≡ false → (f : ℕ → ℕ) → at_repeater net f i ≡ 0
  unfolding at_repeater
  none-there i e f = sum-zero net.repeaters _ (λ r h. rw (ne_eqb (net.site r) i (repeated-none net i e r h)))

  pub bare-hanging : (i : ℕ) (u : Part) → repeated net i ≡ false → Tally net x branches_of (suc i) u → Hanging net x i u
  unfolding net-delay.under
  bare-hanging i u e t =
      record {
        weight = omega (arith, t.weight);
        load = rw e (omega (arith, t.load));
        delay = omega (arith, t.delay, none-there i e (own_repeater_delay net x));
      }

  module _ (i : ℕ) (h : i < net.segments) (s : Segment) (u : Part) (f : Fields net x i s) (v : Hanging net x i u) where
    weight_is : s.weight + u.weight ≡ weight_below net i
    unfolding weight_below
    weight_is = omega (arith, f.weight, v.weight)

    under-is : under s u ≡ load_under net x i
    under-is = omega (arith, f.sink, v.load)

    lag-is : lag s.wire (under s u) ≡ segment_delay net x i
    unfolding segment_delay
    lag-is = cc under-is

    pub behind-room : RoomBehind s u
    behind-room =
        record {
          weight = omega (arith, weight_is, weight_below-small net o l i h);
          wire = record {
            charged = omega (arith, under-is, f.wire.capacitance, charged-small net o l x a i h);
            lagged = omega (arith, lag-is, segment_delay-small net o l x a i h);
          };
          delay = rw (weight_is, lag-is) (omega (arith, v.delay, sum-part net.segments own i h, own-small, inside-small (suc i) h));
        }

    pub behind-tally : (r : Part) → Behind s u r → Tally net x branch_of i r
    behind-tally r b =
        record {
          weight = omega (arith, b.weight, f.weight, v.weight);
          load = omega (arith, b.load, under-is, f.wire.capacitance);
          delay = b.delay ∙ rw (weight_is, lag-is) v.delay;
        }

  -- the whole tree
  module _ (tree : Part) (t : Tally net x branches_of 0 tree) where
    -- behind stages that contribute d
    module _ (d : ℕ) (e : d ≡ stages_delay net x) where
      pub whole-driven : tree.weight * (2 * d) < 2 ^ 63
      whole-driven = rw (t.weight, e) (omega (arith, driven-small net o l x a))

      pub whole-delay : tree.weight * (2 * d) + tree.delay.0 ≡ delay net x
      whole-delay = rw (t.weight, t.delay, e) (sym (delay-inside net o.parents o.sites x))

  -- what the stages charge, d, and what the repeaters charge, e
  module _ (d e : ℕ) (f : d ≡ sum net.stages (stage_charge net x)) (g : e ≡ sum net.repeaters (repeater_charge net x)) where
    pub figure-room : d + e < 2 ^ 63
    figure-room = omega (arith, stages-bounded net o l 13700000 (stage_charge-small net o l x a) net.stages (omega arith), charged-most)

    pub whole-figure : d + e ≡ load_figure net x
    whole-figure = omega (arith, checked-charged ready.checked x)
