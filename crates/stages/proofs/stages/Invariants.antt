-- `stages::stages` meets its contract; the loop's invariant is that both sums are those of the stages passed.
use mathlib.Core.Path.{◌≡◌}
use Rattle.lattice.specs.Lists.{sum as total}
use Rattle.net.specs.Net.{net_by}
use Rattle.net.specs.Delay.{stage_delay}
use Rattle.net.specs.Segments.{stage_charge}
use Rattle.stages.proofs.stages.Given as goal

abbrev pub invariant-loop-s : goal.invariant-loop-s
invariant-loop-s l =
    record {
      delay : l.delay.0 ≡ total l.s (stage_delay (net_by l.net.job.counts l.net.job.bytes.now) l.net.sizing.now);
      load : l.load.0 ≡ total l.s (stage_charge (net_by l.net.job.counts l.net.job.bytes.now) l.net.sizing.now);
    }
