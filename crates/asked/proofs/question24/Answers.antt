-- `asked::question24` meets its contract: the tests of each run, put together, are the definition.
use Rattle.std.proofs.Common.{List, ℕ, ◌-◌, ◌&&◌}
use Rattle.lattice.specs.Lists.{every}
use Rattle.runs.specs.Records.{byte_within, byte_in_order}
use Rattle.asked.proofs.OnRun.{of-run, bytes}
use Rattle.asked.proofs.Regroup.{question24-by}
use Rattle.asked.proofs.question24.Goals as goal

pub returns : goal.returns
returns c =
    let layers = λ (b : List ℕ) (s n : ℕ). every n (byte_within b s 2 0 1) && every (n - 1) (byte_in_order b s 2) in
    question24-by _ _ _ c.top_layer-top.ensures
    (of-run layers c.widths.ensures c.bytes_in_order-widths.ensures)
    (of-run (bytes 15 0 c.top_layer-top.result) c.segments.ensures c.within-segments.ensures)
