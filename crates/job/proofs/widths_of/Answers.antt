-- `job::widths_of` meets its contract: the widths that are not of layer 0 are of layer 1.
use Rattle.std.proofs.Common.{sym}
use Rattle.net.proofs.Records.{layer-0, layer-1}
use Rattle.job.proofs.widths_of.Goals as goal

pub returns-then-layer-eq0 : goal.returns-then-layer-eq0
returns-then-layer-eq0 c = rw c.if-layer-eq0.true (sym (layer-0 _).0)

pub returns : goal.returns
returns c = sym (layer-1 _ _ c.if-layer-eq0.false).0
