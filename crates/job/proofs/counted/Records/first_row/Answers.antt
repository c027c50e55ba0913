-- `Records::first_row` meets its contract: the rows of layer 1 come behind those of layer 0.
use Rattle.std.proofs.Common.{◌≡◌, ◌+◌, sym, ◌∙◌}
use Rattle.net.specs.Job.{byte, place_at}
use Rattle.net.proofs.Records.{layer-0, layer-1}
use Rattle.job.proofs.counted.Records.first_row.Goals as goal

pub returns-then-place_byte-eq0 : goal.returns-then-place_byte-eq0
returns-then-place_byte-eq0 c =
    let b = c in
    let e : byte b.args.self.now.bytes.now (place_at b.args.self.now.counts b.args.p + 15) ≡ 0 = sym c.place_byte.ensures ∙ c.if-place_byte-eq0.true in
    rw e (sym (layer-0 _).1)

pub returns : goal.returns
returns c = sym (layer-1 _ _ (λ e. c.if-place_byte-eq0.false (c.place_byte.ensures ∙ e))).1
