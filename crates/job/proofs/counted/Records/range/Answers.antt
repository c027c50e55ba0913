-- `Records::range` meets its contract: the bytes are those of the place's kind.
use Rattle.std.proofs.Common.{ℕ, ◌+◌, ap, ◌∙◌}
use Rattle.net.specs.Job.{byte, place_at}
use Rattle.job.proofs.Ranges.{range-held}
use Rattle.job.proofs.counted.Records.range.Goals as goal

pub returns : goal.returns
returns c =
    let b = c in
    let a = b.args in
    let at = c.range_at-at.ensures.0 in
    let held = range-held a.self.now.counts a.self.now.bytes.now a.p b.requires in
    record {
      lowest = c.place_byte.ensures ∙ ap (λ (i : ℕ). byte a.self.now.bytes.now (place_at a.self.now.counts a.p + i)) at ∙ held.0;
      highest = c.place_byte-2.ensures ∙ ap (λ (i : ℕ). byte a.self.now.bytes.now (place_at a.self.now.counts a.p + (i + 1))) at ∙ held.1;
    }
