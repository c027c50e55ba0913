-- `runs::bytes_in_order` meets its contract: each byte is asked whether it is in range, and whether the one before it is not above it.
use mathlib.Core.Path.{◌∙◌, ap}
use mathlib.Core.Bool.{◌&&◌}
use Prim.Native.Nat.{ℕ, ◌-◌}
use Rattle.std.proofs.Common.{rules}
use borrow.Author.Tests.{tests}
use lib.Dec.{leb}
use Rattle.lattice.specs.Lists.{every}
use Rattle.lattice.proofs.Every.{every-and}
use Rattle.net.specs.Questions.{in_range}
use Rattle.job.specs.Runs.{byte_of}
use Rattle.runs.proofs.All.{every-below}
use Rattle.runs.proofs.Pairs.{pairs-before}
use Rattle.runs.proofs.bytes_in_order.Goals as goal

pub returns : goal.returns
returns c =
    let run = c.args.run.now in
    let value = byte_of run.bytes.now run.start c.args.at in
    let inside = λ (k : ℕ). in_range c.args.least c.args.most (value k) in
    let before = λ (k : ℕ). leb (value (k - 1)) (value k) in
    every-below {f = λ (k : ℕ). inside k && before k} c.all.ensures.ran (λ k q t. search (rules, tests)) (λ k q t. search (rules, tests))
    ∙ every-and run.count inside before
    ∙ ap (λ b. every run.count inside && b) (pairs-before value run.count)
