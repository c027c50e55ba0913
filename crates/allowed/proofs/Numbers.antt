-- The number of a sizing by cases, and what a sizing that passes has.
use mathlib.Core.Path.{◌≡◌}
use mathlib.Core.Bool.{cond}
use mathlib.Core.List.{List}
use Prim.Native.Nat.{ℕ, ◌≤◌, ◌<◌}
use borrow.Author.Tests.{le-leb, lt-leb}
use lib.ListN.{length}
use Rattle.net.specs.Net.{Net, places}
use Rattle.net.specs.Questions.{first_no}
use Rattle.net.specs.Answers.{question15, question16}
use Rattle.net.specs.Checked.{InRanges}
use Rattle.net.proofs.Questions.{first_no-zero}
use Rattle.net.proofs.Answers.{sizing-ranges}
use Rattle.allowed.specs.Number.{sizing_number}

module _ (net : Net) (x : List ℕ) where
  pub number_short : length x < places net → sizing_number net x ≡ 15
  unfolding sizing_number first_no
  number_short h = rw (lt-leb (places net) (length x) h)

  pub number-long : places net ≤ length x → sizing_number net x ≡ cond (question16 net x) 0 16
  unfolding sizing_number first_no
  number-long h = rw (le-leb (places net) (length x) h)

  -- a sizing that passes both questions has its indices in their ranges
  pub number-ranges : sizing_number net x ≡ 0 → InRanges net x
  unfolding sizing_number
  number-ranges e =
      let a = first_no-zero 14 (question15 net x) _ e in
      let b = first_no-zero 15 (question16 net x) _ a.1 in
      sizing-ranges net x a.0 b.0
