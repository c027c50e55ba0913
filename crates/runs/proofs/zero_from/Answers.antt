-- `runs::zero_from` meets its contract: each of the bytes is asked.
use Rattle.std.proofs.Common.{◌≡◌, ℕ, ◌+◌, ◌-◌, ◌≤◌, ◌<◌, true, false, eqb, arith, slice_range, List, length, get_or, drop, rules}
use borrow.Author.Tests.{tests}
use Rattle.std.proofs.lemmas.List.{get_or_default, get_or-drop, get_or-take, length-drop, length-take-le}
use Rattle.std.proofs.lemmas.Iterator.{cases_from_all, YieldsList-from_slice}
use Rattle.net.specs.Job.{byte}
use Rattle.runs.proofs.All.{answered}
use Rattle.runs.proofs.zero_from.Goals as goal

piece-length : (b : List ℕ) (p n : ℕ) → p + n ≤ length b → length (slice_range b p (p + n)) ≡ n
piece-length b p n h = let e : p + n - p ≡ n = omega arith in rw e (length-take-le n (drop p b) (omega (arith, length-drop p b)))

piece-at : (b : List ℕ) (p n k d : ℕ) → k < n → p + n ≤ length b → get_or (slice_range b p (p + n)) k d ≡ byte b (p + k)
piece-at b p n k d l h = let e : p + n - p ≡ n = omega arith in rw (e, get_or-take n (drop p b) k d l, get_or-drop p b k d) (get_or_default b (p + k) d 0 (omega arith))

pub returns : goal.returns
returns c =
    let b = c.args.bytes.now in
    let p = c.args.p in
    let n = c.args.n in
    answered (slice_range b p (p + n)) (λ v. eqb v 0 ≡ true) (λ v. eqb v 0 ≡ false) n _ c.all.result 0 (piece-length b p n c.requires)
    (λ k d l e. rw (piece-at b p n k d l c.requires) at e)
    (λ k d l e. rw (piece-at b p n k d l c.requires) at e)
    (cases_from_all _ _ _ (λ v. eqb v 0 ≡ true) (λ v. eqb v 0 ≡ false) c.all.ensures.ran (YieldsList-from_slice _ c.iter.ensures.rest) (λ k q t. search (rules, tests)) (λ k q t. search (rules, tests)))
