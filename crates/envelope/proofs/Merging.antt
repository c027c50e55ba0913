-- The merge of a sizing into an envelope, step by step: what its loop knows, and what it ends with.
use mathlib.Core.Path.{◌≡◌, refl, sym, ap, ◌∙◌}
use mathlib.Core.List.{List, ◌∷◌, ◌++◌, zip_with, append-nil}
use Prim.Native.Nat.{ℕ, suc, ◌+◌, ◌≤◌, ◌<◌}
use native.Mathlib.Numerals.{add-one}
use native.Mathlib.Omega.{arith}
use lib.ListN.{length, set, take, drop, length-set, drop_of_length-le}
use lib.Seq.{take_all, take-suc, drop-cons, length-take-le, set_at, get_or_at, append_snoc}
use Rattle.lattice.specs.Lists.{at}
use Rattle.lattice.proofs.ListLaws.{length-zip, at-zip}

-- of the envelope b₀ the places before i are merged with x, and the rest is as it was
pub record Merging (f : ℕ → ℕ → ℕ) (x b₀ : List ℕ) (i : ℕ) (b : List ℕ) : Type 0 where
  pub same : length x ≡ length b₀
  pub up_to : i ≤ length x
  pub long : length b ≡ length b₀
  pub parts : b ≡ take i (zip_with f x b₀) ++ drop i b₀

module _ (f : ℕ → ℕ → ℕ) (x b₀ : List ℕ) where
  pub merging_start : length x ≡ length b₀ → Merging f x b₀ 0 b₀
  merging_start e = record { same = e; up_to = omega arith; long = refl; parts = refl }

  module _ (i : ℕ) (b : List ℕ) (m : Merging f x b₀ i b) where
    abbrev all : List ℕ
    all = zip_with f x b₀

    all-long : length all ≡ length x
    all-long = length-zip f (length x) x b₀ refl (sym m.same)

    module _ (h : i < length x) where
      front : length (take i all) ≡ i
      front = let l = all-long in length-take-le i all (omega arith)

      rest : drop i b₀ ≡ at b₀ i ∷ drop (suc i) b₀
      rest = let s = m.same in drop-cons b₀ i 0 (omega arith)

      here : b ≡ take i all ++ at b₀ i ∷ drop (suc i) b₀
      here = m.parts ∙ ap (λ l. take i all ++ l) rest

      old : at b i ≡ at b₀ i
      old = rw here (get_or_at (take i all) (at b₀ i) (drop (suc i) b₀) 0 i front)

      -- the place i is merged too
      pub merging-step : Merging f x b₀ (i + 1) (set b i (f (at x i) (at b i)))
      merging-step =
          let l = all-long in
          let s = m.same in
          let v = f (at x i) (at b i) in
          let past = drop (suc i) b₀ in
          record {
            same = m.same;
            up_to = omega arith;
            long = length-set b i _ ∙ m.long;
            parts =
                ap (λ l. set l i v) here
                ∙ set_at (take i all) (at b₀ i) past v i front
                ∙ ap (λ w. take i all ++ w ∷ past) (ap (f (at x i)) old ∙ sym (at-zip f (length x) x b₀ refl (sym s) i h))
                ∙ sym (append_snoc (take i all) (at all i) past)
                ∙ ap (λ l. l ++ past) (sym (take-suc all i 0 (omega arith)))
                ∙ ap (λ k. take k all ++ drop k b₀) (sym (add-one i));
          }

    -- past the last place
    pub merging-end : length x ≤ i → b ≡ all
    merging-end h =
        let l = all-long in
        let s = m.same in
        m.parts ∙ rw (take_all i all (omega arith), drop_of_length-le b₀ {i = i} (omega arith)) (append-nil all)
