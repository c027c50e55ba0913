-- Sums from a place on: one place more, places that add nothing, and that a part is at most the whole. Assumes nothing.
use mathlib.Core.Path.{◌≡◌, ap, ◌∙◌}
use mathlib.Core.Bool.{cond}
use Prim.Native.Nat.{ℕ, suc, ◌+◌, ◌*◌, ◌≤◌, ◌<◌}
use native.Mathlib.Decide.{ℕ_discrete, dec_le}
use native.Mathlib.Omega.{arith}
use borrow.Author.Tests.{lt-ltb, le-ltb, eq-eqb, ne_eqb}
use lib.Dec.{eqb, ltb}
use Rattle.lattice.specs.Lists.{sum}
use Rattle.lattice.proofs.ListLaws.{sum-le}
use Rattle.net.proofs.Sum.{sum_same, sum-add, sum-zero, sum-at, sum-bounded}
use Rattle.place.specs.Held.{sum_after}

module _ (n : ℕ) (f : ℕ → ℕ) where
  pub after_none : sum_after n f n ≡ 0
  unfolding sum_after
  after_none = sum-zero n _ (λ q h. rw (lt-ltb q n h))

  pub after-step : (p : ℕ) → p < n → sum_after n f p ≡ sum_after n f (suc p) + f p
  unfolding sum_after
  after-step p h =
      sum_same n _ (λ q. cond (ltb q (suc p)) 0 (f q) + cond (eqb q p) (f q) 0) (λ q l. go q (ℕ_discrete q p) (dec_le q p))
      ∙ sum-add n _ _
      ∙ ap (λ (s : ℕ). sum n (λ q. cond (ltb q (suc p)) 0 (f q)) + s) (sum-at n p f h)
    where
      go : (q : ℕ) → Dec (q ≡ p) → Dec (q ≤ p) → cond (ltb q p) 0 (f q) ≡ cond (ltb q (suc p)) 0 (f q) + cond (eqb q p) (f q) 0
      go q (yes d) k =
          let a : p ≤ q = omega arith in
          let b : q < suc p = omega arith in
          rw (le-ltb q p a, lt-ltb q (suc p) b, eq-eqb q p d) (omega arith)
      go q (no d) (yes k) =
          let a : q < p = omega arith in
          let b : q < suc p = omega arith in
          rw (lt-ltb q p a, lt-ltb q (suc p) b, ne_eqb q p d)
      go q (no d) (no k) =
          let a : p ≤ q = omega arith in
          let b : suc p ≤ q = omega arith in
          rw (le-ltb q p a, le-ltb q (suc p) b, ne_eqb q p d) (omega arith)

  -- the places from l to p add nothing
  pub after-skip : (l p : ℕ) → l ≤ p → ((q : ℕ) → l ≤ q → q < p → q < n → f q ≡ 0) → sum_after n f l ≡ sum_after n f p
  unfolding sum_after
  after-skip l p h z = sum_same n _ _ (λ q m. go q m (dec_le (suc q) l) (dec_le (suc q) p))
    where
      go : (q : ℕ) → q < n → Dec (suc q ≤ l) → Dec (suc q ≤ p) → cond (ltb q l) 0 (f q) ≡ cond (ltb q p) 0 (f q)
      go q m (yes a) b = let c : q < p = omega arith in rw (lt-ltb q l a, lt-ltb q p c)
      go q m (no a) (yes b) = let c : l ≤ q = omega arith in rw (le-ltb q l c, lt-ltb q p b, z q c b m)
      go q m (no a) (no b) =
          let c : l ≤ q = omega arith in
          let d : p ≤ q = omega arith in
          rw (le-ltb q l c, le-ltb q p d)

  pub after-whole : (p : ℕ) → ((q : ℕ) → q < p → q < n → f q ≡ 0) → sum n f ≡ sum_after n f p
  unfolding sum_after
  after-whole p z = sum_same n f (λ q. cond (ltb q 0) 0 (f q)) (λ q h. let a : 0 ≤ q = omega arith in rw (le-ltb q 0 a)) ∙ after-skip 0 p (omega arith) (λ q l. z q)

  pub after-le : (p : ℕ) → sum_after n f p ≤ sum_after n f 0
  unfolding sum_after
  after-le p = sum-le n _ _ (λ q h. go q (dec_le (suc q) p))
    where
      go : (q : ℕ) → Dec (suc q ≤ p) → cond (ltb q p) 0 (f q) ≤ cond (ltb q 0) 0 (f q)
      go q (yes a) = rw (lt-ltb q p a) (omega arith)
      go q (no a) =
          let b : p ≤ q = omega arith in
          let c : 0 ≤ q = omega arith in
          rw (le-ltb q p b, le-ltb q 0 c) (omega arith)

  pub after_small : (p b : ℕ) → ((q : ℕ) → p ≤ q → q < n → f q ≤ b) → sum_after n f p ≤ n * b
  unfolding sum_after
  after_small p b most = sum-bounded n b _ (λ q h. go q h (dec_le (suc q) p))
    where
      go : (q : ℕ) → q < n → Dec (suc q ≤ p) → cond (ltb q p) 0 (f q) ≤ b
      go q h (yes k) = rw (lt-ltb q p k) (omega arith)
      go q h (no k) = let a : p ≤ q = omega arith in rw (le-ltb q p a) (most q a h)

pub after_same : (n : ℕ) (f g : ℕ → ℕ) (p : ℕ) → ((q : ℕ) → p ≤ q → q < n → f q ≡ g q) → sum_after n f p ≡ sum_after n g p
unfolding sum_after
after_same n f g p e = sum_same n _ _ (λ q h. go q h (dec_le (suc q) p))
  where
    go : (q : ℕ) → q < n → Dec (suc q ≤ p) → cond (ltb q p) 0 (f q) ≡ cond (ltb q p) 0 (g q)
    go q h (yes k) = rw (lt-ltb q p k)
    go q h (no k) = let a : p ≤ q = omega arith in rw (le-ltb q p a) (e q a h)
