-- A sum or a product over n places comes to the same in whatever order they are taken; and when a list of places is such an order.
use mathlib.Core.Path.{◌≡◌, ◌∙◌, refl, sym, ap}
use mathlib.Core.Logic.{⊎_elim}
use mathlib.Core.Bool.{cond}
use Prim.Native.Nat.{ℕ, zero, suc, ◌+◌, ◌*◌, ◌≤◌, ◌<◌}
use native.Mathlib.Nat.{zero-add, add_comm, add_assoc, one-mul, mul_comm, mul_assoc, not-suc-le-zero, eq-or-lt_of_le, le_of_suc-le-suc}
use native.Mathlib.Omega.{arith}
use native.Mathlib.Decide.{ℕ_discrete, dec_lt}
use borrow.Author.Tests.{eq-eqb, ne_eqb}
use lib.Dec.{eqb}
use Rattle.lattice.specs.Lists.{sum, product}
use Rattle.lattice.specs.Numbering.{Numbering}
use Rattle.lattice.proofs.ListLaws.{sum_less}

-- `op` may take things together in any order, and `unit` counts nothing.
record Gathers {A : Type 0} (unit : A) (op : A → A → A) : Type 0 where
  left : (a : A) → op unit a ≡ a
  comm : (a b : A) → op a b ≡ op b a
  assoc : (a b c : A) → op (op a b) c ≡ op a (op b c)

plus : Gathers 0 ◌+◌
plus = record { left = zero-add; comm = add_comm; assoc = add_assoc }

times : Gathers 1 ◌*◌
times = record { left = one-mul; comm = mul_comm; assoc = mul_assoc }

-- f (n - 1), .., f 0 taken together.
total : {A : Type 0} → A → (A → A → A) → ℕ → (ℕ → A) → A
total unit op zero f = unit
total unit op (suc n) f = op (f n) (total unit op n f)

module _ {A : Type 0} {unit : A} {op : A → A → A} (laws : Gathers unit op) where
  total-same : (n : ℕ) (f g : ℕ → A) → ((k : ℕ) → k < n → f k ≡ g k) → total unit op n f ≡ total unit op n g
  unfolding total
  total-same zero f g e = refl
  total-same (suc n) f g e = rw (e n (omega arith), total-same n f g (λ k h. e k (omega arith)))

  total-none : (n : ℕ) (f : ℕ → A) → ((k : ℕ) → k < n → f k ≡ unit) → total unit op n f ≡ unit
  unfolding total
  total-none zero f e = refl
  total-none (suc n) f e = rw (e n (omega arith), total-none n f (λ k h. e k (omega arith))) (laws.left unit)

  crossed : (a b c d : A) → op (op a b) (op c d) ≡ op (op a c) (op b d)
  crossed a b c d = cc (laws.assoc a b (op c d), laws.assoc b c d, laws.comm b c, laws.assoc c b d, laws.assoc a c (op b d))

  total-both : (n : ℕ) (f g : ℕ → A) → total unit op n (λ k. op (f k) (g k)) ≡ op (total unit op n f) (total unit op n g)
  unfolding total
  total-both zero f g = sym (laws.left unit)
  total-both (suc n) f g = rw (total-both n f g) (crossed (f n) (g n) _ _)

  -- Row by row or column by column.
  total-rows : (n m : ℕ) (f : ℕ → ℕ → A) → total unit op n (λ i. total unit op m (λ j. f i j)) ≡ total unit op m (λ j. total unit op n (λ i. f i j))
  unfolding total
  total-rows zero m f = sym (total-none m (λ j. unit) (λ j h. refl))
  total-rows (suc n) m f = rw (total-rows n m f) (sym (total-both m (λ j. f n j) (λ j. total unit op n (λ i. f i j))))

  -- Where only one counts.
  total-one : (n k : ℕ) → k < n → (a : A) → total unit op n (λ i. cond (eqb i k) a unit) ≡ a
  unfolding total
  total-one zero k h a = absurd (not-suc-le-zero h)
  total-one (suc n) k h a =
      ⊎_elim
      (λ (e : k ≡ n). rw (eq-eqb n k (sym e), total-none n (λ i. cond (eqb i k) a unit) (λ i l. rw (ne_eqb i k (λ g. omega arith)))) (laws.comm a unit ∙ laws.left a))
      (λ l. rw (ne_eqb n k (λ g. omega arith), total-one n k l a) (laws.left a)) (eq-or-lt_of_le (le_of_suc-le-suc h))

  -- Over positions, where only the one that holds the place p counts.
  total-at : (n : ℕ) (order position : ℕ → ℕ) (p : ℕ) → position p < n → order (position p) ≡ p → ((t : ℕ) → t < n → position (order t) ≡ t)
      → (f : ℕ → A) → total unit op n (λ t. cond (eqb p (order t)) (f (order t)) unit) ≡ f p
  total-at n order position p l e there f =
      total-same n _ _ (λ t h. same t h (ℕ_discrete p (order t))) ∙ total-one n (position p) l (f p)
    where
      same : (t : ℕ) → t < n → Dec (p ≡ order t) → cond (eqb p (order t)) (f (order t)) unit ≡ cond (eqb t (position p)) (f p) unit
      same t h (yes c) = rw (eq-eqb p (order t) c, eq-eqb t (position p) (sym (ap position c ∙ there t h))) (ap f (sym c))
      same t h (no c) = rw (ne_eqb p (order t) c, ne_eqb t (position p) (λ d. c (sym (ap order d ∙ e))))

  -- In another order.
  total-order : {n : ℕ} {order position : ℕ → ℕ} → Numbering n order position → (f g : ℕ → A) → ((t : ℕ) → t < n → g t ≡ f (order t))
      → total unit op n g ≡ total unit op n f
  total-order {n} {order} {position} nu f g e =
      total-same n _ _ (λ t h. e t h ∙ sym (total-one n (order t) (nu.inside t h) (f (order t))))
      ∙ total-rows n n (λ t p. cond (eqb p (order t)) (f (order t)) unit)
      ∙ total-same n _ _ (λ p h. total-at n order position p (nu.found p h) (nu.back p h) nu.there f)

sum-total : (n : ℕ) (f : ℕ → ℕ) → sum n f ≡ total 0 ◌+◌ n f
unfolding total sum
sum-total zero f = refl
sum-total (suc n) f = rw (sum-total n f)

product-total : (n : ℕ) (f : ℕ → ℕ) → product n f ≡ total 1 ◌*◌ n f
unfolding total product
product-total zero f = refl
product-total (suc n) f = rw (product-total n f)

-- With g by position what f is by place.
module _ {n : ℕ} {order position : ℕ → ℕ} (nu : Numbering n order position) where
  pub sum-order : (f g : ℕ → ℕ) → ((t : ℕ) → t < n → g t ≡ f (order t)) → sum n g ≡ sum n f
  sum-order f g e = rw (sum-total n g, sum-total n f) (total-order plus nu f g e)

  pub product-order : (f g : ℕ → ℕ) → ((t : ℕ) → t < n → g t ≡ f (order t)) → product n g ≡ product n f
  product-order f g e = rw (product-total n g, product-total n f) (total-order times nu f g e)

-- Code that writes n places into `order`, each with its position into `position`, and none over another, has a numbering.
module _ (n : ℕ) (order position : ℕ → ℕ) (inside : (t : ℕ) → t < n → order t < n) (there : (t : ℕ) → t < n → position (order t) ≡ t) where
  -- p stands in the order
  Stands : ℕ → Type 0
  Stands p = (position p < n) × (order (position p) ≡ p)

  stands? : (p : ℕ) → Dec (Stands p)
  unfolding Stands
  stands? p = go (dec_lt (position p) n) (ℕ_discrete (order (position p)) p)
    where
      go : Dec (position p < n) → Dec (order (position p) ≡ p) → Dec ((position p < n) × (order (position p) ≡ p))
      go (yes l) (yes e) = yes (l, e)
      go (yes l) (no c) = no (λ s. c s.1)
      go (no c) d = no (λ s. c s.0)

  -- how often it does
  often : ℕ → ℕ
  often p = total 0 ◌+◌ n (λ t. cond (eqb p (order t)) 1 0)

  once : (p : ℕ) → Stands p → often p ≡ 1
  unfolding often Stands
  once p s = total-at plus n order position p s.0 s.1 there (λ q. 1)

  never : (p : ℕ) → (Stands p → ⊥) → often p ≡ 0
  unfolding often Stands
  never p c =
      total-none plus n _ (λ t h. rw (ne_eqb p (order t)
      (λ e. let f : position p ≡ t = ap position e ∙ there t h in c (rw f h, ap order f ∙ sym e))))

  all : sum n often ≡ sum n (λ p. 1)
  unfolding often
  all =
      rw (sum-total n often, sum-total n (λ p. 1)) (sym (total-rows plus n n (λ t p. cond (eqb p (order t)) 1 0))
      ∙ total-same plus n _ _ (λ t h. total-one plus n (order t) (inside t h) 1))

  stands : (p : ℕ) → p < n → Stands p
  stands p h = go (stands? p)
    where
      most : (q : ℕ) → Dec (Stands q) → often q ≤ 1
      most q (yes s) = omega (arith, once q s)
      most q (no c) = omega (arith, never q c)

      go : Dec (Stands p) → Stands p
      go (yes s) = s
      go (no c) = absurd (omega (arith, all, sum_less n (λ q. 1) often (λ q i. most q (stands? q)) p h (omega (arith, never p c))))

  pub numbering-full : Numbering n order position
  unfolding Stands
  numbering-full = record { inside = inside; found = λ p h. (stands p h).0; there = there; back = λ p h. (stands p h).1 }
