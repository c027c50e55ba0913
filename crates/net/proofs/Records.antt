-- The count of a job's records: sixteen times it is the length wherever question 1 passes; where question 2 passes too, each record is counted in
-- its kind. The laws of counting by a test, and the tables of the two layers.
use mathlib.Core.Path.{◌≡◌, refl}
use mathlib.Core.Bool.{Bool, true, false, cond, ◌&&◌}
use mathlib.Core.List.{List}
use Prim.Native.Nat.{ℕ, zero, suc, ◌+◌, ◌*◌, ◌-◌, ◌%◌, ◌≤◌, ◌<◌}
use native.Mathlib.Nat.{div-add-mod'}
use native.Mathlib.Decide.{dec_le}
use native.Mathlib.Omega.{arith}
use borrow.Author.Tests.{le-leb, lt-leb, ne_eqb}
use lib.Dec.{leb, ltb, eqb, lit≤, eqb→eq}
use lib.ListN.{length}
use Rattle.lattice.specs.Lists.{every}
use Rattle.lattice.proofs.ListLaws.{is_true, and_T, every-at}
use Rattle.net.specs.Job.{records, kind, width_layer, count_if, count, count_layer0, counts_of, weight_records, widths_of, first_row}
use Rattle.net.specs.declared.Counts.{Counts}
use Rattle.net.specs.Questions.{in_range, question1, question2}
use Rattle.net.specs.Checked.{Held}

-- Wherever question 1 passes, sixteen times the count of records is the length.
pub records-fill : (b : List ℕ) → question1 b ≡ true → 16 * records b ≡ length b
unfolding question1
records-fill b e =
    let a = and_T (ltb 0 (length b)) (eqb (◌%◌ (length b) 16) 0) (rw e tt) in
    omega (arith, eqb→eq (◌%◌ (length b) 16) 0 a.1, div-add-mod' (length b) 16)

-- A record is of one of the six kinds, or of none.
one-kind : (k : ℕ) → cond (eqb k 1) 1 0 + cond (eqb k 2) 1 0 + cond (eqb k 3) 1 0 + cond (eqb k 4) 1 0 + cond (eqb k 5) 1 0 + cond (eqb k 6) 1 0 ≡ cond (in_range 1 6 k) 1 0
one-kind zero = refl
one-kind (suc zero) = refl
one-kind (suc (suc zero)) = refl
one-kind (suc (suc (suc zero))) = refl
one-kind (suc (suc (suc (suc zero)))) = refl
one-kind (suc (suc (suc (suc (suc zero))))) = refl
one-kind (suc (suc (suc (suc (suc (suc zero)))))) = refl
one-kind (suc (suc (suc (suc (suc (suc (suc k))))))) =
    let n : ℕ = suc (suc (suc (suc (suc (suc (suc k)))))) in
    rw (
      ne_eqb n 1 (λ e. omega arith),
      ne_eqb n 2 (λ e. omega arith),
      ne_eqb n 3 (λ e. omega arith),
      ne_eqb n 4 (λ e. omega arith),
      ne_eqb n 5 (λ e. omega arith),
      ne_eqb n 6 (λ e. omega arith),
      le-leb 1 n (omega arith),
      lt-leb n 6 (omega arith),
    )
    refl

at_most_one : (t : Bool) → cond t 1 0 ≤ 1
at_most_one true = lit≤ tt
at_most_one false = lit≤ tt

pub counts-small : (b : List ℕ) (n : ℕ) → count b 1 n + count b 2 n + count b 3 n + count b 4 n + count b 5 n + count b 6 n ≤ n
unfolding count_if
counts-small b zero = lit≤ tt
counts-small b (suc n) = omega (arith, counts-small b n, one-kind (kind b n), at_most_one (in_range 1 6 (kind b n)))

-- A number that no step lets fall, up to the place n - 1, is nowhere above a later one.
pub never-falls : (f : ℕ → ℕ) (n : ℕ) → ((k : ℕ) → k < n - 1 → f k ≤ f (suc k)) → (j k : ℕ) → j ≤ k → k < n → f j ≤ f k
never-falls f n s j zero l h = let e : j ≡ 0 = omega arith in rw e (omega arith)
never-falls f n s j (suc k) l h = go (dec_le j k) (λ m. never-falls f n s j k m (omega arith))
  where
    go : Dec (j ≤ k) → (j ≤ k → f j ≤ f k) → f j ≤ f (suc k)
    go (yes m) r = omega (arith, r m, s k (omega arith))
    go (no m) r = let e : j ≡ suc k = omega arith in rw e (omega arith)

-- From record i to record j a test is passed by none, or by each.
pub counts-none : (f : ℕ → Bool) (i j : ℕ) → i ≤ j → ((k : ℕ) → i ≤ k → k < j → f k ≡ false) → count_if f j ≡ count_if f i
unfolding count_if
counts-none f i zero h g = let e : i ≡ 0 = omega arith in rw e refl
counts-none f i (suc j) h g = go (dec_le i j) (λ l. counts-none f i j l (λ k a c. g k a (omega arith)))
  where
    go : Dec (i ≤ j) → (i ≤ j → count_if f j ≡ count_if f i) → cond (f j) 1 0 + count_if f j ≡ count_if f i
    go (yes l) r = rw (g j l (omega arith)) (omega (arith, r l))
    go (no l) r = let e : i ≡ suc j = omega arith in rw e refl

pub counts_each : (f : ℕ → Bool) (i j : ℕ) → i ≤ j → ((k : ℕ) → i ≤ k → k < j → f k ≡ true) → count_if f j + i ≡ j + count_if f i
unfolding count_if
counts_each f i zero h g = let e : i ≡ 0 = omega arith in rw e (omega arith)
counts_each f i (suc j) h g = go (dec_le i j) (λ l. counts_each f i j l (λ k a c. g k a (omega arith)))
  where
    go : Dec (i ≤ j) → (i ≤ j → count_if f j + i ≡ j + count_if f i) → cond (f j) 1 0 + count_if f j + i ≡ suc j + count_if f i
    go (yes l) r = rw (g j l (omega arith)) (omega (arith, r l))
    go (no l) r = let e : i ≡ suc j = omega arith in rw e (omega arith)

-- Two tests that agree count the same, and more records count no fewer.
pub counts-alike : (f g : ℕ → Bool) (n : ℕ) → ((k : ℕ) → k < n → f k ≡ g k) → count_if f n ≡ count_if g n
unfolding count_if
counts-alike f g zero e = refl
counts-alike f g (suc n) e = rw (e n (omega arith)) (omega (arith, counts-alike f g n (λ k h. e k (omega arith))))

pub counts-grow : (f : ℕ → Bool) (i j : ℕ) → i ≤ j → count_if f i ≤ count_if f j
unfolding count_if
counts-grow f i zero h = let e : i ≡ 0 = omega arith in rw e (omega arith)
counts-grow f i (suc j) h = go (dec_le i j) (λ l. counts-grow f i j l)
  where
    go : Dec (i ≤ j) → (i ≤ j → count_if f i ≤ count_if f j) → count_if f i ≤ cond (f j) 1 0 + count_if f j
    go (yes l) r = omega (arith, r l)
    go (no l) r = let e : i ≡ suc j = omega arith in rw e (omega arith)

-- The widths of layer 0 are among the widths.
no_more : (s t : Bool) → cond (s && t) 1 0 ≤ cond s 1 0
no_more true t = at_most_one t
no_more false t = lit≤ tt

pub layer0-small : (b : List ℕ) (n : ℕ) → count_layer0 b n ≤ count b 1 n
unfolding count_if
layer0-small b zero = lit≤ tt
layer0-small b (suc n) = omega (arith, layer0-small b n, no_more (eqb (kind b n) 1) (eqb (width_layer b n) 0))

pub counts-held : (b : List ℕ) → Held (counts_of b) b
unfolding counts_of
counts-held b =
    record {
      all = omega (arith, counts-small b (records b), div-add-mod' (length b) 16);
      layers = layer0-small b (records b);
    }

-- The weight records are there too.
pub weights-held : (b : List ℕ) → 16 * ((counts_of b).widths + (counts_of b).sizes + (counts_of b).stages + (counts_of b).segments + (counts_of b).repeaters + weight_records b) ≤ length b
unfolding counts_of
weights-held b = omega (arith, counts-small b (records b), div-add-mod' (length b) 16)

-- The tables of the two layers.
pub layer-0 : (c : Counts) → (widths_of c 0 ≡ c.layer0) × (first_row c 0 ≡ 0)
unfolding widths_of first_row
layer-0 c = (refl, refl)

pub layer-1 : (c : Counts) (l : ℕ) → (l ≡ 0 → ⊥) → (widths_of c l ≡ c.widths - c.layer0) × (first_row c l ≡ c.layer0)
unfolding widths_of first_row
layer-1 c l n = (rw (ne_eqb l 0 n), rw (ne_eqb l 0 n))

-- Each row of a layer is one of the widths.
pub row-held : {c : Counts} {b : List ℕ} → Held c b → (l k : ℕ) → k < widths_of c l → first_row c l + k < c.widths
row-held {c} h zero k n = omega (arith, h.layers, (layer-0 c).0, (layer-0 c).1)
row-held {c} h (suc l) k n = let e = layer-1 c (suc l) (λ z. omega (arith, z)) in omega (arith, e.0, e.1)

-- Where every record is of one of the six kinds, each is counted.
counts_all : (b : List ℕ) (n : ℕ) → ((r : ℕ) → r < n → in_range 1 6 (kind b r) ≡ true) → count b 1 n + count b 2 n + count b 3 n + count b 4 n + count b 5 n + count b 6 n ≡ n
unfolding count_if
counts_all b zero f = refl
counts_all b (suc n) f =
    let k : ◌≡◌ {A = ℕ} (cond (in_range 1 6 (kind b n)) 1 0) 1 = rw (f n (omega arith)) refl in
    omega (arith, counts_all b n (λ r h. f r (omega arith)), one-kind (kind b n), k)

-- Wherever questions 1 and 2 pass, sixteen times the counts by kind, added up, is the length: no record is left out.
pub counts-fill : (b : List ℕ) → question1 b ≡ true → question2 b ≡ true
    → 16 * ((counts_of b).widths + (counts_of b).sizes + (counts_of b).stages + (counts_of b).segments + (counts_of b).repeaters + weight_records b) ≡ length b
unfolding question2 counts_of
counts-fill b e f =
    let a = and_T (every (records b) (λ r. in_range 1 6 (kind b r))) (every (records b - 1) (λ r. leb (kind b r) (kind b (suc r)))) (rw f tt) in
    let n = counts_all b (records b) (λ r h. is_true _ (every-at (records b) (λ s. in_range 1 6 (kind b s)) a.0 r h)) in
    omega (arith, n, records-fill b e)
