-- Where the run of each kind of record ends: question 2 passes exactly where the runs of the six kinds, one behind another, cover all records, and
-- then the count of a kind is the length of its run; all widths are in the first.
use mathlib.Core.Path.{◌≡◌, ◌∙◌, refl, sym}
use mathlib.Core.Bool.{Bool, true, false, ◌&&◌, true≢false}
use mathlib.Core.List.{List}
use Prim.Native.Nat.{ℕ, suc, ◌-◌, ◌≤◌, ◌<◌}
use native.Mathlib.Decide.{dec_le}
use native.Mathlib.Omega.{arith}
use borrow.Author.Tests.{ne_eqb, eq-eqb}
use lib.Dec.{T, leb, eqb, leb→le, le→leb}
use Rattle.lattice.specs.Lists.{every}
use Rattle.lattice.proofs.ListLaws.{is_true, and_T, T_and, every-at, at_every}
use Rattle.net.specs.declared.Counts.{Counts}
use Rattle.net.specs.Job.{records, kind, count_if, count, count_layer0, width_layer}
use Rattle.net.specs.Questions.{in_range, question2}
use Rattle.net.proofs.Records.{never-falls, counts-none, counts_each, counts-alike}
use Rattle.net.proofs.Questions.{in-range}
use Rattle.kinds.specs.declared.RunEnds.{RunEnds}
use Rattle.kinds.specs.Kinds.{Kinds, RunEnd, EndsOf}
use Rattle.kinds.specs.Counted.{layer0_in, counts_to}

-- What question 2 gives, of all records and so of the first n.
pub kinds-known : (b : List ℕ) {n : ℕ} → n ≤ records b → question2 b ≡ true → Kinds b n
unfolding question2
kinds-known b m e =
    let a = and_T (every (records b) (λ k. in_range 1 6 (kind b k))) (every (records b - 1) (λ k. leb (kind b k) (kind b (suc k)))) (rw e tt) in
    record {
      known = λ k h. in-range 1 6 (kind b k) (every-at (records b) (λ k. in_range 1 6 (kind b k)) a.0 k (omega arith));
      order = λ j k i l. never-falls (kind b) (records b) (λ k h. leb→le _ _ (every-at (records b - 1) (λ k. leb (kind b k) (kind b (suc k))) a.1 k h)) j k i (omega arith);
    }

-- What gives question 2.
kinds-pass : (b : List ℕ) → Kinds b (records b) → true ≡ question2 b
unfolding question2
kinds-pass b h =
    let known : ℕ → Bool = λ k. in_range 1 6 (kind b k) in
    let order : ℕ → Bool = λ k. leb (kind b k) (kind b (suc k)) in
    let least : (k : ℕ) → k < records b → T (leb 1 (kind b k)) = λ k l. le→leb 1 (kind b k) (h.known k l).0 in
    let most : (k : ℕ) → k < records b → T (leb (kind b k) 6) = λ k l. le→leb (kind b k) 6 (h.known k l).1 in
    let a = at_every (records b) known (λ k l. T_and (leb 1 (kind b k)) (leb (kind b k) 6) (least k l) (most k l)) in
    let o = at_every (records b - 1) order (λ k l. le→leb (kind b k) (kind b (suc k)) (h.order k (suc k) (omega arith) (omega arith))) in
    rw (is_true (every (records b) known) a, is_true (every (records b - 1) order) o)

-- Of n records the first r are of kinds 1 to m and never fall; and where the kinds of all are 1 to 6 and never fall, the others are above m.
record Front (b : List ℕ) (n m r : ℕ) : Type 0 where
  within : r ≤ n
  kinds : Kinds b r
  before : (k : ℕ) → k < r → kind b k ≤ m
  behind : Kinds b n → (k : ℕ) → r ≤ k → k < n → m < kind b k

front-none : {b : List ℕ} {n : ℕ} → Front b n 0 0
front-none =
    record {
      within = omega arith;
      kinds = record { known = λ k l. absurd (omega arith); order = λ j k i l. absurd (omega arith) };
      before = λ k l. absurd (omega arith);
      behind = λ h k i l. (h.known k l).0;
    }

-- The run of the next kind lengthens it: were the record where that run stops of a kind up to the next one, it would be of that kind.
module _ {b : List ℕ} {n m p q : ℕ} (x : Front b n m p) (y : RunEnd b n (suc m) p q) where
  upto_next : (k : ℕ) → k < q → Dec (k < p) → kind b k ≤ suc m
  upto_next k l (yes a) = omega (arith, x.before k a)
  upto_next k l (no a) = omega (arith, y.run.alike k (omega arith) l)

  known_next : suc m ≤ 6 → (k : ℕ) → k < q → Dec (k < p) → (1 ≤ kind b k) × (kind b k ≤ 6)
  known_next h k l (yes a) = x.kinds.known k a
  known_next h k l (no a) = let e = y.run.alike k (omega arith) l in (omega (arith, e), omega (arith, e))

  order-next : (j k : ℕ) → j ≤ k → k < q → Dec (k < p) → kind b j ≤ kind b k
  order-next j k i l (yes a) = x.kinds.order j k i a
  order-next j k i l (no a) = omega (arith, upto_next j (omega arith) (dec_le (suc j) p), y.run.alike k (omega arith) l)

  behind-next : Kinds b n → (k : ℕ) → q ≤ k → k < n → suc m < kind b k
  behind-next h k i l = go (dec_le (suc (suc m)) (kind b k))
    where
      go : Dec (suc m < kind b k) → suc m < kind b k
      go (yes a) = a
      go (no a) =
          let o = h.order q k i l in
          let v = x.behind h q y.run.starts (omega arith) in
          absurd (y.stops (omega arith) (omega (arith, o, v, a)))

  front-next : suc m ≤ 6 → Front b n (suc m) q
  front-next h =
      record {
        within = y.run.within;
        kinds = record { known = λ k l. known_next h k l (dec_le (suc k) p); order = λ j k i l. order-next j k i l (dec_le (suc k) p) };
        before = λ k l. upto_next k l (dec_le (suc k) p);
        behind = behind-next;
      }

  -- what lies between the ends of two kinds is the run of one
  counts-run : Kinds b n → q - p ≡ count b (suc m) n
  unfolding count_if
  counts-run h =
      let is : ℕ → Bool = λ r. eqb (kind b r) (suc m) in
      let f : count b (suc m) p ≡ 0 = counts-none _ 0 p (omega arith) (λ k i l. ne_eqb (kind b k) (suc m) (λ e. omega (arith, x.before k l, e))) in
      let g = counts_each is p q y.run.starts (λ k i l. eq-eqb (kind b k) (suc m) (y.run.alike k i l)) in
      let o = counts-none is q n y.run.within (λ k i l. ne_eqb (kind b k) (suc m) (λ e. omega (arith, behind-next h k i l, e))) in
      omega (arith, f, g, o)

module _ {b : List ℕ} {n : ℕ} {r : RunEnds} (a : EndsOf b n r) where
  front-1 : Front b n 1 r.widths
  front-1 = front-next front-none a.widths (omega arith)

  front-2 : Front b n 2 r.sizes
  front-2 = front-next front-1 a.sizes (omega arith)

  front-3 : Front b n 3 r.stages
  front-3 = front-next front-2 a.stages (omega arith)

  front-4 : Front b n 4 r.segments
  front-4 = front-next front-3 a.segments (omega arith)

  front-5 : Front b n 5 r.repeaters
  front-5 = front-next front-4 a.repeaters (omega arith)

  front-6 : Front b n 6 r.weights
  front-6 = front-next front-5 a.weights (omega arith)

  -- a record behind the last run would be of a kind above 6
  all-covered : Kinds b n → r.weights ≡ n
  all-covered h = go (dec_le n r.weights)
    where
      go : Dec (n ≤ r.weights) → r.weights ≡ n
      go (yes l) = omega (arith, front-6.within)
      go (no l) =
          let a = front-6.behind h r.weights (omega arith) (omega arith) in
          absurd (omega (arith, a, (h.known r.weights (omega arith)).1))

  -- Question 2 passes exactly where the runs cover all records.
  pub covers-all : n ≡ records b → eqb r.weights n ≡ question2 b
  covers-all e = go (question2 b) refl
    where
      go : (p : Bool) → p ≡ question2 b → eqb r.weights n ≡ p
      go true f = eq-eqb r.weights n (all-covered (rw (sym e) at (kinds-known b {n = records b} (omega arith) (sym f))))
      go false f = ne_eqb r.weights n (λ d. true≢false (kinds-pass b (rw (d ∙ e) at front-6.kinds) ∙ sym f))

  -- behind the widths there is none, so the widths of layer 0 are those among the first records
  layer0-run : Kinds b n → layer0_in b r.widths ≡ count_layer0 b n
  layer0-run h =
      let is : ℕ → Bool = λ k. eqb (kind b k) 1 && eqb (width_layer b k) 0 in
      let e = counts-alike (λ k. eqb (width_layer b k) 0) is r.widths (λ k l. rw (eq-eqb (kind b k) 1 (a.widths.run.alike k (omega arith) l))) in
      e
      ∙ sym (counts-none is r.widths n front-1.within (λ k i l. rw (ne_eqb (kind b k) 1 (λ d. omega (arith, front-1.behind h k i l, d)))))

  pub counts-runs : Kinds b n → {v : ℕ} → v ≡ layer0_in b r.widths
      → ◌≡◌ {A = Counts}
      (record {
        widths = r.widths;
        layer0 = v;
        sizes = r.sizes - r.widths;
        stages = r.stages - r.sizes;
        segments = r.segments - r.stages;
        repeaters = r.repeaters - r.segments;
      })
      (counts_to b n)
  counts-runs h {v} u =
      let e : r.widths ≡ count b 1 n = omega (arith, counts-run front-none a.widths h) in
      let d : v ≡ count_layer0 b n = u ∙ layer0-run h in
      let f : r.sizes - r.widths ≡ count b 2 n = counts-run front-1 a.sizes h in
      let i : r.stages - r.sizes ≡ count b 3 n = counts-run front-2 a.stages h in
      let j : r.segments - r.stages ≡ count b 4 n = counts-run front-3 a.segments h in
      let k : r.repeaters - r.segments ≡ count b 5 n = counts-run front-4 a.repeaters h in
      cc

  -- the records behind the repeaters are the weight records
  pub counts-weights : Kinds b n → n - r.repeaters ≡ count b 6 n
  counts-weights h = omega (arith, all-covered h, counts-run front-5 a.weights h)
