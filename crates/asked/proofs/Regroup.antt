-- The tests that the code asks of one run after another, put together to the questions as they are defined.
use mathlib.Core.Path.{◌≡◌, ◌∙◌, refl, sym, ap, ap₂}
use mathlib.Core.Bool.{Bool, true, false, not, cond, ◌&&◌, ◌||◌, and_assoc, and-true, or-true}
use mathlib.Core.List.{List}
use Prim.Native.Nat.{ℕ, zero, suc, ◌+◌, ◌*◌, ◌-◌, ◌%◌, ◌≤◌, ◌<◌}
use native.Mathlib.Nat.{zero-add, add_assoc, div-add-mod'}
use native.Mathlib.Decide.{ℕ_discrete}
use native.Mathlib.Numerals.{add-one}
use native.Mathlib.Omega.{arith}
use borrow.Author.Tests.{le-leb, lt-leb, lt-ltb, le-ltb, eq-eqb, ne_eqb}
use lib.Dec.{leb, ltb, eqb, leb-zero}
use lib.ListN.{length}
use Rattle.lattice.specs.Lists.{every}
use Rattle.net.specs.declared.Counts.{Counts}
use Rattle.net.specs.Job.{byte, records, weight_records, places_by, width_at, width_layer, widths_of, first_row, segment_at, segment_sink, segment_length, sink_capacitance, segment_layer, weight_segment, weight_form, weight_whole}
use Rattle.net.specs.Questions.{in_range, question1, question24, question3, question4, zeros, sink_or_zero, question5, question6, question7, question8, question10, question23, question20}
use Rattle.job.specs.Runs.{byte_of}
use Rattle.runs.specs.Records.{byte_in_order, number_in_order, zero_bytes, byte_within, word_within, rows_in_order, range_within}
use Rattle.segments.specs.Tests.{first_segment, segment_fits}
use Rattle.weight_records.specs.Tests.{first_weight, segments_rise, unnamed_zero, weight_fits}
use Rattle.net.proofs.Records.{layer-0, layer-1}
use Rattle.asked.specs.Parts.{top_layer, repeaters_zero}
use Rattle.asked.proofs.Zeros.{zero_word, zero-words, zero-behind, weight-zero}
use Rattle.lattice.proofs.Every.{every-and, every-same}

both : {p q r s : Bool} → p ≡ r → q ≡ s → p && q ≡ r && s
both e f = ap₂ ◌&&◌ e f

-- two tests of one run
two : (n : ℕ) (f g : ℕ → Bool) {p q : Bool} → p ≡ every n f → q ≡ every n g → p && q ≡ every n (λ k. f k && g k)
two n f g e h = both e h ∙ sym (every-and n f g)

-- Where among all records the repeaters start.
abbrev pub first_repeater : Counts → ℕ
first_repeater c = c.widths + c.sizes + (c.stages + c.segments)

pub repeater-at : (c : Counts) (k : ℕ) → first_repeater c + k ≡ c.widths + c.sizes + (c.stages + c.segments + k)
repeater-at c k = add_assoc (c.widths + c.sizes) (c.stages + c.segments) k

weight-at : (c : Counts) (k : ℕ) → first_weight c + k ≡ c.widths + c.sizes + (places_by c + k)
weight-at c k = add_assoc (c.widths + c.sizes) (places_by c) k

module _ (b : List ℕ) where
  -- the length is sixteen times the count of whole records exactly where nothing is left over
  pub question1-by : (n : ℕ) → n ≡ records b → ltb 0 (length b) && eqb (16 * n) (length b) ≡ question1 b
  unfolding question1
  question1-by n e = ap (λ t. ltb 0 (length b) && t) (go (ℕ_discrete (◌%◌ (length b) 16) 0))
    where
      go : Dec (◌%◌ (length b) 16 ≡ 0) → eqb (16 * n) (length b) ≡ eqb (◌%◌ (length b) 16) 0
      go (yes z) = rw (eq-eqb (16 * n) (length b) (omega (arith, div-add-mod' (length b) 16)), eq-eqb (◌%◌ (length b) 16) 0 z)
      go (no z) = rw (ne_eqb (16 * n) (length b) (λ f. z (omega (arith, div-add-mod' (length b) 16))), ne_eqb (◌%◌ (length b) 16) 0 z)

-- Layer 1 has widths exactly where those of layer 0 are not all.
module _ (c : Counts) where
  others : widths_of c 1 ≡ c.widths - c.layer0
  others = (layer-1 c 1 (λ e. omega (arith, e))).0

  pub top-1 : c.layer0 < c.widths → 1 ≡ top_layer c
  top-1 h = let l : 0 < widths_of c 1 = omega (arith, others) in rw (lt-ltb 0 (widths_of c 1) l)

  pub top-0 : c.widths ≤ c.layer0 → 0 ≡ top_layer c
  top-0 h = let l : widths_of c 1 ≤ 0 = omega (arith, others) in rw (le-ltb 0 (widths_of c 1) l)

  pub question3-by : (s : Bool) → s ≡ in_range 1 16 c.sizes && (in_range 1 4 c.stages && (in_range 1 64 c.segments && leb c.repeaters 8))
      → in_range 1 8 c.layer0 && (leb (c.widths - c.layer0) 8 && s) ≡ question3 c
  unfolding question3
  question3-by s e = rw ((layer-0 c).0, others, leb-zero (c.widths - c.layer0), leb-zero c.repeaters, e)

-- a layer byte is at most the highest layer that has widths: it is 0 or 1, and 1 only where there are
named-layer : (z : Bool) (l : ℕ) → in_range 0 (cond z 1 0) l ≡ in_range 0 1 l && (not (eqb l 1) || z)
named-layer true l = rw (or-true (not (eqb l 1)), and-true (in_range 0 1 l))
named-layer false zero = refl
named-layer false (suc zero) = refl
named-layer false (suc (suc l)) = rw (leb-zero (suc (suc l)), lt-leb (suc (suc l)) 0 (omega arith), lt-leb (suc (suc l)) 1 (omega arith))

-- two tests of one run and two of another, in turn
in-turn : {p q : Bool} (s t u v : Bool) → p ≡ s && t → q ≡ u && v → p && q ≡ s && (u && (t && v))
in-turn s t u v e f = both e f ∙ exchange s t u v
  where
    exchange : (s t u v : Bool) → s && t && (u && v) ≡ s && (u && (t && v))
    exchange false t u v = refl
    exchange true true u v = refl
    exchange true false true v = refl
    exchange true false false v = refl

-- a test of both layers
both-layers : (f : ℕ → Bool) (p q : Bool) → p ≡ f 0 → q ≡ f 1 → p && q ≡ every 2 f
unfolding every
both-layers f p q e g = rw (sym e, sym g) (swapped p q)
  where
    swapped : (p q : Bool) → p && q ≡ q && (p && true)
    swapped true q = sym (and-true q)
    swapped false true = refl
    swapped false false = refl

module _ (c : Counts) (b : List ℕ) where
  pub question24-by : (t : ℕ) {p q : Bool} → t ≡ top_layer c → p ≡ every c.widths (byte_within b 0 2 0 1) && every (c.widths - 1) (byte_in_order b 0 2)
      → q ≡ every c.segments (byte_within b (c.widths + c.sizes + c.stages) 15 0 t) → p && q ≡ question24 c b
  unfolding question24
  question24-by t d e f =
      let known : ℕ → Bool = λ i. in_range 0 1 (segment_layer c b i) in
      let held : ℕ → Bool = λ i. not (eqb (segment_layer c b i) 1) || ltb 0 (widths_of c 1) in
      in-turn (every c.widths (λ k. in_range 0 1 (width_layer b k))) (every (c.widths - 1) (λ k. leb (width_layer b k) (width_layer b (suc k)))) (every c.segments known) (every c.segments held)
      (e ∙ both (every-same _ _ _ (λ k h. rw (zero-add k))) (every-same _ _ _ (λ k h. rw (add-one k, zero-add k, zero-add (suc k)))))
      (f ∙ every-same _ _ _ (λ i h. rw (d, add_assoc (c.widths + c.sizes) c.stages i) (named-layer (ltb 0 (widths_of c 1)) (segment_layer c b i))) ∙ every-and c.segments known held)

  pub question4-by : {n : ℕ} {p q r s t u v : Bool} → n ≡ weight_records b → p ≡ every c.layer0 (number_in_order b 0) → q ≡ every (c.widths - c.layer0) (number_in_order b c.layer0)
      → r ≡ every c.sizes (number_in_order b c.widths) → s ≡ every c.stages (number_in_order b (c.widths + c.sizes))
      → t ≡ every c.segments (number_in_order b (c.widths + c.sizes + c.stages))
      → u ≡ every c.repeaters (number_in_order b (first_repeater c)) → v ≡ every (n - 1) (segments_rise b (first_weight c))
      → p && q && (r && (s && (t && (u && v)))) ≡ question4 c b
  unfolding question4
  question4-by {n} {p} {q} a d e f g h i j =
      both (both-layers (λ l. every (widths_of c l) (λ k. eqb (byte b (width_at (first_row c l + k) + 1)) k)) p q (rw ((layer-0 c).0, (layer-0 c).1) d) (rw (others c, (layer-1 c 1 (λ z. omega (arith, z))).1) e))
      (both f (both g
      (both (h ∙ every-same _ _ _ (λ k l. rw (add_assoc (c.widths + c.sizes) c.stages k)))
      (both (i ∙ every-same _ _ _ (λ k l. rw (repeater-at c k)))
      (j ∙ rw a (every-same _ _ _ (λ k l. rw (add-one k, weight-at c k, weight-at c (suc k)))))))))

  pub repeaters-zero-by : {p q r : Bool} → p ≡ every c.repeaters (zero_bytes b (first_repeater c) 5 3)
      → q ≡ every c.repeaters (word_within b (first_repeater c) 8 0 0) → r ≡ every c.repeaters (word_within b (first_repeater c) 12 0 0)
      → p && (q && r) ≡ repeaters_zero c b
  unfolding zeros
  repeaters-zero-by d e f = two _ _ _ d (two _ _ _ e f) ∙ every-same _ _ _ (λ k m. zero-behind b (first_repeater c) k ∙ rw (repeater-at c k))

  pub question5-by : {n : ℕ} {p q r s t u v w : Bool} → n ≡ weight_records b → p ≡ every c.widths (zero_bytes b 0 3 1) → q ≡ every c.widths (word_within b 0 12 0 0)
      → r ≡ every c.sizes (zero_bytes b c.widths 2 2) → s ≡ every c.stages (word_within b (c.widths + c.sizes) 4 0 0)
      → t ≡ every c.stages (word_within b (c.widths + c.sizes) 8 0 0) → u ≡ every c.stages (word_within b (c.widths + c.sizes) 12 0 0)
      → v ≡ repeaters_zero c b → w ≡ every n (unnamed_zero b (first_weight c)) → p && q && (r && (s && (t && u) && (v && w))) ≡ question5 c b
  unfolding question5 zeros
  question5-by a d e f g h i j l =
      both (two _ _ _ d (e ∙ every-same _ _ _ (λ k m. zero_word b 0 12 k)) ∙ every-same _ _ _ (λ k m. rw (zero-add k)))
      (both f (both (two _ _ _ g (two _ _ _ h i) ∙ every-same _ _ _ (λ k m. zero-words b (c.widths + c.sizes) k)) (both j (l ∙ rw a (every-same _ _ _ (λ k m. weight-zero b c (first_weight c) k (weight-at c k)))))))

  pub question6-by : {p q r s t : Bool} → p ≡ every c.widths (word_within b 0 4 1 100) → q ≡ every c.widths (word_within b 0 8 1 100)
      → r ≡ every c.sizes (word_within b c.widths 4 1 100000) → s ≡ every c.sizes (word_within b c.widths 8 1 100000)
      → t ≡ every c.sizes (word_within b c.widths 12 0 100000) → p && q && (r && (s && t)) ≡ question6 c b
  unfolding question6
  question6-by d e f g h = both (two _ _ _ d e ∙ every-same _ _ _ (λ k l. rw (zero-add k))) (two _ _ _ f (two _ _ _ g h))

  pub question7-by : {p q r : Bool} → p ≡ every (c.layer0 - 1) (rows_in_order b 0) → q ≡ every (c.widths - c.layer0 - 1) (rows_in_order b c.layer0)
      → r ≡ every (c.sizes - 1) (rows_in_order b c.widths) → p && q && r ≡ question7 c b
  unfolding question7
  question7-by {p} {q} d e f =
      both (both-layers (λ l. every (widths_of c l - 1) (rows_in_order b (first_row c l))) p q (rw ((layer-0 c).0, (layer-0 c).1) d) (rw (others c, (layer-1 c 1 (λ z. omega (arith, z))).1) e)
      ∙ every-same 2 _ _ (λ l m. every-same _ _ _ (λ k n. rw (add-one k))))
      (f ∙ every-same _ _ _ (λ k n. rw (add-one k)))

  pub question8-by : {p : Bool} {l h : ℕ} → p ≡ every c.stages (range_within b (c.widths + c.sizes) 2 c.sizes)
      → l ≡ byte_of b (c.widths + c.sizes) 2 0 → h ≡ byte_of b (c.widths + c.sizes) 3 0 → p && eqb l h ≡ question8 c b
  unfolding question8
  question8-by d e f = both d (ap₂ eqb e f)

  pub question10-by : {p : Bool} → ((i : ℕ) → byte b i ≤ 255) → p ≡ every c.segments (segment_fits b c (c.widths + c.sizes + c.stages)) → p ≡ question10 c b
  unfolding question10 sink_or_zero
  question10-by small d =
      d
      ∙ every-same _ _ _
      (λ i l. rw (add_assoc (c.widths + c.sizes) c.stages i, weight-within (segment_at c i + 12), leb-zero (segment_sink c b i), leb-zero (sink_capacitance c b i))
      (regrouped (leb (segment_sink c b i) 1) (in_range 1 1000 (segment_length c b i)) (leb (sink_capacitance c b i) 100000) _))
    where
      weight-within : (i : ℕ) → in_range 0 255 (byte b i) ≡ true
      weight-within i = rw (leb-zero (byte b i), le-leb (byte b i) 255 (small i))

      regrouped : (s t u v : Bool) → s && (t && u) && v ≡ s && (t && (u && v))
      regrouped s t u v = rw (and_assoc, and_assoc)

  pub question23-by : {p : Bool} → p ≡ every c.repeaters (range_within b (first_repeater c) 3 c.sizes) → p ≡ question23 c b
  unfolding question23
  question23-by d = d ∙ every-same _ _ _ (λ k l. rw (repeater-at c k))

  pub question20-by : {n : ℕ} {p : Bool} → n ≡ weight_records b
      → p ≡ every n (weight_fits b (first_segment c) c.segments b (first_weight c)) → p ≡ question20 c b
  unfolding question20
  question20-by a d = d ∙ rw a (every-same _ _ _ (λ k l. rw (weight-at c k, add_assoc (c.widths + c.sizes) c.stages (weight_segment c b k))
      (and_assoc (ltb (weight_segment c b k) c.segments) (not (eqb (segment_sink c b (weight_segment c b k)) 0)) (leb (weight_form c b k) 2 && (not (eqb (weight_form c b k) 1) || leb (weight_whole c b k) 255)))))
