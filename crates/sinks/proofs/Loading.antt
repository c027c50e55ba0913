-- Loading the weights: which weight records are accepted, and what one more record makes of the table.
use Rattle.std.proofs.Common.{◌≡◌, ℕ, suc, ◌<◌, ◌≤◌, Bool, true, false, cond, ◌&&◌, ◌||◌, eqb, ◌⊎◌, List, set, sym, ap, ◌∙◌, inl, inr, arith, length-set, get_or-set_other, get_or-set_same, eq-eqb, ne_eqb}
use native.Mathlib.Decide.{ℕ_discrete}
use lib.Ieee.{Float}
use Rattle.lattice.specs.Lists.{at, every, some}
use Rattle.net.specs.declared.Counts.{Counts}
use Rattle.net.specs.Job.{weight_records, segment_weight, weight_segment, weight_form, weight_whole}
use Rattle.net.specs.Weights.{last_at, counts_as, fraction_count, fraction, weight_count, weighs, sink_weight}
use Rattle.net.specs.Questions.{question21}
use Rattle.net.specs.Checked.{WeightFits, SinkWeights}
use Rattle.sinks.specs.Loaded.{accepted, LoadedTo}

module _ (c : Counts) (b : List ℕ) (w : ℕ) where
  accepted-form : weight_form c b w ≡ 2 → accepted c b w ≡ some 256 (counts_as (fraction c b w))
  accepted-form f = rw f

  -- A record of another form is accepted, one of form 2 where its fraction counts.
  pub other-accepted : (weight_form c b w ≡ 2 → ⊥) → true ≡ accepted c b w
  other-accepted m = rw (ne_eqb (weight_form c b w) 2 m)

  pub fraction-accepted : {x y : Float} {t : Bool} → weight_form c b w ≡ 2 → y ≡ x → x ≡ fraction c b w → some 256 (counts_as y) ≡ t → t ≡ accepted c b w
  fraction-accepted {x} {y} f d e g = sym g ∙ ap (λ z. some 256 (counts_as z)) (d ∙ e) ∙ sym (accepted-form f)

  -- What a record counts, by its form.
  pub whole-counts : weight_form c b w ≡ 1 → weight_count c b w ≡ weight_whole c b w
  unfolding weight_count
  whole-counts f = rw f

  pub fraction-counts : {x y : Float} → weight_form c b w ≡ 2 → y ≡ x → x ≡ fraction c b w → fraction_count y ≡ weight_count c b w
  unfolding weight_count
  fraction-counts f d e = rw (f, d, e)

  module _ {t : List ℕ} (l : LoadedTo c b w t) where
    -- A record that has a weight puts it at its segment.
    pub loaded-set : {i k : ℕ} → c.segments ≤ 64 → WeightFits c b w → i ≡ weight_segment c b w → (weight_form c b w ≡ 1) ⊎ (weight_form c b w ≡ 2) → k ≡ weight_count c b w
        → LoadedTo c b (suc w) (set t i k)
    unfolding last_at weighs
    loaded-set {i} {k} few h e f g = record { long = length-set t i k ∙ l.long; weighs = λ j m. go j m (ℕ_discrete i j) }
      where
        named : (weight_form c b w ≡ 1) ⊎ (weight_form c b w ≡ 2) → eqb (weight_form c b w) 1 || eqb (weight_form c b w) 2 ≡ true
        named (inl z) = rw z
        named (inr z) = rw z

        go : (j : ℕ) → j < c.segments → Dec (i ≡ j)
            → at (set t i k) j ≡ cond (eqb (weight_segment c b w) j && (eqb (weight_form c b w) 1 || eqb (weight_form c b w) 2)) (weight_count c b w) (last_at w (weighs c b j) (weight_count c b) (segment_weight c b j))
        go j m (yes d) = rw (eq-eqb (weight_segment c b w) j (sym e ∙ d), named f, ← d) (get_or-set_same t i k 0 (omega (arith, d, l.long)) ∙ g)
        go j m (no d) = rw (ne_eqb (weight_segment c b w) j (λ z. d (e ∙ z))) (get_or-set_other t i j k 0 (λ z. d (sym z)) ∙ l.weighs j m)

    -- One that has none leaves the table as it is.
    pub loaded-none : (weight_form c b w ≡ 1 → ⊥) → (weight_form c b w ≡ 2 → ⊥) → LoadedTo c b (suc w) t
    unfolding last_at weighs
    loaded-none m n = record { long = l.long; weighs = λ j h. go j h (eqb (weight_segment c b w) j) }
      where
        go : (j : ℕ) → j < c.segments → (s : Bool)
            → at t j ≡ cond (s && (eqb (weight_form c b w) 1 || eqb (weight_form c b w) 2)) (weight_count c b w) (last_at w (weighs c b j) (weight_count c b) (segment_weight c b j))
        go j h true = rw (ne_eqb (weight_form c b w) 1 m, ne_eqb (weight_form c b w) 2 n) (l.weighs j h)
        go j h false = l.weighs j h

-- All records make the table of the sinks' weights.
pub all-loaded : {c : Counts} {b t : List ℕ} {n : ℕ} → n ≡ weight_records b → LoadedTo c b n t → SinkWeights c b t
unfolding sink_weight
all-loaded e l = record { long = l.long; weighs = λ i h. l.weighs i h ∙ rw e }

-- Question 21 asks whether each record is accepted.
pub asks-all : (c : Counts) (b : List ℕ) {n : ℕ} → n ≡ weight_records b → every n (accepted c b) ≡ question21 c b
unfolding question21
asks-all c b e = rw e
