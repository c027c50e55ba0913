-- Loads gathered at nodes, from the last place to the first: one place more.
use mathlib.Core.Path.{◌≡◌, refl, sym, ap, ◌∙◌}
use mathlib.Core.Bool.{Bool, true, false, cond}
use mathlib.Core.List.{List}
use Prim.Native.Nat.{ℕ, suc, ◌+◌, ◌*◌, ◌≤◌, ◌<◌}
use native.Mathlib.Decide.{ℕ_discrete}
use native.Mathlib.Omega.{arith}
use borrow.Author.Tests.{eq-eqb, ne_eqb}
use lib.Dec.{eqb}
use lib.ListN.{length, set, length-set}
use lib.Seq.{get_or-set_same, get_or-set_other}
use Rattle.lattice.specs.Lists.{at, sum}
use Rattle.place.specs.Held.{gathered_from, GatheredFrom}
use Rattle.place.proofs.After.{after_none, after-step, after_same, after-whole, after_small}

module _ (n : ℕ) (node : ℕ → ℕ) where
  abbrev term : (ℕ → ℕ) → ℕ → ℕ → ℕ
  term f r q = cond (eqb (node q) r) (f q) 0

  -- with place p, where f and g agree after it
  gathered-more : (f g : ℕ → ℕ) (p r : ℕ) → p < n → ((q : ℕ) → p < q → q < n → f q ≡ g q)
      → gathered_from n node g p r ≡ gathered_from n node f (suc p) r + cond (eqb (node p) r) (g p) 0
  gathered-more f g p r h e =
      after-step n (term g r) p h
      ∙ ap (λ (s : ℕ). s + cond (eqb (node p) r) (g p) 0) (after_same n (term g r) (term f r) (suc p) (λ q l m. ap (λ (v : ℕ). cond (eqb (node q) r) v 0) (sym (e q l m))))

  -- the places before p hang elsewhere
  pub gathered-all : (f : ℕ → ℕ) (p r : ℕ) → ((q : ℕ) → q < p → q < n → node q ≡ r → ⊥) → sum n (λ q. cond (eqb (node q) r) (f q) 0) ≡ gathered_from n node f p r
  gathered-all f p r none = after-whole n (term f r) p (λ q h m. rw (ne_eqb (node q) r (none q h m)))

  -- n places of at most b
  pub gathered-small : (f : ℕ → ℕ) (p r b : ℕ) → ((q : ℕ) → p ≤ q → q < n → f q ≤ b) → gathered_from n node f p r ≤ n * b
  gathered-small f p r b most = after_small n (term f r) p b (λ q h m. go (eqb (node q) r) (f q) (most q h m))
    where
      go : (t : Bool) (v : ℕ) → v ≤ b → cond t v 0 ≤ b
      go true v h = h
      go false v h = omega arith

  pub gathering-start : (f : ℕ → ℕ) (gathered : List ℕ) → n < length gathered → ((r : ℕ) → r ≤ n → at gathered r ≡ 0) → GatheredFrom n node f n gathered
  gathering-start f gathered h z = record { long = h; held = λ r l. z r l ∙ sym (after_none n (term f r)) }

  module _ (f g : ℕ → ℕ) (p : ℕ) (gathered : List ℕ) (few : p < n) (same : (q : ℕ) → p < q → q < n → f q ≡ g q) (i : GatheredFrom n node f (suc p) gathered) where
    -- the place shows nothing
    pub gathering-skip : g p ≡ 0 → GatheredFrom n node g p gathered
    gathering-skip z =
        record {
          long = i.long;
          held = λ r l. i.held r l ∙ sym (gathered-more f g p r few same ∙ rw z (go (eqb (node p) r) (gathered_from n node f (suc p) r)));
        }
      where
        go : (b : Bool) (v : ℕ) → v + cond b 0 0 ≡ v
        go true v = omega arith
        go false v = omega arith

    -- its load is put to what its node has
    pub gathering-step : (v : ℕ) → node p ≤ n → v ≡ at gathered (node p) + g p → GatheredFrom n node g p (set gathered (node p) v)
    gathering-step v m e =
        record {
          long = rw (length-set gathered (node p) v) i.long;
          held = λ r l. go r l (ℕ_discrete r (node p)) ∙ sym (gathered-more f g p r few same);
        }
      where
        go : (r : ℕ) → r ≤ n → Dec (r ≡ node p) → at (set gathered (node p) v) r ≡ gathered_from n node f (suc p) r + cond (eqb (node p) r) (g p) 0
        go r l (yes d) =
            rw (d, eq-eqb (node p) (node p) refl) (get_or-set_same gathered (node p) v 0 (omega (arith, i.long)) ∙ e ∙ ap (λ (w : ℕ). w + g p) (i.held (node p) m))
        go r l (no d) =
            rw (ne_eqb (node p) r (λ k. d (sym k))) (get_or-set_other gathered (node p) r v 0 d ∙ i.held r l ∙ omega arith)
