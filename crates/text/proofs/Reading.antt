-- Laws of reading: what is spelled reads back, and what is read was spelled.
use mathlib.Core.Bool.{Bool, true, false, cond, ◌&&◌}
use mathlib.Core.Path.{◌≡◌, refl, sym, ◌∙◌}
use mathlib.Core.List.{List, [], ◌∷◌, ◌++◌, append_assoc}
use Prim.Native.Nat.{ℕ, suc, ◌+◌, ◌-◌, ◌*◌, ◌/◌, ◌%◌, ◌≤◌, ◌<◌}
use native.Mathlib.Omega.{arith}
use lib.Dec.{leb, ltb}
use borrow.Author.Tests.{lt-ltb, le-leb, ltb-true, leb-true}
use Rattle.text.specs.Spelling.{spelling}
use Rattle.text.specs.Reading.{digit, read_more, read_number, NoDigit}
use Rattle.text.specs.Reading.Reading.{found, refused}
use Rattle.text.proofs.Spelling.{spelling-one, spelling-more, spelling-digit, by_digits}

digit-of : (d : ℕ) → d < 10 → digit (48 + d) ≡ d
digit-of d h =
    let e : 48 + d - 48 ≡ d = omega arith in
    rw (le-leb 48 (48 + d) (omega arith), le-leb (48 + d) 57 (omega arith), e)

digit-back : (c : ℕ) → digit c < 10 → 48 + digit c ≡ c
digit-back c = go (leb 48 c) refl
  where
    go : (a : Bool) → leb 48 c ≡ a → cond (a && leb c 57) (c - 48) 10 < 10 → 48 + cond (a && leb c 57) (c - 48) 10 ≡ c
    go false e h = omega arith
    go true e h = on (leb c 57) h
      where
        on : (b : Bool) → cond b (c - 48) 10 < 10 → 48 + cond b (c - 48) 10 ≡ c
        on true h = omega (arith, leb-true 48 c e)
        on false h = omega arith

-- a refusal is no reading
never : {A : Type 0} (v : ℕ) (t : List ℕ) → refused ≡ found v t → A
never v t e =
    let z : ◌≡◌ {A = ℕ} 0 1 = cc in
    absurd (omega arith)

-- a spelling in front is read to its last digit
read-front : (limit n : ℕ) (t : List ℕ) → n < limit → read_number limit (spelling n ++ t) ≡ read_more limit n t
unfolding read_number read_more
read-front limit = by_digits (λ n. (t : List ℕ) → n < limit → read_number limit (spelling n ++ t) ≡ read_more limit n t) one more
  where
    one : (n : ℕ) → n < 10 → (t : List ℕ) → n < limit → read_number limit (spelling n ++ t) ≡ read_more limit n t
    one n s t h = rw (spelling-one n s, digit-of n s, lt-ltb n 10 s, lt-ltb n limit h)

    more : (n : ℕ) → 10 ≤ n → ((t : List ℕ) → n / 10 < limit → read_number limit (spelling (n / 10) ++ t) ≡ read_more limit (n / 10) t)
        → (t : List ℕ) → n < limit → read_number limit (spelling n ++ t) ≡ read_more limit n t
    more n s p t h =
        let e : 10 * (n / 10) + n % 10 ≡ n = omega arith in
        rw (spelling-more n s, append_assoc)
        (p ((48 + n % 10) ∷ t) (omega arith)
        ∙ rw (digit-of (n % 10) (omega arith), lt-ltb (n % 10) 10 (omega arith), lt-ltb 0 (n / 10) (omega arith), e, lt-ltb n limit h))

-- A spelling that no digit follows reads back.
pub number-reads : (limit n : ℕ) (t : List ℕ) → n < limit → NoDigit t → read_number limit (spelling n ++ t) ≡ found n t
unfolding read_more
number-reads limit n t h s = read-front limit n t h ∙ stops t s
  where
    stops : (t : List ℕ) → NoDigit t → read_more limit n t ≡ found n t
    stops [] s = refl
    stops (c ∷ t) s = rw s

-- No two numbers have one spelling.
pub spelling-injective : (m n : ℕ) → spelling m ≡ spelling n → m ≡ n
spelling-injective m n e =
    let p = number-reads (suc (m + n)) m [] (omega arith) tt in
    let q = number-reads (suc (m + n)) n [] (omega arith) tt in
    let s : spelling m ++ [] ≡ spelling n ++ [] = rw e in
    cc

-- what is read on behind a number was spelled
more-only : (limit v : ℕ) (t : List ℕ) (n : ℕ) (r : List ℕ) → v < limit → read_more limit v t ≡ found n r
    → (spelling v ++ t ≡ spelling n ++ r) × (n < limit)
unfolding read_more
more-only limit v [] n r h e =
    let p : v ≡ n = cc in
    let q : ◌≡◌ {A = List ℕ} [] r = cc in
    (rw (p, q), omega arith)
more-only limit v (c ∷ t) n r h e =
    go (ltb (digit c) 10) refl (ltb 0 v) refl (ltb (10 * v + digit c) limit) refl (λ l. more-only limit (10 * v + digit c) t n r l) e
  where
    go : (a : Bool) → ltb (digit c) 10 ≡ a → (b : Bool) → ltb 0 v ≡ b → (d : Bool) → ltb (10 * v + digit c) limit ≡ d
        → (10 * v + digit c < limit → read_more limit (10 * v + digit c) t ≡ found n r → (spelling (10 * v + digit c) ++ t ≡ spelling n ++ r) × (n < limit))
        → cond a (cond (b && d) (read_more limit (10 * v + digit c) t) refused) (found v (c ∷ t)) ≡ found n r
        → (spelling v ++ c ∷ t ≡ spelling n ++ r) × (n < limit)
    go true ea true eb true ed more f =
        let s = ltb-true (digit c) 10 ea in
        let m = more (ltb-true (10 * v + digit c) limit ed) f in
        let k : spelling (10 * v + digit c) ++ t ≡ spelling v ++ c ∷ t =
        rw (spelling-digit v (digit c) (ltb-true 0 v eb) s, append_assoc, digit-back c s) in
        (sym k ∙ m.0, m.1)
    go true ea true eb false ed more f = never n r f
    go true ea false eb d ed more f = never n r f
    go false ea b eb d ed more f =
        let p : v ≡ n = cc in
        let q : c ∷ t ≡ r = cc in
        (rw (p, q), omega arith)

-- A number that is read was spelled.
pub number-only : (limit : ℕ) (t : List ℕ) (n : ℕ) (r : List ℕ) → read_number limit t ≡ found n r → (t ≡ spelling n ++ r) × (n < limit)
unfolding read_number
number-only limit [] n r e = never n r e
number-only limit (c ∷ t) n r e = go (ltb (digit c) 10) refl (ltb (digit c) limit) refl e
  where
    go : (a : Bool) → ltb (digit c) 10 ≡ a → (b : Bool) → ltb (digit c) limit ≡ b → cond (a && b) (read_more limit (digit c) t) refused ≡ found n r
        → (c ∷ t ≡ spelling n ++ r) × (n < limit)
    go true ea true eb f =
        let s = ltb-true (digit c) 10 ea in
        let m = more-only limit (digit c) t n r (ltb-true (digit c) limit eb) f in
        let k : spelling (digit c) ++ t ≡ c ∷ t = rw (spelling-one (digit c) s, digit-back c s) in
        (sym k ∙ m.0, m.1)
    go true ea false eb f = never n r f
    go false ea b eb f = never n r f
