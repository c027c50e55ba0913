-- Laws of writing: one list behind another, and what a loop has written.
use mathlib.Core.Path.{◌≡◌, refl, sym, ap, ◌∙◌}
use mathlib.Core.List.{List, [], ◌∷◌, ◌++◌}
use Prim.Native.Nat.{ℕ, suc, ◌+◌}
use native.Mathlib.Nat.{add-zero}
use native.Mathlib.Omega.{arith}
use lib.ListN.{length, set, length-append}
use lib.Seq.{sets, length-sets}
use Rattle.text.specs.Writing.{Wrote, Puts}
use Rattle.text.specs.declared.Text.{Text}

-- one list written behind another
pub sets-append : (xs ys b : List ℕ) (i : ℕ) → sets b i (xs ++ ys) ≡ sets (sets b i xs) (i + length xs) ys
sets-append [] ys b i = rw (add-zero i)
sets-append (a ∷ xs) ys b i =
    let e : i + length (a ∷ xs) ≡ suc i + length xs = omega arith in
    rw e (sets-append xs ys (set b i a) (suc i))

-- a buffer keeps its length
pub wrote-long : {b b' xs : List ℕ} {i j : ℕ} → Wrote b i xs b' j → length b' ≡ length b
wrote-long {b} {b'} {xs} {i} p = ap length p.buffer ∙ length-sets b i xs

pub wrote_then : {b b' b'' xs ys : List ℕ} {i j k : ℕ} → Wrote b i xs b' j → Wrote b' j ys b'' k → Wrote b i (xs ++ ys) b'' k
wrote_then {b} {b'} {b''} {xs} {ys} {i} {j} {k} p q =
    record {
      buffer = q.buffer ∙ rw (p.buffer, p.position) (sym (sets-append xs ys b i));
      position = rw length-append (omega (arith, p.position, q.position));
    }

-- nothing put yet
pub puts_none : (t : Text) → Puts t [] t
puts_none t = record { same = refl; wrote = record { buffer = refl; position = omega arith } }

-- one list put behind another
pub puts_then : {t u v : Text} {xs ys : List ℕ} → Puts t xs u → Puts u ys v → Puts t (xs ++ ys) v
puts_then p q = record { same = q.same ∙ p.same; wrote = wrote_then p.wrote q.wrote }
