-- What `all` finds of a test, of the numbers below n or of a list, is what `every` says of it.
use mathlib.Core.Path.{◌≡◌, refl, sym}
use mathlib.Core.Bool.{Bool, true, false}
use mathlib.Core.List.{List}
use Prim.Native.Nat.{ℕ, ◌<◌}
use native.Mathlib.Omega.{arith}
use denote.Param.Members.{Mut}
use lib.ListN.{length, get_or}
use Rattle.std.specs.Bool.{MatchBool}
use Rattle.std.specs.Option.{MatchOption}
use Rattle.std.specs.List.{range_with_len, AllWithin, HoldsAt, FoldsTo}
use Rattle.std.specs.declared.ops.Range.{Range}
use Rattle.std.specs.Iterator.{YieldsThen}
use Rattle.std.specs.Fn.{Called}
use Rattle.std.proofs.iter.Yields.{nat_range_steps}
use Rattle.std.proofs.lemmas.Iterator.{cases_from_all, YieldsList-from_range}
use Rattle.std.proofs.lemmas.List.FromFn.{length-range_with_len, get_or-range_with_len}
use Rattle.lattice.specs.Lists.{every}
use Rattle.lattice.proofs.ListLaws.{is_true, at_every}
use Rattle.lattice.proofs.Every.{every-fails}

-- A list whose items answer a test by their places.
pub answered : {A : Type 0} (xs : List A) (P Q : A → Type 0) (n : ℕ) (f : ℕ → Bool) (r : Bool) → A → length xs ≡ n
    → ((k : ℕ) (d : A) → k < n → P (get_or xs k d) → f k ≡ true)
    → ((k : ℕ) (d : A) → k < n → Q (get_or xs k d) → f k ≡ false)
    → MatchBool r (AllWithin P xs 0 (length xs)) ((k : ℕ) × (k < length xs) × HoldsAt Q xs k)
    → r ≡ every n f
answered xs P Q n f true d e y z h = sym (is_true _ (at_every n f (λ k l. rw (y k d l (h k d (omega arith) (omega arith))) tt)))
answered xs P Q n f false d e y z (k, l, h) = let m : k < n = omega arith in sym (every-fails n f k m (z k d m (h d)))

number-there : (n k d : ℕ) → k < n → get_or (range_with_len 0 n) k d ≡ k
number-there n k d l = omega (arith, get_or-range_with_len 0 n k d l)

-- The closure p, called at a number, says what the test says and stays as it is.
module _ {F : Type 0} {g : Mut F (ℕ × Unit {0}) Bool} {n : ℕ} {f : ℕ → Bool} {u : Range ℕ} {p : F} {r : Bool} where
  pub every-below :
      (xs : List ℕ) × (o : _) × (j : F) × YieldsThen nat_range_steps (record { start = 0; end = n }) xs o u × FoldsTo (λ p x q. Called g p (x, tt) true q) p xs j
      × MatchOption o (r ≡ true) (λ x. (r ≡ false) × ((h : F) × Called g j (x, tt) false h))
      → ((x : ℕ) (q : F) → Called g p (x, tt) true q → (q ≡ p) × (f x ≡ true))
      → ((x : ℕ) (q : F) → Called g p (x, tt) false q → f x ≡ false)
      → r ≡ every n f
  every-below ran passes fails =
      answered (range_with_len 0 n) (λ x. f x ≡ true) (λ x. f x ≡ false) n f r 0 (length-range_with_len 0 n)
      (λ k d l e. rw (number-there n k d l) at e)
      (λ k d l e. rw (number-there n k d l) at e)
      (cases_from_all u p r (λ x. f x ≡ true) (λ x. f x ≡ false) ran (YieldsList-from_range 0 n n refl (omega arith)) passes fails)
