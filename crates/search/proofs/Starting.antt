-- Where a search starts: x is the lower bound, and no free place is sized yet.
use mathlib.Core.Path.{◌≡◌, refl, sym, ap, ◌∙◌}
use mathlib.Core.List.{List}
use Prim.Native.Nat.{ℕ}
use native.Mathlib.Omega.{arith}
use lib.ListN.{length, replicate, length-replicate, get_or-replicate}
use Rattle.lattice.specs.Lists.{at}
use Rattle.lattice.specs.Search.{Found, take, takes, cover}
use Rattle.net.specs.declared.Counts.{Counts}
use Rattle.net.specs.Driving.{Driving, delay_by}
use Rattle.net.specs.Order.{driving_by}
use Rattle.net.proofs.InOrder.{placed, in_limits}
use Rattle.place.proofs.After.{after_none}
use Rattle.place.proofs.Gathering.{gathering-start}
use Rattle.place.specs.Held.{fixed_from}
use Rattle.free.specs.Searching.{free_load, priced_from, Prepared, Sized, Searched}
use Rattle.free.proofs.Apart.{delay-apart}
use Rattle.free.proofs.Tables.{skip-le, priced-skip, gathers-skip, takes_skip}

module _ {c : Counts} {job orders weights upstream driven ups skips lower upper : List ℕ} (r : Prepared c job orders weights upstream driven ups skips lower upper) where
  abbrev net : Driving
  net = driving_by c job

  -- no free place adds anything yet
  none-priced : priced_from net lower upper upstream lower (at skips net.places) ≡ 0
  none-priced = priced-skip net lower upper skips r.skipped net.places (omega arith) lower upstream ∙ after_none net.places _

  pub start-sized : (fixed : ℕ) (gathered : List ℕ) {x lean wide : List ℕ} → gathered ≡ replicate 77 0 → x ≡ lower → fixed ≡ fixed_from (driving_by c job) lower upper driven 0 → length lean ≡ (driving_by c job).places → length wide ≡ (driving_by c job).places
      → Sized (driving_by c job) lower upper upstream driven ups (at skips (driving_by c job).places) fixed x gathered lean wide
  start-sized fixed gathered z e f m n =
      rw (z, e)
      record {
        few = skip-le lower upper net.places skips r.skipped net.places (omega arith);
        allowed = r.lower_allowed;
        held = λ q h t. refl;
        gathers = gathers-skip net lower upper skips r.skipped net.places (omega arith) lower ups _
            (gathering-start net.places (at ups) (free_load net lower upper lower) (replicate 77 0) (omega (arith, length-replicate {A = ℕ} 77 0, r.checked.few_stages, r.checked.few_segments))
            (λ q h. get_or-replicate {A = ℕ} 77 q 0 0 (omega (arith, (in_limits r.checked).few))));
        adds = omega (arith, f, none-priced);
        lean_long = m;
        wide_long = n;
      }

  -- what the search finds from there is what it finds from the last place
  pub start-found : {x gathered x' gathered' : List ℕ} {f f' : Found} → x ≡ lower → Searched (driving_by c job) lower upper (at skips (driving_by c job).places) x gathered f x' gathered' f'
      → f' ≡ takes (delay_by (driving_by c job)) (cover lower upper (driving_by c job).places lower) f
  start-found {f = f} e s =
      s.found ∙ ap (λ y. takes (delay_by net) (cover lower upper (at skips net.places) y) f) e
      ∙ sym (takes_skip net lower upper skips r.skipped net.places (omega arith) lower r.in_order (λ q h t. refl) f)

  -- where no place is free, there is one sizing
  pub start-one : (fixed : ℕ) {x : List ℕ} (f : Found) {f' : Found} → x ≡ lower → fixed ≡ fixed_from (driving_by c job) lower upper driven 0 → at skips (driving_by c job).places ≡ 0 → f' ≡ take x fixed f
      → f' ≡ takes (delay_by (driving_by c job)) (cover lower upper (driving_by c job).places lower) f
  unfolding cover takes
  start-one fixed {x} f e g z t =
      t ∙ ap (λ y. take y fixed f) e ∙ ap (λ (d : ℕ). take lower d f) whole
      ∙ sym (rw z at (takes_skip net lower upper skips r.skipped net.places (omega arith) lower r.in_order (λ q h t. refl) f))
    where
      whole : fixed ≡ delay_by net lower
      whole =
          let a = delay-apart net (placed r.checked) lower upper driven upstream ups r.drives r.known r.lifted lower (λ q h t. refl) in
          let b : priced_from net lower upper upstream lower 0 ≡ 0 = rw z at none-priced in
          omega arith
