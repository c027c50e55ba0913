-- Tables of loads and of resistances, as the numbers that the definitions speak of.
use Rattle.std.proofs.Common.{◌≡◌, refl, sym, ap, ℕ, zero, suc, ◌+◌, List, [], ◌∷◌, arith}
use lib.ListN.{get_or, set, get_or-map}
use Rattle.quantity.specs.declared.Capacitance.{Capacitance}
use Rattle.quantity.specs.declared.Resistance.{Resistance}
use Rattle.lattice.specs.Lists.{at}
use Rattle.place.specs.Figures.{loads, resistances}

pub loads-set : (g : List Capacitance) (i : ℕ) (v : Capacitance) → loads (set g i v) ≡ set (loads g) i v.0
loads-set [] i v = refl
loads-set (l ∷ g) zero v = refl
loads-set (l ∷ g) (suc i) v = ap (λ t. l.0 ∷ t) (loads-set g i v)

pub loads-at : (g : List Capacitance) (i : ℕ) → (get_or g i (record { 0 = 0 })).0 ≡ at (loads g) i
loads-at g i = sym (get_or-map (λ l. l.0) g i (record { 0 = 0 }))

pub resistances-set : (g : List Resistance) (i : ℕ) (v : Resistance) → resistances (set g i v) ≡ set (resistances g) i v.0
resistances-set [] i v = refl
resistances-set (r ∷ g) zero v = refl
resistances-set (r ∷ g) (suc i) v = ap (λ t. r.0 ∷ t) (resistances-set g i v)

pub resistances-at : (g : List Resistance) (i : ℕ) → (get_or g i (record { 0 = 0 })).0 ≡ at (resistances g) i
resistances-at g i = sym (get_or-map (λ r. r.0) g i (record { 0 = 0 }))

-- a sink s, which is n, and the load at the node after t are what is gathered there with it
pub drives-is : (g : List Capacitance) (t s n v : ℕ) → s ≡ n → v ≡ s + (get_or g (t + 1) (record { 0 = 0 })).0 → v ≡ n + at (loads g) (suc t)
drives-is g t s n v e f =
    let z : t + 1 ≡ suc t = omega arith in
    rw (← z) (omega (arith, e, f, loads-at g (t + 1)))
