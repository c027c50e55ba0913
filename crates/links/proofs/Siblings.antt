-- Going by the links from sibling to sibling counts the branches at a node.
use mathlib.Core.Path.{◌≡◌, refl, sym, ap, ◌∙◌}
use mathlib.Core.Logic.{◌⊎◌, inl, inr}
use Prim.Native.Nat.{ℕ, suc, ◌+◌, ◌-◌, ◌≤◌, ◌<◌}
use native.Mathlib.Nat.{eq-or-lt_of_le}
use native.Mathlib.Omega.{arith}
use Rattle.net.specs.Net.{Net}
use Rattle.net.specs.Delay.{branches_to}
use Rattle.net.specs.Segments.{forest}
use Rattle.net.proofs.Forest.{forest-none, forest-here, forest-skip, forest-from}
use Rattle.net.proofs.Branches.{branches-are}
use Rattle.links.specs.Links.{First, siblings}

module _ (net : Net) (has : ℕ → ℕ → ℕ) where
  -- no segment, no sum
  pub siblings-none : (j : ℕ) → j ≡ net.segments → siblings net has j ≡ 0
  siblings-none j e = let z : net.segments - j ≡ 0 = omega arith in rw z (forest-none net.parent has (net.parent j) j)

  -- from j on, what hangs at q is the first segment that hangs there and its siblings
  siblings-first : (q j i : ℕ) → First net q j i → forest net.parent has (net.segments - j) q j ≡ siblings net has i
  siblings-first q j i f =
      let a : net.segments - j ≡ (i - j) + (net.segments - i) = omega arith in
      let b : (i - j) + j ≡ i = omega arith in
      rw a (forest-skip net.parent has (i - j) (net.segments - i) q j (λ k l m. f.none k l (omega arith))
      ∙ ap (forest net.parent has (net.segments - i) q) b
      ∙ node (eq-or-lt_of_le f.within))
    where
      node : (i ≡ net.segments) ⊎ (i < net.segments) → forest net.parent has (net.segments - i) q i ≡ siblings net has i
      node (inl e) =
          let z : net.segments - i ≡ 0 = omega arith in
          rw z (forest-none net.parent has q i ∙ sym (forest-none net.parent has (net.parent i) i))
      node (inr l) = rw (f.there l)

module _ (net : Net) (falls : (i : ℕ) → i < net.segments → net.parent i ≤ i) where
  -- the branches at a node are the first segment there and its siblings
  pub siblings-branches : (has : ℕ → ℕ → ℕ) (q i : ℕ) → q ≤ net.segments → First net q 0 i → branches_to net.segments net.parent has net.segments q ≡ siblings net has i
  siblings-branches has q i h f =
      let z : net.segments - 0 ≡ net.segments = omega arith in branches-are net falls has q h ∙ rw z at (siblings-first net has q 0 i f)

  -- a segment's branch, and its siblings from the next on
  pub siblings-step : (has : ℕ → ℕ → ℕ) (j i : ℕ) → j < net.segments → First net (net.parent j) (suc j) i
      → siblings net has j ≡ has j (branches_to net.segments net.parent has net.segments (suc j)) + siblings net has i
  siblings-step has j i l f =
      let d = net.segments - suc j in
      let z : net.segments - j ≡ suc d = omega arith in
      rw (
        z,
        branches-are net falls has (suc j) l,
        forest-from net.parent net.segments falls has d (suc j) (omega arith),
        ← siblings-first net has (net.parent j) (suc j) i f,
      ) (forest-here net.parent has d (net.parent j) j refl)

  -- what hangs at a node stands behind it
  pub first-behind : (q i : ℕ) → q ≤ net.segments → First net q 0 i → q ≤ i
  first-behind q i l f = go (eq-or-lt_of_le f.within)
    where
      go : (i ≡ net.segments) ⊎ (i < net.segments) → q ≤ i
      go (inl e) = omega arith
      go (inr m) = omega (arith, f.there m, falls i m)
