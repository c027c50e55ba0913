-- Which repeater sits at the far end of a segment, found without asking all of them.
use Rattle.std.specs.Prelude.{◌≡◌, List, ℕ, Option, Some, None, ◌≤◌, ◌<◌, length, get_or}
use Rattle.net.specs.Net.{Net}

-- The first n repeaters have their seats: at its segment each has its number, and a number stands only at the segment of the repeater that has it.
pub record SeatedTo (net : Net) (n : ℕ) (seats : List (Option ℕ)) : Type 0 where
  pub long : net.segments ≤ length seats
  pub there : (r : ℕ) → r < n → get_or seats (net.site r) None ≡ Some r
  pub only : (i r : ℕ) → i < net.segments → get_or seats i None ≡ Some r → (r < net.repeaters) × (net.site r ≡ i)

-- All of them have.
abbrev pub Seated : Net → List (Option ℕ) → Type 0
Seated net seats = SeatedTo net net.repeaters seats
