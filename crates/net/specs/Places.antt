-- The three kinds of place: what is said of a place by its kind. Cited by `specs/Order`; a reader need not believe this file.
use Rattle.std.specs.Prelude.{ℕ}
use Rattle.net.specs.Job.{of_kind}
use Rattle.net.specs.Net.{Net}

-- Of f, g and h the one for the kind of place p: for a stage, a segment or a repeater, by its number.
abbrev pub by_kind : {A : Type 0} → Net → (f g h : ℕ → A) → ℕ → A
by_kind net f g h p = of_kind net.stages net.segments f g h p
