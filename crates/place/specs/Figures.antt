-- Tables of loads and of resistances, as the numbers that the definitions speak of.
use Rattle.std.specs.Prelude.{List, ℕ, map}
use Rattle.quantity.specs.declared.Capacitance.{Capacitance}
use Rattle.quantity.specs.declared.Resistance.{Resistance}

abbrev pub loads : List Capacitance → List ℕ
loads table = map (λ l. l.0) table

abbrev pub resistances : List Resistance → List ℕ
resistances table = map (λ r. r.0) table
