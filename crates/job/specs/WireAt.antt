-- What the contract of `wire_at` says.
use Rattle.std.specs.Prelude.{◌≡◌, ℕ}
use Rattle.net.specs.Net.{Net}
use Rattle.job.specs.declared.Wire.{Wire}

-- w is segment i's wire at the width k.
pub record WireAt (net : Net) (i k : ℕ) (w : Wire) : Type 0 where
  pub resistance : w.resistance.0 ≡ net.wire_resistance i k
  pub capacitance : w.capacitance.0 ≡ net.wire_capacitance i k
