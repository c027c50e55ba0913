-- A test of a run is the test of the records that the run is of.
use mathlib.Core.Path.{◌≡◌}
use mathlib.Core.Bool.{Bool}
use mathlib.Core.List.{List}
use Prim.Native.Nat.{ℕ}
use Rattle.lattice.specs.Lists.{every}
use Rattle.job.specs.declared.runs.Run.{Run}
use Rattle.job.specs.RunOf.{RunOf}
use Rattle.runs.specs.Records.{byte_within, word_within, zero_bytes}

pub of-run : (test : List ℕ → ℕ → ℕ → Bool) {b : List ℕ} {s n : ℕ} {r : Run} {p : Bool} → RunOf b s n r → p ≡ test r.bytes.now r.start r.count → p ≡ test b s n
of-run test o e = rw (← o.bytes, ← o.start, ← o.count) e

module _ (at : ℕ) where
  -- Is the byte, or the word, at `at` of each of n records from l to h? Are m bytes from `at` on zero?
  abbrev pub bytes : ℕ → ℕ → List ℕ → ℕ → ℕ → Bool
  bytes l h b s n = every n (byte_within b s at l h)

  abbrev pub words : ℕ → ℕ → List ℕ → ℕ → ℕ → Bool
  words l h b s n = every n (word_within b s at l h)

  abbrev pub zeros : ℕ → List ℕ → ℕ → ℕ → Bool
  zeros m b s n = every n (zero_bytes b s at m)
