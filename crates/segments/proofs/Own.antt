-- A loop over the segments that puts the weight byte of each into a table.
use mathlib.Core.Path.{◌≡◌, ◌∙◌}
use mathlib.Core.List.{List}
use Prim.Native.Nat.{ℕ, ◌+◌, ◌<◌}
use native.Mathlib.Decide.{ℕ_discrete}
use native.Mathlib.Omega.{arith}
use lib.ListN.{length, set, length-set}
use lib.Seq.{get_or-set_same, get_or-set_other}
use Rattle.lattice.specs.Lists.{at}
use Rattle.job.specs.Runs.{byte_of}
use Rattle.segments.specs.Tests.{OwnWeights}

pub own-none : {b : List ℕ} {start : ℕ} {t : List ℕ} → length t ≡ 64 → OwnWeights b start 0 t
own-none e = record { long = e; own = λ k h. absurd (omega arith) }

-- v is the weight byte of segment k
pub own_on : {b : List ℕ} {start k v : ℕ} {t : List ℕ} → OwnWeights b start k t → k < 64 → v ≡ byte_of b start 12 k → OwnWeights b start (k + 1) (set t k v)
own_on {b} {start} {k} {v} {t} o h e = record { long = length-set t k v ∙ o.long; own = λ j l. go j l (ℕ_discrete j k) }
  where
    go : (j : ℕ) → j < k + 1 → Dec (j ≡ k) → at (set t k v) j ≡ byte_of b start 12 j
    go j l (yes d) = rw d (get_or-set_same t k v 0 (omega (arith, o.long)) ∙ e)
    go j l (no d) = get_or-set_other t k j v 0 d ∙ o.own j (omega arith)
