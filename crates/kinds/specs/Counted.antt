-- The counts of the first n records.
use Rattle.std.specs.Prelude.{List, ℕ, eqb}
use Rattle.net.specs.declared.Counts.{Counts}
use Rattle.net.specs.Job.{count_if, count, count_layer0, width_layer}

module _ (b : List ℕ) where
  -- How many of the first n records, read as widths, are of layer 0.
  abbrev pub layer0_in : ℕ → ℕ
  layer0_in n = count_if (λ r. eqb (width_layer b r) 0) n

  -- The counts of the first n records by kind, and of the widths among them by layer.
  abbrev pub counts_to : ℕ → Counts
  counts_to n =
      record {
        widths = count b 1 n;
        layer0 = count_layer0 b n;
        sizes = count b 2 n;
        stages = count b 3 n;
        segments = count b 4 n;
        repeaters = count b 5 n;
      }
