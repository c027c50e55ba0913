-- What the bytes of a job say, record by record: the section 'Job records' of the specification.
use Rattle.std.specs.Prelude.{Bool, cond, ◌&&◌, List, ℕ, zero, suc, ◌+◌, ◌*◌, ◌-◌, ◌/◌, eqb, ltb, length, get_or}
use Rattle.net.specs.declared.Counts.{Counts}

-- One byte of a job; past its end, 0.
abbrev pub byte : List ℕ → ℕ → ℕ
byte b at = get_or b at 0

-- Four bytes, the lowest first.
abbrev pub word : List ℕ → ℕ → ℕ
word b at = byte b at + 256 * byte b (at + 1) + 65536 * byte b (at + 2) + 16777216 * byte b (at + 3)

-- How many whole records a job has, of sixteen bytes each.
abbrev pub records : List ℕ → ℕ
records b = ◌/◌ (length b) 16

-- The kind of record r: 1 a width, 2 a driver size, 3 a stage, 4 a segment, 5 a repeater, 6 a weight.
abbrev pub kind : List ℕ → ℕ → ℕ
kind b r = byte b (16 * r)

-- Where a width starts, in a job whose records stand kind after kind, and its layer: 1 is the thick top metal.
abbrev pub width_at : ℕ → ℕ
width_at k = 16 * k

abbrev pub width_layer : List ℕ → ℕ → ℕ
width_layer b k = byte b (width_at k + 2)

-- How many of the first n records pass a test.
unfoldable pub count_if : (ℕ → Bool) → ℕ → ℕ
count_if f zero = 0
count_if f (suc n) = cond (f n) 1 0 + count_if f n

-- How many of the first n records are of the kind k, and how many are widths of layer 0.
abbrev pub count : List ℕ → ℕ → ℕ → ℕ
count b k n = count_if (λ r. eqb (kind b r) k) n

abbrev pub count_layer0 : List ℕ → ℕ → ℕ
count_layer0 b n = count_if (λ r. eqb (kind b r) 1 && eqb (width_layer b r) 0) n

-- How many records of each of the kinds 1 to 5 a job has, and how many of its widths are of layer 0.
unfoldable pub counts_of : List ℕ → Counts
counts_of b =
    record {
      widths = count b 1 (records b);
      layer0 = count_layer0 b (records b);
      sizes = count b 2 (records b);
      stages = count b 3 (records b);
      segments = count b 4 (records b);
      repeaters = count b 5 (records b);
    }

-- How many weight records a job has.
abbrev pub weight_records : List ℕ → ℕ
weight_records b = count b 6 (records b)

-- How many places there are. A place, a term of the specification, is a stage, a segment or a repeater: stages first, then segments, then repeaters.
abbrev pub places_by : Counts → ℕ
places_by c = c.stages + c.segments + c.repeaters

-- Of f, g and h the one for the kind of place p: of a stage, a segment or a repeater, by its number within its kind.
unfoldable pub of_kind : {A : Type 0} → (stages segments : ℕ) (f g h : ℕ → A) → ℕ → A
of_kind stages segments f g h p = cond (ltb p stages) (f p) (cond (ltb p (stages + segments)) (g (p - stages)) (h (p - (stages + segments))))

-- How many widths layer l has, and where among all widths its first row stands: the rows of layer 1 come behind those of layer 0. A layer byte
-- above 1, which question 24 refuses, is counted as 1.
unfoldable pub widths_of : Counts → ℕ → ℕ
widths_of c l = cond (eqb l 0) c.layer0 (c.widths - c.layer0)

unfoldable pub first_row : Counts → ℕ → ℕ
first_row c l = cond (eqb l 0) 0 c.layer0

-- Where a record of another kind starts.
abbrev pub size_at : Counts → ℕ → ℕ
size_at c k = 16 * (c.widths + k)

abbrev pub place_at : Counts → ℕ → ℕ
place_at c p = 16 * (c.widths + c.sizes + p)

abbrev pub stage_at : Counts → ℕ → ℕ
stage_at c s = place_at c s

abbrev pub segment_at : Counts → ℕ → ℕ
segment_at c i = place_at c (c.stages + i)

abbrev pub repeater_at : Counts → ℕ → ℕ
repeater_at c r = place_at c (c.stages + c.segments + r)

-- Weight records are no places; they come behind them.
abbrev pub weight_at : Counts → ℕ → ℕ
weight_at c w = place_at c (places_by c + w)

-- The fields of width k, counted through both layers.
abbrev pub row_resistance : List ℕ → ℕ → ℕ
row_resistance b k = word b (width_at k + 4)

abbrev pub row_capacitance : List ℕ → ℕ → ℕ
row_capacitance b k = word b (width_at k + 8)

module _ (c : Counts) (b : List ℕ) where
  -- The fields of driver size k.
  abbrev pub size_resistance : ℕ → ℕ
  size_resistance k = word b (size_at c k + 4)

  abbrev pub size_gate : ℕ → ℕ
  size_gate k = word b (size_at c k + 8)

  abbrev pub size_output : ℕ → ℕ
  size_output k = word b (size_at c k + 12)

  -- The fields of stage s.
  abbrev pub stage_lowest : ℕ → ℕ
  stage_lowest s = byte b (stage_at c s + 2)

  abbrev pub stage_highest : ℕ → ℕ
  stage_highest s = byte b (stage_at c s + 3)

  -- The fields of segment i.
  abbrev pub segment_parent : ℕ → ℕ
  segment_parent i = byte b (segment_at c i + 2)

  abbrev pub segment_sink : ℕ → ℕ
  segment_sink i = byte b (segment_at c i + 3)

  abbrev pub segment_length : ℕ → ℕ
  segment_length i = word b (segment_at c i + 4)

  abbrev pub sink_capacitance : ℕ → ℕ
  sink_capacitance i = word b (segment_at c i + 8)

  abbrev pub segment_weight : ℕ → ℕ
  segment_weight i = byte b (segment_at c i + 12)

  abbrev pub segment_lowest : ℕ → ℕ
  segment_lowest i = byte b (segment_at c i + 13)

  abbrev pub segment_highest : ℕ → ℕ
  segment_highest i = byte b (segment_at c i + 14)

  abbrev pub segment_layer : ℕ → ℕ
  segment_layer i = byte b (segment_at c i + 15)

  -- The fields of repeater r: the segment at whose far end it sits, by its number, and its range.
  abbrev pub repeater_segment : ℕ → ℕ
  repeater_segment r = byte b (repeater_at c r + 2)

  abbrev pub repeater_lowest : ℕ → ℕ
  repeater_lowest r = byte b (repeater_at c r + 3)

  abbrev pub repeater_highest : ℕ → ℕ
  repeater_highest r = byte b (repeater_at c r + 4)

  -- The fields of weight record w: the segment whose sink it weighs, by its number, the form, and by the form a whole number (1) or the bits of a
  -- binary64 (2), the lowest byte first.
  abbrev pub weight_segment : ℕ → ℕ
  weight_segment w = byte b (weight_at c w + 1)

  abbrev pub weight_form : ℕ → ℕ
  weight_form w = byte b (weight_at c w + 2)

  abbrev pub weight_whole : ℕ → ℕ
  weight_whole w = word b (weight_at c w + 4)

  abbrev pub weight_bits : ℕ → ℕ
  weight_bits w = word b (weight_at c w + 8) + 4294967296 * word b (weight_at c w + 12)
