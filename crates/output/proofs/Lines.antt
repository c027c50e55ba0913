-- Laws of the programs' lines: the parts that the code puts one behind another, and the lines of places one behind another.
use mathlib.Core.Path.{◌≡◌, refl, ap, ◌∙◌}
use mathlib.Core.List.{List, [], ◌++◌, flat_map, append_assoc, append-nil}
use Rattle.std.specs.Prelude.{Option}
use Prim.Native.Nat.{ℕ, zero, suc, ◌+◌, ◌*◌, ◌≤◌, ◌<◌}
use native.Mathlib.Nat.{add-zero}
use native.Mathlib.Numerals.{add-one}
use native.Mathlib.Omega.{arith}
use lib.ListN.{length, take, drop, get_or, length-append}
use lib.Seq.{sets-eq, drop-cons}
use Rattle.io.specs.Counts.{IsPrefixLen as Within}
use Rattle.io.proofs.Counting.{prefix_len_of_le}
use Rattle.text.specs.Spelling.{ascii, spelling}
use Rattle.text.specs.Writing.{Wrote}
use Rattle.lattice.specs.Lists.{from}
use Rattle.net.specs.Promises.{value_of, reply_delay}
use Rattle.output.specs.Printed.{Figures, index_text, place_line, kind_lines, refused_line, answer_with, Holds}

-- the parts of a place's line
pub line-parts : (kind : List ℕ) (number lower upper : ℕ) (lean wide : Option ℕ)
    → kind ++ ((spelling number ++ ascii " ") ++ ((spelling lower ++ ascii " ") ++ ((spelling upper ++ ascii " ") ++ ((index_text lean ++ ascii " ") ++ (index_text wide ++ ascii "\n")))))
    ≡ place_line kind number lower upper lean wide
unfolding place_line
line-parts kind number lower upper lean wide = simp append_assoc

-- the parts of a refusal's line
pub refused-parts : (number : ℕ) → ascii "refused " ++ (spelling number ++ ascii "\n") ≡ refused_line number
unfolding refused_line
refused-parts number = simp append_assoc

-- the parts of an answer's text
pub answer-parts : (least : ℕ) (lines : List ℕ) → ascii "answer 0\ndelay " ++ ((spelling least ++ ascii "\n") ++ lines) ≡ answer_with least lines
answer-parts least lines = simp append_assoc

-- one more line behind those of n places
lines_more : (line : ℕ → List ℕ) (k n : ℕ) → flat_map line (from k (suc n)) ≡ flat_map line (from k n) ++ line (k + n)
unfolding flat_map from
lines_more line k zero = rw (append-nil, add-zero)
lines_more line k (suc n) =
    let e : suc k + n ≡ k + suc n = omega arith in
    rw (lines_more line (suc k) n, append_assoc, e)

module _ (f : Figures) (kind : List ℕ) (p : ℕ) where
  pub kind_lines-none : kind_lines f kind p 0 ≡ []
  unfolding kind_lines flat_map from
  kind_lines-none = refl

  pub kind_lines_more : (n : ℕ) → kind_lines f kind p (n + 1) ≡ kind_lines f kind p n ++ place_line kind n (f.lower (p + n)) (f.upper (p + n)) (f.lean (p + n)) (f.wide (p + n))
  unfolding kind_lines
  kind_lines_more n =
      let e : 0 + n ≡ n = omega arith in
      rw add-one (rw e at (lines_more (λ i. place_line kind i (f.lower (p + i)) (f.upper (p + i)) (f.lean (p + i)) (f.wide (p + i))) 0 n))

-- Eight bytes, the lowest first, as one number.
value-step : (l : List ℕ) (k n : ℕ) → k < length l → value_of (take (suc n) (drop k l)) ≡ get_or l k 0 + 256 * value_of (take n (drop (suc k) l))
unfolding value_of
value-step l k n h = rw (drop-cons l k 0 h)

pub delay-bytes : (l : List ℕ) → 8 ≤ length l
    → reply_delay l ≡ get_or l 0 0 + 256 * get_or l 1 0 + 65536 * get_or l 2 0 + 16777216 * get_or l 3 0 + 4294967296 * (get_or l 4 0 + 256 * get_or l 5 0 + 65536 * get_or l 6 0 + 16777216 * get_or l 7 0)
unfolding value_of
delay-bytes l h =
    let e = value-step l 0 7 (omega arith) in
    let f = value-step l 1 6 (omega arith) in
    let g = value-step l 2 5 (omega arith) in
    let i = value-step l 3 4 (omega arith) in
    let j = value-step l 4 3 (omega arith) in
    let k = value-step l 5 2 (omega arith) in
    let m = value-step l 6 1 (omega arith) in
    let n = value-step l 7 0 (omega arith) in
    omega (arith, e, f, g, i, j, k, m, n)

-- A text put at the start of a buffer that reaches behind it.
pub wrote-holds : {before text after : List ℕ} {n : ℕ} → Wrote before 0 text after n → n ≤ length before → Holds text before after n
wrote-holds {before} {text} {after} {n} w h =
    let e : n ≡ length text = omega (arith, w.position) in
    let z : 0 + length text ≡ n = omega (arith, w.position) in
    record { long = e; fits = h; buffer = w.buffer ∙ rw z at (sets-eq text before 0 (omega arith)) }

-- What a buffer holds is a number of its bytes.
pub held : {text before after : List ℕ} {n : ℕ} → Holds text before after n → Within n after
held {text} {before} {after} {n} h =
    let e : length after ≡ length text + length (drop n before) = ap length h.buffer ∙ length-append text (drop n before) in
    prefix_len_of_le n after (omega (arith, h.long))
