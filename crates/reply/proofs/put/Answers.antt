-- The eight bytes stand one behind the other.
use mathlib.Core.Path.{◌≡◌, sym, ap, ◌∙◌}
use mathlib.Core.List.{List, ◌++◌, append_assoc}
use Prim.Native.Nat.{ℕ, ◌+◌, ◌≤◌}
use native.Mathlib.Omega.{arith}
use lib.ListN.{length, take, drop}
use lib.Seq.{sets, sets-eq}
use Rattle.std.proofs.lemmas.List.{length-take, length-drop, drop-drop}
use Rattle.reply.proofs.put.Goals as goal

overwritten : (b v w : List ℕ) (start n : ℕ) → w ≡ v → n ≡ length v → start + length v ≤ length b → take start b ++ (w ++ drop n (drop start b)) ≡ sets b start v
overwritten b v w start n e f h = rw (e, f, drop-drop, ← append_assoc) (sym (sets-eq v b start h))

pub returns : goal.returns
returns c =
    let p = c.copy_from_slice.ensures in
    let n : length c.args.bytes ≡ 8 = sym (ap length p.after) ∙ p.len ∙ simp (length-take, length-drop) (omega arith) in
    overwritten _ _ _ _ _ p.after (omega arith) (omega arith)
