-- What a program has of its input.
use Rattle.std.specs.Prelude.{ℕ, ◌<◌, List, length, take, Option, Result, IfOk}
use Rattle.std.specs.Io.KnownBytes.{Consumes, IsAtEnd}
use Rattle.console.specs.declared.ReadFailed.{ReadFailed}

-- What a reader gave, where its bytes are known: the bytes at the start of the buffer, in order, and they were all that it had unless the
-- buffer is full.
abbrev pub GaveInto : Option (List ℕ) → Option (List ℕ) → List ℕ → Result ℕ ReadFailed → Type 0
GaveInto old new buffer r = IfOk r (λ n. Consumes old new (take n buffer) × (n < length buffer → IsAtEnd new))
