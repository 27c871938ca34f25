-- Lists that begin otherwise, and what a writer has written.
use Rattle.std.specs.Prelude.{◌≡◌, ℕ, Bool, true, false, List, [], ◌∷◌, ◌++◌, length, drop, replicate}
use Rattle.bitvec.specs.Memory.{memory_bits}
use Rattle.bitvec_stream.specs.Writer.{written}
use Rattle.bitvec_stream.specs.declared.writer.BitWriter.{BitWriter}
use Rattle.bitvec_stream.specs.declared.error.WriteError.{WriteError}
use Rattle.bitvec_stream.specs.declared.error.WriteError.TheVariants.{NoRoom}

-- a list with another in place of its first elements
abbrev pub with_start : List Bool → List Bool → List Bool
with_start xs start = start ++ drop (length start) xs

-- a memory's bits begin otherwise
abbrev pub HasNewStart : ℕ → (ℕ → ℕ) → (old new : List ℕ) → List Bool → Type 0
HasNewStart bits at old new start = memory_bits bits at new ≡ with_start (memory_bits bits at old) start

-- a count of zeros, and a one behind them
abbrev pub zeros_and_one : ℕ → List Bool
zeros_and_one count = replicate count false ++ (true ∷ [])

-- a writer has written a list behind what it had
abbrev pub HasWritten : {R O : Type 0} {a b c d e f g h i : _} → (old new : BitWriter R O a b c d e f g h i) → List Bool → Type 0
HasWritten old new xs = written new ≡ written old ++ xs

-- a writer has refused for want of room, and is as before
abbrev pub HasNoRoom : {R O : Type 0} {a b c d e f g h i : _} → (old new : BitWriter R O a b c d e f g h i) → WriteError → Type 0
HasNoRoom old new error = (error ≡ NoRoom) × (new ≡ old)
