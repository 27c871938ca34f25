-- A bit that is read by its place.
use Rattle.std.proofs.Common.{◌≡◌, ℕ, ◌*◌, ◌<◌, Bool, false, List, length, get_or, sym, ap, ◌∙◌}
use Rattle.std.specs.Prelude.{slice_get, Some}
use Rattle.std.proofs.lemmas.Option.{get_or_from_slice_get}
use Rattle.bitvec.specs.Memory.{bit_of, memory_bits}
use Rattle.bitvec.proofs.MemoryLemmas.{get_or-tabulate}

pub bit_read : (bits : ℕ) (at : ℕ → ℕ) (words : List ℕ) (place index : ℕ) (bit : Bool) → index ≡ place → place < length words * bits
    → slice_get (memory_bits bits at words) index ≡ Some bit → bit ≡ bit_of bits at words place
bit_read bits at words place index bit e h found =
    sym (get_or_from_slice_get (memory_bits bits at words) index bit false found)
    ∙ ap (λ i. get_or (memory_bits bits at words) i false) e
    ∙ get_or-tabulate (length words * bits) (bit_of bits at words) place false h
