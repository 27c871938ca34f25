-- The index of a span's first word, which is a signed number, as an index in a memory.
use Rattle.std.proofs.Common.{◌≡◌, ℕ, ◌+◌, ◌-◌, ◌^◌, ◌<◌, List, length, get_or, map, take, drop, ap, ◌∙◌, arith}
use Rattle.std.specs.Prelude.{ℤ, nat_abs, slice_index}
use Rattle.std.specs.Int.{w64}
use Rattle.std.proofs.lemmas.Int.{to_z-of_z}
use Rattle.std.proofs.lemmas.List.{get_or-drop, get_or-take}
use lib.Signed.{mag}
use mir.Val.{to_z, of_z}
use Rattle.bitvec_slice.proofs.SkipLemmas.{number_at}

-- the index, cast to an unsigned number: its bits are those of the signed number
pub address_word : (z word : ℤ) → mag z < 2 ^ 63 → z ≡ word → to_z w64 (of_z w64 z) ≡ word
address_word z word small is = to_z-of_z w64 z (record { sfits = small }) ∙ is

pub address_index : (z word : ℤ) → mag z < 2 ^ 63 → z ≡ word
    → nat_abs (to_z w64 (of_z w64 z)) ≡ nat_abs word
address_index z word small is = ap nat_abs (address_word z word small is)

-- a word that is read from a memory, by its number
pub word_there : {W : Type 0} (number : W → ℕ) (memory : List W) (from first k : ℕ) (r : W)
    → from ≡ first
    → first + k < length memory
    → number (get_or memory (from + k) r) ≡ slice_index (map number memory) (first + k)
word_there number memory from first k r is inside =
    number_at number memory (from + k) r (omega (arith, is, inside))
    ∙ ap (λ n. slice_index (map number memory) (n + k)) is

-- a word that is read from the part of a memory behind its first words, by its number
pub word_behind : {W : Type 0} (number : W → ℕ) (memory : List W) (from first k : ℕ) (r : W)
    → from ≡ first
    → first + k < length memory → r ≡ get_or (take (length memory - from) (drop from memory)) k r
    → number r ≡ slice_index (map number memory) (first + k)
word_behind number memory from first k r is inside read =
    ap number (read ∙ get_or-take (length memory - from) (drop from memory) k r
    (omega (arith, is, inside))
    ∙ get_or-drop from memory k r)
    ∙ word_there number memory from first k r is inside
