-- Sets of the numbers below 256, as four words of 64 bits.
use Rattle.std.proofs.Common.{◌≡◌, ℕ, Bool, List, map}
use Rattle.std.proofs.lemmas.List.{map-id}
use Rattle.bitvec_ptr.specs.Memory.{memory_bits, list_with}

-- a combination of their bits, from the first on, is one of the sets
pub sets_combined : (f : Bool → Bool → Bool) (new set other : List ℕ) (place : ℕ) → place ≡ 0
    → memory_bits 64 (λ i. i) (map (λ x. x) new)
    ≡ list_with f (memory_bits 64 (λ i. i) (map (λ x. x) other)) place (memory_bits 64 (λ i. i) (map (λ x. x) set)) place 256
    → memory_bits 64 (λ i. i) new ≡ list_with f (memory_bits 64 (λ i. i) other) 0 (memory_bits 64 (λ i. i) set) 0 256
sets_combined f new set other place first combined = rw (map-id new, map-id set, map-id other, first) at combined
