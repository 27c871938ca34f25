-- The header of a TCP segment, without options, as bits.
use Rattle.std.specs.Prelude.{◌≡◌, ℕ, Bool, List, [], ◌∷◌, ◌++◌}
use Rattle.bitvec_stream.specs.Rows.{row_be, RowFits}
use Rattle.example_tcp.specs.declared.header.Header.{Header}

-- its numbers in their order, and before each in how many bits it stands
abbrev pub header_row : Header → List (ℕ × ℕ)
header_row h =
    (16, h.source) ∷ (16, h.destination) ∷ (32, h.sequence) ∷ (32, h.acknowledgment) ∷ (4, h.offset) ∷ (4, h.reserved)
    ∷ (8, h.flags) ∷ (16, h.window) ∷ (16, h.checksum) ∷ (16, h.urgent) ∷ []

-- its bits: one number behind the other, each with its highest digit first
abbrev pub header_bits : Header → List Bool
header_bits h = row_be (header_row h)

-- each number has at most as many digits as it has bits
unfoldable pub HeaderFits : Header → Type 0
HeaderFits h = RowFits (header_row h)

-- A list begins with one header and no other, and the bits behind it are known: what was written is read, with what stands
-- behind it.
abbrev pub OneHeader : Type 0
OneHeader =
    (one other : Header) (after left : List Bool) → HeaderFits one → HeaderFits other
    → header_bits one ++ after ≡ header_bits other ++ left → (one ≡ other) × (after ≡ left)
