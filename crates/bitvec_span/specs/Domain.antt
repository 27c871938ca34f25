-- What a `PartialElement` and a `Domain` show, over the numbers of their words.
use Rattle.std.specs.Prelude.{ℕ, Option, Some, None, map, slice_index}
use Rattle.bitvec_span.specs.declared.domain.partial_element.PartialElement.{PartialElement}
use Rattle.bitvec_span.specs.declared.domain.Domain.{Domain}
pub use Rattle.bitvec_span.specs.declared.domain.Domain.TheVariants.{Enclave, Region}
use Rattle.bitvec_span.specs.Parts.{Part, Parts, enclave, region}

-- the word and the bounds of a partial element
abbrev pub element_part : {R O : Type 0} {a b c d e f g : _} → (R → ℕ) → PartialElement R O a b c d e f g → Part
element_part number element = record { word = slice_index (map number element.elem.now) 0; head = element.head; tail = element.tail }

-- the same, if there is one
abbrev pub optional_part : {R O : Type 0} {a b c d e f g : _} → (R → ℕ) → Option (PartialElement R O a b c d e f g) → Option Part
optional_part number (Some element) = Some (element_part number element)
optional_part number None = None

-- the parts of a domain
abbrev pub domain_parts : {R O : Type 0} {a b c d e f g : _} → (R → ℕ) → Domain R O a b c d e f g → Parts
domain_parts number (Enclave element) = enclave (element_part number element)
domain_parts number (Region head body tail) = region (optional_part number head) (map number body.now) (optional_part number tail)
