-- Stretches of bits in the loans of a span's parts.
use Rattle.std.proofs.Common.{◌≡◌, ℕ, ◌-◌, ◌*◌, ◌<◌, Bool, true, false, if◌then◌else◌, List, length, map, refl, sym, ap, ◌∙◌, arith}
use Rattle.std.proofs.lemmas.List.{length-map}
use Rattle.std.specs.Prelude.{Option, Some, None, is_some}
use Rattle.std.specs.Borrow.{GName}
use Rattle.bitvec_span.specs.Span.{Span}
use Rattle.bitvec_span.specs.Slot.{Slot, slot_part}
use Rattle.bitvec_span.specs.Loans.{has_head, has_tail, loan_at, span_loans}
use Rattle.bitvec_span.specs.DomainMut.{loan_names, loans_of}
use Rattle.bitvec_span.specs.BitLoans.{names_if}
use Rattle.bitvec_span.specs.declared.domain.domain_mut.DomainMut.{DomainMut}
use Rattle.bitvec_span.specs.declared.domain.domain_mut.DomainMut.TheVariants.{Enclave, Region}
use Rattle.bitvec_span.specs.BitParts.{WordBits, part_bits, body_bits}
use Rattle.bitvec_span.specs.Stretch.{stretch_bits, slot_stretch, whole_stretch}
use Rattle.bitvec_span.proofs.SliceLemmas.{slice_range-one, slice_range-all}

-- a stretch by its words, its head and its length
abbrev stretch : List ℕ → ℕ → ℕ → WordBits
stretch words head len = record { words = words; head = head; len = len }

-- the bits that lie where a part lies are the part's
pub part_stretch : {X : Type 0} (number : X → ℕ) (memory : List X) (slot : Slot) → slot.word < length memory → stretch_bits (slot_stretch slot) (map number memory) ≡ part_bits (slot_part slot (map number memory))
part_stretch number memory slot h = ap (λ words. stretch words slot.head (slot.tail - slot.head)) (slice_range-one (map number memory) slot.word (omega (arith, length-map memory number)))

-- the bits of all words of a loan
pub whole-is_stretch : {X : Type 0} (bits : ℕ) (number : X → ℕ) (memory : List X) → stretch_bits (whole_stretch bits (length memory)) (map number memory) ≡ body_bits bits (map number memory)
whole-is_stretch bits number memory =
    let long : length memory ≡ length (map number memory) = sym (length-map memory number) in
    ap (λ words. stretch words 0 (length memory * bits)) (slice_range-all (map number memory) (length memory) long)
    ∙ ap (λ n. stretch (map number memory) 0 (n * bits)) long

-- a domain has names of a head's and of a tail's loan where it has these
named-loans : {R O : Type 0} {a b c d e f g : _} (domain : DomainMut R O a b c d e f g) → (is_some (loan_names domain).0 ≡ is_some (loans_of domain).0) × (is_some (loan_names domain).2 ≡ is_some (loans_of domain).2)
named-loans (Enclave part) = (refl, refl)
named-loans (Region (Some head) body (Some tail)) = (refl, refl)
named-loans (Region (Some head) body None) = (refl, refl)
named-loans (Region None body (Some tail)) = (refl, refl)
named-loans (Region None body None) = (refl, refl)

is_some-loan : {X : Type 0} (words : List X) (b : Bool) (slot : Slot) → is_some (loan_at words (if b then Some slot else None)) ≡ b
is_some-loan words true slot = refl
is_some-loan words false slot = refl

-- the names of the loans of a span's parts, by whether there is a head and a tail
pub names-present : {R O : Type 0} {a b c d e f g : _} (bits : ℕ) (span : Span) (memory : List R) (domain : DomainMut R O a b c d e f g) (names : GName × Option (GName × GName)) → loans_of domain ≡ span_loans bits span memory
    → names_if (is_some (loan_names domain).0) (is_some (loan_names domain).2) names ≡ loan_names domain → loan_names domain ≡ names_if (has_head span) (has_tail bits span) names
names-present bits span memory domain names loans is =
    let named = named-loans domain in
    let first : is_some (loan_names domain).0 ≡ has_head span = named.0 ∙ ap (λ l. is_some l.0) loans ∙ is_some-loan _ (has_head span) _ in
    let last : is_some (loan_names domain).2 ≡ has_tail bits span = named.1 ∙ ap (λ l. is_some l.2) loans ∙ is_some-loan _ (has_tail bits span) _ in
    sym is ∙ (λ k. names_if (first k) (last k) names)
