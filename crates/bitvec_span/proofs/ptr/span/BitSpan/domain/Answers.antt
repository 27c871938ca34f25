use Rattle.std.proofs.Common.{◌≡◌, ◌+◌, ◌-◌, ◌∙◌, ap, refl, if◌then◌else◌, Some, None, map, take, drop, rules, zero-le}
use Rattle.bitvec_ptr.proofs.PlaceOrder.{bit_below}
use Rattle.bitvec_span.specs.BitSpan.{span_of}
use Rattle.bitvec_span.specs.Parts.{enclave, region, part_of}
use Rattle.bitvec_span.specs.Domain.{element_part, optional_part}
use Rattle.bitvec_span.proofs.LoanLemmas.{parts-from-shape}
use Rattle.bitvec_span.proofs.ItemLemmas.{items-words_of, short-words_of}
use Rattle.bitvec_span.proofs.ptr.span.BitSpan.domain.Goals as goal
use Rattle.bitvec_span.proofs.ptr.span.BitSpan.domain.Goals.{then-shape, else-shape, then-shape-2, else-shape-2}

pub returns-then-not-shape-clause-parts : goal.returns-then-not-shape-clause-parts
returns-then-not-shape-clause-parts g c = search rules

pub returns-then-not-shape-clause-items : goal.returns-then-not-shape-clause-items
returns-then-not-shape-clause-items g c =
    let number = g.R.BitRegister.number in
    items-words_of g.R.BitRegister.BITS g.O.BitAt.at_of (span_of c.args.self) number c.args.memory.now (enclave (element_part number c.part_among-part.result)) (bit_below g.R.BitRegister.BITS c.args.self.head g.met.R.BitRegister.width_at_least_8 c.args.self.in_word) c.requires (returns-then-not-shape-clause-parts g c)

pub returns-clause-parts : goal.returns-clause-parts
returns-clause-parts g c =
    let width = g.R.BitRegister.BITS in let number = g.R.BitRegister.number in let span = span_of c.args.self in let xs = c.args.memory.now in let shape = c.shape-shape.result in
    let head : optional_part number c.if-shape.head ≡ (if shape.has_head then Some (part_of width span (map number xs) 0) else None) = elim c.if-shape.branch [
      | then-shape w ↦ rw (w.head-is, w.if-shape.true) (ap Some w.part_among.ensures)
      | else-shape w ↦ rw (w.head-is, w.if-shape.false) refl
    ] in
    let tail : optional_part number c.if-shape-2.tail ≡ (if shape.has_tail then Some (part_of width span (map number xs) (shape.elements - 1)) else None) = elim c.if-shape-2.branch [
      | then-shape-2 w ↦ rw (w.tail-is, w.if-shape-2.true) (ap Some w.part_among-then-shape-2.ensures)
      | else-shape-2 w ↦ rw (w.tail-is, w.if-shape-2.false) refl
    ] in
    (λ i. region (head i) (map number (take (shape.words_before + shape.body_words - shape.words_before) (drop shape.words_before xs))) (tail i))
    ∙ parts-from-shape width span number xs shape c.shape-shape.ensures.shape c.if-not-shape.false

pub returns-clause-items : goal.returns-clause-items
returns-clause-items g c =
    let number = g.R.BitRegister.number in
    items-words_of g.R.BitRegister.BITS g.O.BitAt.at_of (span_of c.args.self) number c.args.memory.now
    (region (optional_part number c.if-shape.head) (map number (take (c.shape-shape.result.words_before + c.shape-shape.result.body_words - c.shape-shape.result.words_before) (drop c.shape-shape.result.words_before c.args.memory.now))) (optional_part number c.if-shape-2.tail)) (bit_below g.R.BitRegister.BITS c.args.self.head g.met.R.BitRegister.width_at_least_8 c.args.self.in_word) c.requires (returns-clause-parts g c)

pub returns-then-not-shape-clause-short : goal.returns-then-not-shape-clause-short
returns-then-not-shape-clause-short g c = zero-le

pub returns-clause-short : goal.returns-clause-short
returns-clause-short g c =
    let number = g.R.BitRegister.number in
    short-words_of g.R.BitRegister.BITS g.O.BitAt.at_of (span_of c.args.self) number c.args.memory.now
    (region (optional_part number c.if-shape.head) (map number (take (c.shape-shape.result.words_before + c.shape-shape.result.body_words - c.shape-shape.result.words_before) (drop c.shape-shape.result.words_before c.args.memory.now))) (optional_part number c.if-shape-2.tail))
    (bit_below g.R.BitRegister.BITS c.args.self.head g.met.R.BitRegister.width_at_least_8 c.args.self.in_word) c.args.self.short c.requires (returns-clause-parts g c)
