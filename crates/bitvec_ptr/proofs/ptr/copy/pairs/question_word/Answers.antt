use Rattle.std.proofs.Common.{◌≡◌, ◌+◌, ◌*◌, ◌<◌, map, sym, ap, ◌∙◌, arith}
use Rattle.std.specs.Prelude.{slice_index}
use Rattle.std.proofs.lemmas.List.{get_or-map}
use Rattle.bitvec_mem.specs.Digit.{digit}
use Rattle.bitvec_mem.proofs.DigitLemmas.{digit-zero}
use Rattle.bitvec_ptr.specs.Memory.{bit_of}
use Rattle.bitvec_ptr.proofs.BitLemmas.{bit_of-word}
use Rattle.bitvec_ptr.proofs.ptr.copy.pairs.question_word.Goals as goal

pub returns-clause-inside : goal.returns-clause-inside
returns-clause-inside g c = λ j h.
    let R = g.R.BitRegister in
    let of = g.C.Combine.of in
    let at = g.O.BitAt.at_of in
    let words = map R.number c.args.memory.now in
    let to = c.args.to in
    let bit = c.args.bit in
    let index : bit + j < R.BITS = omega arith in
    let place : to * R.BITS + bit + j ≡ to * R.BITS + (bit + j) = omega arith in
    let theirs = digit (R.number c.gathered_from-theirs.result) (at (bit + j)) in
    let was : R.number c.index-memory-to.result ≡ slice_index words to =
    ap R.number c.index-memory-to.is ∙ sym (get_or-map R.number c.args.memory.now to c.index-memory-to.result 0 c.requires.to_in) in
    let here : digit (R.number c.index-memory-to.result) (at (bit + j)) ≡ bit_of R.BITS at words (to * R.BITS + bit + j) =
    ap (λ n. digit n (at (bit + j))) was ∙ sym (ap (bit_of R.BITS at words) place ∙ bit_of-word R.BITS at words to (bit + j) index) in
    c.with_bits.ensures.inside j h
    ∙ c.word-both.ensures (at (bit + j)) (g.met.O.BitOrder.one_to_one.below (bit + j) index)
    ∙ ap (λ b. of b theirs) here
    ∙ ap (of (bit_of R.BITS at words (to * R.BITS + bit + j))) (c.gathered_from-theirs.ensures.inside j h)

pub returns-clause-outside : goal.returns-clause-outside
returns-clause-outside g c = λ j h u.
    let R = g.R.BitRegister in
    let p = g.O.BitAt.at_of j in
    c.with_bits.ensures.outside j h u
    ∙ ap (λ n. digit n p) (ap R.number c.ZERO-2.ensures ∙ g.met.R.BitRegister.zero_is_0)
    ∙ digit-zero p
