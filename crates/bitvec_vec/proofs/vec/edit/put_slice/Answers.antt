use Rattle.std.proofs.Common.{◌+◌, ◌∙◌, rules, Bool, List, length, map, ap, sym, arith}
use Rattle.bitvec.specs.BitSpan.{span_of}
use Rattle.bitvec.specs.Span.{Span}
use Rattle.bitvec_slice.specs.BitSlice.{slice_memory, slice_len, slice_bits}
use Rattle.bitvec_slice.specs.BitSliceMut.{lent_span}
use Rattle.bitvec_slice.specs.Ranges.{with_range}
use Rattle.bitvec_vec.specs.Front.{front_of}
use Rattle.bitvec_vec.proofs.VecLemmas.{front-fits, front-lent}
use Rattle.bitvec_vec.proofs.vec.edit.put_slice.Goals as goal

pub new_unchecked-bits-requires : goal.new_unchecked-bits-requires
new_unchecked-bits-requires g c =
    front-fits g.R.BitRegister.BITS c.args.len (length c.args.words.now) (span_of c.span_of_front-span.result) c.span_of_front-span.ensures.span c.requires.room

pub copy_from_range-requires : goal.copy_from_range-requires
copy_from_range-requires g c =
    omega (arith, c.requires.inside, c.span_of_front-span.ensures.len, ap (λ (s : Span). s.len) c.new_unchecked-bits.ensures.span)

pub returns : goal.returns
returns g c =
    let width = g.R.BitRegister.BITS in
    let at = g.O.BitAt.at_of in
    let number = g.R.BitRegister.number in
    let slice = c.new_unchecked-bits.result in
    let left = c.copy_from_range.new.self.memory.now in
    let from = c.args.from in
    let theirs = slice_bits c.args.source in
    let many = c.args.source.many (map g.R2.BitRegister.number (slice_memory c.args.source)) in
    front-lent width at number c.args.len c.args.words.now slice.memory.now left _ (lent_span slice) (λ (xs : List Bool). with_range xs from (from + slice_len c.args.source) theirs)
    (c.new_unchecked-bits.ensures.span ∙ c.span_of_front-span.ensures.span) c.new_unchecked-bits.ensures.memory (search rules) c.copy_from_range.ensures.bits.3
    ∙ ap (λ n. with_range (front_of width at number c.args.len c.args.words.now) from (from + n) theirs) (sym many)
