use Rattle.std.proofs.Common.{◌∙◌, arith}
use Rattle.std.specs.Prelude.{FitsSigned}
use Rattle.std.proofs.lemmas.Int.{ints, wrapping_add_is}
use Rattle.std.specs.Int.{w64}
use Rattle.bitvec_ptr.specs.BitPtr.{ptr_of}
use Rattle.bitvec_ptr.proofs.StepLemmas.{far_same, wrapped-from_parts}
use Rattle.bitvec_ptr.proofs.ptr.single.BitPtr.wrapping_offset.Goals as goal

pub returns : goal.returns
returns g c =
    let word : FitsSigned w64 c.args.self.word = omega (arith, ints) in
    let words : FitsSigned w64 c.offset-words.result.0 = omega (arith, ints) in
    c.new.ensures
    ∙ wrapped-from_parts g.R.BitRegister.BITS (ptr_of c.args.self) c.args.count _ c.offset-words.result.0 _ c.offset-words.result.1
    (far_same _ c.args.self.bit c.args.count c.ranges.count c.bit.ensures.value)
    c.offset-words.ensures.carried c.offset-words.ensures.index (wrapping_add_is w64 c.args.self.word c.offset-words.result.0 word words)
