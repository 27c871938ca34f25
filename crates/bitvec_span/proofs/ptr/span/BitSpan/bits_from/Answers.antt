use Rattle.std.proofs.Common.{◌≡◌, ◌<◌, ◌∙◌, arith, to_z, of_z}
use Rattle.std.specs.Int.{w64}
use Rattle.std.proofs.lemmas.Int.{ints}
use Rattle.bitvec_ptr.specs.BitPtr.{ptr_of}
use Rattle.bitvec_span.specs.BitSpan.{span_of}
use Rattle.bitvec_span.proofs.SplitLemmas.{behind-from_start}
use Rattle.bitvec_span.proofs.ptr.span.BitSpan.bits_from.Goals as goal

pub returns : goal.returns
returns g c =
    let some : 0 < g.R.BitRegister.BITS = omega (arith, g.met.R.BitRegister.width_at_least_8) in
    let same : to_z w64 (of_z w64 c.address.result) ≡ c.address.result = omega (arith, ints, c.address.type_inv) in
    behind-from_start _ (span_of c.args.self) c.args.mid some c.requires (ptr_of c.to_bitptr.result) (ptr_of c.add-start.result) _ _ c.bit.ensures.below
    c.to_bitptr.ensures.pointer c.add-start.ensures (same ∙ c.address.ensures) (c.into_inner.ensures.value ∙ c.bit.ensures.value)
