use Rattle.std.proofs.Common.{true, false, map, to_z-of_z, FitsSigned, ◌∙◌, rules}
use Rattle.std.specs.Int.{w64}
use Rattle.bitvec_call.proofs.SignedRangeLemmas.{signed_range}
use Rattle.bitvec_call.proofs.signed.load_in.Goals as goal

pub returns-then-big : goal.returns-then-big
returns-then-big g c =
    let fits : FitsSigned w64 c.load_signed_be.result = search rules in
    rw c.if-big.true
    (to_z-of_z {w = w64} {z = c.load_signed_be.result} fits
    ∙ signed_range g.R.BitRegister.BITS g.O.BitAt.at_of true g.O.Sequential.RISES c.args.start c.args.count (map g.R.BitRegister.number c.args.memory.now) _ _ _
    c.bits-range.ensures.span c.bits-range.ensures.bits c.load_signed_be.ensures)

pub returns-else-big : goal.returns-else-big
returns-else-big g c =
    let fits : FitsSigned w64 c.load_signed_le.result = search rules in
    rw c.if-big.false
    (to_z-of_z {w = w64} {z = c.load_signed_le.result} fits
    ∙ signed_range g.R.BitRegister.BITS g.O.BitAt.at_of false g.O.Sequential.RISES c.args.start c.args.count (map g.R.BitRegister.number c.args.memory.now) _ _ _
    c.bits-range.ensures.span c.bits-range.ensures.bits c.load_signed_le.ensures)
