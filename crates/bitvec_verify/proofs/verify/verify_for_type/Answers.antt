use Rattle.std.proofs.Common.{◌<◌, zero, arith}
use Rattle.bitvec_verify.specs.Scan.{candidate}
use Rattle.bitvec_verify.proofs.ScanLaws.{lawful_iff_ok}
use Rattle.bitvec_verify.proofs.verify.verify_for_type.Goals as goal

pub returns-clause-lawful : goal.returns-clause-lawful
returns-clause-lawful g c =
    let some : zero < g.R.BitRegister.BITS = omega (arith, g.met.R.BitRegister.width_at_least_8) in
    lawful_iff_ok (candidate g.R.BitRegister.BITS g.O.BitAt.at_of g.O.OrderCandidate.select_of g.O.OrderCandidate.mask_of) c.scan.result some c.scan.ensures.first c.scan.ensures.below
