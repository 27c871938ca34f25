use Rattle.std.proofs.Common.{◌≡◌, ◌≢◌, arith}
use Rattle.bitvec_verify.specs.Scan.{candidate}
use Rattle.bitvec_verify.proofs.ScanLemmas.{mask_fault, mask_passes, differ-from_test, same-from_test}
use Rattle.bitvec_verify.proofs.verify.verify_mask.Goals as goal

pub returns-then-ne : goal.returns-then-ne
returns-then-ne g c =
    let o = candidate g.R.BitRegister.BITS g.O.BitAt.at_of g.O.OrderCandidate.select_of g.O.OrderCandidate.mask_of in
    let other : c.mask-got.result ≢ c.plain_mask-want.result =
    differ-from_test _ _ _ _ _ (g.met.R.BitRegister.eq_compares_numbers c.into_inner.result c.into_inner-2.result (omega (arith, c.into_inner.ensures.value, c.into_inner.ensures.below)) (omega (arith, c.into_inner-2.ensures.value, c.into_inner-2.ensures.below))) c.into_inner.ensures.value c.into_inner-2.ensures.value c.if-ne.ensures in
    mask_fault o c.args.from c.args.upto c.mask-got.result c.plain_mask-want.result c.mask-got.ensures c.plain_mask-want.ensures.value other

pub returns : goal.returns
returns g c =
    let o = candidate g.R.BitRegister.BITS g.O.BitAt.at_of g.O.OrderCandidate.select_of g.O.OrderCandidate.mask_of in
    let same : c.mask-got.result ≡ c.plain_mask-want.result =
    same-from_test _ _ _ _ _ (g.met.R.BitRegister.eq_compares_numbers c.into_inner.result c.into_inner-2.result (omega (arith, c.into_inner.ensures.value, c.into_inner.ensures.below)) (omega (arith, c.into_inner-2.ensures.value, c.into_inner-2.ensures.below))) c.into_inner.ensures.value c.into_inner-2.ensures.value c.if-ne.ensures in
    mask_passes o c.args.from c.args.upto c.mask-got.result c.plain_mask-want.result c.mask-got.ensures c.plain_mask-want.ensures.value same
