use Rattle.std.proofs.Common.{◌≡◌, ◌-◌, Bool, List, false, true, MatchOption, min, map, length, take, sym, ap, subst, ◌∙◌, arith}
use Rattle.bitvec.specs.Digit.{exclusive_or}
use Rattle.bitvec.specs.Memory.{zip_with}
use Rattle.bitvec.specs.Span.{Span}
use Rattle.bitvec.specs.Truths.{AllAre, IsFirst}
use Rattle.bitvec.proofs.BecomesLemmas.{fits-numbers}
use Rattle.bitvec_slice.specs.BitSlice.{slice_bits, slice_span, slice_memory}
use Rattle.bitvec_slice.proofs.SetLemmas.{pairs_as_far}
use Rattle.bitvec_slice.proofs.slice.bit_slice.BitSlice.first_difference.Goals as goal

-- the bits that are compared are not past the end of either slice
pub range-here-requires-clause-inside : goal.range-here-requires-clause-inside
range-here-requires-clause-inside g c =
    omega (arith, c.min-count.ensures, c.len.ensures.value)

pub range-there-requires-clause-inside : goal.range-there-requires-clause-inside
range-there-requires-clause-inside g c =
    omega (arith, c.min-count.ensures, c.len-2.ensures.value)

pub first_with-requires-clause-fits : goal.first_with-requires-clause-fits
first_with-requires-clause-fits g c =
    let here = c.args.self.now in
    c.range-here.ensures.fit (length (slice_memory here)) here.fits

pub first_with-requires-clause-other_fits : goal.first_with-requires-clause-other_fits
first_with-requires-clause-other_fits g c =
    let there = c.args.other.now in
    c.range-there.ensures.fit (length (slice_memory there)) there.fits

pub first_with-requires-clause-same : goal.first_with-requires-clause-same
first_with-requires-clause-same g c =
    let long = λ (s : Span). s.len in
    ap long c.range-there.ensures.span ∙ sym (ap long c.range-here.ensures.span)

pub returns : goal.returns
returns g c =
    let width = g.R.BitRegister.BITS in
    let wide = g.R2.BitRegister.BITS in
    let here = c.args.self.now in
    let there = c.args.other.now in
    let xs = slice_bits here in
    let ys = slice_bits there in
    let n = c.min-count.result in
    let all : n - 0 ≡ n = omega arith in
    let least : n ≡ min (length xs) (length ys) = c.min-count.ensures ∙ (λ m. min (c.len.ensures.list m) (c.len-2.ensures.list m)) in
    let ours = c.range-here.ensures.list g.O.BitAt.at_of (map g.R.BitRegister.number (slice_memory here)) (fits-numbers width (slice_span here) g.R.BitRegister.number (slice_memory here) here.fits) ∙ ap (λ k. take k xs) all in
    let theirs = c.range-there.ensures.list g.O2.BitAt.at_of (map g.R2.BitRegister.number (slice_memory there)) (fits-numbers wide (slice_span there) g.R2.BitRegister.number (slice_memory there) there.fits) ∙ ap (λ k. take k ys) all in
    subst (λ (zs : List Bool). MatchOption c.first_with.result (AllAre false zs) (IsFirst true zs))
    ((λ m. zip_with exclusive_or (ours m) (theirs m)) ∙ pairs_as_far exclusive_or xs ys n least) c.first_with.ensures
