use Rattle.std.proofs.Common.{◌≡◌, ◌<◌, length, MatchOption, subst, sym}
use Rattle.bitvec.specs.Span.{element}
use Rattle.bitvec_slice.specs.BitSlice.{slice_bits}
use Rattle.bitvec_slice.proofs.FindLemmas.{first_element}
use Rattle.bitvec_slice.proofs.slice.bit_slice.BitSlice.first.Goals as goal

pub returns : goal.returns
returns g c = let xs = slice_bits c.args.self.now in
    subst (λ o. MatchOption o (length xs ≡ 0) (λ bit. (0 < length xs) × (bit ≡ element xs 0))) (sym c.get.ensures) (first_element xs)
