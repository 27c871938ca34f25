use Rattle.std.proofs.Common.{◌∷◌, sym, ◌∙◌}
use Rattle.bitvec_slice.specs.BitSlice.{slice_bits}
use Rattle.bitvec_slice.proofs.PatternLemmas.{first_then_rest}
use Rattle.bitvec_slice.proofs.slice.bit_slice.BitSlice.split_first.Goals as goal

pub returns-clause-bits : goal.returns-clause-bits
returns-clause-bits g c =
    let first = c.in_ok-bit.ensures in
    first_then_rest (slice_bits c.args.self.now) first.0 ∙ (λ m. sym first.1 m ∷ sym c.split_at.ensures.back m)
