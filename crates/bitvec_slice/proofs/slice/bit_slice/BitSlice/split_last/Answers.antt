use Rattle.std.proofs.Common.{◌-◌, [], ◌∷◌, ◌++◌, take, sym, ap, ◌∙◌}
use Rattle.bitvec_slice.specs.BitSlice.{slice_bits}
use Rattle.bitvec_slice.proofs.PatternLemmas.{rest_then_last}
use Rattle.bitvec_slice.proofs.slice.bit_slice.BitSlice.split_last.Goals as goal

pub returns-clause-bits : goal.returns-clause-bits
returns-clause-bits g c =
    let xs = slice_bits c.args.self.now in
    let last = c.in_ok-bit.ensures in
    let rest = c.split_at.ensures.front ∙ ap (λ n. take (n - 1) xs) c.len.ensures.list in
    rest_then_last xs last.0 ∙ (λ m. sym rest m ++ (sym last.1 m ∷ []))
