use Rattle.std.proofs.Common.{◌++◌, map, length, take, drop, ap}
use Rattle.std.specs.Prelude.{reverse}
use Rattle.bitvec.specs.BitSpan.{span_of}
use Rattle.bitvec.specs.Span.{list_of}
use Rattle.bitvec.proofs.BecomesLemmas.{becomes-same, fits-numbers}
use Rattle.bitvec_slice.proofs.slice.moves.reverse_range.Goals as goal

pub reverse_bits-requires : goal.reverse_bits-requires
reverse_bits-requires g c = record { fits = c.range.ensures.fit (length c.args.memory.now) c.requires.fits }

pub returns : goal.returns
returns g c =
    let width = g.R.BitRegister.BITS in
    let at = g.O.BitAt.at_of in
    let number = g.R.BitRegister.number in
    let span = span_of c.args.span in
    let old = map number c.args.memory.now in
    let new = map number c.reverse_bits.new.memory in
    let xs = list_of width at span old in
    let fits = fits-numbers width span number c.args.memory.now c.requires.fits in
    let turned = ap (λ ys. take c.args.from xs ++ reverse ys ++ drop c.args.to xs) (c.range.ensures.list at old fits) in
    becomes-same width at span old new _ _ turned (c.range.ensures.edits at old new _ fits c.reverse_bits.ensures)
