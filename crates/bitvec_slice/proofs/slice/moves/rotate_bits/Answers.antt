use Rattle.std.proofs.Common.{◌≡◌, ◌≤◌, map, length, refl, arith}
use Rattle.std.specs.Prelude.{reverse}
use Rattle.bitvec.specs.BitSpan.{span_of}
use Rattle.bitvec.specs.Span.{list_of}
use Rattle.bitvec.proofs.BecomesLemmas.{becomes-same, becomes-then}
use Rattle.bitvec.proofs.PartLemmas.{length-list_of}
use Rattle.bitvec_slice.proofs.ListEdits.{rotated}
use Rattle.bitvec_slice.proofs.slice.moves.rotate_bits.Goals as goal

pub returns : goal.returns
returns g c =
    let width = g.R.BitRegister.BITS in
    let at = g.O.BitAt.at_of in
    let number = g.R.BitRegister.number in
    let span = span_of c.args.span in
    let old = map number c.args.memory.now in
    let first = map number c.reverse_range.new.memory in
    let second = map number c.reverse_range-2.new.memory in
    let third = map number c.reverse_bits.new.memory in
    let long = length-list_of width at span old in
    let xs = list_of width at span old in
    let ys = list_of width at span first in
    let zs = list_of width at span second in
    let all : length xs ≡ c.len-len.result = omega (arith, long, c.len-len.ensures) in
    let within : c.args.by ≤ c.len-len.result = omega (arith, c.len-len.ensures, c.requires.inside) in
    let behind = becomes-then width at span first second third _ _ c.reverse_range-2.ensures c.reverse_bits.ensures in
    becomes-same width at span old third _ _
    (rotated c.len-len.result c.args.by xs ys zs (reverse zs) all within c.reverse_range.ensures.list c.reverse_range-2.ensures.list refl)
    (becomes-then width at span old first third _ _ c.reverse_range.ensures behind)
