use Rattle.std.proofs.Common.{◌/◌, ◌-◌, ◌^◌, ◌≤◌, ap, ◌∙◌, pos, arith}
use Rattle.std.specs.Int.{w128}
use Rattle.std.proofs.lemmas.Int.{to_z_pos}
use Rattle.std.proofs.Math.Pow.{pow_mono}
use Rattle.bitvec_stream.proofs.DigitRangeLemmas.{half_ones}
use Rattle.bitvec_stream.proofs.writer.signed.greatest_of.Goals as goal

pub returns : goal.returns
returns c =
    let same = half_ones c.args.count c.requires.some c.requires.most in
    let most : 2 ^ (c.args.count - 1) ≤ 2 ^ 127 = pow_mono {i = c.args.count - 1} {j = 127} (let h : c.args.count - 1 ≤ 127 = omega (arith, c.requires.most) in h) in
    to_z_pos w128 ((2 ^ 128 - 1) / 2 ^ (128 - c.args.count) / 2) (omega (arith, same, most)) ∙ ap pos same
