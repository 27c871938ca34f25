use Rattle.std.proofs.Common.{◌≡◌, ◌≤◌, ◌^◌, subst, sym, arith, rules, drop}
use Rattle.std.proofs.Math.Pow.{pow_mono}
use Rattle.bitvec_slice.proofs.FieldLemmas.{some_unless}
use Rattle.bitvec_stream.specs.Window.{IsNumberOf}
use Rattle.bitvec_stream.proofs.reader.window.first_number.Goals as goal

pub unwrap-requires : goal.unwrap-requires
unwrap-requires g c =
    let more : 2 ^ c.args.count ≤ 2 ^ g.N.BitRegister.BITS = pow_mono c.requires.fits in
    some_unless c.from_u128.result (λ none. absurd (omega (arith, more, c.first_digits.ensures.small, c.to_u128.ensures.number, c.from_u128.ensures.refused.0 none)))

pub returns : goal.returns
returns g c = λ xs place kept is less most long.
    let same : g.N.BitRegister.number c.unwrap.result ≡ g.R.BitRegister.number c.first_digits.result = search rules in
    subst (IsNumberOf g.R.BitRegister.BITS g.O.BitAt.at_of (drop place xs) c.args.count) (sym same) (c.first_digits.ensures.number xs place kept is less most long)
