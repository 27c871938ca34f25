use Rattle.std.proofs.Common.{◌≡◌, ◌+◌, ◌-◌, ◌*◌, ◌≤◌, subst, arith}
use Rattle.bitvec.specs.Ones.{IsHighestOne}
use Rattle.bitvec_stream.proofs.WindowLemmas.{window_code}
use Rattle.bitvec_stream.proofs.reader.window.code_in.Goals as goal

pub returns : goal.returns
returns g c =
    let bits = g.R.BitRegister.BITS in
    let number = g.R.BitRegister.number in
    let w = number c.args.word in
    let z = c.from-zeros.result in
    let top : c.in_ok-top.top ≡ bits - 1 - z = omega (arith, c.in_ok-top.ensures.0, c.from-zeros.ensures, c.BITS.ensures) in
    let fits : 2 * z + 1 ≤ c.args.kept = omega (arith, c.if-kept-zeros.false) in (
      fits,
      λ xs place keeps long. window_code bits w z _ (number c.shr-digits.result) c.args.kept (record {
        room = omega (arith, fits, c.requires, c.BITS-2.ensures);
        top = subst (IsHighestOne bits w) top c.in_ok-top.ensures;
        below = c.shr-digits.ensures.below;
        digits = c.shr-digits.ensures.moved;
        past = c.shr-digits.ensures.high;
      }) fits xs place keeps long,
    )
