use Rattle.std.proofs.Common.{◌^◌, ◌<◌, ◌≤◌, ◌&&◌, ◌∙◌, ap, arith}
use Rattle.std.proofs.Math.Bool.{and-false}
use Rattle.std.proofs.Math.Pow.{pow_mono}
use Rattle.bitvec_mem.specs.Digit.{digit}
use Rattle.bitvec_ptr.proofs.GatherLemmas.{below_digits, carried_digit}
use Rattle.bitvec_ptr.proofs.ptr.copy.gather.carried.Goals as goal

pub word_of-here-requires : goal.word_of-here-requires
word_of-here-requires g c =
    let number = g.R.BitRegister.number in
    let bits = g.R.BitRegister.BITS in
    let count = c.args.count in
    let wide = c.BITS.ensures in
    let fits = c.requires.from_in in
    let most : count ≤ bits = omega arith in
    let room : count ≤ g.R2.BitRegister.BITS = omega (arith, c.requires.to_in) in
    let small : number c.and-digits.result < 2 ^ count =
    below_digits bits count (number c.and-digits.result) c.and-digits.ensures.below most
    (λ p h r.
    c.and-digits.ensures.digits p h
    ∙ ap (λ b. digit (number c.shr.result) p && b) (c.shr-lowest.ensures.high p h (omega arith))
    ∙ and-false (digit (number c.shr.result) p))
    in
    omega (arith, small, pow_mono room, c.to_u128.ensures.number)

pub returns : goal.returns
returns g c = λ p h.
    let number = g.R.BitRegister.number in
    let bits = g.R.BitRegister.BITS in
    let count = c.args.count in
    let wide = c.BITS.ensures in
    let fits = c.requires.from_in in
    let room = c.requires.to_in in
    c.shl.ensures.moved p (omega arith) ∙ ap (λ n. digit n p) (c.word_of-here.ensures ∙ c.to_u128.ensures.number)
    ∙ c.and-digits.ensures.digits p (omega arith)
    ∙ carried_digit
    {bits = bits} {from = c.args.from} {count = count} {n = number c.args.word} {low = number c.shr.result} {all = number c.ALL.result}
    {mask = number c.shr-lowest.result}
    (record {
      fits = fits;
      ones = ap number c.ALL.ensures ∙ g.met.R.BitRegister.all_is_greatest;
      down = c.shr.ensures.moved;
      masks = rw c.BITS.ensures at c.shr-lowest.ensures.moved;
    })
    p h
