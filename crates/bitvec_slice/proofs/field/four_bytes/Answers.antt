use Rattle.std.proofs.Common.{◌≡◌, ◌+◌, ◌*◌, ◌/◌, ◌%◌, ◌^◌, sym, ap, ◌∙◌, arith}
use Rattle.bitvec.specs.Digit.{digit}
use Rattle.bitvec.proofs.DigitLemmas.{digit-mod, digit-shr}
use Rattle.bitvec_slice.proofs.field.four_bytes.Goals as goal

pub returns-clause-first : goal.returns-clause-first
returns-clause-first g c = λ p h.
    let n = c.byte.result + c.byte-2.result * 256 + (c.byte-3.result + c.byte-4.result * 256) * 65536 in
    let is : n % 2 ^ 8 ≡ g.R.BitRegister.number c.args.a = omega (arith, c.byte.ensures) in
    sym (digit-mod n 8 p h) ∙ ap (λ m. digit m p) is

pub returns-clause-second : goal.returns-clause-second
returns-clause-second g c = λ p h.
    let n = c.byte.result + c.byte-2.result * 256 + (c.byte-3.result + c.byte-4.result * 256) * 65536 in
    let is : n / 2 ^ 8 % 2 ^ 8 ≡ g.R.BitRegister.number c.args.b = omega (arith, c.byte.ensures, c.byte-2.ensures) in
    sym (digit-shr n 8 p) ∙ sym (digit-mod (n / 2 ^ 8) 8 p h) ∙ ap (λ m. digit m p) is

pub returns-clause-third : goal.returns-clause-third
returns-clause-third g c = λ p h.
    let n = c.byte.result + c.byte-2.result * 256 + (c.byte-3.result + c.byte-4.result * 256) * 65536 in
    let is : n / 2 ^ 16 % 2 ^ 8 ≡ g.R.BitRegister.number c.args.c = omega (arith, c.byte.ensures, c.byte-2.ensures, c.byte-3.ensures) in
    sym (digit-shr n 16 p) ∙ sym (digit-mod (n / 2 ^ 16) 8 p h) ∙ ap (λ m. digit m p) is

pub returns-clause-last : goal.returns-clause-last
returns-clause-last g c = λ p h.
    let n = c.byte.result + c.byte-2.result * 256 + (c.byte-3.result + c.byte-4.result * 256) * 65536 in
    let is : n / 2 ^ 24 % 2 ^ 8 ≡ g.R.BitRegister.number c.args.d = omega (arith, c.byte.ensures, c.byte-2.ensures, c.byte-3.ensures, c.byte-4.ensures) in
    sym (digit-shr n 24 p) ∙ sym (digit-mod (n / 2 ^ 24) 8 p h) ∙ ap (λ m. digit m p) is
