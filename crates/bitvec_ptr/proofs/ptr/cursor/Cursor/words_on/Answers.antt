use Rattle.std.proofs.Common.{◌≡◌, ◌+◌, ◌*◌, ◌<◌, ap, sym, ◌∙◌, arith}
use Rattle.bitvec_ptr.proofs.CopyLemmas.{word_within}
use Rattle.bitvec_ptr.proofs.ptr.cursor.Cursor.words_on.Goals as goal

pub overflow_add-word : goal.overflow_add-word
overflow_add-word g c =
    let R = g.R.BitRegister in
    let R2 = g.R2.BitRegister in
    let self = c.args.self in
    let width : R.BITS ≡ R2.BITS = sym c.BITS.ensures ∙ c.if-BITS.true ∙ c.BITS-2.ensures in
    let times : c.args.count * R.BITS ≡ c.args.count * R2.BITS = ap (λ n. c.args.count * n) width in
    let below : self.word + c.args.count < 18446744073709551616 = word_within (self.word + c.args.count) self.bit R.BITS 18446744073709551616 (omega (arith, times, c.requires.inside)) in
    omega (arith, below)

pub returns-then-BITS-clause-place : goal.returns-then-BITS-clause-place
returns-then-BITS-clause-place g c =
    let R = g.R.BitRegister in
    let R2 = g.R2.BitRegister in
    let width : R.BITS ≡ R2.BITS = sym c.BITS.ensures ∙ c.if-BITS.true ∙ c.BITS-2.ensures in
    let times : c.args.count * R.BITS ≡ c.args.count * R2.BITS = ap (λ n. c.args.count * n) width in
    let place : c.new.result.word * R.BITS ≡ (c.args.self.word + c.args.count) * R.BITS = ap (λ n. n * R.BITS) c.new.ensures.word in
    omega (arith, times, place, c.new.ensures.bit)

pub overflow_mul-places : goal.overflow_mul-places
overflow_mul-places g c =
    let times : c.args.count * c.from-width.result ≡ c.args.count * g.R2.BitRegister.BITS = ap (λ n. c.args.count * n) (c.from-width.ensures ∙ c.BITS-3.ensures) in
    omega (arith, times, c.requires.short)

pub advanced-requires : goal.advanced-requires
advanced-requires g c =
    let times : c.args.count * c.from-width.result ≡ c.args.count * g.R2.BitRegister.BITS = ap (λ n. c.args.count * n) (c.from-width.ensures ∙ c.BITS-3.ensures) in
    omega (arith, times, c.requires.inside)

pub returns-clause-place : goal.returns-clause-place
returns-clause-place g c =
    let times : c.args.count * c.from-width.result ≡ c.args.count * g.R2.BitRegister.BITS = ap (λ n. c.args.count * n) (c.from-width.ensures ∙ c.BITS-3.ensures) in
    omega (arith, times, c.advanced.ensures)
