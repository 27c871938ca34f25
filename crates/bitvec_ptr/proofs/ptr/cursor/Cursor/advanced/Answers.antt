use Rattle.std.proofs.Common.{◌≡◌, ◌+◌, ◌/◌, ◌%◌, arith, ◌∙◌}
use Rattle.std.proofs.lemmas.Nat.{div-add-mod'}
use Rattle.bitvec_ptr.proofs.CopyLemmas.{advanced_word}
use Rattle.bitvec_ptr.proofs.ptr.cursor.Cursor.advanced.Goals as goal

pub overflow_add-self : goal.overflow_add-self
overflow_add-self g c =
    let width = g.R.BitRegister.BITS in
    let is : c.from-width.result ≡ width = c.from-width.ensures ∙ c.BITS.ensures in
    let below = advanced_word c.args.self.word c.args.self.bit c.args.count width 18446744073709551616 (omega (arith, g.met.R.BitRegister.width_at_least_8)) c.requires in
    rw is (omega (arith, below))

pub overflow_add-self-2 : goal.overflow_add-self-2
overflow_add-self-2 g c =
    let width = g.R.BitRegister.BITS in
    let is : c.from-width.result ≡ width = c.from-width.ensures ∙ c.BITS.ensures in
    let below = advanced_word c.args.self.word c.args.self.bit c.args.count width 18446744073709551616 (omega (arith, g.met.R.BitRegister.width_at_least_8)) c.requires in
    rw (is, c.from.ensures) (omega (arith, below))

pub returns : goal.returns
returns g c =
    let width = g.R.BitRegister.BITS in
    let is : c.from-width.result ≡ width = c.from-width.ensures ∙ c.BITS.ensures in
    let word : c.new.result.word ≡ c.args.self.word + c.args.count / width + (c.args.self.bit + c.args.count % width) / width = rw (is, c.from.ensures) at c.new.ensures.word in
    let bit : c.new.result.bit ≡ (c.args.self.bit + c.args.count % width) % width = rw (is, c.from.ensures) at c.new.ensures.bit in
    rw (word, bit) (omega (arith, div-add-mod' c.args.count width, div-add-mod' (c.args.self.bit + c.args.count % width) width))
