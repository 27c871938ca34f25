use Rattle.std.proofs.Common.{◌≡◌, ◌<◌, ◌≤◌, ◌*◌, ◌%◌, ◌+◌, ◌∙◌, [], ◌∷◌, length, sym, ap, arith}
use Rattle.std.specs.Prelude.{vec_len, vec_capacity}
use Rattle.bitvec_vec.specs.Front.{words_for}
use Rattle.bitvec_vec.proofs.FrontLemmas.{words-full, words-room, rows}
use Rattle.bitvec_vec.proofs.LastLemmas.{below-most}
use Rattle.bitvec_vec.proofs.VecLemmas.{front-pushed}
use Rattle.bitvec_vec.proofs.vec.front.make_room.Goals as goal

pub returns-then-len-from-ne0-clause-len : goal.returns-then-len-from-ne0-clause-len
returns-then-len-from-ne0-clause-len g c =
    let width = g.R.BitRegister.BITS in
    let some : 0 < width = omega (arith, g.met.R.BitRegister.width_at_least_8) in
    let is : c.from.result ≡ width = c.from.ensures ∙ c.BITS.ensures in
    c.requires.enough ∙ sym (words-room width c.args.len some (λ none. c.if-len-from-ne0.true (ap (λ n. c.args.len % n) is ∙ none)))

pub returns-in-Err-clause-full : goal.returns-in-Err-clause-full
returns-in-Err-clause-full g c =
    let width = g.R.BitRegister.BITS in
    let some : 0 < width = omega (arith, g.met.R.BitRegister.width_at_least_8) in
    let is : c.from.result ≡ width = c.from.ensures ∙ c.BITS.ensures in
    let whole : c.args.len % width ≡ 0 = ap (λ n. c.args.len % n) (sym is) ∙ c.if-len-from-ne0.false in
    let full : vec_capacity c.args.words.now ≤ vec_len c.args.words.now = c.in-Err.ensures.full in
    let row = rows width (vec_capacity c.args.words.now) (words_for width c.args.len) (omega (arith, full, c.requires.enough)) in
    let room : vec_capacity c.args.words.now * width ≤ c.args.len = omega (arith, row, (words-full width c.args.len some whole).0) in
    omega (arith, room)

pub returns-in-Ok-clause-len : goal.returns-in-Ok-clause-len
returns-in-Ok-clause-len g c =
    let width = g.R.BitRegister.BITS in
    let some : 0 < width = omega (arith, g.met.R.BitRegister.width_at_least_8) in
    let is : c.from.result ≡ width = c.from.ensures ∙ c.BITS.ensures in
    let whole : c.args.len % width ≡ 0 = ap (λ n. c.args.len % n) (sym is) ∙ c.if-len-from-ne0.false in
    c.in-Ok.ensures.len ∙ ap (λ n. n + 1) c.requires.enough ∙ sym (words-full width c.args.len some whole).1

pub returns-in-Ok-clause-short : goal.returns-in-Ok-clause-short
returns-in-Ok-clause-short g c =
    let law = g.met.R.BitRegister in
    let width = g.R.BitRegister.BITS in
    let is : c.from.result ≡ width = c.from.ensures ∙ c.BITS.ensures in
    let whole : c.args.len % width ≡ 0 = ap (λ n. c.args.len % n) (sym is) ∙ c.if-len-from-ne0.false in
    below-most width g.R.BitRegister.INDX c.args.len law.width_is_power_of_two law.exponent_at_least_3 law.exponent_at_most_7 whole c.requires.short

pub returns-in-Ok-clause-kept : goal.returns-in-Ok-clause-kept
returns-in-Ok-clause-kept g c = λ at.
    let width = g.R.BitRegister.BITS in
    let some : 0 < width = omega (arith, g.met.R.BitRegister.width_at_least_8) in
    let room : words_for width c.args.len ≤ length c.args.words.now.items = omega (arith, c.requires.enough, c.args.words.now.ok.0) in
    front-pushed width at g.R.BitRegister.number c.args.len c.args.words.now.items (c.ZERO.result ∷ []) c.push.new.self.items some room c.in-Ok.ensures.items
