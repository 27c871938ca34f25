use Rattle.std.proofs.Common.{◌≡◌, ◌++◌, string_bytes, refl, rules, arith}
use Rattle.std.proofs.lemmas.Option.{slice_get_read}
use Rattle.bits_text.specs.Words.{hexadecimal}
use Rattle.bits_text.proofs.WordLemmas.{text_whole}
use Rattle.bits_text.proofs.FrontLemmas.{first_refused, next_refused, on_err}
use Rattle.bits_text.proofs.words.write_words.Goals as goal

pub returns-in_err-write_number-clause-err : goal.returns-in_err-write_number-clause-err
returns-in_err-write_number-clause-err g c =
    let front = rw c.to_u128.ensures.number at c.in_err-write_number.ensures.err in
    on_err c.from_residual.result (first_refused g.R.BitRegister.number c.in-Some.first.now c.in-Some.rest.now c.args.memory.now _ _ c.in-Some.ensures.cases.0 front)

pub returns-in_err-write_next-clause-err : goal.returns-in_err-write_next-clause-err
returns-in_err-write_next-clause-err g c =
    let number = g.R.BitRegister.number in
    let begun : string_bytes c.write_number.new.text ≡ string_bytes c.args.text.now ++ hexadecimal (number c.in-Some.first.now) = search rules in
    let front = rw c.to_u128-in-loop-word.ensures.number at c.in_err-write_next.ensures.err in
    let first = c.in-Some.first.now in
    let rest = c.in-Some.rest.now in
    let k = c.loop-word.word-index in
    let word = c.word-item.result in
    let is = slice_get_read rest _ k word refl (omega arith) c.word-item.is in
    let refused = next_refused number first rest k word (string_bytes c.args.text.now) _ _ is
    (record {
      mid = string_bytes c.write_number.new.text;
      begun = begun;
      followed = c.loop-word.invariant;
    }) front in
    on_err c.from_residual-in_err-write_next.result (rw c.in-Some.ensures.cases.0 refused)

pub returns-clause-ok : goal.returns-clause-ok
returns-clause-ok g c =
    let number = g.R.BitRegister.number in
    let begun : string_bytes c.write_number.new.text ≡ string_bytes c.args.text.now ++ hexadecimal (number c.in-Some.first.now) = search rules in
    text_whole number c.in-Some.first.now c.in-Some.rest.now c.args.memory.now c.loop-word.word-index _ _ _ c.in-Some.ensures.cases.0 c.loop-word-test.false begun c.loop-word.invariant
