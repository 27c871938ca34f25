use Rattle.std.proofs.Common.{◌≡◌, ◌<◌, ◌*◌, ◌∙◌, map, refl, sym, ap, arith}
use Rattle.std.specs.Prelude.{vec_len}
use Rattle.std.proofs.lemmas.List.{length-map}
use Rattle.bitvec.specs.Span.{front_span}
use Rattle.bitvec_slice.proofs.SlicePartLemmas.{list_of_whole}
use Rattle.bitvec_vec.specs.Front.{front_bits}
use Rattle.bitvec_vec.proofs.FrontLemmas.{words_are}
use Rattle.bitvec_vec.proofs.vec.bit_vec.BitVec.from_words.Goals as goal

pub overflow_mul-len : goal.overflow_mul-len
overflow_mul-len g c =
    let width = g.R.BitRegister.BITS in
    let is : c.from.result ≡ width = c.from.ensures ∙ c.BITS.ensures in
    let many : c.len.result * c.from.result ≡ vec_len c.args.words * width = ap (λ n. n * c.from.result) c.len.ensures ∙ ap (λ n. vec_len c.args.words * n) is in
    omega (arith, c.requires, many)

pub invariant_of-result : goal.invariant_of-result
invariant_of-result g c =
    let width = g.R.BitRegister.BITS in
    let words = c.args.words in
    let is : c.from.result ≡ width = c.from.ensures ∙ c.BITS.ensures in
    let many : c.len.result * c.from.result ≡ vec_len words * width = ap (λ n. n * c.from.result) c.len.ensures ∙ ap (λ n. vec_len words * n) is in
    let some : 0 < width = omega (arith, g.met.R.BitRegister.width_at_least_8) in
    record {
      short = omega (arith, c.requires, many);
      enough = sym (words_are width (c.len.result * c.from.result) (vec_len words) some (omega (arith, many)) (omega (arith, many, some)));
    }

pub returns-clause-bits : goal.returns-clause-bits
returns-clause-bits g c =
    let width = g.R.BitRegister.BITS in
    let at = g.O.BitAt.at_of in
    let words = c.args.words in
    let numbers = map g.R.BitRegister.number words.items in
    let is : c.from.result ≡ width = c.from.ensures ∙ c.BITS.ensures in
    let many : c.len.result * c.from.result ≡ vec_len words * width = ap (λ n. n * c.from.result) c.len.ensures ∙ ap (λ n. vec_len words * n) is in
    ap (λ n. front_bits width at n numbers) many
    ∙ list_of_whole width at (front_span (vec_len words * width)) numbers (vec_len words) refl (length-map words.items g.R.BitRegister.number ∙ sym words.ok.0)
