use Rattle.std.proofs.Common.{◌≡◌, ◌<◌, ◌≤◌, ◌∙◌, ◌-◌, List, length, map, ap, arith, if◌then◌else◌}
use Rattle.std.specs.Prelude.{is_ok, vec_len, vec_capacity}
use Rattle.bitvec_vec.specs.Front.{front_bits, words_for}
use Rattle.bitvec_vec.proofs.FrontLemmas.{words_fewer}
use Rattle.bitvec_vec.proofs.VecLemmas.{front-resized, on_err, on_err_then, refused, words-past}
use Rattle.bitvec_vec.proofs.vec.front.fit_words.Goals as goal

pub overflow_sub-count : goal.overflow_sub-count
overflow_sub-count g c =
    let width = g.R.BitRegister.BITS in
    let some : 0 < width = omega (arith, g.met.R.BitRegister.width_at_least_8) in
    omega (arith, c.len.ensures, c.words_of_bits-count.ensures, c.requires.enough, words_fewer width c.args.len c.args.to some c.requires.longer)

pub returns-in_err-reserve-clause-len : goal.returns-in_err-reserve-clause-len
returns-in_err-reserve-clause-len g c = refused c.from_residual.result c.from_residual.ensures.0 _ _ _ c.reserve.ensures.len

pub returns-in_err-reserve-clause-kept : goal.returns-in_err-reserve-clause-kept
returns-in_err-reserve-clause-kept g c = λ at.
    ap (λ (us : List g.row.R.Denot). front_bits g.R.BitRegister.BITS at c.args.len (map g.R.BitRegister.number us)) c.reserve.ensures.items

pub returns-in_err-reserve-clause-full : goal.returns-in_err-reserve-clause-full
returns-in_err-reserve-clause-full g c =
    let capacity = vec_capacity c.args.words.now in
    let past : capacity < words_for g.R.BitRegister.BITS c.args.to = omega (arith, c.in_err-reserve.ensures.full, c.len.ensures, c.words_of_bits-count.ensures) in
    on_err c.from_residual.result (words-past g.R.BitRegister.BITS c.args.to capacity past)

pub returns-in_err-reserve-clause-refused : goal.returns-in_err-reserve-clause-refused
returns-in_err-reserve-clause-refused g c = on_err c.from_residual.result c.in_err-reserve.ensures.err

pub returns-clause-len : goal.returns-clause-len
returns-clause-len g c =
    let done = is_ok c.resize.result in
    c.resize.ensures.len
    ∙ ap (λ n. if done then n else vec_len c.reserve.new.self) c.words_of_bits-count.ensures
    ∙ ap (λ n. if done then words_for g.R.BitRegister.BITS c.args.to else n) c.reserve.ensures.len

pub returns-clause-kept : goal.returns-clause-kept
returns-clause-kept g c = λ at.
    let width = g.R.BitRegister.BITS in
    let number = g.R.BitRegister.number in
    let some : 0 < width = omega (arith, g.met.R.BitRegister.width_at_least_8) in
    let words = c.reserve.new.self in
    let count = c.words_of_bits-count.result in
    let room : words_for width c.args.len ≤ length words.items = omega (arith, c.requires.enough, c.reserve.ensures.len, words.ok.0) in
    let more : length words.items ≤ count = omega (arith, c.requires.enough, c.reserve.ensures.len, words.ok.0, c.words_of_bits-count.ensures, words_fewer width c.args.len c.args.to some c.requires.longer) in
    front-resized width at number c.args.len count (count - vec_len words) words.items c.resize.new.self.items c.ZERO.result (is_ok c.resize.result) some room more c.resize.ensures.items
    ∙ ap (λ (us : List g.row.R.Denot). front_bits width at c.args.len (map number us)) c.reserve.ensures.items

pub returns-clause-capacity : goal.returns-clause-capacity
returns-clause-capacity g c = omega (arith, c.reserve.ensures.capacity, c.resize.ensures.capacity)

pub returns-clause-full : goal.returns-clause-full
returns-clause-full g c =
    on_err_then c.resize.result (λ (past : vec_capacity c.reserve.new.self < c.words_of_bits-count.result).
    absurd (omega (arith, past, c.in_ok-reserve.ensures.ok, c.reserve.ensures.len, c.len.ensures))) c.resize.ensures.full

pub returns-clause-refused : goal.returns-clause-refused
returns-clause-refused g c =
    on_err_then c.resize.result (λ (past : vec_capacity c.reserve.new.self < c.words_of_bits-count.result).
    absurd (omega (arith, past, c.in_ok-reserve.ensures.ok, c.reserve.ensures.len, c.len.ensures))) c.resize.ensures.full
