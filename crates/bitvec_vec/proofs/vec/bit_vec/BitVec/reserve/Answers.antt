use Rattle.std.proofs.Common.{◌≡◌, ◌<◌, ◌≤◌, ◌+◌, ◌-◌, ◌*◌, List, map, ap, arith}
use Rattle.std.specs.Prelude.{min, vec_len, vec_capacity}
use Rattle.bitvec.specs.Place.{region_max_bits}
use Rattle.bitvec_vec.specs.Front.{front_bits}
use Rattle.bitvec_vec.proofs.FrontLemmas.{length-front, words_fewer}
use Rattle.bitvec_vec.proofs.VecLemmas.{on_ok_then, on_err_then, capacity-grows, capacity-room, words-past}
use Rattle.bitvec_vec.proofs.vec.bit_vec.BitVec.reserve.Goals as goal

pub returns-then-self-additional-clause-full : goal.returns-then-self-additional-clause-full
returns-then-self-additional-clause-full g c =
    let width = g.R.BitRegister.BITS in
    let at = g.O.BitAt.at_of in
    let number = g.R.BitRegister.number in
    let vec = c.args.self.now in
    omega (arith, c.if-self-additional.true, length-front width at vec.len (map number vec.words.items))

pub overflow_sub-words : goal.overflow_sub-words
overflow_sub-words g c =
    let width = g.R.BitRegister.BITS in
    let at = g.O.BitAt.at_of in
    let number = g.R.BitRegister.number in
    let vec = c.args.self.now in
    let some : 0 < width = omega (arith, g.met.R.BitRegister.width_at_least_8) in
    omega (arith, c.words_of_bits-words.ensures, c.len.ensures, vec.enough, words_fewer width vec.len (vec.len + c.args.additional) some (omega arith))

pub returns-clause-bits : goal.returns-clause-bits
returns-clause-bits g c =
    let width = g.R.BitRegister.BITS in
    let at = g.O.BitAt.at_of in
    let number = g.R.BitRegister.number in
    let vec = c.args.self.now in
    ap (λ (us : List g.row.R.Denot). front_bits width at vec.len (map number us)) c.reserve.ensures.items

pub returns-clause-ok : goal.returns-clause-ok
returns-clause-ok g c =
    let width = g.R.BitRegister.BITS in
    let at = g.O.BitAt.at_of in
    let number = g.R.BitRegister.number in
    let vec = c.args.self.now in
    let some : 0 < width = omega (arith, g.met.R.BitRegister.width_at_least_8) in
    let to = vec.len + c.args.additional in
    let most : to ≤ region_max_bits = omega (arith, c.if-self-additional.false, vec.short) in
    let fewer = words_fewer width vec.len to some (omega arith) in
    let long = length-front width at vec.len (map number vec.words.items) in
    on_ok_then c.reserve.result (λ (room : vec_len c.reserve.new.self + (c.words_of_bits-words.result - c.len.result) ≤ vec_capacity c.reserve.new.self).
    let fits = capacity-room width region_max_bits to (vec_capacity c.reserve.new.self) some most (omega (arith, room, c.reserve.ensures.len, c.words_of_bits-words.ensures, c.len.ensures, vec.enough, fewer)) in
    omega (arith, fits, long)) c.reserve.ensures.ok

pub returns-clause-capacity : goal.returns-clause-capacity
returns-clause-capacity g c = capacity-grows g.R.BitRegister.BITS region_max_bits (vec_capacity c.args.self.now.words) (vec_capacity c.reserve.new.self) c.reserve.ensures.capacity

pub returns-clause-full : goal.returns-clause-full
returns-clause-full g c =
    let width = g.R.BitRegister.BITS in
    let at = g.O.BitAt.at_of in
    let number = g.R.BitRegister.number in
    let vec = c.args.self.now in
    let some : 0 < width = omega (arith, g.met.R.BitRegister.width_at_least_8) in
    let to = vec.len + c.args.additional in
    let fewer = words_fewer width vec.len to some (omega arith) in
    let long = length-front width at vec.len (map number vec.words.items) in
    on_err_then c.reserve.result (λ (full : vec_capacity vec.words < vec_len vec.words + (c.words_of_bits-words.result - c.len.result)).
    let past = words-past width to (vec_capacity vec.words) (omega (arith, full, c.words_of_bits-words.ensures, c.len.ensures, vec.enough, fewer)) in
    omega (arith, past, long)) c.reserve.ensures.full

pub returns-clause-refused : goal.returns-clause-refused
returns-clause-refused g c =
    let width = g.R.BitRegister.BITS in
    on_err_then c.reserve.result (λ (same : vec_capacity c.reserve.new.self ≡ vec_capacity c.args.self.now.words). ap (λ n. min (n * width) region_max_bits) same) c.reserve.ensures.err
