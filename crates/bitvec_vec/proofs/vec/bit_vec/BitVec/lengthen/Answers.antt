use Rattle.std.proofs.Common.{◌+◌, ◌*◌, ◌∙◌, length, map, take, sym, ap, arith}
use Rattle.std.specs.Prelude.{min, vec_capacity}
use Rattle.std.proofs.lemmas.List.{take_all}
use Rattle.bitvec.specs.Place.{region_max_bits}
use Rattle.bitvec_vec.specs.BitVec.{vec_bits}
use Rattle.bitvec_vec.specs.Front.{front_bits}
use Rattle.bitvec_vec.proofs.FrontLemmas.{length-front, take-front}
use Rattle.bitvec_vec.proofs.VecLemmas.{on_err, capacity-grows, refused}
use Rattle.bitvec_vec.proofs.vec.bit_vec.BitVec.lengthen.Goals as goal

pub returns-then-self-count-clause-begins : goal.returns-then-self-count-clause-begins
returns-then-self-count-clause-begins g c = take_all (length (vec_bits c.args.self.now)) (vec_bits c.args.self.now) (omega arith)

pub returns-then-self-count-clause-full : goal.returns-then-self-count-clause-full
returns-then-self-count-clause-full g c =
    let width = g.R.BitRegister.BITS in
    let at = g.O.BitAt.at_of in
    let number = g.R.BitRegister.number in
    let vec = c.args.self.now in
    omega (arith, c.if-self-count.true, length-front width at vec.len (map number vec.words.items))

pub returns-in_err-fit_words-clause-begins : goal.returns-in_err-fit_words-clause-begins
returns-in_err-fit_words-clause-begins g c =
    let width = g.R.BitRegister.BITS in
    let at = g.O.BitAt.at_of in
    let number = g.R.BitRegister.number in
    let vec = c.args.self.now in
    let long = length-front width at vec.len (map number vec.words.items) in
    let new = map number c.fit_words.new.words.items in
    take_all (length (vec_bits vec)) (front_bits width at vec.len new) (omega (arith, long, length-front width at vec.len new)) ∙ c.fit_words.ensures.kept at

pub returns-in_err-fit_words-clause-len : goal.returns-in_err-fit_words-clause-len
returns-in_err-fit_words-clause-len g c =
    let width = g.R.BitRegister.BITS in
    let at = g.O.BitAt.at_of in
    let number = g.R.BitRegister.number in
    let vec = c.args.self.now in
    refused c.from_residual.result c.from_residual.ensures.0 _ _ _ (length-front width at vec.len (map number c.fit_words.new.words.items) ∙ sym (length-front width at vec.len (map number vec.words.items)))

pub returns-in_err-fit_words-clause-capacity : goal.returns-in_err-fit_words-clause-capacity
returns-in_err-fit_words-clause-capacity g c = capacity-grows g.R.BitRegister.BITS region_max_bits (vec_capacity c.args.self.now.words) (vec_capacity c.fit_words.new.words) c.fit_words.ensures.capacity

pub returns-in_err-fit_words-clause-full : goal.returns-in_err-fit_words-clause-full
returns-in_err-fit_words-clause-full g c =
    let width = g.R.BitRegister.BITS in
    let at = g.O.BitAt.at_of in
    let number = g.R.BitRegister.number in
    let vec = c.args.self.now in
    on_err c.from_residual.result (omega (arith, c.in_err-fit_words.ensures.full, length-front width at vec.len (map number vec.words.items)))

pub returns-in_err-fit_words-clause-refused : goal.returns-in_err-fit_words-clause-refused
returns-in_err-fit_words-clause-refused g c =
    on_err c.from_residual.result (ap (λ n. min (n * g.R.BitRegister.BITS) region_max_bits) c.in_err-fit_words.ensures.refused)

pub returns-clause-begins : goal.returns-clause-begins
returns-clause-begins g c =
    let width = g.R.BitRegister.BITS in
    let at = g.O.BitAt.at_of in
    let number = g.R.BitRegister.number in
    let vec = c.args.self.now in
    let new = map number c.fit_words.new.words.items in
    ap (λ n. take n (front_bits width at (vec.len + c.args.count) new)) (length-front width at vec.len (map number vec.words.items))
    ∙ take-front width at vec.len (vec.len + c.args.count) new (omega arith) ∙ c.fit_words.ensures.kept at

pub returns-clause-len : goal.returns-clause-len
returns-clause-len g c =
    let width = g.R.BitRegister.BITS in
    let at = g.O.BitAt.at_of in
    let number = g.R.BitRegister.number in
    let vec = c.args.self.now in
    let new = map number c.fit_words.new.words.items in
    length-front width at (vec.len + c.args.count) new ∙ ap (λ n. n + c.args.count) (sym (length-front width at vec.len (map number vec.words.items)))

pub returns-clause-capacity : goal.returns-clause-capacity
returns-clause-capacity g c = capacity-grows g.R.BitRegister.BITS region_max_bits (vec_capacity c.args.self.now.words) (vec_capacity c.fit_words.new.words) c.fit_words.ensures.capacity
