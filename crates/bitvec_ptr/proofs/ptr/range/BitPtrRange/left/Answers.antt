use Rattle.std.proofs.Common.{refl, arith}
use Rattle.std.proofs.lemmas.Int.{ints}
use Rattle.bitvec_ptr.proofs.StepLemmas.{wide_difference, wide_difference_fits}
use Rattle.bitvec_ptr.proofs.ptr.range.BitPtrRange.left.Goals as goal

pub overflow_sub-result : goal.overflow_sub-result
overflow_sub-result g c =
    let one = c.place.ensures in
    let two = c.place-2.ensures in
    wide_difference_fits c.place.result c.place-2.result one.least one.greatest two.least two.greatest

pub overflow_cast-result : goal.overflow_cast-result
overflow_cast-result g c =
    let one = c.place.ensures in
    let two = c.place-2.ensures in
    let far = wide_difference c.place.result c.place-2.result one.least one.greatest two.least two.greatest in
    let ordered = c.args.self.now.ordered in
    let near = c.args.self.now.near in
    rw (far, one.value, two.value) (omega (arith, ints, ordered), omega (arith, ints, ordered, near))

pub returns-clause-value : goal.returns-clause-value
returns-clause-value g c =
    let one = c.place.ensures in
    let two = c.place-2.ensures in
    let far = wide_difference c.place.result c.place-2.result one.least one.greatest two.least two.greatest in
    rw (far, one.value, two.value) refl

pub returns-clause-short : goal.returns-clause-short
returns-clause-short g c =
    let one = c.place.ensures in
    let two = c.place-2.ensures in
    let far = wide_difference c.place.result c.place-2.result one.least one.greatest two.least two.greatest in
    let ordered = c.args.self.now.ordered in
    let near = c.args.self.now.near in
    rw (far, one.value, two.value) (omega (arith, ints, ordered, near))

pub returns-clause-word : goal.returns-clause-word
returns-clause-word g c = c.place.ensures.word
