use Rattle.std.proofs.Common.{◌+◌, ◌*◌, ◌<◌, length, map, nat_abs, sym, ap, ◌∙◌, arith}
use Rattle.bitvec_ptr.specs.Memory.{memory_bits, list_with}
use Rattle.bitvec_ptr.proofs.CombineLemmas.{combined_none}
use Rattle.bitvec_ptr.proofs.CopyLemmas.{met_covers, from_rising, from_falling}
use Rattle.bitvec_ptr.proofs.PlaceLemmas.{words_met-none}
use Rattle.bitvec_ptr.proofs.ptr.single.BitPtr.combine_within_through.Goals as goal

pub returns-then-count-eq0-clause-writes : goal.returns-then-count-eq0-clause-writes
returns-then-count-eq0-clause-writes g c =
    let none = words_met-none g.R.BitRegister.BITS c.args.dest.bit c.args.count c.if-count-eq0.true in
    omega (arith, none)

pub returns-then-count-eq0-clause-bits : goal.returns-then-count-eq0-clause-bits
returns-then-count-eq0-clause-bits g c =
    let R = g.R.BitRegister in
    let old = memory_bits R.BITS g.O.BitAt.at_of (map R.number c.args.writer.now.words.now) in
    let s = nat_abs c.args.self.word * R.BITS + c.args.self.bit in
    let t = nat_abs c.args.dest.word * R.BITS + c.args.dest.bit in
    combined_none g.C.Combine.of old s old t ∙ ap (λ n. list_with g.C.Combine.of old s old t n) (sym c.if-count-eq0.true)

pub combine_bits_within-requires-clause-from_in : goal.combine_bits_within-requires-clause-from_in
combine_bits_within-requires-clause-from_in g c =
    let R = g.R.BitRegister in
    let some : 0 < R.BITS = omega (arith, g.met.R.BitRegister.width_at_least_8) in
    let more : 0 < c.args.count = omega arith in
    rw c.at.ensures.place
    (met_covers R.BITS (nat_abs c.args.self.word) c.args.self.bit c.args.count (length c.args.writer.now.words.now) some more c.requires.from_in.1)

pub combine_bits_within-requires-clause-to_in : goal.combine_bits_within-requires-clause-to_in
combine_bits_within-requires-clause-to_in g c = rw (c.at-2.ensures.word, c.at-2.ensures.bit) c.requires.to_in.1

pub combine_bits_within-requires-clause-rising : goal.combine_bits_within-requires-clause-rising
combine_bits_within-requires-clause-rising g c = λ r.
    let more : 0 < c.args.count = omega arith in
    c.requires.rising more r ∙ sym c.at-2.ensures.word

pub combine_bits_within-requires-clause-falling : goal.combine_bits_within-requires-clause-falling
combine_bits_within-requires-clause-falling g c = λ r.
    let more : 0 < c.args.count = omega arith in
    rw (c.at-2.ensures.word, c.at-2.ensures.bit) (c.requires.falling more r)

pub combine_bits_within-requires-clause-before : goal.combine_bits_within-requires-clause-before
combine_bits_within-requires-clause-before g c = λ r.
    let B = g.R.BitRegister.BITS in
    let more : 0 < c.args.count = omega arith in
    let below =
    from_rising c.args.writer.now.rising (nat_abs c.args.self.word * B + c.args.self.bit) (nat_abs c.args.dest.word * B + c.args.dest.bit)
    (c.requires.needs_falling more) r in
    omega (arith, below, c.at.ensures.place, c.at-2.ensures.place)

pub combine_bits_within-requires-clause-behind : goal.combine_bits_within-requires-clause-behind
combine_bits_within-requires-clause-behind g c = λ r.
    let B = g.R.BitRegister.BITS in
    let more : 0 < c.args.count = omega arith in
    let below =
    from_falling c.args.writer.now.rising (nat_abs c.args.self.word * B + c.args.self.bit) (nat_abs c.args.dest.word * B + c.args.dest.bit)
    (c.requires.needs_rising more) r in
    omega (arith, below, c.at.ensures.place, c.at-2.ensures.place)

pub returns-clause-writes : goal.returns-clause-writes
returns-clause-writes g c = rw c.at-2.ensures.bit at c.combine_bits_within.ensures.writes

pub returns-clause-rising_mark : goal.returns-clause-rising_mark
returns-clause-rising_mark g c = λ _ r. rw (c.at-2.ensures.word, c.at-2.ensures.bit) at (c.combine_bits_within.ensures.rising_mark r)

pub returns-clause-falling_mark : goal.returns-clause-falling_mark
returns-clause-falling_mark g c = λ _ r. c.combine_bits_within.ensures.falling_mark r ∙ c.at-2.ensures.word

pub returns-clause-bits : goal.returns-clause-bits
returns-clause-bits g c =
    let R = g.R.BitRegister in
    let old = memory_bits R.BITS g.O.BitAt.at_of (map R.number c.args.writer.now.words.now) in
    c.combine_bits_within.ensures.bits
    ∙ ap (λ v. list_with g.C.Combine.of old v old (c.at-2.result.word * R.BITS + c.at-2.result.bit) c.args.count) c.at.ensures.place
    ∙ ap (λ v. list_with g.C.Combine.of old (nat_abs c.args.self.word * R.BITS + c.args.self.bit) old v c.args.count) c.at-2.ensures.place

pub returns-clause-none : goal.returns-clause-none
returns-clause-none g c = λ e. absurd (omega arith)
