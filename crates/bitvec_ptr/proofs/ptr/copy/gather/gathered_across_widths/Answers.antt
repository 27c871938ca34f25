use Rattle.std.proofs.Common.{◌≡◌, ℕ, ◌+◌, ◌-◌, ◌*◌, ◌<◌, ◌≤◌, length, map, min, sym, ◌∙◌, ap, arith}
use Rattle.std.proofs.lemmas.List.{get_or-map}
use Rattle.bitvec_ptr.proofs.CopyLemmas.{word_within}
use Rattle.bitvec_ptr.proofs.GatherLemmas.{IsShared, share_end, gathered_inside, gathered_outside}
use Rattle.bitvec_ptr.proofs.ptr.copy.gather.gathered_across_widths.Goals as goal

-- what the smaller of the bits left in a word and of those wanted is
share_of : {width bits index count done share : ℕ} → width ≡ bits → index ≤ bits - 1 → 8 ≤ bits → done < count → share ≡ min (width - index) (count - done)
    → (0 < share) × (index + share ≤ bits) × (done + share ≤ count)
share_of same index wide more is = (omega arith, omega arith, omega arith)

pub overflow_sub-BITS : goal.overflow_sub-BITS
overflow_sub-BITS g c = omega (arith, c.loop-done.read.in_word, c.BITS.ensures)

pub bounds-source-read : goal.bounds-source-read
bounds-source-read g c =
    let read = c.loop-done.read in
    word_within read.word read.bit g.R.BitRegister.BITS (length c.args.source.now)
    (omega (arith, c.loop-done.invariant.reads c.loop-done-test.true, c.loop-done-test.true, c.requires.from_in))

pub offset_bounds-source-read : goal.offset_bounds-source-read
offset_bounds-source-read g c =
    let there : c.loop-done.read.word < length c.args.source.now = bounds-source-read g c in
    omega (arith, there)

pub overflow_add-bit : goal.overflow_add-bit
overflow_add-bit g c = omega (arith, c.requires.bit_in, c.loop-done-test.true, g.met.R2.BitRegister.width_at_most_128)

pub gathered_from_word-gathered-requires-clause-some : goal.gathered_from_word-gathered-requires-clause-some
gathered_from_word-gathered-requires-clause-some g c =
    let share = share_of c.BITS.ensures c.loop-done.read.in_word g.met.R.BitRegister.width_at_least_8 c.loop-done-test.true c.min-share.ensures in
    share.0

pub gathered_from_word-gathered-requires-clause-from_in : goal.gathered_from_word-gathered-requires-clause-from_in
gathered_from_word-gathered-requires-clause-from_in g c =
    let share = share_of c.BITS.ensures c.loop-done.read.in_word g.met.R.BitRegister.width_at_least_8 c.loop-done-test.true c.min-share.ensures in
    share.1

pub gathered_from_word-gathered-requires-clause-bit_in : goal.gathered_from_word-gathered-requires-clause-bit_in
gathered_from_word-gathered-requires-clause-bit_in g c =
    let share = share_of c.BITS.ensures c.loop-done.read.in_word g.met.R.BitRegister.width_at_least_8 c.loop-done-test.true c.min-share.ensures in
    omega (arith, share.2, c.requires.bit_in)

pub gathered_from_word-gathered-requires-clause-rising : goal.gathered_from_word-gathered-requires-clause-rising
gathered_from_word-gathered-requires-clause-rising g c = c.requires.way.rising

pub gathered_from_word-gathered-requires-clause-falling : goal.gathered_from_word-gathered-requires-clause-falling
gathered_from_word-gathered-requires-clause-falling g c = c.requires.way.falling

pub overflow_add-read : goal.overflow_add-read
overflow_add-read g c =
    let read = c.loop-done.read in
    let there : read.word < length c.args.source.now =
    word_within read.word read.bit g.R.BitRegister.BITS (length c.args.source.now)
    (omega (arith, c.loop-done.invariant.reads c.loop-done-test.true, c.loop-done-test.true, c.requires.from_in)) in
    omega (arith, there)

pub overflow_add-done : goal.overflow_add-done
overflow_add-done g c =
    let share = share_of c.BITS.ensures c.loop-done.read.in_word g.met.R.BitRegister.width_at_least_8 c.loop-done-test.true c.min-share.ensures in
    omega (arith, share.2)

pub loop-done-smaller : goal.loop-done-smaller
loop-done-smaller g c =
    let share = share_of c.BITS.ensures c.loop-done.read.in_word g.met.R.BitRegister.width_at_least_8 c.loop-done-test.true c.min-share.ensures in
    omega (arith, share.0, share.2)

pub loop-done-preserved : goal.loop-done-preserved
loop-done-preserved g c =
    let R = g.R.BitRegister in
    let R2 = g.R2.BitRegister in
    let bits = R.BITS in
    let at = g.O.BitAt.at_of in
    let at2 = g.O2.BitAt.at_of in
    let s = c.args.from.word * bits + c.args.from.bit in
    let read = c.loop-done.read in
    let done = c.loop-done.done in
    let share = c.min-share.result in
    let bit = c.args.bit in
    let before = R2.number c.loop-done.gathered in
    let after = R2.number c.gathered_from_word-gathered.result in
    let low : read.bit < bits = omega (arith, read.in_word, g.met.R.BitRegister.width_at_least_8) in
    let more : done < c.args.count = c.loop-done-test.true in
    let share_is : share ≡ min (bits - read.bit) (c.args.count - done) =
    c.min-share.ensures ∙ ap (λ v. min (v - read.bit) (c.args.count - done)) c.BITS.ensures in
    let place : read.word * bits + read.bit ≡ s + done = c.loop-done.invariant.reads more in
    let room : bit + done + share ≤ R2.BITS = omega (arith, c.requires.bit_in, share_is) in
    let fits : read.bit + share ≤ bits = omega (arith, share_is) in
    let there : read.word < length c.args.source.now =
    word_within read.word read.bit bits (length c.args.source.now) (omega (arith, place, more, c.requires.from_in)) in
    let here = ap R.number c.index-source-read.is ∙ sym (get_or-map R.number c.args.source.now read.word c.index-source-read.result 0 there) in
    let next : IsShared bits at R2.BITS at2 read.bit bit done share (R.number c.index-source-read.result) before after =
    record {
      room = room;
      fits = fits;
      inside = c.gathered_from_word-gathered.ensures.inside;
      outside = c.gathered_from_word-gathered.ensures.outside;
    } in
    record {
      most = omega (arith, share_is);
      reads =
          λ more'. rw (c.new-read.ensures.word, c.new-read.ensures.bit)
          (share_end bits read.word read.bit s done share c.args.count low place share_is more');
      inside = gathered_inside next (map R.number c.args.source.now) read.word s place here c.loop-done.invariant.inside;
      outside = gathered_outside next (R2.number c.args.word) c.loop-done.invariant.outside;
    }

pub returns-clause-inside : goal.returns-clause-inside
returns-clause-inside g c =
    let end : c.args.count ≡ c.loop-done.done = omega (arith, c.loop-done.invariant.most, c.loop-done-test.false) in
    rw end c.loop-done.invariant.inside

pub returns-clause-outside : goal.returns-clause-outside
returns-clause-outside g c =
    let end : c.args.count ≡ c.loop-done.done = omega (arith, c.loop-done.invariant.most, c.loop-done-test.false) in
    rw end c.loop-done.invariant.outside
