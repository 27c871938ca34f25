use Rattle.std.proofs.Common.{rules, arith}
use Rattle.bitvec_slice.specs.BitSlice.{slice_bits}
use Rattle.bitvec_slice.proofs.PatternLemmas.{none_is, has_here, none_up_to, none_past}
use Rattle.bitvec_slice.proofs.slice.bit_slice.BitSlice.find.Goals as goal

pub returns-in_err-i : goal.returns-in_err-i
returns-in_err-i g c =
    let l = c.loop-from in
    let xs = slice_bits c.args.self.now in
    let ys = slice_bits c.args.pattern.now in
    let first = c.in-Some.ensures in
    let lacking = none_is xs ys l.from c.in-Some.first first.0 first.1 l.invariant.1 _ (omega (arith, c.loop-from-test.true, c.len-len.ensures.list, c.len-count.ensures.list)) c.in_err-i.ensures in
    search (rules, lacking)

pub returns-then-has_at : goal.returns-then-has_at
returns-then-has_at g c =
    let l = c.loop-from in
    let first = c.in-Some.ensures in
    has_here (slice_bits c.args.self.now) (slice_bits c.args.pattern.now) l.from c.in-Some.first first.0 first.1 l.invariant.1 _ c.in_ok-i.i c.in_ok-i.ensures (c.has_at.ensures.0 c.if-has_at.true)

pub loop-from-preserved : goal.loop-from-preserved
loop-from-preserved g c =
    let l = c.loop-from in
    let first = c.in-Some.ensures in
    let room = c.in_ok-i.ensures.1 in (
      omega (arith, room, c.loop-from-test.true, c.len-len.ensures.list),
      none_up_to (slice_bits c.args.self.now) (slice_bits c.args.pattern.now) l.from c.in-Some.first first.0 first.1 l.invariant.1 _ c.in_ok-i.i c.in_ok-i.ensures (λ has. let yes = c.has_at.ensures.1 has in search rules),
    )

pub returns : goal.returns
returns g c =
    let l = c.loop-from in
    let first = c.in-Some.ensures in
    none_past (slice_bits c.args.self.now) (slice_bits c.args.pattern.now) l.from c.in-Some.first first.0 first.1 l.invariant.1 (omega (arith, c.loop-from-test.false, c.len-len.ensures.list, c.len-count.ensures.list))
