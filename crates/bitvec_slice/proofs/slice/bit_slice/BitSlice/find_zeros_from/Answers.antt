use Rattle.std.proofs.Common.{rules, arith}
use Rattle.bitvec_slice.specs.BitSlice.{slice_bits}
use Rattle.bitvec_slice.proofs.PatternLemmas.{run_here, no_run, no_run_up, no_run_past, no_room}
use Rattle.bitvec_slice.proofs.slice.bit_slice.BitSlice.find_zeros_from.Goals as goal

pub returns-in_err-at : goal.returns-in_err-at
returns-in_err-at g c =
    let l = c.loop-from in
    let none = no_run (slice_bits c.args.self.now) c.args.start c.args.count c.args.multiple_of l.from l.invariant.0 l.invariant.1 (search rules) in
    search (rules, none)

pub returns-then-past-eq0 : goal.returns-then-past-eq0
returns-then-past-eq0 g c =
    let l = c.loop-from in
    run_here (slice_bits c.args.self.now) c.args.start c.args.count c.args.multiple_of l.from l.invariant.0 l.invariant.1 c.in_ok-at.at c.in_ok-at.ensures c.if-past-eq0.true

pub returns-then-len-at : goal.returns-then-len-at
returns-then-len-at g c =
    let l = c.loop-from in
    let room = c.in_ok-at.ensures.1 in
    no_run_past (slice_bits c.args.self.now) c.args.start c.args.count c.args.multiple_of l.from l.invariant.0 l.invariant.1 c.in_ok-at.at c.in_ok-at.ensures (omega (arith, c.requires)) c.if-past-eq0.false (omega (arith, c.if-len-at.true, c.len-len.ensures.list, room.0))

pub loop-from-preserved : goal.loop-from-preserved
loop-from-preserved g c =
    let l = c.loop-from in
    let first = c.in_ok-at.ensures in (
      omega (arith, l.invariant.0, first.0),
      no_run_up (slice_bits c.args.self.now) c.args.start c.args.count c.args.multiple_of l.from l.invariant.0 l.invariant.1 c.in_ok-at.at first (omega (arith, c.requires)) c.if-past-eq0.false,
    )

pub returns : goal.returns
returns g c =
    let l = c.loop-from in
    no_room (slice_bits c.args.self.now) c.args.start c.args.count c.args.multiple_of l.from l.invariant.0 l.invariant.1 (omega (arith, c.loop-from-test.false, c.len-len.ensures.list))
