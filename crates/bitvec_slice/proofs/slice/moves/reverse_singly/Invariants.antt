use Rattle.std.proofs.Common.{◌≡◌, map, length}
use Rattle.bitvec.specs.BitSpan.{span_of}
use Rattle.bitvec.specs.Span.{BecomesList, list_of}
use Rattle.bitvec_slice.proofs.ListEdits.{IsTurned}
use Rattle.bitvec_slice.proofs.slice.moves.reverse_singly.Given as goal

-- the first i bits and the last i are in the opposite order, and all but the span's list is as before
abbrev pub invariant-loop-i : goal.invariant-loop-i
invariant-loop-i g l =
    let width = g.R.BitRegister.BITS in
    let at = g.O.BitAt.at_of in
    let number = g.R.BitRegister.number in
    let span = span_of l.span in
    let old = map number l.fn.memory in
    let now = map number l.memory in
    record {
      turned : IsTurned (list_of width at span old) (list_of width at span now) l.i;
      edit : BecomesList width at span old now (list_of width at span now);
      words : length l.memory ≡ length l.fn.memory;
    }
