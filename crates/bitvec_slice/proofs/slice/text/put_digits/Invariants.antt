use Rattle.std.proofs.Common.{◌++◌, take, drop}
use Rattle.bitvec.specs.BitSpan.{list_by, Becomes}
use Rattle.bitvec_slice.specs.SliceText.{text_bits}
use Rattle.bitvec_slice.proofs.slice.text.put_digits.Given as goal

-- the first i bits of the span are those of the text
abbrev pub invariant-loop-i : goal.invariant-loop-i
invariant-loop-i g l = Becomes l.span g.O.BitAt.at_of l.fn.memory l.memory (take l.i (text_bits l.digits) ++ drop l.i (list_by l.span g.O.BitAt.at_of l.fn.memory))
