use Rattle.std.proofs.Common.{◌≡◌, map, length}
use Rattle.bitvec.specs.BitSpan.{span_of}
use Rattle.bitvec.specs.Span.{KeepsOthers, list_of}
use Rattle.bitvec_slice.specs.Field.{field_list}
use Rattle.bitvec_slice.proofs.FieldStoreLemmas.{stored_before}
use Rattle.bitvec_slice.proofs.field.store_words.Given as goal

-- the words before word k have the number's digits, and every other bit is as before
abbrev pub invariant-loop-k : goal.invariant-loop-k
invariant-loop-k g l = record {
  list : list_of g.R.BitRegister.BITS g.O.BitAt.at_of (span_of l.span) (map g.R.BitRegister.number l.memory)
      ≡ stored_before g.R.BitRegister.BITS l.span.head l.span.len l.k
      (field_list l.big g.R.BitRegister.BITS g.O.Sequential.RISES l.span.head l.span.len (g.N.BitRegister.number l.value))
      (list_of g.R.BitRegister.BITS g.O.BitAt.at_of (span_of l.span) (map g.R.BitRegister.number l.fn.memory));
  others : KeepsOthers g.R.BitRegister.BITS g.O.BitAt.at_of (span_of l.span) (map g.R.BitRegister.number l.fn.memory) (map g.R.BitRegister.number l.memory);
  words : length l.memory ≡ length l.fn.memory;
}
