-- What an `Iter` shows.
use Rattle.std.specs.Prelude.{◌-◌, Bool, List, map}
use Rattle.std.specs.Iterator.{YieldsFirst, YieldsLast}
use Rattle.std.specs.Iterator.Runs.{YieldsInOrder, YieldsInReverse}
use Rattle.bitvec.specs.Span.{Span, list_of, span_range}
use Rattle.bitvec_slice.specs.BitSlice.{slice_memory, slice_span}
use Rattle.bitvec_slice.specs.declared.slice.iter.Iter.{Iter}

-- the memory that it reads
abbrev pub iter_memory : {R O : Type 0} {a b c d e f g h i : _} → Iter R O a b c d e f g h i → List R
iter_memory it = slice_memory it.slice

-- where in that memory the bits lie that are still to come
abbrev pub iter_span : {R O : Type 0} {a b c d e f g h i : _} → Iter R O a b c d e f g h i → Span
iter_span {a = own} it = let span = slice_span it.slice in span_range own.BITS span (it.next - span.head) (it.end - span.head)

-- the bits that are still to come, in order
abbrev pub iter_left : {R O : Type 0} {a b c d e f g h i : _} → Iter R O a b c d e f g h i → List Bool
iter_left {a = own} {i = order} it = list_of own.BITS order.at_of (iter_span it) (map own.number (iter_memory it))

-- Each run of calls gives the bits that its iterator had left, in order. This holds whichever iterator the run begins
-- with: the one that is named here only says of which type it is.
abbrev pub GivesBitsInOrder : {R O : Type 0} {a b c d e f g h i : _} → Iter R O a b c d e f g h i → Type 0
GivesBitsInOrder {R = R} {O = O} {a = a} {b = b} {c = c} {d = d} {e = e} {f = f} {g = g} {h = h} {i = i} it = YieldsInOrder (YieldsFirst (iter_left {R = R} {O = O} {a = a} {b = b} {c = c} {d = d} {e = e} {f = f} {g = g} {h = h} {i = i})) iter_left

-- the same of runs of calls from the back
abbrev pub GivesBitsInReverse : {R O : Type 0} {a b c d e f g h i : _} → Iter R O a b c d e f g h i → Type 0
GivesBitsInReverse {R = R} {O = O} {a = a} {b = b} {c = c} {d = d} {e = e} {f = f} {g = g} {h = h} {i = i} it = YieldsInReverse (YieldsLast (iter_left {R = R} {O = O} {a = a} {b = b} {c = c} {d = d} {e = e} {f = f} {g = g} {h = h} {i = i})) iter_left
