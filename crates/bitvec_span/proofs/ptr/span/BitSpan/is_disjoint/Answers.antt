use Rattle.std.proofs.Common.{◌≡◌, ◌<◌, ◌≤ℤ◌, ◌<ℤ◌, ◌+ℤ◌, pos, ap, ◌∙◌, arith, rules}
use Rattle.std.proofs.lemmas.Int.{by_lt_z}
use Rattle.bitvec_ptr.specs.BitPtr.{ptr_of}
use Rattle.bitvec_ptr.specs.Place.{place_at, place_of}
use Rattle.bitvec_ptr.proofs.PlaceOrder.{bit_below, le_places}
use Rattle.bitvec_span.specs.Span.{AreDisjoint}
use Rattle.bitvec_span.specs.BitSpan.{span_of}
use Rattle.bitvec_span.proofs.DisjointLemmas.{disjoint-none, disjoint-sym, disjoint-before, disjoint-after}
use Rattle.bitvec_span.proofs.ptr.span.BitSpan.is_disjoint.Goals as goal
use Rattle.bitvec_span.proofs.ptr.span.BitSpan.is_disjoint.Goals.{then-is_empty-via-then-is_empty, then-is_empty-via-else-is_empty+then-is_empty-2}

pub returns-then-is_empty : goal.returns-then-is_empty
returns-then-is_empty g c =
    let width = g.R.BitRegister.BITS in
    let a = span_of c.args.self.now in
    let b = span_of c.args.other.now in
    let apart : AreDisjoint width a b = elim c.then-is_empty.branch [
      | then-is_empty-via-then-is_empty w ↦ disjoint-none width a b (search rules)
      | then-is_empty-via-else-is_empty+then-is_empty-2 w ↦ disjoint-sym width b a (disjoint-none width b a (search rules))
    ] in
    (λ _. apart, λ _. search rules)

pub returns-then-le : goal.returns-then-le
returns-then-le g c =
    let width = g.R.BitRegister.BITS in
    let eight = g.met.R.BitRegister.width_at_least_8 in
    let a = span_of c.args.self.now in
    let b = span_of c.args.other.now in
    let end = c.end.result in
    let start = c.start.result in
    let le = le_places width (ptr_of end) (ptr_of start) _ (bit_below width end.bit eight end.in_word) (bit_below width start.bit eight start.in_word) c.le.ensures in
    let ends : place_of width (ptr_of end) ≡ place_at width a.word a.head +ℤ pos a.len = ap (place_of width) c.end.ensures ∙ c.to_bitptr_range-here.ensures.end in
    let starts : place_of width (ptr_of start) ≡ place_at width b.word b.head = ap (place_of width) (c.start.ensures ∙ c.to_bitptr_range-there.ensures.start) in
    (λ t. disjoint-before width a b (rw (ends, starts) at le.0 t), λ _. search rules)

pub returns-else-le : goal.returns-else-le
returns-else-le g c =
    let width = g.R.BitRegister.BITS in
    let eight = g.met.R.BitRegister.width_at_least_8 in
    let a = span_of c.args.self.now in
    let b = span_of c.args.other.now in
    let end = c.end.result in
    let start = c.start.result in
    let le = le_places width (ptr_of end) (ptr_of start) _ (bit_below width end.bit eight end.in_word) (bit_below width start.bit eight start.in_word) c.le.ensures in
    let ends : place_of width (ptr_of end) ≡ place_at width a.word a.head +ℤ pos a.len = ap (place_of width) c.end.ensures ∙ c.to_bitptr_range-here.ensures.end in
    let starts : place_of width (ptr_of start) ≡ place_at width b.word b.head = ap (place_of width) (c.start.ensures ∙ c.to_bitptr_range-there.ensures.start) in
    let end_there = c.end-else-le.result in
    let start_here = c.start-else-le.result in
    let le_there = le_places width (ptr_of end_there) (ptr_of start_here) _ (bit_below width end_there.bit eight end_there.in_word) (bit_below width start_here.bit eight start_here.in_word) c.le-else-le.ensures in
    let ends_there : place_of width (ptr_of end_there) ≡ place_at width b.word b.head +ℤ pos b.len = ap (place_of width) c.end-else-le.ensures ∙ c.to_bitptr_range-there.ensures.end in
    let starts_here : place_of width (ptr_of start_here) ≡ place_at width a.word a.head = ap (place_of width) (c.start-else-le.ensures ∙ c.to_bitptr_range-here.ensures.start) in
    let some : 0 < a.len = search (rules, arith) in
    let some_there : 0 < b.len = search (rules, arith) in
    let meets : place_at width b.word b.head <ℤ (place_at width a.word a.head +ℤ pos a.len) = by_lt_z (place_at width b.word b.head) (place_at width a.word a.head +ℤ pos a.len) (λ (l : place_at width b.word b.head <ℤ (place_at width a.word a.head +ℤ pos a.len)). l) (λ (k : (place_at width a.word a.head +ℤ pos a.len) ≤ℤ place_at width b.word b.head). absurd (let yes = le.1 (rw (ends, starts) k) in let no = c.if-le.false in cc)) in
    (λ t. disjoint-sym width b a (disjoint-before width b a (rw (ends_there, starts_here) at le_there.0 t)), λ h. le_there.1 (rw (ends_there, starts_here) (disjoint-after width a b some some_there h meets)))
