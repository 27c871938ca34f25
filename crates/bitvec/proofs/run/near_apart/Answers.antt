use Rattle.std.proofs.Common.{List, mul-le-mul, ◌≡◌, ◌≢◌, ℕ, pos, ◌≤◌, ◌+◌, ◌*◌, ◌<◌, ◌+ℤ◌, ◌≤ℤ◌, length, get_or, ap, ◌∙◌, sym, subst, refl, arith, rules}
use Rattle.std.proofs.lemmas.Int.{ints}
use Rattle.std.proofs.lemmas.List.{get_or_default}
use Rattle.std.proofs.lemmas.Option.{slice_get_read}
use Rattle.std.specs.Prelude.{nat_abs, All}
use Rattle.std.specs.List.{range_with_len}
use Rattle.std.specs.List.Sorted.{IsPermutation}
use Rattle.bitvec_ptr.specs.Place.{place_at}
use Rattle.bitvec_span.specs.BitSpan.{span_of}
use Rattle.bitvec_span.specs.Span.{Span, AreDisjoint}
use Rattle.bitvec.specs.Run.{span_in, start_in}
use Rattle.bitvec.proofs.OrderLemmas.{IsEndOf, apart_along, apart_back, below_in_order, meet_from_numbers, span_in-at, span_in-read}
use Rattle.bitvec.proofs.RisingLemmas.{AllBelow, pair_at, place_number, one_more_rises, one_more_empty}
use Rattle.bitvec.proofs.run.near_apart.Goals as goal
use Rattle.bitvec.proofs.run.near_apart.Goals.{then-not-is_empty+else-start-upto, else-not-is_empty}

pub bounds-spans-index : goal.bounds-spans-index
bounds-spans-index g c =
    let within : c.loop-i.i < length c.args.order.now = omega arith in
    let inside : get_or c.args.order.now c.loop-i.i 0 < length c.args.spans.now = below_in_order (length c.args.spans.now) c.args.order.now c.requires.rising.each c.loop-i.i 0 within in
    search rules

pub offset_bounds-spans-index : goal.offset_bounds-spans-index
offset_bounds-spans-index g c =
    let within : c.loop-i.i < length c.args.order.now = omega arith in
    let inside : get_or c.args.order.now c.loop-i.i 0 < length c.args.spans.now = below_in_order (length c.args.spans.now) c.args.order.now c.requires.rising.each c.loop-i.i 0 within in
    search rules

-- what holds of each span holds of the one at a place of the order
holds_at : {S : Type 0} (P : S → Type 0) (spans : List S) (order : List ℕ) (i : ℕ) (span : S) → IsPermutation (range_with_len 0 (length spans)) order
    → i < length order → span ≡ get_or spans (get_or order i 0) span → All P spans → P span
holds_at P spans order i span moved within is all =
    subst P (sym is) (all (get_or order i 0) span (below_in_order (length spans) order moved i 0 within))

pub first_bit-start-requires-clause-low : goal.first_bit-start-requires-clause-low
first_bit-start-requires-clause-low g c =
    holds_at (λ x. pos 0 ≤ℤ (span_of x).word) c.args.spans.now c.args.order.now c.loop-i.i c.index-spans-index.result c.requires.rising.each (omega arith) c.index-spans-index.is c.requires.fit

pub first_bit-start-requires-clause-few : goal.first_bit-start-requires-clause-few
first_bit-start-requires-clause-few g c =
    holds_at (λ x. nat_abs (span_of x).word ≤ 36028797018963968) c.args.spans.now c.args.order.now c.loop-i.i c.index-spans-index.result c.requires.rising.each (omega arith) c.index-spans-index.is c.requires.near

pub overflow_add-upto : goal.overflow_add-upto
overflow_add-upto g c =
    let span = c.index-spans-index.result in
    let few : nat_abs span.word ≤ 36028797018963968 =
    holds_at (λ x. nat_abs (span_of x).word ≤ 36028797018963968) c.args.spans.now c.args.order.now c.loop-i.i span c.requires.rising.each (omega arith) c.index-spans-index.is c.requires.near in
    let product : nat_abs span.word * g.R.BitRegister.BITS ≤ 36028797018963968 * 128 = mul-le-mul few g.met.R.BitRegister.width_at_most_128 in
    omega (arith, c.first_bit-start.ensures, c.len.ensures, product, g.met.R.BitRegister.width_at_most_128)

pub loop-i-preserved : goal.loop-i-preserved
loop-i-preserved g c =
    let width = g.R.BitRegister.BITS in
    let spans = c.args.spans.now in
    let order = c.args.order.now in
    let i = c.loop-i.i in
    let so_far = c.loop-i.invariant in
    let within : c.loop-i.i < length c.args.order.now = omega arith in
    let inside = below_in_order (length spans) order c.requires.rising.each i 0 within in
    let upper = get_or order i 0 in
    let span = c.index-spans-index.result in
    let view : ℕ → Span = λ n. span_in span_of spans n in
    let at_upper : view upper ≡ span_of span = span_in-read span_of spans upper span inside c.index-spans-index.is in
    let is = slice_get_read order (length order) i upper refl within (get_or_default order i 0 upper within) in
    elim c.if-not-is_empty.branch [
      | then-not-is_empty+else-start-upto w ↦ (
          let low : pos 0 ≤ℤ span.word = subst (λ x. pos 0 ≤ℤ (span_of x).word) (sym c.index-spans-index.is) (c.requires.fit upper span inside) in
          let place = place_number width span.head span.word low in
          let starts : pos c.loop-i.upto ≤ℤ place_at width (view upper).word (view upper).head =
          subst (λ (s : Span). pos c.loop-i.upto ≤ℤ place_at width s.word s.head) (sym at_upper) (omega (arith, ints, place, w.first_bit-start.ensures, w.if-start-upto.false)) in
          let ends : (place_at width (view upper).word (view upper).head +ℤ pos (view upper).len) ≡ pos c.if-not-is_empty.upto =
          subst (λ (s : Span). (place_at width s.word s.head +ℤ pos s.len) ≡ pos c.if-not-is_empty.upto) (sym at_upper) (omega (arith, ints, place, w.first_bit-start.ensures, w.len.ensures, w.upto-is)) in
          let next = one_more_rises width view order i c.loop-i.upto c.if-not-is_empty.upto upper is so_far.apart so_far.below starts ends in
          record {
            apart = next.0;
            below = next.1;
            end = λ some. (i, omega arith, ap (λ (s : Span). nat_abs s.word * width + s.head + s.len) at_upper ∙ omega (arith, w.first_bit-start.ensures, w.len.ensures, w.upto-is));
          })
      | else-not-is_empty w ↦ (
          let none : span.len ≡ 0 = w.if-not-is_empty.ensures.0 (search rules) in
          let none_here : (view upper).len ≡ 0 = ap (λ (s : Span). s.len) at_upper ∙ none in
          let next = one_more_empty width view order i c.loop-i.upto upper is so_far.apart so_far.below none_here in
          record {
            apart = next.0;
            below = subst (λ n. AllBelow width view order (i + 1) n) (sym w.upto-is) next.1;
            end = subst (λ n. IsEndOf width view order (i + 1) n) (sym w.upto-is)
                (λ some. let found = so_far.end some in (found.0, omega (arith, found.1), found.2));
          })
    ]

pub returns-then-start-upto : goal.returns-then-start-upto
returns-then-start-upto g c =
    let width = g.R.BitRegister.BITS in
    let spans = c.args.spans.now in
    let order = c.args.order.now in
    let i = c.loop-i.i in
    let within : c.loop-i.i < length c.args.order.now = omega arith in
    let inside = below_in_order (length spans) order c.requires.rising.each in
    let found = c.loop-i.invariant.end (omega arith) in
    let last = found.0 in
    let last_within : last < length c.args.order.now = omega (arith, found.1, within) in
    let lower = get_or order last 0 in
    let upper = get_or order i 0 in
    let span = c.index-spans-index.result in
    let view : ℕ → Span = λ n. span_in span_of spans n in
    let at_upper : view upper ≡ span_of span = span_in-read span_of spans upper span (inside i 0 within) c.index-spans-index.is in
    let is_lower = get_or_default order last 0 lower last_within in
    let is_upper = get_or_default order i 0 upper within in
    let low : (n : ℕ) → n < length c.args.spans.now → pos 0 ≤ℤ (view n).word =
    λ n below. subst (λ (s : Span). pos 0 ≤ℤ s.word) (sym (span_in-at span_of spans n span below)) (c.requires.fit n span below) in
    let starts = pair_at (λ (a b : ℕ). start_in width span_of spans a ≤ start_in width span_of spans b) order last i lower upper
    is_lower is_upper c.requires.rising.rises found.1 within in
    let number : nat_abs (view upper).word * width + (view upper).head ≡ c.first_bit-start.result =
    ap (λ (s : Span). nat_abs s.word * width + s.head) at_upper ∙ sym c.first_bit-start.ensures in
    let none : span.len ≢ 0 = search rules in
    let some : 0 < (view upper).len = subst (λ (s : Span). 0 < s.len) (sym at_upper) (omega (arith, none)) in (
      λ no. cc,
      λ apart. absurd (meet_from_numbers width (view lower) (view upper) (low lower (inside last 0 last_within)) (low upper (inside i 0 within)) some starts
          (omega (arith, number, found.2, c.if-start-upto.true))
          (pair_at (λ (a b : ℕ). AreDisjoint width (view a) (view b)) order last i lower upper is_lower is_upper
          (apart_along width span_of spans order c.requires.rising.each apart) found.1 within)),
    )

pub returns : goal.returns
returns g c = (
  λ _. apart_back g.R.BitRegister.BITS span_of c.args.spans.now c.args.order.now c.requires.rising.each
      (λ a b d below high. c.loop-i.invariant.apart a b d below (omega arith)),
  λ _. refl,
)
