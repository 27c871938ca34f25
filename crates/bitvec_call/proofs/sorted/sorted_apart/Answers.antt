use Rattle.std.proofs.Common.{◌≡◌, ◌≢◌, ℕ, pos, ◌≤◌, ◌+◌, ◌*◌, ◌<◌, ◌+ℤ◌, ◌≤ℤ◌, length, get_or, ap, ◌∙◌, sym, subst, refl, arith, rules}
use Rattle.std.proofs.lemmas.Int.{ints}
use Rattle.std.proofs.lemmas.List.{get_or_default}
use Rattle.std.proofs.lemmas.Option.{slice_get_read}
use Rattle.std.specs.Prelude.{nat_abs}
use Rattle.bitvec.specs.Place.{place_at}
use Rattle.bitvec.specs.Span.{Span, AreDisjoint}
use Rattle.bitvec.specs.Run.{span_in, start_in}
use Rattle.bitvec.proofs.OrderLemmas.{IsEndOf, apart_along, apart_back, below_in_order, meet_from_numbers, span_in-at}
use Rattle.bitvec.proofs.RisingLemmas.{AllBelow, pair_at, one_more_rises, one_more_empty}
use Rattle.bitvec_call.specs.Plain.{plain_span}
use Rattle.bitvec_call.specs.declared.plain.PlainSpan.{PlainSpan}
use Rattle.bitvec_call.proofs.SortedLemmas.{place_of_start, number_of_start}
use Rattle.bitvec_call.proofs.sorted.sorted_apart.Goals as goal
use Rattle.bitvec_call.proofs.sorted.sorted_apart.Goals.{then-span-ne0+else-start-upto, else-span-ne0}

pub bounds-spans-number : goal.bounds-spans-number
bounds-spans-number g c =
    let within : c.loop-i.i < length c.args.room.now = omega arith in
    below_in_order (length c.args.spans.now) c.args.room.now c.requires.each c.loop-i.i 0 within

pub offset_bounds-spans-number : goal.offset_bounds-spans-number
offset_bounds-spans-number g c =
    let within : c.loop-i.i < length c.args.room.now = omega arith in
    let inside : get_or c.args.room.now c.loop-i.i 0 < length c.args.spans.now = below_in_order (length c.args.spans.now) c.args.room.now c.requires.each c.loop-i.i 0 within in
    search rules

pub loop-i-preserved : goal.loop-i-preserved
loop-i-preserved g c =
    let width = g.R.BitRegister.BITS in
    let spans = c.args.spans.now in
    let order = c.args.room.now in
    let i = c.loop-i.i in
    let so_far = c.loop-i.invariant in
    let within : c.loop-i.i < length c.args.room.now = omega arith in
    let inside = below_in_order (length spans) order c.requires.each i 0 within in
    let upper = get_or order i 0 in
    let none : PlainSpan = record { start = 0; count = 0 } in
    let named = get_or spans upper none in
    let view : ℕ → Span = λ n. span_in (plain_span width) spans n in
    let at_upper : view upper ≡ plain_span width named = span_in-at (plain_span width) spans upper none inside in
    let is = slice_get_read order (length order) i upper refl within (get_or_default order i 0 upper within) in
    let place = place_of_start width named.start in
    elim c.if-span-ne0.branch [
      | then-span-ne0+else-start-upto w ↦ (
          let starts : pos c.loop-i.upto ≤ℤ place_at width (view upper).word (view upper).head =
          subst (λ (s : Span). pos c.loop-i.upto ≤ℤ place_at width s.word s.head) (sym at_upper) (omega (arith, ints, place, w.if-start-upto.false)) in
          let ends : (place_at width (view upper).word (view upper).head +ℤ pos (view upper).len) ≡ pos c.if-span-ne0.upto =
          subst (λ (s : Span). (place_at width s.word s.head +ℤ pos s.len) ≡ pos c.if-span-ne0.upto) (sym at_upper) (omega (arith, ints, place, w.upto-is)) in
          let next = one_more_rises width view order i c.loop-i.upto c.if-span-ne0.upto upper is so_far.apart so_far.below starts ends in
          record {
            apart = next.0;
            below = next.1;
            end = λ some. (i, omega arith, ap (λ (s : Span). nat_abs s.word * width + s.head + s.len) at_upper ∙ omega (arith, number_of_start width named.start, w.upto-is));
          })
      | else-span-ne0 w ↦ (
          let no_bits : named.count ≡ 0 = search rules in
          let none_here : (view upper).len ≡ 0 = ap (λ (s : Span). s.len) at_upper ∙ no_bits in
          let next = one_more_empty width view order i c.loop-i.upto upper is so_far.apart so_far.below none_here in
          record {
            apart = next.0;
            below = subst (λ n. AllBelow width view order (i + 1) n) (sym w.upto-is) next.1;
            end = subst (λ n. IsEndOf width view order (i + 1) n) (sym w.upto-is)
                (λ some. let found = so_far.end some in (found.0, omega (arith, found.1), found.2));
          })
    ]

pub returns-then-start-upto : goal.returns-then-start-upto
returns-then-start-upto g c =
    let width = g.R.BitRegister.BITS in
    let spans = c.args.spans.now in
    let order = c.args.room.now in
    let i = c.loop-i.i in
    let within : c.loop-i.i < length c.args.room.now = omega arith in
    let inside = below_in_order (length spans) order c.requires.each in
    let found = c.loop-i.invariant.end (omega arith) in
    let last = found.0 in
    let last_within : last < length c.args.room.now = omega (arith, found.1, within) in
    let lower = get_or order last 0 in
    let upper = get_or order i 0 in
    let none : PlainSpan = record { start = 0; count = 0 } in
    let named = get_or spans upper none in
    let view : ℕ → Span = λ n. span_in (plain_span width) spans n in
    let at_upper : view upper ≡ plain_span width named = span_in-at (plain_span width) spans upper none (inside i 0 within) in
    let is_lower = get_or_default order last 0 lower last_within in
    let is_upper = get_or_default order i 0 upper within in
    let low : (n : ℕ) → n < length c.args.spans.now → pos 0 ≤ℤ (view n).word =
    λ n below. subst (λ (s : Span). pos 0 ≤ℤ s.word) (sym (span_in-at (plain_span width) spans n none below)) (omega (arith, ints)) in
    let starts = pair_at (λ (a b : ℕ). start_in width (plain_span width) spans a ≤ start_in width (plain_span width) spans b) order last i lower upper
    is_lower is_upper c.requires.rises found.1 within in
    let number : nat_abs (view upper).word * width + (view upper).head ≡ named.start =
    ap (λ (s : Span). nat_abs s.word * width + s.head) at_upper ∙ number_of_start width named.start in
    let no_none : named.count ≢ 0 = search rules in
    let some : 0 < (view upper).len = subst (λ (s : Span). 0 < s.len) (sym at_upper) (omega (arith, no_none)) in (
      λ no. cc,
      λ apart. absurd (meet_from_numbers width (view lower) (view upper) (low lower (inside last 0 last_within)) (low upper (inside i 0 within)) some starts
          (omega (arith, number, found.2, c.if-start-upto.true))
          (pair_at (λ (a b : ℕ). AreDisjoint width (view a) (view b)) order last i lower upper is_lower is_upper
          (apart_along width (plain_span width) spans order c.requires.each apart) found.1 within)),
    )

pub returns : goal.returns
returns g c =
    let width = g.R.BitRegister.BITS in (
      λ _. apart_back width (plain_span width) c.args.spans.now c.args.room.now c.requires.each
          (λ a b d below high. c.loop-i.invariant.apart a b d below (omega arith)),
      λ _. refl,
    )
