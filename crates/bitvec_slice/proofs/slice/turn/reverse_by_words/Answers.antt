use Rattle.std.proofs.Common.{◌≡◌, ◌+◌, ◌-◌, ◌<◌, length, map, refl, sym, ap, subst, ◌∙◌, arith}
use Rattle.std.specs.Prelude.{nat_abs, slice_index}
use Rattle.std.specs.Int.{w64}
use Rattle.std.proofs.lemmas.List.{length-map}
use mir.Val.{to_z, of_z}
use borrow.Rule.Slice.PartMut.{put_mid}
use Rattle.bitvec.specs.BitPtr.{ptr_of}
use Rattle.bitvec.specs.Memory.{memory_bits, list_with_copy}
use Rattle.bitvec.specs.Place.{memory_place, words_met, tail_of}
use Rattle.bitvec.specs.BitSpan.{span_of}
use Rattle.bitvec.specs.Span.{Span, Fits}
use Rattle.bitvec.proofs.BecomesLemmas.{fits-numbers, numbers-many, span-becomes}
use Rattle.bitvec.proofs.PartLemmas.{some_len}
use Rattle.bitvec.proofs.PointerLemmas.{range-in}
use Rattle.bitvec_slice.specs.Turns.{PutsBack}
use Rattle.bitvec_slice.proofs.AddressLemmas.{address_index, address_word}
use Rattle.bitvec_slice.proofs.SpanTurns.{read-word, turns-met, tail-most, tail-least, source-fits, turned-becomes}
use Rattle.bitvec_slice.proofs.slice.turn.reverse_by_words.Goals as goal

pub copy_within-requires-clause-from_in : goal.copy_within-requires-clause-from_in
copy_within-requires-clause-from_in g c =
    let width = g.R.BitRegister.BITS in
    let number = g.R.BitRegister.number in
    let span = span_of c.args.span in
    let memory = c.args.memory.now in
    let first = nat_abs span.word in
    let n = words_met width span.head span.len in
    let a = nat_abs (to_z w64 (of_z w64 c.address-first.result)) in
    let met = c.elements-elements.result in
    let is_first = address_index c.address-first.result span.word c.address-first.type_inv
    c.address-first.ensures in
    let is_count : a + met - a ≡ n = omega (arith, c.elements-elements.ensures.value) in
    let some_bits : 0 < width = omega (arith, g.met.R.BitRegister.width_at_least_8) in
    let some_words : 0 < n = omega (arith, c.elements-elements.ensures.value, c.if-elements-eq0.false) in
    let some = some_len width span.head span.len 0 some_words in
    let in_head : span.head < width = omega (arith, c.args.span.in_word, g.met.R.BitRegister.width_at_least_8) in
    let part = put_mid a (a + met - a) memory c.turn_words.new.words in
    let turned = map number part in
    let turns = turns-met number width first n a (a + met - a) memory c.turn_words.new.words is_first is_count (c.requires.fits.1) c.turn_words.ensures in
    let from = c.new_unchecked.result in
    let start : from + tail_of width span.head span.len ≡ width =
    omega (arith, c.new_unchecked.ensures, c.BITS.ensures, c.into_inner.ensures.value, c.tail.ensures, tail-most width span.head span.len some_bits some) in
    let word_is = address_word c.address.result span.word c.address.type_inv c.address.ensures in
    let source : Span = record { word = span.word; head = from; len = span.len } in
    let fits = source-fits width span from (length memory) some_bits some start c.requires.fits in
    let many : length part ≡ length memory = sym (length-map part number) ∙ turns.words ∙ length-map memory number in
    range-in width (length part) c.len.result source (ptr_of c.new-source.result)
    (c.new-source.ensures ∙ (λ m. record { word = word_is m; bit = from })) c.len.ensures
    (subst (λ k. Fits width source k) (sym many) fits)

pub returns : goal.returns
returns g c =
    let width = g.R.BitRegister.BITS in
    let at = g.O.BitAt.at_of in
    let number = g.R.BitRegister.number in
    let span = span_of c.args.span in
    let memory = c.args.memory.now in
    let old = map number memory in
    let first = nat_abs span.word in
    let n = words_met width span.head span.len in
    let a = nat_abs (to_z w64 (of_z w64 c.address-first.result)) in
    let met = c.elements-elements.result in
    let is_first = address_index c.address-first.result span.word c.address-first.type_inv
    c.address-first.ensures in
    let is_count : a + met - a ≡ n = omega (arith, c.elements-elements.ensures.value) in
    let some_bits : 0 < width = omega (arith, g.met.R.BitRegister.width_at_least_8) in
    let some_words : 0 < n = omega (arith, c.elements-elements.ensures.value, c.if-elements-eq0.false) in
    let some = some_len width span.head span.len 0 some_words in
    let in_head : span.head < width = omega (arith, c.args.span.in_word, g.met.R.BitRegister.width_at_least_8) in
    let part = put_mid a (a + met - a) memory c.turn_words.new.words in
    let turned = map number part in
    let moved = map number c.copy_within.new.memory in
    let mended = map number c.put_back.new.memory in
    let new = map number c.put_back-2.new.memory in
    let turns = turns-met number width first n a (a + met - a) memory c.turn_words.new.words is_first is_count (c.requires.fits.1) c.turn_words.ensures in
    let from = c.new_unchecked.result in
    let start : from + tail_of width span.head span.len ≡ width =
    omega (arith, c.new_unchecked.ensures, c.BITS.ensures, c.into_inner.ensures.value, c.tail.ensures, tail-most width span.head span.len some_bits some) in
    let word_is = address_word c.address.result span.word c.address.type_inv c.address.ensures in
    let source : Span = record { word = span.word; head = from; len = span.len } in
    let many : length turned ≡ length old = turns.words in
    let own = fits-numbers width span number memory c.requires.fits in
    let source_own = fits-numbers width source number memory (source-fits width span from (length memory) some_bits some start c.requires.fits) in
    let pointer = c.new-source.ensures ∙ (λ m. record { word = word_is m; bit = from }) in
    let small : from < width = omega (arith, start, tail-least width span.head span.len some) in
    let moves = span-becomes width at source turned width at span turned moved
    (record { in_head = small; fits = subst (λ k. Fits width source k) (sym many) source_own })
    (record { in_head = in_head; fits = subst (λ k. Fits width span k) (sym many) own })
    (record {
      len = refl;
      words = numbers-many number part c.copy_within.new.memory c.copy_within.ensures.words;
      copied = c.copy_within.ensures.bits
          ∙ (λ m. list_with_copy (memory_bits width at turned) (memory_place width (pointer m)) (memory_bits width at turned)
          (memory_place width (c.to_bitptr.ensures.pointer m)) (c.len.ensures m));
    }) in
    let head_is = read-word number memory a first c.index-memory-first.result is_first (omega (arith, c.requires.fits.1, some_words)) c.index-memory-first.is in
    let tail_is = read-word number memory (a + met - 1) (first + (n - 1)) c.index-memory-first-2.result (omega (arith, is_first, c.elements-elements.ensures.value, some_words)) (omega (arith, c.requires.fits.1, some_words)) c.index-memory-first-2.is in
    let last : met - 1 ≡ n - 1 = ap (λ k. k - 1) c.elements-elements.ensures.value in
    turned-becomes width at span from old turned moved mended new (record {
      in_head = in_head;
      some = some;
      fits = own;
      law = g.met.O.BitOrder.one_to_one;
      mirrors = c.requires.mirrors;
      start = start;
      turns = turns;
      moves = moves;
      first = subst (λ v. PutsBack width at span 0 v moved mended) head_is c.put_back.ensures;
      last = subst (λ k. PutsBack width at span k (slice_index old (first + (n - 1))) mended new) last
          (subst (λ v. PutsBack width at span (met - 1) v mended new) tail_is c.put_back-2.ensures);
    })
