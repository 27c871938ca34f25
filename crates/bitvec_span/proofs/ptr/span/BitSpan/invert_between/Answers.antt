use Rattle.std.proofs.Common.{◌≡◌, ◌+◌, ◌<◌, not, ap, map, length, get_or, subst, sym, ◌∙◌, arith}
use Rattle.std.proofs.lemmas.Int.{ints}
use Rattle.std.proofs.lemmas.List.{length-map, get_or-map, map-set}
use Rattle.std.specs.Prelude.{nat_abs, slice_set}
use Rattle.std.specs.Int.{w64}
use mir.Val.{to_z, of_z}
use Rattle.bitvec_mem.specs.Digit.{digit}
use Rattle.bitvec_ptr.proofs.PlaceOrder.{bit_below}
use Rattle.bitvec_span.specs.Span.{Fits}
use Rattle.bitvec_span.specs.BitSpan.{span_of}
use Rattle.bitvec_span.proofs.BecomesLemmas.{fits-numbers}
use Rattle.bitvec_span.proofs.MappedLemmas.{maps-none, maps-then, whole-maps}
use Rattle.bitvec_span.proofs.ptr.span.BitSpan.invert_between.Goals as goal

pub loop-k-init : goal.loop-k-init
loop-k-init g c = maps-none not g.R.BitRegister.BITS g.O.BitAt.at_of (span_of c.args.self) (map g.R.BitRegister.number c.args.memory.now) 1

pub loop-k-preserved : goal.loop-k-preserved
loop-k-preserved g c =
    let width = g.R.BitRegister.BITS in
    let at = g.O.BitAt.at_of in
    let number = g.R.BitRegister.number in
    let span = span_of c.args.self in
    let old = map number c.args.memory.now in
    let now = c.loop-k.memory in
    let mid = map number now in
    let k = c.loop-k.k in
    let word = c.not.result in
    let in_head = bit_below width c.args.self.head g.met.R.BitRegister.width_at_least_8 c.args.self.in_word in
    let fits = subst (λ n. Fits width span n) (sym c.loop-k.invariant.words) (fits-numbers width span number c.args.memory.now c.requires.fits) in
    let same : to_z w64 (of_z w64 c.address-first.result) ≡ c.args.self.word = omega (arith, ints) in
    let below : k < c.args.last = omega (arith, c.loop-k-test.true, c.loop-k.auto.k-end) in
    let there : nat_abs span.word + k < length now = omega (arith, fits.1, below, c.requires.last, length-map now number) in
    let place : nat_abs (to_z w64 (of_z w64 c.address-first.result)) + k ≡ nat_abs span.word + k = ap (λ z. nat_abs z + k) same in
    let got = c.index-memory-first.result in
    let was = ap number c.index-memory-first.is ∙ ap (λ n. number (get_or now n got)) place ∙ sym (get_or-map number now (nat_abs span.word + k) got 0 there) in
    maps-then not width at span old 1 k (k + 1) mid _ (omega (arith, c.loop-k.auto.k)) (omega arith) c.loop-k.invariant
    (whole-maps not width at span mid k _ (number word) in_head fits (omega (arith, c.loop-k.auto.k))
    (omega (arith, below, c.requires.last))
    (map-set number now _ word ∙ ap (λ n. slice_set mid n (number word)) place)
    (λ i h. c.not.ensures.digits (at i) (g.met.O.BitOrder.one_to_one.below i h) ∙ ap (λ n. not (digit n (at i))) was))
