use Rattle.std.proofs.Common.{◌≡◌, ◌+◌, ◌<◌, ap, map, subst, sym, ◌∙◌, arith}
use Rattle.std.proofs.lemmas.Int.{ints}
use Rattle.std.proofs.lemmas.List.{map-set}
use Rattle.std.specs.Prelude.{nat_abs, slice_set}
use Rattle.std.specs.Int.{w64}
use mir.Val.{to_z, of_z}
use Rattle.bitvec_ptr.proofs.PlaceOrder.{bit_below}
use Rattle.bitvec_span.specs.Span.{Fits}
use Rattle.bitvec_span.specs.BitSpan.{span_of}
use Rattle.bitvec_span.proofs.BecomesLemmas.{fits-numbers}
use Rattle.bitvec_span.proofs.FillWordLemmas.{fills-none, fills-then, word-fills}
use Rattle.bitvec_span.proofs.ptr.span.BitSpan.fill_between.Goals as goal

pub loop-k-init : goal.loop-k-init
loop-k-init g c = fills-none g.R.BitRegister.BITS g.O.BitAt.at_of (span_of c.args.self) c.args.bit (map g.R.BitRegister.number c.args.memory.now) 1

pub loop-k-preserved : goal.loop-k-preserved
loop-k-preserved g c =
    let width = g.R.BitRegister.BITS in
    let at = g.O.BitAt.at_of in
    let number = g.R.BitRegister.number in
    let span = span_of c.args.self in
    let old = map number c.args.memory.now in
    let mid = map number c.loop-k.memory in
    let k = c.loop-k.k in
    let word = c.same_bits-word.result in
    let in_head = bit_below width c.args.self.head g.met.R.BitRegister.width_at_least_8 c.args.self.in_word in
    let fits = subst (λ n. Fits width span n) (sym c.loop-k.invariant.words) (fits-numbers width span number c.args.memory.now c.requires.fits) in
    let same : to_z w64 (of_z w64 c.address-first.result) ≡ c.args.self.word = omega (arith, ints) in
    let below : k < c.args.last = omega (arith, c.loop-k-test.true, c.loop-k.auto.k-end) in
    fills-then width at span c.args.bit old 1 k (k + 1) mid _ (omega (arith, c.loop-k.auto.k)) (omega arith) c.loop-k.invariant
    (word-fills width at span c.args.bit mid k _ (number word) g.met.O.BitOrder.one_to_one in_head fits (omega (arith, c.loop-k.auto.k))
    (omega (arith, below, c.requires.last))
    (map-set number c.loop-k.memory _ word ∙ ap (λ z. slice_set mid (nat_abs z + k) (number word)) same) c.same_bits-word.ensures)
