use Rattle.std.proofs.Common.{◌≡◌, ℕ, ◌+◌, ◌*◌, ◌-◌, ◌/◌, ◌<◌, ◌≤◌, not, map, ap, subst, ◌∙◌, inl, inr, arith}
use Rattle.std.proofs.lemmas.Bool.{cases_lt}
use Rattle.std.proofs.lemmas.Nat.{div-add-mod', mod_below}
use Rattle.std.proofs.Math.Nat.{mul-le-mul_right}
use Rattle.bitvec_slice.specs.BitSlice.{slice_memory, slice_span, slice_bits}
use Rattle.bitvec_slice.specs.Field.{stretch_end}
use Rattle.bitvec_slice.specs.Chosen.{IsChosen, chosen_end}
use Rattle.bitvec_slice.proofs.SkipLemmas.{all_joined, between_word, met_before}
use Rattle.bitvec_slice.proofs.WordListLemmas.{chosen_none, chosen_whole}
use Rattle.bitvec_slice.proofs.slice.bit_slice.BitSlice.chosen_later.Goals as goal

-- the word in which the elements before element `upto` end: where it begins, which is behind
-- another word, and where it ends
record EndsIn (bits width head word upto last : ℕ) : Type 0 where
  pub row : last * width ≡ last * bits
  pub begin : last * bits ≤ head + upto
  pub end : head + upto < last * bits + bits
  pub after : word < last → word * bits + bits ≤ last * bits

ends_in : (bits width head index word upto : ℕ) → width ≡ bits → index ≡ head → 8 ≤ width
    → EndsIn bits width head word upto ((index + upto) / width)
ends_in bits width head index word upto ew ei some =
    let last = (index + upto) / width in
    let parts = div-add-mod' (index + upto) width in
    let rest = mod_below (index + upto) width (omega arith) in
    let row : last * width ≡ last * bits = ap (λ b. last * b) ew in
    record {
      row = row;
      begin = omega (arith, parts, row, ei);
      end = omega (arith, parts, rest, row, ei, ew);
      after = λ later. let behind : (word + 1) * bits ≤ last * bits =
          mul-le-mul_right bits (omega (arith, later)) in omega (arith, behind);
    }

pub turned_word-ones-requires : goal.turned_word-ones-requires
turned_word-ones-requires g c =
    let slice = c.args.self.now in
    let span = slice_span slice in
    let inv = c.loop-k.invariant in
    (between_word g.R.BitRegister.BITS c.bits_of-width.result span.head c.head-head.result span.len c.args.word c.args.end c.loop-k.k c.bits_of-width.ensures.value c.head-head.ensures
    (omega (arith, slice.span.in_word, g.met.R.BitRegister.width_at_least_8)) c.requires inv.0 c.loop-k-test.true).met

pub returns-in-Some : goal.returns-in-Some
returns-in-Some g c =
    let slice = c.args.self.now in
    let span = slice_span slice in
    let bits = g.R.BitRegister.BITS in
    let k = c.loop-k.k in
    let inv = c.loop-k.invariant in
    let small : span.head < bits = omega (arith, slice.span.in_word, g.met.R.BitRegister.width_at_least_8) in
    let lies = between_word bits c.bits_of-width.result span.head c.head-head.result span.len c.args.word c.args.end k c.bits_of-width.ensures.value c.head-head.ensures small c.requires inv.0 c.loop-k-test.true in
    let upto = chosen_end c.args.end bits span.head span.len k in
    record {
      begin = k * bits - span.head;
      later = omega (arith, lies.row);
      passed = inv.2;
      chosen = chosen_whole bits g.O.BitAt.at_of span (map g.R.BitRegister.number (slice_memory slice)) k upto c.args.bit (g.R.BitRegister.number c.turned_word-ones.result) g.met.O.BitOrder.one_to_one
          (omega (arith, lies.row, small)) (omega (arith, lies.whole, c.requires)) (omega arith) c.turned_word-ones.ensures;
      first = c.in-Some.ensures;
    }

pub loop-k-preserved : goal.loop-k-preserved
loop-k-preserved g c =
    let slice = c.args.self.now in
    let span = slice_span slice in
    let bits = g.R.BitRegister.BITS in
    let k = c.loop-k.k in
    let inv = c.loop-k.invariant in
    let small : span.head < bits = omega (arith, slice.span.in_word, g.met.R.BitRegister.width_at_least_8) in
    let lies = between_word bits c.bits_of-width.result span.head c.head-head.result span.len c.args.word c.args.end k c.bits_of-width.ensures.value c.head-head.ensures small c.requires inv.0 c.loop-k-test.true in
    let next = (k + 1) * bits - span.head in
    let whole = chosen_whole bits g.O.BitAt.at_of span (map g.R.BitRegister.number (slice_memory slice)) k next c.args.bit (g.R.BitRegister.number c.turned_word-ones.result) g.met.O.BitOrder.one_to_one
    (omega (arith, lies.row, small)) (omega arith) (omega (arith, lies.whole, c.requires)) c.turned_word-ones.ensures in (
      omega (arith, inv.0),
      omega (arith, c.loop-k-test.true),
      all_joined (not c.args.bit) (slice_bits slice) (stretch_end bits span.head span.len c.args.word) (k * bits - span.head) next inv.2 (chosen_none whole c.in_default.ensures),
    )

pub returns-then-last-word : goal.returns-then-last-word
returns-then-last-word g c =
    let span = slice_span c.args.self.now in
    let it = ends_in g.R.BitRegister.BITS c.bits_of-width.result span.head c.head-head.result
    c.args.word c.args.end
    c.bits_of-width.ensures.value c.head-head.ensures c.bits_of-width.ensures.least in
    let last = (c.head-head.result + c.args.end) / c.bits_of-width.result in
    let rows : last * g.R.BitRegister.BITS ≤ c.args.word * g.R.BitRegister.BITS =
    mul-le-mul_right g.R.BitRegister.BITS c.if-last-word.true in
    λ j low high. absurd (omega (arith, low, high, it.end, rows, c.requires))

pub loop-k-init : goal.loop-k-init
loop-k-init g c =
    let span = slice_span c.args.self.now in
    let it = ends_in g.R.BitRegister.BITS c.bits_of-width.result span.head c.head-head.result
    c.args.word c.args.end
    c.bits_of-width.ensures.value c.head-head.ensures c.bits_of-width.ensures.least in
    let after = it.after c.if-last-word.false in (
      omega arith,
      omega (arith, c.if-last-word.false),
      λ j low high. absurd (omega (arith, low, high, after, it.begin, c.requires)),
    )

pub chosen-ones-requires-clause-met : goal.chosen-ones-requires-clause-met
chosen-ones-requires-clause-met g c =
    let span = slice_span c.args.self.now in
    let it = ends_in g.R.BitRegister.BITS c.bits_of-width.result span.head c.head-head.result
    c.args.word c.args.end
    c.bits_of-width.ensures.value c.head-head.ensures c.bits_of-width.ensures.least in
    let last = (c.head-head.result + c.args.end) / c.bits_of-width.result in
    let less : last * g.R.BitRegister.BITS < span.head + c.args.end =
    omega (arith, c.if-end-from.false, it.row, c.head-head.ensures) in
    met_before g.R.BitRegister.BITS span.head span.len last
    (omega (arith, g.met.R.BitRegister.width_at_least_8))
    (omega (arith, c.if-end-from.false, c.requires)) (omega (arith, less, c.requires))

pub returns-then-end-from : goal.returns-then-end-from
returns-then-end-from g c =
    let k = c.loop-k.k in
    let inv = c.loop-k.invariant in
    let last = (c.head-head.result + c.args.end) / c.bits_of-width.result in
    let all : last ≡ k = omega (arith, c.loop-k-test.false, inv.1) in
    let row : last * c.bits_of-width.result ≡ k * g.R.BitRegister.BITS = ap (λ n. n * c.bits_of-width.result) all ∙ ap (λ b. k * b) c.bits_of-width.ensures.value in
    λ j low high. inv.2 j low (omega (arith, high, c.if-end-from.true, row, c.head-head.ensures))

pub returns-in-Some-first_index : goal.returns-in-Some-first_index
returns-in-Some-first_index g c =
    let slice = c.args.self.now in
    let span = slice_span slice in
    let bits = g.R.BitRegister.BITS in
    let width = c.bits_of-width.result in
    let k = c.loop-k.k in
    let inv = c.loop-k.invariant in
    let last = (c.head-head.result + c.args.end) / width in
    let from = last * width - c.head-head.result in
    let all : last ≡ k = omega (arith, c.loop-k-test.false, inv.1) in
    let row : last * width ≡ k * bits = ap (λ n. n * width) all ∙ ap (λ b. k * b) c.bits_of-width.ensures.value in
    let same : last * width ≡ last * bits = ap (λ b. last * b) c.bits_of-width.ensures.value in
    let after : (c.args.word + 1) * bits ≤ k * bits = mul-le-mul_right bits inv.0 in
    let parts = div-add-mod' (c.head-head.result + c.args.end) width in
    let rest = mod_below (c.head-head.result + c.args.end) width (omega (arith, c.bits_of-width.ensures.least)) in
    let end : c.args.end ≡ chosen_end c.args.end bits span.head span.len last = omega (arith, c.requires, c.head-head.ensures, c.bits_of-width.ensures.value, parts, rest, same) in
    record {
      begin = from;
      later = omega (arith, row, after, c.head-head.ensures);
      passed = λ j low high. inv.2 j low (omega (arith, high, row, c.head-head.ensures));
      chosen = subst (λ n. IsChosen bits g.O.BitAt.at_of span.head (slice_bits slice) last from n c.args.bit (g.R.BitRegister.number c.chosen-ones.result)) end c.chosen-ones.ensures;
      first = c.in-Some-first_index.ensures;
    }

pub returns-in-None : goal.returns-in-None
returns-in-None g c =
    let span = slice_span c.args.self.now in
    let bits = g.R.BitRegister.BITS in
    let width = c.bits_of-width.result in
    let k = c.loop-k.k in
    let inv = c.loop-k.invariant in
    let last = (c.head-head.result + c.args.end) / width in
    let from = last * width - c.head-head.result in
    let all : last ≡ k = omega (arith, c.loop-k-test.false, inv.1) in
    let row : last * width ≡ k * bits = ap (λ n. n * width) all ∙ ap (λ b. k * b) c.bits_of-width.ensures.value in
    λ j low high. elim (cases_lt j from) [
      | inl before ↦ inv.2 j low (omega (arith, before, row, c.head-head.ensures))
      | inr on ↦ chosen_none c.chosen-ones.ensures c.in-None.ensures j on high
    ]
