use Rattle.std.proofs.Common.{◌≡◌, ◌≤◌, ◌<◌, ◌+◌, ◌-◌, ◌⊎◌, inl, inr, ◌∷◌, [], ◌++◌, drop, drop_of_length-le, length, arith, rules, ap, sym, ◌∙◌, append_assoc, append-nil, length-set}
use Rattle.std.proofs.lemmas.List.{drop-set}
use Rattle.bitvec_mem.proofs.NumeralLemmas.{numeral_none, numeral_step, front_below, place_left, numeral-IsAscii}
use Rattle.bitvec_mem.proofs.numeral.encode.Goals as goal
use Rattle.bitvec_mem.proofs.numeral.encode.Goals.{then-rest-gt0, else-rest-gt0+then-owed-gt0}

pub loop-rest-init : goal.loop-rest-init
loop-rest-init c = record {
  in_range = omega arith;
  whole = c.told-out;
  fits = search rules;
  short = omega (arith, c.requires.short);
  text = let full : length c.args.out.now ≤ 128 = omega (arith, c.told-out) in rw drop_of_length-le (append-nil _);
}

pub loop-rest-preserved : goal.loop-rest-preserved
loop-rest-preserved c =
    let l = c.loop-rest in
    let more : (0 < l.rest) ⊎ (0 < l.owed) = elim c.if-rest-gt0.branch [ then-rest-gt0 w ↦ inl w.if-rest-gt0.true | else-rest-gt0+then-owed-gt0 w ↦ inr w.if-owed-gt0.true ] in
    let left = place_left l.at l.rest l.owed l.invariant.fits l.invariant.short more in
    let place : l.at - 1 < length l.out = omega (arith, l.invariant.whole) in
    let next : l.at - 1 + 1 ≡ l.at = omega arith in
    let written = drop-set l.out (l.at - 1) c.digit.result place ∙ ap (λ i. c.digit.result ∷ drop i l.out) next in
    let step = numeral_step c.args.base c.args.upper l.owed l.rest c.requires.low more in
    record {
      in_range = omega arith;
      whole = length-set l.out (l.at - 1) c.digit.result ∙ l.invariant.whole;
      fits = front_below c.args.base l.rest l.at c.requires.low left l.invariant.fits;
      short = omega (arith, l.invariant.short);
      text = rw (c.saturating_sub-owed.ensures, written, c.digit.ensures.value) (sym (append_assoc _ (_ ∷ []) _) ∙ ap (λ xs. xs ++ drop l.at l.out) (sym step) ∙ l.invariant.text);
    }

pub returns : goal.returns
returns c =
    let l = c.loop-rest in
    let rest : l.rest ≡ 0 = omega arith in
    let owed : l.owed ≡ 0 = omega arith in
    record { bound = l.invariant.in_range; value = rw (rest, owed, numeral_none) at l.invariant.text; ascii = numeral-IsAscii _ _ _ _ c.requires.low c.requires.high }
