use Rattle.std.proofs.Common.{◌≡◌, pos, ◌-◌, [], ◌∷◌, sym, ap, ◌∙◌, rules}
use Rattle.bitvec.specs.Digit.{digit}
use Rattle.bitvec.specs.BitSpan.{span_of}
use Rattle.bitvec.specs.Span.{list_of}
use Rattle.tests_bitvec.proofs.laws.bit_commands_in_two_memories.Goals as goal

pub run_bit_commands-requires-clause-same_lists : goal.run_bit_commands-requires-clause-same_lists
unfolding digit
run_bit_commands-requires-clause-same_lists c =
    let low : span_of c.in_ok-low.low ≡ record { word = pos 0; head = 0; len = 4 } = search rules in
    let high : span_of c.in_ok-high.high ≡ record { word = pos 0; head = 6; len = 4 } = search rules in
    (ap (λ span. list_of 8 (λ i. i) span (13 ∷ [])) low ∙ sym (ap (λ span. list_of 16 (λ i. 15 - i) span (704 ∷ [])) high), tt)
