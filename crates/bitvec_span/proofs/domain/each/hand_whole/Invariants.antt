use Rattle.std.proofs.Common.{length, map, ℕ}
use Rattle.bitvec_span.specs.Parts.{value_of, whole_part}
use Rattle.bitvec_span.specs.Each.{IsCalledWith}
use Rattle.bitvec_span.proofs.domain.each.hand_whole.Given as goal

-- what calls with the words that are left come to, calls with all come to
abbrev pub invariant-loop-word : goal.invariant-loop-word
invariant-loop-word g l =
    let bits : ℕ = g.R.BitRegister.BITS in
    goal.F-IsAlwaysCallable g l.f
    × ((last : _) → IsCalledWith g.R.BitRegister.number (λ p w q. goal.F-step g p w tt q) (map (λ w. value_of bits g.O.BitAt.at_of (whole_part bits w)) (map g.R.BitRegister.number l.rest)) l.f last → IsCalledWith g.R.BitRegister.number (λ p w q. goal.F-step g p w tt q) (map (λ w. value_of bits g.O.BitAt.at_of (whole_part bits w)) (map g.R.BitRegister.number l.fn.words)) l.fn.f last)

abbrev pub decreases-loop-word : goal.decreases-loop-word
decreases-loop-word g l = length l.rest
