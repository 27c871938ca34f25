use Rattle.std.proofs.Common.{◌≡◌, ℕ, zero, suc, ◌-◌, ◌<◌, refl, arith}
use Rattle.bitvec.specs.Digit.{digit}
use Rattle.tests_bitvec.proofs.laws.turned_in_two_memories.Goals as goal

-- a fact of each number below eight
below_eight : (P : ℕ → Type 0) → P 0 → P 1 → P 2 → P 3 → P 4 → P 5 → P 6 → P 7 → (i : ℕ) → i < 8 → P i
below_eight P a b c d e f g h zero l = a
below_eight P a b c d e f g h (suc zero) l = b
below_eight P a b c d e f g h (suc (suc zero)) l = c
below_eight P a b c d e f g h (suc (suc (suc zero))) l = d
below_eight P a b c d e f g h (suc (suc (suc (suc zero)))) l = e
below_eight P a b c d e f g h (suc (suc (suc (suc (suc zero))))) l = f
below_eight P a b c d e f g h (suc (suc (suc (suc (suc (suc zero)))))) l = g
below_eight P a b c d e f g h (suc (suc (suc (suc (suc (suc (suc zero))))))) l = h
below_eight P a b c d e f g h (suc (suc (suc (suc (suc (suc (suc (suc i)))))))) l = absurd (omega arith)

-- the digits of 13 from the lowest up are those of 176 from the highest down
turned : (i : ℕ) → i < 8 → digit 176 (7 - i) ≡ digit 13 i
unfolding digit
turned = below_eight (λ i. digit 176 (7 - i) ≡ digit 13 i) refl refl refl refl refl refl refl refl

pub run_turned-requires-clause-same_bits : goal.run_turned-requires-clause-same_bits
unfolding digit
run_turned-requires-clause-same_bits c = refl

pub run_turned-requires-clause-same_requests : goal.run_turned-requires-clause-same_requests
run_turned-requires-clause-same_requests c = ((refl, (refl, turned)), ((refl, refl), tt))
