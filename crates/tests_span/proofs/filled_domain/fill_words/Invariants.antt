use Rattle.std.proofs.Common.{◌≡◌, ◌-◌, ◌≤◌, length, take, replicate}
use Rattle.tests_span.proofs.filled_domain.fill_words.Given as goal

abbrev pub invariant-loop-k : goal.invariant-loop-k
invariant-loop-k g l = (length l.words ≡ length l.initial.words) × (l.k ≤ length l.words) × (take l.k l.words ≡ replicate l.k l.word)

abbrev pub decreases-loop-k : goal.decreases-loop-k
decreases-loop-k g l = length l.initial.words - l.k
