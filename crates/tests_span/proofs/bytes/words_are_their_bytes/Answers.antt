use Rattle.bitvec_span.proofs.ByteLemmas.{low_bytes, high_bytes}
use Rattle.tests_span.proofs.bytes.words_are_their_bytes.Goals as goal

pub returns-clause-low : goal.returns-clause-low
returns-clause-low c = λ n some. low_bytes n some

pub returns-clause-high : goal.returns-clause-high
returns-clause-high c = λ n some. high_bytes n some
