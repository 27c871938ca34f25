use Rattle.std.proofs.Common.{ℕ, ◌*◌, refl, sym, ◌∙◌, replicate}
use Rattle.std.proofs.lemmas.List.{length-replicate}
use Rattle.bitvec.specs.Span.{front_span}
use Rattle.bitvec_slice.proofs.SlicePartLemmas.{list_of-zeros, list_of_whole}
use Rattle.tests_slice.proofs.block_map.free_map.Goals as goal

pub returns : goal.returns
returns c = sym (list_of_whole 64 (λ i. i) (front_span (64 * 64)) (replicate 64 0) 64 refl (length-replicate {A = ℕ} 64 0)) ∙ list_of-zeros 64 (λ i. i) (front_span (64 * 64)) 64
