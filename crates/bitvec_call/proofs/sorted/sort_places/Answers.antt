use Rattle.std.proofs.Common.{length, subst, arith, rules}
use Rattle.std.specs.List.{range_with_len}
use Rattle.std.specs.List.Sorted.{IsPermutation}
use Rattle.std.proofs.lemmas.List.Sorted.{IsNonDecreasingBy-from_sort_by_key}
use Rattle.bitvec.specs.Run.{start_in}
use Rattle.bitvec.proofs.OrderLemmas.{numbered}
use Rattle.bitvec_call.specs.Plain.{plain_span}
use Rattle.bitvec_call.proofs.sorted.sort_places.Goals as goal

pub returns : goal.returns
returns g c =
    let width = g.R.BitRegister.BITS in
    let spans = c.args.spans.now in
    let sorted = c.sort_unstable_by_key.new.self in
    let filled = numbered c.loop-i.room (length spans) (omega arith) (λ k below. c.loop-i.invariant k (omega arith)) in
    let each : IsPermutation (range_with_len 0 (length spans)) sorted =
    subst (λ xs. IsPermutation xs sorted) filled c.sort_unstable_by_key.ensures.permutation in
    let rising = IsNonDecreasingBy-from_sort_by_key (λ n. start_in width (plain_span width) spans n) _ c.sort_unstable_by_key.ensures.sorted (λ a r q k. search rules) in
    record {
      each = each;
      rises = λ i j d below high. rising i j d (omega (arith, below)) high;
    }
