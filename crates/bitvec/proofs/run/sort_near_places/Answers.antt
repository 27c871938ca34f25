use Rattle.std.proofs.Common.{length, get_or, subst, arith, rules}
use Rattle.std.specs.List.{range_with_len}
use Rattle.std.specs.List.Sorted.{IsPermutation}
use Rattle.std.proofs.lemmas.List.Sorted.{IsNonDecreasingBy-from_sort_by_key}
use Rattle.bitvec_ptr.proofs.PlaceOrder.{bit_below}
use Rattle.bitvec_span.specs.BitSpan.{span_of}
use Rattle.bitvec.specs.Run.{span_in}
use Rattle.bitvec.proofs.OrderLemmas.{near_key, below_in_order, numbered, rises_from_near_sort}
use Rattle.bitvec.proofs.run.sort_near_places.Goals as goal

pub returns : goal.returns
returns g c =
    let width = g.R.BitRegister.BITS in
    let spans = c.args.spans.now in
    let sorted = c.sort_unstable_by_key.new.self in
    let filled = numbered c.loop-i.order (length c.args.spans.now) (omega arith) (λ k below. c.loop-i.invariant k (omega arith)) in
    let each : IsPermutation (range_with_len 0 (length spans)) sorted =
    subst (λ xs. IsPermutation xs sorted) filled c.sort_unstable_by_key.ensures.permutation in
    record {
      each = each;
      rises = rises_from_near_sort width span_of spans sorted (omega (arith, g.met.R.BitRegister.width_at_most_128)) c.requires.fit c.requires.near
          (λ i d below. bit_below width _ g.met.R.BitRegister.width_at_least_8 (get_or spans i d).in_word)
          (below_in_order (length spans) sorted each)
          (IsNonDecreasingBy-from_sort_by_key (λ n. near_key width (span_in span_of spans n)) _ c.sort_unstable_by_key.ensures.sorted (λ a r q k. search rules));
    }
