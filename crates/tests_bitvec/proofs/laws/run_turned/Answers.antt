use Rattle.std.proofs.Common.{◌≡◌, ℕ, ◌<◌, List, length, map, sym, ap, ◌∙◌, subst, arith}
use Rattle.std.specs.List.{AllZip}
use Rattle.std.proofs.lemmas.List.{length-map}
use Rattle.std.proofs.lemmas.List.Elements.{recursion_from_All}
use Rattle.bitvec.specs.BitSpan.{span_of}
use Rattle.bitvec.specs.Span.{Span, Fits, list_of}
use Rattle.bitvec.specs.Laws.{AreSameReplies, IsTurned}
use Rattle.bitvec.specs.Run.{alone_from}
use Rattle.bitvec.proofs.LawLemmas.{fits_of_views, carried_replies, carried_lists, of_views}
use Rattle.bitvec.proofs.TurnLemmas.{same_bits-turned}
use Rattle.tests_bitvec.proofs.laws.run_turned.Goals as goal

pub returns : goal.returns
returns g c =
    let bits = g.R.BitRegister.BITS in
    let at = g.O.BitAt.at_of in
    let other_at = g.O2.BitAt.at_of in
    let number = g.R.BitRegister.number in
    let some : 0 < g.R.BitRegister.BITS = omega (arith, g.met.R.BitRegister.width_at_least_8) in
    let spans = c.args.spans.now in
    let other_spans = c.args.other_spans.now in
    let here = map number c.args.here.now in
    let there = map number c.args.there.now in
    let requests = c.args.requests.now in
    let other_requests = c.args.other_requests.now in
    let P = AreSameReplies (IsTurned bits at other_at) in
    let fits = recursion_from_All (λ (span : Span). Fits bits span (length here)) (map span_of spans) (fits_of_views bits span_of number spans c.args.here.now c.requires.can_run) in
    let long : length spans ≡ length other_spans = sym (length-map spans span_of) ∙ ap length c.requires.same_spans ∙ length-map other_spans span_of in
    let alike : AllZip (λ (a b : Span). (a.head ≡ b.head) × (list_of bits at a here ≡ list_of bits other_at b there)) (map span_of spans) (map span_of other_spans) =
    subst (λ (others : List Span). AllZip (λ (a b : Span). (a.head ≡ b.head) × (list_of bits at a here ≡ list_of bits other_at b there)) (map span_of spans) others) c.requires.same_spans
    (same_bits-turned bits at other_at (map span_of spans) here there some fits c.requires.same_bits) in
    let agree =
    of_views
    (λ (s : ℕ) (a b : Span). AllZip P (alone_from number bits at a here s requests).0 (alone_from number bits other_at b there s other_requests).0
    × ((alone_from number bits at a here s requests).1 ≡ (alone_from number bits other_at b there s other_requests).1))
    span_of span_of spans other_spans
    (c.turned_orders.ensures (map span_of spans) (map span_of other_spans) here there requests other_requests alike c.requires.same_requests) in
    record {
      same_replies = carried_replies P number number bits bits at other_at span_of span_of spans other_spans here _ there _ _ _ _ _ c.run.ensures c.run-2.ensures long agree;
      same_lists = carried_lists P number number bits bits at other_at span_of span_of spans other_spans here _ there _ _ _ _ _ c.run.ensures c.run-2.ensures long agree;
    }
