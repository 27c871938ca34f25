use Rattle.std.proofs.Common.{◌≡◌, ℕ, map}
use Rattle.std.specs.List.{AllZip}
use Rattle.bitvec.specs.BitSpan.{span_of}
use Rattle.bitvec.specs.Span.{Span, list_of}
use Rattle.bitvec.specs.Laws.{AreSameReplies, IsSameNumber}
use Rattle.bitvec.specs.Run.{alone_from}
use Rattle.bitvec.proofs.LawLemmas.{of_views, zip_views, zip_length, carried_replies, carried_lists}
use Rattle.tests_bitvec.proofs.laws.run_bit_commands.Goals as goal

pub returns : goal.returns
returns g c =
    let bits = g.R.BitRegister.BITS in
    let other_bits = g.R2.BitRegister.BITS in
    let at = g.O.BitAt.at_of in
    let other_at = g.O2.BitAt.at_of in
    let number = g.R.BitRegister.number in
    let other_number = g.R2.BitRegister.number in
    let spans = c.args.spans.now in
    let other_spans = c.args.other_spans.now in
    let here = map number c.args.here.now in
    let there = map other_number c.args.there.now in
    let requests = c.args.requests.now in
    let other_requests = c.args.other_requests.now in
    let lists = zip_views span_of span_of (λ (a b : Span). list_of bits at a here ≡ list_of other_bits other_at b there) spans other_spans c.requires.same_lists in
    let long = zip_length _ spans other_spans c.requires.same_lists in
    let agree =
    of_views
    (λ (s : ℕ) (a b : Span). AllZip (AreSameReplies IsSameNumber) (alone_from number bits at a here s requests).0 (alone_from other_number other_bits other_at b there s other_requests).0
    × ((alone_from number bits at a here s requests).1 ≡ (alone_from other_number other_bits other_at b there s other_requests).1))
    span_of span_of spans other_spans
    (c.bit_commands.ensures (map span_of spans) (map span_of other_spans) here there requests other_requests lists c.requires.bit_commands c.requires.same_requests) in
    record {
      same_replies = carried_replies (AreSameReplies IsSameNumber) number other_number bits other_bits at other_at span_of span_of spans other_spans here _ there _ _ _ _ _ c.run.ensures c.run-2.ensures long agree;
      same_lists = carried_lists (AreSameReplies IsSameNumber) number other_number bits other_bits at other_at span_of span_of spans other_spans here _ there _ _ _ _ _ c.run.ensures c.run-2.ensures long agree;
    }
