use Rattle.std.proofs.Common.{ℕ, ◌^◌, ◌<◌, List, map, sym, ap, subst}
use Rattle.std.proofs.lemmas.List.{length-map}
use Rattle.bitvec.specs.Digit.{digit}
use Rattle.bitvec.specs.BitSpan.{span_of}
use Rattle.bitvec.specs.Commands.{reply_number}
use Rattle.bitvec.specs.Laws.{HaveSameOwnCommands, HaveSameOwnReplies}
use Rattle.bitvec.specs.Run.{IsRun}
use Rattle.bitvec.proofs.LawLemmas.{all_views, fits_of_views, run_of_views}
use Rattle.tests_bitvec.proofs.SameRunLemmas.{same_words}
use Rattle.tests_bitvec.proofs.laws.run_in_two_orders.Goals as goal

pub returns : goal.returns
returns g c =
    let bits = g.R.BitRegister.BITS in
    let at = g.O.BitAt.at_of in
    let number = g.R.BitRegister.number in
    let spans = c.args.spans.now in
    let old = map number c.args.here.now in
    let here = map number c.run.new.memory in
    let there = map number c.run-2.new.memory in
    let fits = fits_of_views bits span_of number spans c.args.here.now c.requires.can_run in
    let long = length-map spans span_of in
    let requests = c.args.requests.now in
    let other_requests = c.args.other_requests.now in
    let replies = map (reply_number number) c.run.new.replies in
    let other_replies = map (reply_number number) c.run-2.new.replies in
    let run = run_of_views number bits at span_of spans old here requests replies c.run.ensures in
    let other_run = run_of_views number bits at span_of spans old there other_requests other_replies
    (subst (λ (words : List _). IsRun number bits at span_of spans (map number words) other_requests other_replies there) (sym c.requires.same_memory) c.run-2.ensures) in
    let below = all_views number (λ n. n < 2 ^ g.R.BitRegister.BITS) c.run.new.memory c.numbers_are_below.ensures in
    let other_below = all_views number (λ n. n < 2 ^ g.R.BitRegister.BITS) c.run-2.new.memory c.numbers_are_below-2.ensures in
    let same = subst (λ (n : ℕ). HaveSameOwnCommands n requests other_requests) (sym long) c.requires.same_commands in
    let both = c.order_between_spans_does_not_matter.ensures (map span_of spans) old here there requests other_requests replies other_replies fits below other_below same run other_run in
    record {
      same_replies = subst (λ (n : ℕ). HaveSameOwnReplies n requests replies other_requests other_replies) long both.0;
      same_memory = same_words number (2 ^ bits) (λ a b h k e. g.met.R.BitRegister.digits_injective a b h k (λ p _. ap (λ n. digit n p) e)) c.run.new.memory c.run-2.new.memory c.numbers_are_below.ensures c.numbers_are_below-2.ensures both.1;
    }
