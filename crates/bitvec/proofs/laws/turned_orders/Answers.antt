use Rattle.std.proofs.Common.{◌≡◌, ℕ, ◌<◌, Bool, List, subst, arith}
use Rattle.std.specs.List.{AllZip}
use Rattle.bitvec_span.specs.Span.{Span, list_of}
use Rattle.bitvec.specs.declared.run.command.Reply.{Reply}
use Rattle.bitvec.specs.Commands.{alone, own_commands}
use Rattle.bitvec.specs.Laws.{IsTurned, AreSameReplies}
use Rattle.bitvec.proofs.BitCommandLemmas.{own_same, zip_at}
use Rattle.bitvec.proofs.TurnLemmas.{alone_turned}
use Rattle.bitvec.proofs.laws.turned_orders.Goals as goal

pub returns : goal.returns
returns g c = λ spans other_spans memory other_memory requests other_requests lists same_requests s span other is other_is.
    let number = g.R.BitRegister.number in
    let bits = g.R.BitRegister.BITS in
    let some : 0 < g.R.BitRegister.BITS = omega (arith, g.met.R.BitRegister.width_at_least_8) in
    let at = g.O.BitAt.at_of in
    let other_at = g.O2.BitAt.at_of in
    let cs = own_commands s requests in
    let ds = own_commands s other_requests in
    let xs = list_of bits at span memory in
    let same = zip_at (λ (a b : Span). (a.head ≡ b.head) × (list_of bits at a memory ≡ list_of bits other_at b other_memory)) spans other_spans s span other lists is other_is in
    let here : List (Reply ℕ) × List Bool = alone number bits at span.head cs xs in
    let agrees : List (Reply ℕ) × List Bool → Type 0 = λ there. AllZip (AreSameReplies (IsTurned bits at other_at)) here.0 there.0 × (here.1 ≡ there.1) in
    subst (λ (head : ℕ). agrees (alone number bits other_at head ds (list_of bits other_at other other_memory))) same.0
    (subst (λ (ys : List Bool). agrees (alone number bits other_at span.head ds ys)) same.1
    (alone_turned number bits at other_at some g.met.O.BitOrder.one_to_one g.met.O2.BitOrder.one_to_one span.head cs ds xs
    (own_same number number (IsTurned bits at other_at) s requests other_requests same_requests)))
