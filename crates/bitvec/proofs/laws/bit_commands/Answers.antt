use Rattle.std.proofs.Common.{◌≡◌, ℕ, Bool, List, ap, ◌∙◌, refl, subst}
use Rattle.std.specs.List.{AllZip}
use Rattle.std.proofs.lemmas.List.Elements.{recursion_from_All}
use Rattle.bitvec_span.specs.Span.{Span, list_of}
use Rattle.bitvec.specs.declared.run.command.Reply.{Reply}
use Rattle.bitvec.specs.Commands.{alone, own_commands}
use Rattle.bitvec.specs.Laws.{IsBitCommand, IsSameNumber, AreSameReplies}
use Rattle.bitvec.specs.Run.{alone_from}
use Rattle.bitvec.proofs.BitCommandLemmas.{own_same, own_bit_commands, same_replies, zip_at, bit_alone}
use Rattle.bitvec.proofs.laws.bit_commands.Goals as goal

pub returns : goal.returns
returns g c = λ spans other_spans memory other_memory requests other_requests same bit same_requests s span other is other_is.
    let number = g.R.BitRegister.number in
    let other_number = g.R2.BitRegister.number in
    let bits = g.R.BitRegister.BITS in
    let other_bits = g.R2.BitRegister.BITS in
    let at = g.O.BitAt.at_of in
    let other_at = g.O2.BitAt.at_of in
    let here : List (Reply ℕ) × List Bool = alone_from number bits at span memory s requests in
    let own = own_bit_commands s requests (recursion_from_All (λ request. IsBitCommand request.command) requests bit) in
    let lists = zip_at (λ (a b : Span). list_of bits at a memory ≡ list_of other_bits other_at b other_memory) spans other_spans s span other same is other_is in
    let equal : here ≡ alone_from other_number other_bits other_at other other_memory s other_requests =
    bit_alone number other_number bits other_bits at other_at span.head other.head (own_commands s requests) (own_commands s other_requests) (list_of bits at span memory) own
    (own_same number other_number IsSameNumber s requests other_requests same_requests)
    ∙ ap (alone other_number other_bits other_at other.head (own_commands s other_requests)) lists in
    subst (λ (there : List (Reply ℕ) × List Bool). AllZip (AreSameReplies IsSameNumber) here.0 there.0 × (here.1 ≡ there.1)) equal (same_replies here.0, refl)
