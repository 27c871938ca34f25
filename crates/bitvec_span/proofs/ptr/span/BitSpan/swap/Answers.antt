use Rattle.std.proofs.Common.{map}
use Rattle.std.specs.Prelude.{slice_set}
use Rattle.bitvec_span.specs.Span.{list_of}
use Rattle.bitvec_span.specs.BitSpan.{span_of}
use Rattle.bitvec_span.proofs.BecomesLemmas.{becomes-same, swap-becomes}
use Rattle.bitvec_span.proofs.ptr.span.BitSpan.swap.Goals as goal

pub returns : goal.returns
returns g c =
    let number = g.R.BitRegister.number in
    let width = g.R.BitRegister.BITS in
    let at = g.O.BitAt.at_of in
    let span = span_of c.args.self in
    let old = map number c.args.memory.now in
    let mid = map number c.write.new.memory in
    swap-becomes width at span old mid _ c.args.i c.args.j c.requires.first c.requires.second
    (becomes-same width at span old mid _ _
    (λ m. slice_set (list_of width at span old) c.args.i (c.read-second.ensures m))
    c.write.ensures)
    (becomes-same width at span mid _ _ _
    (λ m. slice_set (list_of width at span mid) c.args.j (c.read-first.ensures m))
    c.write-2.ensures)
