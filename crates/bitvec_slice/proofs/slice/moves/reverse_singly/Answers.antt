use Rattle.std.proofs.Common.{◌-◌, map, refl, sym, ◌∙◌, arith}
use Rattle.bitvec.specs.BitSpan.{span_of}
use Rattle.bitvec.specs.Span.{list_of}
use Rattle.bitvec.proofs.BecomesLemmas.{becomes, becomes-same, becomes-then}
use Rattle.bitvec.proofs.PartLemmas.{length-list_of}
use Rattle.bitvec_slice.proofs.ListEdits.{turned_none, turned_more, turned_all}
use Rattle.bitvec_slice.proofs.SpanEdits.{words-many}
use Rattle.bitvec_slice.proofs.slice.moves.reverse_singly.Goals as goal

pub loop-i-init : goal.loop-i-init
loop-i-init g c =
    let width = g.R.BitRegister.BITS in
    let at = g.O.BitAt.at_of in
    let span = span_of c.args.span in
    let memory = map g.R.BitRegister.number c.args.memory.now in
    record {
      turned = turned_none (list_of width at span memory);
      edit = becomes width at span memory memory _ refl (λ place out. refl) refl;
      words = refl;
    }

pub loop-i-preserved : goal.loop-i-preserved
loop-i-preserved g c =
    let width = g.R.BitRegister.BITS in
    let at = g.O.BitAt.at_of in
    let number = g.R.BitRegister.number in
    let span = span_of c.args.span in
    let old = map number c.args.memory.now in
    let now = map number c.loop-i.memory in
    let next = map number c.swap.new.memory in
    let xs = list_of width at span old in
    let ys = list_of width at span now in
    let zs = list_of width at span next in
    let long = length-list_of width at span old in
    let more = becomes-then width at span old now next ys _ c.loop-i.invariant.edit c.swap.ensures in
    record {
      turned = turned_more xs ys zs c.loop-i.i (c.len-len.result - 1 - c.loop-i.i) (omega (arith, long, c.len-len.ensures))
          (omega (arith, long, c.len-len.ensures)) c.loop-i.invariant.turned c.swap.ensures.list;
      edit = becomes-same width at span old next _ zs (sym c.swap.ensures.list) more;
      words = words-many number c.loop-i.memory c.swap.new.memory c.swap.ensures.words ∙ c.loop-i.invariant.words;
    }

pub returns : goal.returns
returns g c =
    let width = g.R.BitRegister.BITS in
    let at = g.O.BitAt.at_of in
    let number = g.R.BitRegister.number in
    let span = span_of c.args.span in
    let old = map number c.args.memory.now in
    let now = map number c.loop-i.memory in
    let long = length-list_of width at span old in
    let xs = list_of width at span old in
    let ys = list_of width at span now in
    let all = turned_all xs ys c.loop-i.i (omega (arith, long, c.len-len.ensures)) c.loop-i.invariant.turned in
    becomes-same width at span old now ys _ all c.loop-i.invariant.edit
