use Rattle.std.proofs.Common.{rules, ◌≡◌, ◌-◌, ◌<◌, length, map, ap}
use Rattle.bitvec.specs.BitSpan.{span_of}
use Rattle.bitvec.specs.Span.{Span}
use Rattle.bits_lib.specs.View.{part_span}
use Rattle.bits_lib.proofs.ViewLemmas.{part_fits, part_becomes, range_filled, lists_kept, outside_kept, apart_kept}
use Rattle.bits_lib.proofs.view.Parts.fill.Goals as goal

pub fill-requires : goal.fill-requires
fill-requires g c =
    let parts = c.args.self.now in
    let old = parts.memory.now in
    let inside : c.args.part < length parts.intervals = search rules in
    let fits = part_fits g.R.BitRegister.BITS g.R.BitRegister.number parts.intervals c.args.part old parts.can_run inside c.span.ensures in
    c.range-range.ensures.fit (length old) fits.0

pub returns-clause-edited : goal.returns-clause-edited
returns-clause-edited g c =
    let width = g.R.BitRegister.BITS in
    let number = g.R.BitRegister.number in
    let at = g.O.BitAt.at_of in
    let parts = c.args.self.now in
    let old = parts.memory.now in
    let new = c.fill.new.memory in
    let inside : c.args.part < length parts.intervals = search rules in
    let fits = part_fits width number parts.intervals c.args.part old parts.can_run inside c.span.ensures in
    let edit = c.range-range.ensures.edits at (map number old) (map number new) _ fits.1 c.fill.ensures in
    let many : (span_of c.range-range.result).len ≡ c.args.to - c.args.from = ap (λ (s : Span). s.len) c.range-range.ensures.span in
    let part = part_span parts c.args.part in
    range_filled width at c.args.from c.args.to c.args.bit (map number old) (map number new) (span_of c.span.result) part _ c.span.ensures many
    edit.list

pub returns-clause-kept : goal.returns-clause-kept
returns-clause-kept g c =
    let width = g.R.BitRegister.BITS in
    let number = g.R.BitRegister.number in
    let at = g.O.BitAt.at_of in
    let parts = c.args.self.now in
    let old = parts.memory.now in
    let new = c.fill.new.memory in
    let inside : c.args.part < length parts.intervals = search rules in
    let fits = part_fits width number parts.intervals c.args.part old parts.can_run inside c.span.ensures in
    let edit = c.range-range.ensures.edits at (map number old) (map number new) _ fits.1 c.fill.ensures in
    lists_kept (part_becomes width at number parts.intervals c.args.part old new parts.can_run inside c.span.ensures edit)

pub returns-clause-others : goal.returns-clause-others
returns-clause-others g c =
    let width = g.R.BitRegister.BITS in
    let number = g.R.BitRegister.number in
    let at = g.O.BitAt.at_of in
    let parts = c.args.self.now in
    let old = parts.memory.now in
    let new = c.fill.new.memory in
    let inside : c.args.part < length parts.intervals = search rules in
    let fits = part_fits width number parts.intervals c.args.part old parts.can_run inside c.span.ensures in
    let edit = c.range-range.ensures.edits at (map number old) (map number new) _ fits.1 c.fill.ensures in
    outside_kept (part_becomes width at number parts.intervals c.args.part old new parts.can_run inside c.span.ensures edit)

pub returns-clause-apart : goal.returns-clause-apart
returns-clause-apart g c =
    let width = g.R.BitRegister.BITS in
    let number = g.R.BitRegister.number in
    let at = g.O.BitAt.at_of in
    let parts = c.args.self.now in
    let old = parts.memory.now in
    let new = c.fill.new.memory in
    let inside : c.args.part < length parts.intervals = search rules in
    let fits = part_fits width number parts.intervals c.args.part old parts.can_run inside c.span.ensures in
    let edit = c.range-range.ensures.edits at (map number old) (map number new) _ fits.1 c.fill.ensures in
    apart_kept (part_becomes width at number parts.intervals c.args.part old new parts.can_run inside c.span.ensures edit)
