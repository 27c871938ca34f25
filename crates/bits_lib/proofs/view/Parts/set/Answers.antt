use Rattle.std.proofs.Common.{rules, ◌<◌, length}
use Rattle.bits_lib.proofs.ViewLemmas.{part_becomes, lists_kept, outside_kept, apart_kept}
use Rattle.bits_lib.proofs.view.Parts.set.Goals as goal

pub returns-clause-kept : goal.returns-clause-kept
returns-clause-kept g c =
    let width = g.R.BitRegister.BITS in
    let number = g.R.BitRegister.number in
    let parts = c.args.self.now in
    let old = parts.memory.now in
    let new = c.write.new.memory in
    let inside : c.args.part < length parts.intervals = search rules in
    let at = g.O.BitAt.at_of in
    lists_kept (part_becomes width at number parts.intervals c.args.part old new parts.can_run inside c.span-own.ensures c.write.ensures)

pub returns-clause-others : goal.returns-clause-others
returns-clause-others g c =
    let width = g.R.BitRegister.BITS in
    let number = g.R.BitRegister.number in
    let parts = c.args.self.now in
    let old = parts.memory.now in
    let new = c.write.new.memory in
    let inside : c.args.part < length parts.intervals = search rules in
    let at = g.O.BitAt.at_of in
    outside_kept (part_becomes width at number parts.intervals c.args.part old new parts.can_run inside c.span-own.ensures c.write.ensures)

pub returns-clause-apart : goal.returns-clause-apart
returns-clause-apart g c =
    let width = g.R.BitRegister.BITS in
    let number = g.R.BitRegister.number in
    let parts = c.args.self.now in
    let old = parts.memory.now in
    let new = c.write.new.memory in
    let inside : c.args.part < length parts.intervals = search rules in
    let at = g.O.BitAt.at_of in
    apart_kept (part_becomes width at number parts.intervals c.args.part old new parts.can_run inside c.span-own.ensures c.write.ensures)
