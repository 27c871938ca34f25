use Rattle.std.proofs.Common.{rules, ◌*◌, ◌≤◌, ◌∙◌, map, length, arith}
use Rattle.std.proofs.lemmas.List.{length-map}
use Rattle.bitvec.specs.BitSpan.{span_of}
use Rattle.bitvec_slice.proofs.SlicePartLemmas.{first_bits}
use Rattle.bitvec_slice.proofs.slice.bit_slice.BitSlice.front.Goals as goal

pub returns-clause-bits : goal.returns-clause-bits
returns-clause-bits g c =
    let eight = g.met.R.BitRegister.width_at_least_8 in
    let words = map g.R.BitRegister.number c.args.memory.now in
    let within : c.args.len ≤ length c.args.memory.now * g.R.BitRegister.BITS = search rules in
    c.new_unchecked.ensures.bits
    ∙ first_bits g.R.BitRegister.BITS g.O.BitAt.at_of (span_of c.in_ok-span.span) words c.args.len (length c.args.memory.now) (omega (arith, eight)) c.in_ok-span.ensures.span
    (length-map c.args.memory.now g.R.BitRegister.number) within
