use Rattle.std.proofs.Common.{rules, ◌≡◌, ◌*◌, ◌≤◌, ◌∙◌, map, length, ap, arith}
use Rattle.std.proofs.lemmas.List.{length-map}
use Rattle.bitvec.specs.Span.{front_span, list_of}
use Rattle.bitvec_slice.specs.BitSliceMut.{lent_span}
use Rattle.bitvec_slice.proofs.SlicePartLemmas.{first_bits}
use Rattle.bitvec_slice.proofs.slice.bit_slice_mut.BitSliceMut.front.Goals as goal

pub returns-in-Some-clause-bits : goal.returns-in-Some-clause-bits
returns-in-Some-clause-bits g c =
    let eight = g.met.R.BitRegister.width_at_least_8 in
    let words = map g.R.BitRegister.number c.args.memory.now in
    let within : c.args.len ≤ length c.args.memory.now * g.R.BitRegister.BITS = search rules in
    let is : lent_span c.new_unchecked.result ≡ front_span c.args.len = search rules in
    ap (λ ws. list_of g.R.BitRegister.BITS g.O.BitAt.at_of (lent_span c.new_unchecked.result) (map g.R.BitRegister.number ws)) c.new_unchecked.ensures.memory
    ∙ first_bits g.R.BitRegister.BITS g.O.BitAt.at_of (lent_span c.new_unchecked.result) words c.args.len (length c.args.memory.now) (omega (arith, eight)) is
    (length-map c.args.memory.now g.R.BitRegister.number) within
