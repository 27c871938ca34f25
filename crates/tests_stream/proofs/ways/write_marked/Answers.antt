use Rattle.std.proofs.Common.{◌≡◌, ◌+◌, ◌++◌, ◌∷◌, [], Bool, List, true, false, length, replicate, refl, ◌∙◌, arith}
use Rattle.std.proofs.lemmas.List.{length-append, length-replicate}
use Rattle.bitvec_slice.specs.BitSlice.{slice_bits, slice_len}
use Rattle.bitvec_stream.specs.Writer.{room}
use Rattle.tests_stream.proofs.HeaderLemmas.{room_left}
use Rattle.tests_stream.proofs.ways.write_marked.Goals as goal

pub returns-clause-accepted : goal.returns-clause-accepted
returns-clause-accepted g c =
    let run : List Bool = replicate c.args.count true ++ false ∷ [] in
    let one : length (true ∷ []) ≡ 1 = refl in
    let long : length run ≡ c.args.count + 1 = omega (arith, length-append (replicate c.args.count true) (false ∷ []), length-replicate c.args.count true) in
    let first = room_left (room c.args.writer.now) (room c.write_bit.new.self) (true ∷ []) c.in_ok-write_bit.ensures.written.1 in
    let second = room_left (room c.write_bit.new.self) (room c.write_unary.new.self) run c.in_ok-write_unary.ensures.written.1 in
    let bit = c.in_ok-write_bit.ensures.accepted.0 refl in
    let unary = c.in_ok-write_unary.ensures.accepted.0 refl in
    let len : length (slice_bits c.args.part) ≡ slice_len c.args.part = c.args.part.many _ in
    let accepted = c.write_slice.ensures.accepted in
    (λ ok. omega (arith, accepted.0 ok, one, long, first, second, bit, unary, len), λ h. accepted.1 (omega (arith, h, one, long, first, second, len)))
