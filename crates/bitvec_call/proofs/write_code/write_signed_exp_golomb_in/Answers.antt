use Rattle.std.proofs.Common.{◌≡◌, ◌+◌, ◌≤◌, ℤ, to_z-of_z, sym, subst, length, map, refl, ap, inl, inr, arith, rules}
use Rattle.std.specs.Int.{w64}
use mir.Val.{to_z, of_z}
use Rattle.bitvec_stream.specs.Golomb.{golomb, signed_place}
use Rattle.bitvec_stream.specs.Writer.{room, Writes}
use Rattle.bitvec_call.proofs.StreamLemmas.{taken, refused}
use Rattle.bitvec_call.proofs.WriteLemmas.{length-left, wrote, left_kept}
use Rattle.bitvec_call.proofs.write_code.write_signed_exp_golomb_in.Goals as goal

pub returns-in-Ok : goal.returns-in-Ok
returns-in-Ok g c =
    let width = g.R.BitRegister.BITS in
    let memory = c.args.memory.now in
    let place = c.args.place.now in
    let writer = c.writer_between-writer in
    let same : to_z w64 (of_z w64 c.args.number) ≡ c.args.number = to_z-of_z {w = w64} {z = c.args.number} (search rules) in
    let xs = golomb (signed_place c.args.number) in
    let left = length-left width g.O.BitAt.at_of place c.args.end (map g.R.BitRegister.number memory) in
    let enough = ap length writer.ensures.room in
    let can : length (golomb (signed_place c.args.number)) ≤ length (room writer.result) = subst (λ (z : ℤ). length (golomb (signed_place z)) ≤ length (room writer.result)) same (c.in-Ok.ensures.accepted.0 (search rules)) in
    let writes = (subst (λ (z : ℤ). Writes writer.result c.write_signed_exp_golomb.new.self (golomb (signed_place z))) same c.in-Ok.ensures.written) in
    let long : c.position.result ≡ length xs = omega (arith, c.position.ensures.value, writes.2, writer.ensures.position) in
    let done = wrote writer.result c.write_signed_exp_golomb.new.self memory _ place c.args.end xs writer.ensures.memory (search rules) writer.ensures.span writer.ensures.position writes (omega (arith, g.met.R.BitRegister.width_at_least_8)) (omega (arith, can, enough, left)) in
    taken _ _ _ _ _ _ (inr (omega (arith, can, enough), refl)) done (ap (λ n. place + n) long)

pub returns-in-Err : goal.returns-in-Err
returns-in-Err g c =
    let writer = c.writer_between-writer in
    let same : to_z w64 (of_z w64 c.args.number) ≡ c.args.number = to_z-of_z {w = w64} {z = c.args.number} (search rules) in
    let enough = ap length writer.ensures.room in
    refused _ _ _ _ _ _ _ (λ e. absurd (omega (arith, e))) (inl ((λ can. absurd (search (rules, c.in-Err.ensures.accepted.1 (subst (λ (z : ℤ). length (golomb (signed_place z)) ≤ length (room writer.result)) (sym same) (omega (arith, can, enough)))))), refl))
    (left_kept writer.result c.write_signed_exp_golomb.new.self g.R.BitRegister.number c.args.memory.now _ writer.ensures.memory (search rules) c.in-Err.ensures.written.1) refl
