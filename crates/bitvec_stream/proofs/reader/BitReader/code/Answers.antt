use Rattle.std.proofs.Common.{◌≡◌, ◌+◌, ◌-◌, ◌≤◌, ◌<◌, drop, take, length, refl, ap, ◌∙◌, inl, inr, arith, length-drop}
use Rattle.std.proofs.lemmas.Bool.{cases_lt}
use Rattle.bitvec_slice.specs.BitSlice.{slice_bits}
use Rattle.bitvec_stream.specs.Reader.{unread, bits_read}
use Rattle.bitvec_stream.proofs.GolombLemmas.{no_one-no_code, short-no_code, code_found}
use Rattle.bitvec_stream.proofs.ReadLemmas.{rest_moved}
use Rattle.bitvec_stream.proofs.reader.BitReader.code.Goals as goal

pub returns-in-None : goal.returns-in-None
returns-in-None g c = (refl, no_one-no_code (unread c.args.self.now) c.in-None.ensures)

pub returns-in-None-get_range : goal.returns-in-None-get_range
returns-in-None-get_range g c =
    let reader = c.args.self.now in
    let run = c.in-Some.ensures in
    let z = c.in-Some.zeros in
    let left = length-drop (bits_read reader) (slice_bits reader.slice) in
    let short : length (unread reader) < z + (z + 1) = elim (cases_lt (length (unread reader)) (z + (z + 1))) [
      | inl fewer ↦ fewer
      | inr room ↦ absurd (let there = c.in-None-get_range.ensures.accepted.1 (omega arith, omega (arith, room, left, run.0, c.position.ensures.value)) in cc)
    ] in
    (refl, short-no_code (unread reader) z (run.1.2 run.0) run.1.1 short)

pub returns-in-Some-get_range : goal.returns-in-Some-get_range
returns-in-Some-get_range g c =
    let reader = c.args.self.now in
    let run = c.in-Some.ensures in
    let z = c.in-Some.zeros in
    let p = c.position.result in
    let xs = slice_bits reader.slice in
    let left = length-drop (bits_read reader) xs in
    let there = c.in-Some-get_range.ensures.accepted.0 refl in
    let room : z + (z + 1) ≤ length (unread reader) = omega (arith, there.1, left, c.position.ensures.value) in
    let many : p + z + z + 1 - (p + z) ≡ z + 1 = omega arith in
    let is = c.in-Some-get_range.ensures.bits
    ∙ ap (λ n. take n (drop (p + z) xs)) many
    ∙ ap (λ n. take (z + 1) (drop (n + z) xs)) c.position.ensures.value
    ∙ ap (take (z + 1)) (rest_moved xs (bits_read reader) z) in
    code_found (unread reader) (slice_bits c.in-Some-get_range.digits) z (run.1.2 run.0) run.1.1 room is
