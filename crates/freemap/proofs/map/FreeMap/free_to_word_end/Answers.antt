use Rattle.std.proofs.Common.{◌≡◌, ◌+◌, ◌*◌, ◌/◌, ◌∙◌, List, Bool, true≢false, length, sym, ap, arith}
use Rattle.std.specs.Prelude.{min, slice_range}
use Rattle.bitvec_slice.specs.BitSlice.{slice_bits}
use Rattle.freemap.specs.Map.{in_use}
use Rattle.freemap.proofs.SummaryLemmas.{rest_full, rest_first}
use Rattle.freemap.proofs.WordLemmas.{stored_long}
use Rattle.freemap.proofs.map.FreeMap.free_to_word_end.Goals as goal

pub returns-then-self-block : goal.returns-then-self-block
returns-then-self-block g c =
    let map = c.args.self.now in
    λ b later near there. absurd (omega (arith, c.if-self-block.true, later, there, stored_long g.O.BitAt.at_of map.blocks map.words.now))

pub returns-in_err-part : goal.returns-in_err-part
returns-in_err-part g c =
    let map = c.args.self.now in
    let many = ap length c.bits.ensures ∙ stored_long g.O.BitAt.at_of map.blocks map.words.now in
    absurd (true≢false (sym (c.in_err-part.ensures.accepted.1 (omega (arith, c.if-self-block.false, c.min-end.ensures), omega (arith, c.min-end.ensures, many)))))

pub returns-in-Some : goal.returns-in-Some
returns-in-Some g c =
    let map = c.args.self.now in
    let from = c.args.block in
    let end = c.min-end.result in
    let many = stored_long g.O.BitAt.at_of map.blocks map.words.now in
    let ends : end ≡ min (length (in_use map)) ((from / 64 + 1) * 64) = omega (arith, c.min-end.ensures, many) in
    let is = c.in_ok-part.ensures.bits ∙ ap (λ (xs : List Bool). slice_range xs from end) c.bits.ensures in
    rest_first (in_use map) (slice_bits c.in_ok-part.part) from end (omega (arith, c.if-self-block.false, many)) ends is c.in-Some.i c.in-Some.ensures

pub returns-in-None : goal.returns-in-None
returns-in-None g c =
    let map = c.args.self.now in
    let from = c.args.block in
    let end = c.min-end.result in
    let many = stored_long g.O.BitAt.at_of map.blocks map.words.now in
    let ends : end ≡ min (length (in_use map)) ((from / 64 + 1) * 64) = omega (arith, c.min-end.ensures, many) in
    let is = c.in_ok-part.ensures.bits ∙ ap (λ (xs : List Bool). slice_range xs from end) c.bits.ensures in
    rest_full (in_use map) (slice_bits c.in_ok-part.part) from end (omega (arith, c.if-self-block.false, many)) ends is c.in-None.ensures
