use Rattle.std.proofs.Common.{◌≡◌, ◌/◌, ℕ, Bool, List, length, map, refl, ap, arith}
use Rattle.std.specs.Prelude.{slice_set, pos}
use Rattle.std.proofs.lemmas.Int.{ints}
use Rattle.bitvec.specs.Place.{Ptr, memory_place}
use Rattle.bitvec.specs.Span.{front_span}
use Rattle.bitvec.proofs.BecomesLemmas.{becomes-same, bit-becomes, fits-numbers, numbers-many}
use Rattle.bitvec_slice.proofs.SlicePartLemmas.{whole_fits}
use Rattle.freemap.specs.Blocks.{stored_blocks}
use Rattle.freemap.proofs.MapLemmas.{edited_words}
use Rattle.freemap.proofs.WordLemmas.{stored_long, set_filled}
use Rattle.freemap.proofs.map.set_in_words.Goals as goal

pub write-requires : goal.write-requires
write-requires g c =
    let word : c.at-pointer.result.word ≡ pos (c.args.at / 64) = ap (λ (p : Ptr). p.word) c.at-pointer.ensures in
    (omega (arith, ints, word), omega (arith, ints, word, c.requires.inside, c.requires.room))

pub returns : goal.returns
returns g c =
    let at = g.O.BitAt.at_of in
    let blocks = c.args.blocks in
    let old = c.args.words.now in
    let new = c.write.new.memory in
    let number = λ (w : ℕ). w in
    let span = front_span blocks in
    let place = ap (λ (p : Ptr). memory_place 64 p) c.at-pointer.ensures in
    let written = bit-becomes 64 at span (map number old) (map number new) (omega arith) (fits-numbers 64 span number old (whole_fits 64 (length old) blocks c.requires.room.0)) c.args.at _ c.args.used c.requires.inside
    (omega (arith, place)) (numbers-many number old new c.write.ensures.words) c.write.ensures.bits in
    let edit = edited_words at blocks span refl old new (λ (us : List Bool). slice_set us c.args.at c.args.used) written in
    becomes-same 64 at _ old new _ _ (set_filled (stored_blocks at blocks old) c.args.at c.args.used (omega (arith, c.requires.inside, stored_long at blocks old))) edit
