use Rattle.std.proofs.Common.{◌∙◌, sym, subst, length}
use Rattle.bitvec.specs.BitSpan.{span_of}
use Rattle.bitvec.specs.Span.{Span, Fits}
use Rattle.bitvec_slice.proofs.SlicePartLemmas.{whole_fits}
use Rattle.freemap.proofs.MapLemmas.{shown}
use Rattle.freemap.proofs.map.FreeMap.bits.Goals as goal

pub new_unchecked-requires : goal.new_unchecked-requires
new_unchecked-requires g c =
    let map = c.args.self.now in
    subst (λ (s : Span). Fits 64 s (length map.words.now)) (sym c.at_unchecked.ensures) (whole_fits 64 _ map.blocks map.room.0)

pub returns : goal.returns
returns g c =
    let map = c.args.self.now in
    c.new_unchecked.ensures.bits ∙ shown g.O.BitAt.at_of map.blocks (span_of c.at_unchecked.result) c.at_unchecked.ensures map.words.now
