use Rattle.std.proofs.Common.{◌≡◌, ◌∙◌, min, true, false, sym, ap, subst}
use Rattle.std.specs.Prelude.{◌↔◌}
use Rattle.bitvec_slice.specs.BitSlice.{slice_bits}
use Rattle.bitvec_slice.specs.Bits.{AllBetween}
use Rattle.bitvec_slice.proofs.NextLemmas.{between_shows, up_to_end}
use Rattle.bitvec_slice.proofs.slice.bit_slice.BitSlice.any_in.Goals as goal

pub returns : goal.returns
returns g c =
    let xs = slice_bits c.args.self.now in
    let end = up_to_end xs c.args.from c.args.to c.min.result (c.min.ensures ∙ ap (min c.args.to) c.len.ensures.list) in
    let found = subst (λ some. (some ≡ false) ↔ AllBetween false xs c.args.from c.min.result) (sym c.is_some.ensures) (between_shows xs true c.args.from c.min.result c.first_between.result c.first_between.ensures) in
    ((λ none. end.0 (found.0 none)), (λ none. found.1 (end.1 none)))
