use Rattle.std.proofs.Common.{◌≡◌, ℕ, ◌+◌, ◌<◌, ◌∙◌, Bool, List, true≢false, length, sym, ap, arith}
use Rattle.std.specs.Prelude.{slice_range}
use Rattle.bitvec.specs.Span.{element}
use Rattle.bitvec_slice.specs.BitSlice.{slice_bits}
use Rattle.freemap.specs.Map.{in_use}
use Rattle.freemap.proofs.SearchLemmas.{range_element}
use Rattle.freemap.proofs.StretchRuns.{run_in_part}
use Rattle.bitvec_slice.proofs.EditRangeLemmas.{range_long}
use Rattle.freemap.proofs.map.FreeMap.run_upto.Goals as goal

pub returns-in_err-part : goal.returns-in_err-part
returns-in_err-part g c =
    let many = ap length c.bits.ensures in
    absurd (true≢false (sym (c.in_err-part.ensures.accepted.1 (omega arith, omega (arith, c.requires.end, many)))))

pub returns : goal.returns
returns g c =
    let used = in_use c.args.self.now in
    let part = slice_bits c.in_ok-part.part in
    let end = c.args.end in
    let is = c.in_ok-part.ensures.bits ∙ ap (λ (xs : List Bool). slice_range xs 0 end) c.bits.ensures in
    let long = ap length is ∙ range_long used 0 end (omega arith) c.requires.end in
    let same = λ (j : ℕ) (before : j < end). range_element used part 0 end is j (omega (arith, before)) ∙ ap (element used) (let zero : 0 + j ≡ j = omega arith in zero) in
    run_in_part used part end (omega (arith, long)) c.requires.end same c.args.start c.args.count c.args.alignment c.find_zeros_from.result c.find_zeros_from.ensures
