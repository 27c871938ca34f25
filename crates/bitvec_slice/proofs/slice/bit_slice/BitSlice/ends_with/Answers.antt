use Rattle.std.proofs.Common.{◌-◌, drop, true≢false, sym, arith, ◌∙◌}
use Rattle.bitvec_slice.specs.BitSlice.{slice_bits}
use Rattle.bitvec_slice.proofs.PatternLemmas.{too_short_end}
use Rattle.bitvec_slice.proofs.slice.bit_slice.BitSlice.ends_with.Goals as goal

pub returns-then-len-count : goal.returns-then-len-count
returns-then-len-count g c =
    (λ yes. absurd (true≢false (sym yes)), λ e. absurd (too_short_end (slice_bits c.args.self.now) (slice_bits c.args.pattern.now) (omega (arith, c.if-len-count.true, c.len-len.ensures.list, c.len-count.ensures.list)) e))

pub returns : goal.returns
returns g c =
    let same = c.split_at.ensures.back ∙ (λ m. drop (c.len-len.ensures.list m - c.len-count.ensures.list m) (slice_bits c.args.self.now)) in
    (λ yes. sym same ∙ c.equals.ensures.list.0 yes, λ e. c.equals.ensures.list.1 (same ∙ e))
