use Rattle.std.proofs.Common.{◌≡◌, ◌+◌, ◌-◌, ◌&&◌, sym, ap, subst, ◌∙◌, arith}
use Rattle.bitvec_slice.specs.FreeRuns.{digit_of, AreStarts}
use Rattle.bitvec_slice.proofs.FreeRunLemmas.{digit_of-and, digit_of-zero, starts_longer, starts_none}
use Rattle.bitvec_slice.proofs.slice.free_runs.starts_in.Goals as goal

pub loop-have-preserved : goal.loop-have-preserved
loop-have-preserved g c =
    let bits = g.R.BitRegister.BITS in
    let number = g.R.BitRegister.number in
    let rises = c.args.rises in
    let starts = number c.loop-have.starts in
    let brought = number c.brought_back.result in
    let both = number c.and-starts.result in
    record {
      some = omega (arith, c.loop-have.invariant.some);
      most = omega (arith, c.loop-have-test.true);
      below = c.and-starts.ensures.below;
      are = starts_longer (digit_of bits rises (number c.args.word)) (digit_of bits rises starts) (digit_of bits rises both) c.loop-have.have c.loop-have.have (omega arith) c.loop-have.invariant.are
          (λ i. digit_of-and bits rises starts brought both i c.and-starts.ensures.digits ∙ ap (λ b. digit_of bits rises starts i && b) (c.brought_back.ensures.digits i));
    }

pub returns-then-to_u128-eq0 : goal.returns-then-to_u128-eq0
returns-then-to_u128-eq0 g c =
    let bits = g.R.BitRegister.BITS in
    let number = g.R.BitRegister.number in
    let rises = c.args.rises in
    let starts = number c.loop-have.starts in
    let both = number c.and-starts.result in
    starts_none (digit_of bits rises (number c.args.word)) (digit_of bits rises (number c.and-starts.result)) (c.loop-have.have + c.loop-have.have) c.args.count (omega (arith, c.loop-have-test.true))
    (starts_longer (digit_of bits rises (number c.args.word)) (digit_of bits rises starts) (digit_of bits rises both) c.loop-have.have c.loop-have.have (omega arith) c.loop-have.invariant.are
    (λ i. digit_of-and bits rises starts (number c.brought_back.result) both i c.and-starts.ensures.digits ∙ ap (λ b. digit_of bits rises starts i && b) (c.brought_back.ensures.digits i)))
    (λ i. digit_of-zero bits rises (number c.and-starts.result) i (sym c.to_u128.ensures.number ∙ c.if-to_u128-eq0.true))

pub returns : goal.returns
returns g c =
    let bits = g.R.BitRegister.BITS in
    let number = g.R.BitRegister.number in
    let rises = c.args.rises in
    let starts = number c.loop-have.starts in
    let brought = number c.brought_back-2.result in
    let both = number c.and.result in
    let all : c.loop-have.have + (c.args.count - c.loop-have.have) ≡ c.args.count = omega (arith, c.loop-have.invariant.most) in
    subst (λ n. AreStarts (digit_of bits rises (number c.args.word)) n (digit_of bits rises both)) all
    (starts_longer (digit_of bits rises (number c.args.word)) (digit_of bits rises starts) (digit_of bits rises both) c.loop-have.have (c.args.count - c.loop-have.have) (omega (arith, c.loop-have-test.false)) c.loop-have.invariant.are
    (λ i. digit_of-and bits rises starts brought both i c.and.ensures.digits ∙ ap (λ b. digit_of bits rises starts i && b) (c.brought_back-2.ensures.digits i)))
