use Rattle.std.proofs.Common.{◌≡◌, length, sym, ◌∙◌, arith, inl, inr}
use Rattle.std.proofs.lemmas.Bool.{cases_lt, eqb-true, eq-eqb}
use Rattle.bitvec_slice.specs.BitSlice.{slice_bits}
use Rattle.bitvec_stream.proofs.CodeLemmas.{code_small, code_long, code_next}
use Rattle.bitvec_stream.proofs.reader.golomb.is_least.Goals as goal

pub returns-then-len-ne129 : goal.returns-then-len-ne129
returns-then-len-ne129 g c =
    let xs = slice_bits c.args.digits in (
      λ h. absurd (cc),
      λ is. elim (cases_lt (length xs) 129) [
        | inl fewer ↦ (let it = code_small xs c.requires (omega (arith, fewer)) in absurd (omega (arith, it.1, is)))
        | inr from ↦ (let it = code_long xs c.requires (omega (arith, from, c.len.ensures.list, c.if-len-ne129.true)) in absurd (omega (arith, it, is)))
      ],
    )

pub returns : goal.returns
returns g c =
    let xs = slice_bits c.args.digits in
    let many : length xs ≡ 129 = sym c.len.ensures.list ∙ omega (arith, c.if-len-ne129.false) in
    let next = code_next xs _ c.requires c.split_at.ensures.back many in (
      λ h. let one = eqb-true c.load_be.result 1 h in omega (arith, next, one, c.load_be.ensures),
      λ is. eq-eqb c.load_be.result 1 (omega (arith, next, is, c.load_be.ensures)),
    )
