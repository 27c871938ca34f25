use Rattle.std.proofs.Common.{◌≡◌, ◌*◌, ◌/◌, ◌%◌, ◌<◌, ap, ◌∙◌, arith}
use Rattle.std.proofs.lemmas.Bool.{lt-ltb, eq-eqb, eqb-true}
use Rattle.std.proofs.lemmas.Nat.{div-add-mod'}
use Rattle.bitvec_call.proofs.PlainRangeLemmas.{place_before, word_most}
use Rattle.bitvec_call.proofs.status.has_end.Goals as goal

pub returns-then-end-bits : goal.returns-then-end-bits
returns-then-end-bits g c =
    let some : 0 < g.R.BitRegister.BITS = omega (arith, g.met.R.BitRegister.width_at_least_8) in
    let width = c.from-bits.ensures ∙ c.BITS.ensures in
    let before = place_before _ c.args.words c.args.end some (rw width at c.if-end-bits.true) in
    (λ _. omega (arith, before), λ _. lt-ltb _ _ c.if-end-bits.true)

pub returns-then-end-bits-2 : goal.returns-then-end-bits-2
returns-then-end-bits-2 g c =
    let bits = g.R.BitRegister.BITS in
    let width = c.from-bits.ensures ∙ c.BITS.ensures in
    let word : c.args.end / bits ≡ c.args.words = rw width at c.if-end-bits-2.true in
    let row = ap (λ n. n * bits) word in
    let rest = ap (λ n. c.args.end % n) width in
    let parts = div-add-mod' c.args.end bits in (
      λ t. omega (arith, row, rest, parts, eqb-true _ 0 t),
      λ h. eq-eqb _ 0 (omega (arith, row, rest, parts, h)),
    )

pub returns-else-end-bits-2 : goal.returns-else-end-bits-2
returns-else-end-bits-2 g c =
    let some : 0 < g.R.BitRegister.BITS = omega (arith, g.met.R.BitRegister.width_at_least_8) in
    let word = ap (λ n. c.args.end / n) (c.from-bits.ensures ∙ c.BITS.ensures) in (
      λ t. absurd (c.if-end-bits-2.false (eqb-true _ _ t)),
      λ h.
          let most = word_most _ c.args.words c.args.end some h in
          absurd (c.if-end-bits-2.false (omega (arith, c.if-end-bits.false, word, most))),
    )
