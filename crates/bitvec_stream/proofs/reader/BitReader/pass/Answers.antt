use Rattle.std.proofs.Common.{arith, inl, inr, ◌≡◌, ◌+◌, ap, ◌∙◌, drop}
use Rattle.bitvec_slice.specs.BitSlice.{slice_bits}
use Rattle.bitvec_stream.specs.Reader.{bits_read}
use Rattle.bitvec_stream.proofs.ReadLemmas.{rest_moved}
use Rattle.bitvec_stream.proofs.reader.BitReader.pass.Goals as goal

pub overflow_add-position : goal.overflow_add-position
overflow_add-position g c = omega (arith, c.requires, c.position.ensures.rest, c.args.self.now.slice.span.short)

pub behind-requires : goal.behind-requires
behind-requires g c = omega (arith, c.requires, c.position.ensures.rest)

pub pass_kept-requires-clause-way : goal.pass_kept-requires-clause-way
pass_kept-requires-clause-way g c =
    elim c.in-Rises.is [
      | inl e ↦ inl (c.direction_of.ensures.rises.0 e)
      | inr e ↦ inr (c.direction_of.ensures.falls.0 e)
    ]

pub returns-in-Rises : goal.returns-in-Rises
returns-in-Rises g c = c.pass_kept.ensures

pub returns : goal.returns
returns g c =
    let it = c.args.self.now in
    let xs = slice_bits it.slice in
    let n = c.args.count in
    let to : bits_read c.behind.result ≡ bits_read it + n = c.behind.ensures.position ∙ ap (λ p. p + n) c.position.ensures.value in (
      ap (λ s. drop (bits_read c.behind.result) (slice_bits s)) c.behind.ensures.source ∙ ap (λ p. drop p xs) to ∙ rest_moved xs (bits_read it) n,
      to,
      c.behind.ensures.source,
    )
