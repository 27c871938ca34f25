use Rattle.std.proofs.Common.{◌+◌, ◌-◌, ◌%◌, ap, ◌∙◌}
use Rattle.bitvec_stream.specs.Reader.{bits_read}
use Rattle.bitvec_stream.proofs.MultipleLemmas.{reaches}
use Rattle.bitvec_stream.proofs.ReadLemmas.{ok_from}
use Rattle.bitvec_stream.proofs.reader.BitReader.skip_to_multiple.Goals as goal

pub returns-clause-multiple : goal.returns-clause-multiple
returns-clause-multiple g c =
    let old = bits_read c.args.self.now in
    let of = c.args.of in
    ok_from _ _ _ c.skip.result c.skip.ensures.moved (λ passes. ap (λ n. n % of) (passes.1 ∙ ap (λ p. old + (of - p % of) % of) c.position.ensures.value) ∙ reaches of old c.requires)
