use Rattle.std.proofs.Common.{◌+◌, ◌-◌, ◌%◌, ap, ◌∙◌}
use Rattle.bitvec_stream.specs.Writer.{bits_written}
use Rattle.bitvec_stream.proofs.MultipleLemmas.{reaches}
use Rattle.bitvec_stream.proofs.ReadLemmas.{ok_from}
use Rattle.bitvec_stream.proofs.writer.BitWriter.skip_to_multiple.Goals as goal

pub returns-clause-multiple : goal.returns-clause-multiple
returns-clause-multiple g c =
    let old = bits_written c.args.self.now in
    let of = c.args.of in
    ok_from _ _ _ c.skip.result c.skip.ensures.skipped (λ skips. ap (λ n. n % of) (skips.2 ∙ ap (λ p. old + (of - p % of) % of) c.position.ensures.value) ∙ reaches of old c.requires)
