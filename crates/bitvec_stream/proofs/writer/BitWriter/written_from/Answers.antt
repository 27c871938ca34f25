use Rattle.std.proofs.Common.{◌∙◌, ap, drop}
use Rattle.std.proofs.lemmas.List.{drop_at}
use Rattle.bitvec_stream.proofs.writer.BitWriter.written_from.Goals as goal

pub returns-clause-since : goal.returns-clause-since
returns-clause-since g c = λ before bits long is. c.split_at.ensures.back ∙ ap (drop c.args.from) (c.written.ensures.bits ∙ is) ∙ drop_at before bits c.args.from long
