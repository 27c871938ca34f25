use Rattle.bitvec_span.proofs.ptr.span.BitSpan.bitptr.Goals as goal

pub returns-clause-inside : goal.returns-clause-inside
returns-clause-inside g c = λ words fits. c.to_bitptr.ensures.inside c.args.index words c.add.result.bit c.add.result.word c.add.ensures c.requires c.add.result.in_word fits
