use Rattle.std.proofs.Common.{◌+◌, ◌≤◌, arith}
use Rattle.bitvec_ptr.proofs.PlaceLemmas.{met_one}
use Rattle.bitvec_ptr.proofs.ptr.copy.words.is_in_one_word.Goals as goal

pub returns-clause-met : goal.returns-clause-met
returns-clause-met g c = λ _.
    let fits : c.args.bit + c.args.count ≤ g.R.BitRegister.BITS = omega arith in
    met_one g.R.BitRegister.BITS c.args.bit c.args.count c.requires.some fits
