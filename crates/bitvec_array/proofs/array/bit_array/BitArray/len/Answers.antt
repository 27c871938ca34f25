use Rattle.std.proofs.Common.{◌≡◌, ◌∙◌, rules, sym}
use Rattle.bitvec_array.specs.Array.{array_len}
use Rattle.bitvec_array.proofs.ArrayLemmas.{length-bits}
use Rattle.bitvec_array.proofs.array.bit_array.BitArray.len.Goals as goal

pub returns-clause-list : goal.returns-clause-list
returns-clause-list g c =
    let value : c.min.result ≡ array_len g.row.N = search rules in
    value ∙ sym (length-bits g.O.BitAt.at_of g.row.N c.args.self.now.words)
