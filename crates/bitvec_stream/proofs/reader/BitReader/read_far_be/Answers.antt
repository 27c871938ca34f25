use Rattle.std.proofs.Common.{◌≡◌, take, arith, rules}
use Rattle.bitvec_stream.specs.Numbers.{number_be}
use Rattle.bitvec_stream.specs.Reader.{unread}
use Rattle.bitvec_stream.proofs.RowLemmas.{be_split}
use Rattle.bitvec_stream.proofs.reader.BitReader.read_far_be.Goals as goal

pub returns-clause-digits : goal.returns-clause-digits
returns-clause-digits g c =
    let number = g.N.BitRegister.number c.far_be-value.result in
    let xs = unread c.args.self.now in
    let is : number ≡ number_be (take c.args.count xs) = search rules in
    be_split xs (unread c.pass.new.self) c.args.count number (omega arith) c.pass.ensures.0 is
