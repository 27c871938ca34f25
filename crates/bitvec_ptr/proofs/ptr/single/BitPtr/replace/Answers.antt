use Rattle.bitvec_ptr.proofs.ptr.single.BitPtr.replace.Goals as goal

pub returns-clause-previous : goal.returns-clause-previous
returns-clause-previous g c = c.read-previous.ensures
