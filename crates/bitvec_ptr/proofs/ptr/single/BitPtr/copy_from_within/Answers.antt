use Rattle.bitvec_ptr.proofs.ptr.single.BitPtr.copy_from_within.Goals as goal

pub copy_within-requires-clause-from_in : goal.copy_within-requires-clause-from_in
copy_within-requires-clause-from_in g c = c.requires.from_in

pub copy_within-requires-clause-to_in : goal.copy_within-requires-clause-to_in
copy_within-requires-clause-to_in g c = c.requires.to_in

pub returns-clause-bits : goal.returns-clause-bits
returns-clause-bits g c = c.copy_within.ensures.bits
