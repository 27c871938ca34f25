use Rattle.bitvec_ptr.proofs.ptr.copy.words.combine_bits_within.Goals as goal

pub combine_one_way_within-requires-clause-way : goal.combine_one_way_within-requires-clause-way
combine_one_way_within-requires-clause-way g c = rw c.in-Whole.is at c.way_of.ensures

pub combine_one_way_within-requires-in-Rising-clause-way : goal.combine_one_way_within-requires-in-Rising-clause-way
combine_one_way_within-requires-in-Rising-clause-way g c = rw c.in-Rising.is at c.way_of.ensures

pub combine_one_way_within-requires-in-Falling-clause-way : goal.combine_one_way_within-requires-in-Falling-clause-way
combine_one_way_within-requires-in-Falling-clause-way g c = rw c.in-Falling.is at c.way_of.ensures

pub combine_one_way_within-requires-2-clause-way : goal.combine_one_way_within-requires-2-clause-way
combine_one_way_within-requires-2-clause-way g c = rw c.in-Singly.is at c.way_of.ensures
