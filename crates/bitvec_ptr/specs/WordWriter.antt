-- What a `WordWriter` shows.
use Rattle.std.specs.Prelude.{List}
use Rattle.std.specs.Borrow.{MutBor}
use Rattle.bitvec_ptr.specs.declared.ptr.writer.WordWriter.{WordWriter}
use Rattle.bitvec_ptr.specs.Writer.{Writer}

-- the memory that it borrows
abbrev pub writer_memory : {R : Type 0} → WordWriter R → MutBor (List R)
writer_memory writer = writer.words

-- the writer by its parts
abbrev pub writer_of : {R : Type 0} → WordWriter R → Writer R
writer_of writer = record { words = writer.words.now; rising = writer.rising; mark = writer.mark; writes = writer.writes }
