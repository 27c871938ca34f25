use Rattle.std.proofs.Common.{◌≡◌, take, rules, inl, ◌∙◌}
use Rattle.bitvec_stream.specs.Numbers.{number_le}
use Rattle.bitvec_stream.specs.Reader.{unread}
use Rattle.bitvec_stream.proofs.RowLemmas.{le_split, left_split}
use Rattle.bitvec_stream.proofs.reader.BitReader.read_le.Given.{Over}
use Rattle.bitvec_stream.proofs.reader.BitReader.read_le.Goals.{After-read_far_le, then-eq+in_default, else-eq}
use Rattle.bitvec_stream.proofs.reader.BitReader.read_le.Goals as goal

pub returns-in-Some-clause-number : goal.returns-in-Some-clause-number
returns-in-Some-clause-number g c = c.in-Some.ensures.1.rises (c.direction_of.ensures.rises.0 (search (rules, c.if-eq.true, c.eq.ensures)))

pub returns-in-Some-clause-digits : goal.returns-in-Some-clause-digits
returns-in-Some-clause-digits g c =
    let number = g.N.BitRegister.number c.in-Some.value in
    let xs = unread c.args.self.now in
    let is : number ≡ number_le (take c.args.count xs) = search rules in
    le_split xs (unread c.read_near.new.self) c.args.count number c.in-Some.ensures.0 c.in-Some.ensures.2.0 is

-- where nothing was read, the reader is as it was
stays : (g : Over) (c : After-read_far_le g) → c.if-eq.self ≡ c.args.self.now
stays g c = elim c.if-eq.branch [
  | then-eq+in_default w ↦ w.self-is ∙ w.in_default.ensures
  | else-eq w ↦ w.self-is
]

pub read_near-requires-clause-way : goal.read_near-requires-clause-way
read_near-requires-clause-way g c = inl (c.direction_of.ensures.rises.0 (search (rules, c.if-eq.true, c.eq.ensures)))

pub returns-in-Some-clause-left : goal.returns-in-Some-clause-left
returns-in-Some-clause-left g c =
    left_split (unread c.args.self.now) (unread c.read_near.new.self) c.args.count (g.N.BitRegister.number c.in-Some.value) c.in-Some.ensures.0 c.in-Some.ensures.2.0

pub returns-in-Some-clause-moved : goal.returns-in-Some-clause-moved
returns-in-Some-clause-moved g c = c.in-Some.ensures.2

pub returns-clause-accepted : goal.returns-clause-accepted
returns-clause-accepted g c = rw (stays g c) at c.read_far_le.ensures.accepted

pub returns-clause-number : goal.returns-clause-number
returns-clause-number g c = rw (stays g c) at c.read_far_le.ensures.number

pub returns-clause-digits : goal.returns-clause-digits
returns-clause-digits g c = rw (stays g c) at c.read_far_le.ensures.digits

pub returns-clause-left : goal.returns-clause-left
returns-clause-left g c = rw (stays g c) at c.read_far_le.ensures.left

pub returns-clause-moved : goal.returns-clause-moved
returns-clause-moved g c = rw (stays g c) at c.read_far_le.ensures.moved
