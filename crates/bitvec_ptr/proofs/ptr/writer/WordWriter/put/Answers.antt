use Rattle.std.proofs.Common.{sym, ◌∙◌, arith}
use Rattle.std.proofs.lemmas.Bool.{false≢true}
use Rattle.std.proofs.lemmas.List.{length-set}
use Rattle.bitvec_ptr.proofs.ptr.writer.WordWriter.put.Goals as goal
use Rattle.bitvec_ptr.proofs.ptr.writer.WordWriter.put.Goals.{then-self, else-self}

pub invariant_of-self : goal.invariant_of-self
invariant_of-self g c =
    let writer = c.args.self.now in
    let long = length-set writer.words.now c.args.k c.args.word in
    record {
      mark_in = elim c.if-self.branch [ then-self w ↦ omega (arith, w.self-is, long, c.requires.inside) | else-self w ↦ omega (arith, w.self-is, long, c.requires.inside) ];
      rising_writes = λ r.
          let mark = c.requires.rising r in
          let few = writer.rising_writes r in
          elim c.if-self.branch [ then-self w ↦ omega (arith, w.self-is, mark, few) | else-self w ↦ absurd (false≢true (sym w.if-self.false ∙ r)) ];
      falling_writes = λ f.
          let mark = c.requires.falling f in
          let few = writer.falling_writes f in
          elim c.if-self.branch [ then-self w ↦ absurd (false≢true (sym f ∙ w.if-self.true)) | else-self w ↦ omega (arith, w.self-is, long, mark, few) ];
    }

pub returns-clause-rising_mark : goal.returns-clause-rising_mark
returns-clause-rising_mark g c = λ r. elim c.if-self.branch [ then-self w ↦ w.self-is | else-self w ↦ absurd (false≢true (sym w.if-self.false ∙ r)) ]

pub returns-clause-falling_mark : goal.returns-clause-falling_mark
returns-clause-falling_mark g c = λ f. elim c.if-self.branch [ then-self w ↦ absurd (false≢true (sym f ∙ w.if-self.true)) | else-self w ↦ w.self-is ]
