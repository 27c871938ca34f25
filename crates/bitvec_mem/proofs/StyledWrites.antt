-- What is written whatever the options are is also written where there are none.
use Rattle.std.proofs.Common.{ℕ, List, sym, subst}
use Rattle.std.specs.declared.fmt.Error.{Error}
use Rattle.std.specs.declared.fmt.Formatter.{Formatter}
use Rattle.std.specs.Prelude.{Result}
use Rattle.std.specs.Fmt.{HasWrittenStyled, HasWritten, WritesStyledOnOk, WritesOnOk, IsDefaultSpec, IsPlainFormatter}

module _ {W : Type 0} (took : W → List ℕ → W → Type 0) where
  pub HasWritten-from_styled : (f : Formatter W) (bs : List ℕ) (g : Formatter W) → IsPlainFormatter f → HasWrittenStyled took f bs g → HasWritten took f bs g
  HasWritten-from_styled f bs g plain h = record {
    wrote = h.wrote;
    plain = record { bare = subst IsDefaultSpec (sym h.spec) plain.bare; flush = h.flush };
  }

  pub WritesOnOk-from_styled : (f : Formatter W) (r : Result (Unit {0}) Error) (bs : List ℕ) (g : Formatter W) → WritesStyledOnOk took f r bs g → WritesOnOk took f r bs g
  WritesOnOk-from_styled f r bs g h = λ plain ok. HasWritten-from_styled f bs g plain (h plain.flush ok)
