use Rattle.std.proofs.Common.{◌≡◌, ◌<◌, Bool, List, length, map, refl, ap, ◌∙◌, inl, inr, subst, arith}
use Rattle.bitvec.specs.Truths.{AllAre}
use Rattle.bitvec_slice.specs.Bits.{BeginsWith}
use Rattle.bitvec_call.specs.Stream.{bits_between, read_status}
use Rattle.bitvec_call.proofs.StreamLemmas.{taken, refused, run_ends}
use Rattle.bitvec_call.proofs.read_code.read_unary_in.Goals as goal

pub returns-in-Ok : goal.returns-in-Ok
returns-in-Ok g c =
    let left = bits_between g.R.BitRegister.BITS g.O.BitAt.at_of c.args.place.now c.args.end (map g.R.BitRegister.number c.args.memory.now) in
    let is = c.reader_between-reader.ensures.rest in
    let run = subst (λ (xs : List Bool). (c.in-Ok.value < length xs) × BeginsWith c.args.bit xs c.in-Ok.value) is c.in-Ok.ensures.value in
    taken _ _ _ _ _ _ (inr (run_ends c.args.bit left c.in-Ok.value run.0 run.1, refl)) run.1 refl

pub returns-in-Err : goal.returns-in-Err
returns-in-Err g c =
    let left = c.reader_between-reader.ensures.rest in
    let all = subst (AllAre c.args.bit) left c.in-Err.ensures.value.1 in
    let is : c.status_of.result ≡ 9 = c.status_of.ensures ∙ ap read_status c.in-Err.ensures.value.0 in
    refused _ _ _ _ _ _ _ (λ e. absurd (omega (arith, is, e))) (inl ((λ none. none all), is)) refl refl
