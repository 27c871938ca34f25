use Rattle.std.proofs.Common.{drop, ap, ◌∙◌}
use Rattle.std.proofs.lemmas.Result.{MatchResult-from_err}
use Rattle.bitvec_stream.specs.Reader.{unread}
use Rattle.tests_stream.proofs.HeaderLemmas.{none_length, none_drift}
use Rattle.tests_stream.proofs.header.read_header.Goals as goal

pub returns-in_err-length : goal.returns-in_err-length
returns-in_err-length g c =
    let third = c.in_ok-offset.ensures.moved.0 ∙ ap (λ us. drop 6 us) (c.in_ok-kind.ensures.moved.0 ∙ ap (λ us. drop 12 us) c.in_ok-version.ensures.moved.0) in
    MatchResult-from_err _ _ _ c.from_residual-in_err-length.ensures.0
    (λ y it left types read. none_length (unread c.args.reader.now) (unread c.read_signed_be.new.self) third c.in_err-length.field-0.0 it left types read c.in_err-length.ensures.value)

pub returns-in_err-drift : goal.returns-in_err-drift
returns-in_err-drift g c =
    let third = c.in_ok-offset.ensures.moved.0 ∙ ap (λ us. drop 6 us) (c.in_ok-kind.ensures.moved.0 ∙ ap (λ us. drop 12 us) c.in_ok-version.ensures.moved.0) in
    MatchResult-from_err _ _ _ c.from_residual-in_err-drift.ensures.0
    (λ y it left types read. none_drift (unread c.args.reader.now) (unread c.read_signed_be.new.self) third c.in_err-drift.field-0.0 it left types read (unread c.read_exp_golomb.new.self) c.in_ok-length.length
    c.in_ok-length.ensures.value c.in_ok-length.ensures.moved.0 c.in_err-drift.ensures.value)
