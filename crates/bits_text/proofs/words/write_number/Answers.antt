use Rattle.std.proofs.Common.{ℕ, List, ◌++◌, if◌then◌else◌, string_bytes, ap, ◌∙◌}
use Rattle.std.specs.Prelude.{is_ok}
use Rattle.bits_text.specs.Words.{hexadecimal}
use Rattle.bits_text.proofs.FrontLemmas.{none_refused}
use Rattle.bits_text.proofs.words.write_number.Goals as goal

pub returns-clause-err : goal.returns-clause-err
returns-clause-err g c =
    let old = string_bytes c.args.text.now in
    none_refused c.push_str.result old _ (hexadecimal c.args.n) (c.push_str.ensures.bytes ∙ ap (λ (t : List ℕ). if is_ok c.push_str.result then old ++ t else old) c.numeral_in.ensures)
