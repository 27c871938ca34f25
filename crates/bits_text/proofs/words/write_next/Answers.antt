use Rattle.std.proofs.Common.{◌≡◌, ◌∷◌, [], ◌++◌, string_bytes, rules}
use Rattle.bits_text.specs.Words.{hexadecimal}
use Rattle.bits_text.proofs.FrontLemmas.{refused_behind}
use Rattle.bits_text.proofs.words.write_next.Goals as goal

pub returns-clause-err : goal.returns-clause-err
returns-clause-err g c =
    let stands : string_bytes c.push_str.new.self ≡ string_bytes c.args.text.now ++ 44 ∷ [] = search rules in
    refused_behind c.write_number.result _ _ _ (44 ∷ []) (hexadecimal c.args.n) stands c.write_number.ensures.err
