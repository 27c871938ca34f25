use Rattle.std.proofs.Common.{◌≡◌, ◌++◌, ◌∷◌, take, string_bytes}
use Rattle.std.specs.List.{flat_map}
use Rattle.bits_text.specs.Words.{hexadecimal}
use Rattle.bits_text.proofs.words.write_words.Given as goal

abbrev pub invariant-loop-word : goal.invariant-loop-word
invariant-loop-word g l =
    string_bytes l.text ≡ string_bytes l.initial.text ++ flat_map (λ w. 44 ∷ hexadecimal (g.R.BitRegister.number w)) (take l.word-index l.rest)
