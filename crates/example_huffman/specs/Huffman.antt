-- What a `Code` shows, and why there is none.
use Rattle.std.specs.Prelude.{◌^◌, ℕ, ◌<◌, ◌≤◌, List}
use Rattle.std.specs.List.{All}
use Rattle.example_huffman.specs.Codes.{behind_codes}
use Rattle.example_huffman.specs.declared.code.Code.{Code}
use Rattle.example_huffman.specs.declared.code.LengthsError.{LengthsError}
use Rattle.example_huffman.specs.declared.code.LengthsError.TheVariants.{TooLong, TooMany, TooFew}

-- how many bits each symbol's code has
abbrev pub lengths_of : Code → List ℕ
lengths_of code = code.lengths.now

-- why lengths make no complete code
abbrev pub IsLengthsRefusal : List ℕ → LengthsError → Type 0
IsLengthsRefusal lengths TooLong = ¬ All (λ len. len ≤ 15) lengths
IsLengthsRefusal lengths TooMany = All (λ len. len ≤ 15) lengths × (2 ^ 15 < behind_codes lengths 14)
IsLengthsRefusal lengths TooFew = All (λ len. len ≤ 15) lengths × (behind_codes lengths 14 < 2 ^ 15)
