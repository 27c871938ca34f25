-- Memories as text.
use Rattle.std.specs.Prelude.{◌≡◌, ℕ, ◌<◌, ◌^◌, ◌⊎◌, ◌==◌, false, List, [], ◌∷◌, ◌++◌, map, take, codes}
use Rattle.std.specs.List.{All, flat_map, slice_split}
use Rattle.std.specs.Str.Parse.{IsNumeral, digits_value}
use Rattle.bitvec.specs.Numeral.{numeral}

-- a number in hexadecimal, in one digit at least
abbrev pub hexadecimal : ℕ → List ℕ
hexadecimal n = numeral 16 false 1 n

-- the text of a memory: `-` for no words, else the words in hexadecimal with commas between them
abbrev pub memory_text : List ℕ → List ℕ
memory_text [] = codes "-"
memory_text (n ∷ ns) = hexadecimal n ++ flat_map (λ m. codes "," ++ hexadecimal m) ns

-- a text is a word of `bits` bits: hexadecimal digits, at least one, of a number that fits
abbrev pub IsWordText : ℕ → List ℕ → Type 0
IsWordText bits text = IsNumeral 16 text × (digits_value 16 text < 2 ^ bits)

-- the pieces of a text between its commas
abbrev pub pieces : List ℕ → List (List ℕ)
pieces text = slice_split (λ b. b == 44) text

-- a text stands for a memory of these numbers: it is `-` and there are none, or each piece between its
-- commas is a word, and the numbers are those of the pieces, in order
abbrev pub IsMemoryText : ℕ → List ℕ → List ℕ → Type 0
IsMemoryText bits text numbers =
    ((text ≡ codes "-") × (numbers ≡ [])) ⊎ (All (IsWordText bits) (pieces text) × (numbers ≡ map (digits_value 16) (pieces text)))

-- behind an old text stands a front of another, perhaps all of it or none
abbrev pub AppendsFront : List ℕ → List ℕ → List ℕ → Type 0
AppendsFront old new text = (n : ℕ) × (new ≡ old ++ take n text)
