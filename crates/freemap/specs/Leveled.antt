-- What a free map with levels shows, and what levels show.
use Rattle.std.specs.Prelude.{Bool, List, ◌∷◌}
use Rattle.freemap.specs.Loans.{LevelLoan}
use Rattle.freemap.specs.Map.{in_use, map_loan}
use Rattle.freemap.specs.declared.map.FreeMap.{FreeMap}
use Rattle.freemap.specs.declared.level.PlainLevel.{PlainLevel}
use Rattle.freemap.specs.declared.leveled.LeveledMap.{LeveledMap}
use Rattle.freemap.specs.declared.leveled.StackedLevel.{StackedLevel}

-- the map of its blocks
abbrev pub map_of : {O S : Type 0} {a b c : _} → LeveledMap O S a b c → FreeMap O a b
map_of map = map.blocks

-- the words that its levels lend, those of the lowest first
abbrev pub level_loans : {O S : Type 0} {a b c : _} → LeveledMap O S a b c → List LevelLoan
level_loans {c = level} map = level.loans map.full

-- whether each word is marked, in order: of a level with none over it, and of one with a level over it
abbrev pub plain_marks : PlainLevel → List Bool
plain_marks level = in_use level.map

abbrev pub marks_of : {S : Type 0} {a : _} → StackedLevel S a → List Bool
marks_of level = in_use level.map.blocks

-- the words that it lends, and those of the levels over it
abbrev pub plain_loan : PlainLevel → LevelLoan
plain_loan level = map_loan level.map

abbrev pub stacked_loans : {S : Type 0} {a : _} → StackedLevel S a → List LevelLoan
stacked_loans level = map_loan level.map.blocks ∷ level_loans level.map
