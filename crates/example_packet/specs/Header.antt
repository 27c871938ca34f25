-- A header in the first word of a memory: four numbers, each in its field. `at` takes an index in a word to its position
-- in the number.
use Rattle.std.specs.Prelude.{ℕ, ◌<◌, ◌^◌, List}
use Rattle.example_packet.specs.declared.header.Header.{Header}
use Rattle.example_packet.specs.Field.{HasNumber, number_in}

-- a memory has a header: each of its numbers is in its field
pub record HasHeader (at : ℕ → ℕ) (header : Header) (words : List ℕ) : Type 0 where
  pub version : HasNumber at 0 4 header.version words
  pub class : HasNumber at 4 6 header.class words
  pub flags : HasNumber at 10 6 header.flags words
  pub length : HasNumber at 16 16 header.length words

-- each number is below two to the length of its field
pub record IsInFields (header : Header) : Type 0 where
  pub version : header.version < 2 ^ 4
  pub class : header.class < 2 ^ 6
  pub flags : header.flags < 2 ^ 6
  pub length : header.length < 2 ^ 16

-- the header that a memory has
abbrev pub header_in : (ℕ → ℕ) → List ℕ → Header
header_in at words = record { version = number_in at 0 4 words; class = number_in at 4 6 words; flags = number_in at 10 6 words; length = number_in at 16 16 words }
