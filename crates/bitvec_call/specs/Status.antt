-- The statuses, and that of a range: the first of its conditions that does not hold. `bits` is the width of a word.
use Rattle.std.specs.Prelude.{ℕ, ◌+◌, ◌-◌, ◌*◌, ◌==◌, nat_lt, if◌then◌else◌}
use Rattle.bitvec.specs.Place.{region_max_bits}

-- all conditions hold
abbrev pub ok : ℕ
ok = 0

-- the order's code is neither 0 nor 1
abbrev pub no_order : ℕ
no_order = 1

-- a run has more than 64 spans
abbrev pub too_many_spans : ℕ
too_many_spans = 2

-- a range has more bits than a span can have
abbrev pub too_long : ℕ
too_long = 3

-- a range ends behind its memory, or a move passes its range
abbrev pub outside : ℕ
outside = 4

-- a number is to have more than 64 digits
abbrev pub too_wide : ℕ
too_wide = 5

-- two spans of a run have a bit in common
abbrev pub overlap : ℕ
overlap = 6

-- a run has not as many replies as requests, or room for the numbers of its spans
abbrev pub no_room : ℕ
no_room = 7

-- the code of a request's command is that of no command
abbrev pub no_command : ℕ
no_command = 8

-- fewer bits are left of a stream than are to be read or written, or they end before a run or a code does
abbrev pub too_few : ℕ
too_few = 9

-- the number of a code that is read has more digits than the answer can have, or one that is written more than it is to have
abbrev pub too_large : ℕ
too_large = 10

-- the status of an order and of the range of `count` bits from place `start` on, in a memory of `words` words
abbrev pub range_status : ℕ → ℕ → ℕ → ℕ → ℕ → ℕ
range_status bits order words start count =
    if nat_lt 1 order then no_order else (if nat_lt region_max_bits count then too_long else (if nat_lt (words * bits) (start + count) then outside else ok))

-- the same of two ranges of as many bits, each in a memory of its own
abbrev pub ranges_status : ℕ → ℕ → ℕ → ℕ → ℕ → ℕ → ℕ → ℕ
ranges_status bits order words start other_words other_start count =
    let first = range_status bits order words start count in if first == ok then range_status bits order other_words other_start count else first

-- the same of three
abbrev pub three_status : ℕ → ℕ → ℕ → ℕ → ℕ → ℕ → ℕ → ℕ → ℕ → ℕ
three_status bits order words start other_words other_start third_words third_start count =
    let first = ranges_status bits order words start other_words other_start count in if first == ok then range_status bits order third_words third_start count else first

-- the same of a range that is a number, which has at most 64 bits
abbrev pub number_status : ℕ → ℕ → ℕ → ℕ → ℕ → ℕ
number_status bits order words start count =
    let first = range_status bits order words start count in if first == ok then (if nat_lt 64 count then too_wide else ok) else first

-- the same of a range whose bits are moved by a number of places, which is at most their count
abbrev pub moved_status : ℕ → ℕ → ℕ → ℕ → ℕ → ℕ → ℕ
moved_status bits order words start count by =
    let first = range_status bits order words start count in if first == ok then (if nat_lt count by then outside else ok) else first

-- the same of the bits from a place to before an end, which is not before the place
abbrev pub left_status : ℕ → ℕ → ℕ → ℕ → ℕ → ℕ
left_status bits order words place end =
    let first = range_status bits order words place (end - place) in if first == ok then (if nat_lt end place then outside else ok) else first

-- the same of two ranges of as many bits, each in a memory of its own words and under an order of its own
abbrev pub pair_status : ℕ → ℕ → ℕ → ℕ → ℕ → ℕ → ℕ → ℕ → ℕ → ℕ
pair_status bits order words start other_bits other_order other_words other_start count =
    let first = range_status bits order words start count in if first == ok then range_status other_bits other_order other_words other_start count else first
