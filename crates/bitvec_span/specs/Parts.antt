-- The parts that a span has in the words of a memory, and their values.
use Rattle.std.specs.Prelude.{◌≡◌, ℕ, nat_abs, ◌+◌, ◌-◌, ◌/◌, ◌≤◌, ◌&&◌, Bool, true, false, length, ◌==◌, if◌then◌else◌, List, [], ◌∷◌, ◌++◌, Option, Some, None, map, nat_le, nat_lt, slice_index, slice_range, take}
use Rattle.bitvec_mem.specs.Digit.{digit}
use Rattle.bitvec_order.specs.Order.{number_of}
use Rattle.bitvec_ptr.specs.Place.{words_met, tail_of}
use Rattle.bitvec_span.specs.Span.{Span, region_max_bits}

-- the bits of a word with indices from `head` to before `tail`
pub record Part : Type 0 where
  pub word : ℕ
  pub head : ℕ
  pub tail : ℕ

-- a whole word as a part
abbrev pub whole_part : ℕ → ℕ → Part
whole_part bits word = record { word = word; head = 0; tail = bits }

-- the value of a part: the word's digits at the positions of its indices, and all others zero
abbrev pub value_of : ℕ → (ℕ → ℕ) → Part → ℕ
value_of bits at part = number_of at (λ i. nat_le part.head i && nat_lt i part.tail && digit part.word (at i)) bits

-- the first index of the k-th word met that lies in the interval
abbrev pub part_head : ℕ → ℕ → ℕ
part_head head k = if k == 0 then head else 0

-- one past the last
abbrev pub part_tail : ℕ → ℕ → ℕ → ℕ → ℕ
part_tail bits head len k = if k + 1 == words_met bits head len then tail_of bits head len else bits

-- the part of the k-th word that a span meets: from the span's head in the first word and from 0 in each other one, to
-- the span's tail in the last word and to the width in each other one
abbrev pub part_of : ℕ → Span → List ℕ → ℕ → Part
part_of bits span words k = record { word = slice_index words (nat_abs span.word + k); head = part_head span.head k; tail = part_tail bits span.head span.len k }

-- one part of a word, or perhaps a part, whole words and perhaps a part
pub data Parts : Type 0 where
  enclave : Part → Parts
  region : Option Part → List ℕ → Option Part → Parts

-- the parts of a span in a memory: the first row that applies decides
abbrev pub parts_of : ℕ → Span → List ℕ → Parts
parts_of bits span words =
    let first = nat_abs span.word in
    let elements = words_met bits span.head span.len in
    let tail = tail_of bits span.head span.len in
    let head_part = part_of bits span words 0 in
    let tail_part = part_of bits span words (elements - 1) in
    if span.len == 0 then region None [] None
    else if span.head == 0 && tail == bits then region None (slice_range words first (first + elements)) None
    else if tail == bits then region (Some head_part) (slice_range words (first + 1) (first + elements)) None
    else if span.head == 0 then region None (slice_range words first (first + elements - 1)) (Some tail_part)
    else if elements == 1 then enclave head_part
    else region (Some head_part) (slice_range words (first + 1) (first + elements - 1)) (Some tail_part)

-- the value of a part, if there is one
abbrev pub part_items : ℕ → (ℕ → ℕ) → Option Part → List ℕ
part_items bits at (Some part) = value_of bits at part ∷ []
part_items bits at None = []

-- the values of the parts and the whole words, in order
abbrev pub items : ℕ → (ℕ → ℕ) → Parts → List ℕ
items bits at (enclave part) = value_of bits at part ∷ []
items bits at (region head body tail) = part_items bits at head ++ (map (λ w. value_of bits at (whole_part bits w)) body ++ part_items bits at tail)

-- whether the parts are one part of a word alone
abbrev pub is_enclave : Parts → Bool
is_enclave (enclave part) = true
is_enclave (region head body tail) = false

-- how many whole words there are
abbrev pub body_len : Parts → ℕ
body_len (enclave part) = 0
body_len (region head body tail) = length body

-- there are no more whole words than a span's bits can fill
abbrev pub HasShortBody : ℕ → Parts → Type 0
HasShortBody bits parts = body_len parts ≤ region_max_bits / bits

-- no parts
abbrev pub no_parts : Parts
no_parts = region None [] None

-- what is left once the first item is taken: the parts behind it, and behind the last of all no parts
abbrev pub parts_after_first : Parts → Parts
parts_after_first (enclave part) = no_parts
parts_after_first (region (Some head) body tail) = region None body tail
parts_after_first (region None (word ∷ body) tail) = region None body tail
parts_after_first (region None [] tail) = no_parts

-- what is left once the last item is taken, in the same way from the back
abbrev pub parts_before_last : Parts → Parts
parts_before_last (enclave part) = no_parts
parts_before_last (region head body (Some tail)) = region head body None
parts_before_last (region head (word ∷ body) None) = region head (take (length body) (word ∷ body)) None
parts_before_last (region head [] None) = no_parts

-- a call of `next`, which takes the first item of `old`, leaves the parts `new`, and a body that was short stays short
abbrev pub LeavesAfterFirst : ℕ → Parts → Parts → Type 0
LeavesAfterFirst bits old new = (new ≡ parts_after_first old) × (HasShortBody bits old → HasShortBody bits new)

-- a call of `next_back`, which takes the last item of `old`, leaves the parts `new`, and a body that was short stays
-- short
abbrev pub LeavesBeforeLast : ℕ → Parts → Parts → Type 0
LeavesBeforeLast bits old new = (new ≡ parts_before_last old) × (HasShortBody bits old → HasShortBody bits new)
