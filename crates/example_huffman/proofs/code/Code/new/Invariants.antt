use Rattle.std.proofs.Common.{◌≡◌, ◌≤◌, ◌<◌, ℕ, length, get_or}
use Rattle.example_huffman.specs.Codes.{first_code, behind_codes}
use Rattle.example_huffman.proofs.code.Code.new.Given as goal

-- what the tables have of shorter codes, and where the next begin
abbrev pub invariant-loop-shorter : goal.invariant-loop-shorter
invariant-loop-shorter l =
    (l.next ≡ first_code l.lengths l.shorter) × (l.next ≤ 65536) × (length l.first ≡ 15) × (length l.behind ≡ 15)
    × ((k : ℕ) → k < l.shorter → get_or l.behind k 0 ≤ 32768)
    × ((k : ℕ) → k < l.shorter → get_or l.first k 0 ≡ first_code l.lengths k)
    × ((k : ℕ) → k < l.shorter → get_or l.behind k 0 ≡ behind_codes l.lengths k)
