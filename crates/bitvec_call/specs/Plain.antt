-- Runs of commands by plain numbers. `bits` is the width of a word, `at` takes an index in a word to its position in the
-- number, and a memory is the list of its words' numbers.
use Rattle.std.specs.Prelude.{◌≡◌, ℕ, ◌+◌, ◌*◌, ◌%◌, ◌^◌, ◌≤◌, ◌==◌, Bool, List, map, All, AllPairs, if◌then◌else◌}
use Rattle.bitvec.specs.Place.{region_max_bits}
use Rattle.bitvec.specs.Span.{Span, AreDisjoint, span_at}
use Rattle.bitvec.specs.Run.{IsRun}
use Rattle.bitvec.specs.declared.run.command.Command.{Command}
use Rattle.bitvec.specs.declared.run.command.Command.TheVariants.{Load, Store, Set, Clear, Invert, Read, Replace, Swap, Copy, Fill}
use Rattle.bitvec.specs.declared.run.command.Request.{Request}
use Rattle.bitvec.specs.declared.run.command.Reply.{Reply}
use Rattle.bitvec.specs.declared.run.command.Reply.TheVariants.{Word, Bit, Done, PastEnd, NoSpan}
use Rattle.bitvec_call.specs.declared.plain.PlainSpan.{PlainSpan}
use Rattle.bitvec_call.specs.declared.plain.PlainRequest.{PlainRequest}
use Rattle.bitvec_call.specs.declared.plain.PlainReply.{PlainReply}

-- the span of a range by its numbers
abbrev pub plain_span : ℕ → PlainSpan → Span
plain_span bits span = span_at bits span.start span.count

-- each range has no more bits than a span can have
abbrev pub AllShort : List PlainSpan → Type 0
AllShort spans = All (λ span. span.count ≤ region_max_bits) spans

-- each range ends within `words` words
abbrev pub AllInside : ℕ → ℕ → List PlainSpan → Type 0
AllInside bits words spans = All (λ span. span.start + span.count ≤ words * bits) spans

-- no two ranges have a bit in common
abbrev pub AllApart : ℕ → List PlainSpan → Type 0
AllApart bits spans = AllPairs (λ a b. AreDisjoint bits (plain_span bits a) (plain_span bits b)) spans

-- whether the lowest digit of a number is one
abbrev pub lowest : ℕ → Bool
lowest number = number % 2 == 1

-- The command of a request by its code: 0 `Load`, 1 `Store`, 2 `Set`, 3 `Clear`, 4 `Invert`, 5 `Read`, 6 `Replace`, 7
-- `Swap`, 8 `Copy`, and `Fill` for each code past 8. Its numbers are those of the request: a stored number loses its
-- digits past the width of a word, and a bit is the lowest digit of the number.
abbrev pub plain_command : ℕ → PlainRequest → Command ℕ
plain_command bits request =
    if request.command == 0 then Load request.a else
    (if request.command == 1 then Store request.a (request.number % 2 ^ bits) else
    (if request.command == 2 then Set request.a else
    (if request.command == 3 then Clear request.a else
    (if request.command == 4 then Invert request.a else
    (if request.command == 5 then Read request.a else
    (if request.command == 6 then Replace request.a (lowest request.number) else
    (if request.command == 7 then Swap request.a request.b else
    (if request.command == 8 then Copy request.a request.b request.count else
    Fill request.a request.b (lowest request.number)))))))))

-- the codes of the commands of requests are codes of commands
abbrev pub AreCommands : List PlainRequest → Type 0
AreCommands requests = All (λ request. request.command ≤ 9) requests

-- a request by its numbers
abbrev pub plain_request : ℕ → PlainRequest → Request ℕ
plain_request bits request = record { span = request.span; command = plain_command bits request }

-- the reply of a kind, with the number of the word or the bit
abbrev pub reply_of : PlainReply → Reply ℕ
reply_of reply =
    if reply.kind == 0 then Word reply.number else
    (if reply.kind == 1 then Bit (reply.number == 1) else
    (if reply.kind == 2 then Done else
    (if reply.kind == 3 then PastEnd else
    NoSpan)))

-- a reply has one of the five kinds, 0 or 1 for a bit, and the number 0 where its kind has none
pub record IsPlainReply (reply : PlainReply) : Type 0 where
  pub kind : reply.kind ≤ 4
  pub bit : reply.kind ≡ 1 → reply.number ≤ 1
  pub none : 2 ≤ reply.kind → reply.number ≡ 0

-- the requests got the replies, and made the memory `new` of `old`: `IsRun` of what the requests and the replies stand
-- for, each reply an `IsPlainReply`
pub record IsPlainRun (bits : ℕ) (at : ℕ → ℕ) (spans : List PlainSpan) (old : List ℕ) (requests : List PlainRequest) (replies : List PlainReply) (new : List ℕ) : Type 0 where
  pub run : IsRun (λ n. n) bits at (plain_span bits) spans old (map (plain_request bits) requests) (map reply_of replies) new
  pub plain : All IsPlainReply replies
