-- The statuses of the spans of a run and of a run: the first condition that does not hold.
use Rattle.std.specs.Prelude.{◌≡◌, ◌≢◌, ◌⊎◌, ℕ, ◌≤◌, List, [], ◌∷◌, ◌++◌, length}
use Rattle.bitvec.specs.Run.{CanRun, IsRising}
use Rattle.bitvec_call.specs.Call.{Operand, order_of}
use Rattle.bitvec_call.specs.Plain.{plain_span, AllShort, AllInside, AllApart, AreCommands, IsPlainRun}
use Rattle.bitvec_call.specs.Status.{ok, no_order, too_many_spans, too_long, outside, overlap, no_room, no_command}
use Rattle.bitvec_call.specs.declared.plain.PlainSpan.{PlainSpan}
use Rattle.bitvec_call.specs.declared.plain.PlainRequest.{PlainRequest}
use Rattle.bitvec_call.specs.declared.plain.PlainReply.{PlainReply}

-- the status is the code of the first condition of a list that does not hold, and `ok` where all hold
abbrev pub IsFirstFailed : List (Type 0 × ℕ) → ℕ → Type 0
IsFirstFailed [] status = status ≡ ok
IsFirstFailed ((condition, code) ∷ others) status = ((¬ condition) × (status ≡ code)) ⊎ (condition × IsFirstFailed others status)

-- the conditions of an order and of at most 64 spans in a memory of `words` words, each with the code of the status that it
-- ends in
abbrev pub spans_conditions : ℕ → ℕ → List PlainSpan → ℕ → List (Type 0 × ℕ)
spans_conditions bits order spans words =
    (order ≤ 1, no_order)
    ∷ (length spans ≤ 64, too_many_spans)
    ∷ (AllShort spans, too_long)
    ∷ (AllInside bits words spans, outside)
    ∷ (AllApart bits spans, overlap)
    ∷ []

-- the status of the test of a run's spans
abbrev pub IsSpansStatus : ℕ → ℕ → List PlainSpan → ℕ → ℕ → Type 0
IsSpansStatus bits order spans words status = IsFirstFailed (spans_conditions bits order spans words) status

-- the same where there is room for the numbers of the spans, however many they are
abbrev pub roomy_conditions : ℕ → ℕ → List PlainSpan → ℕ → ℕ → List (Type 0 × ℕ)
roomy_conditions bits order spans words room =
    (order ≤ 1, no_order)
    ∷ (room ≡ length spans, no_room)
    ∷ (AllShort spans, too_long)
    ∷ (AllInside bits words spans, outside)
    ∷ (AllApart bits spans, overlap)
    ∷ []

-- the conditions of requests and of a number of replies
abbrev pub requests_conditions : List PlainRequest → ℕ → List (Type 0 × ℕ)
requests_conditions requests replies = (replies ≡ length requests, no_room) ∷ (AreCommands requests, no_command) ∷ []

-- the status of a run with a number of replies
abbrev pub IsRunStatus : ℕ → ℕ → List PlainSpan → ℕ → List PlainRequest → ℕ → ℕ → Type 0
IsRunStatus bits order spans words requests replies status = IsFirstFailed (spans_conditions bits order spans words ++ requests_conditions requests replies) status

-- A call that tests the spans of a run: it says whether they can run.
pub record IsSpansTest (bits : ℕ) (conditions : List (Type 0 × ℕ)) (spans : List PlainSpan) (words result : ℕ) : Type 0 where
  pub status : IsFirstFailed conditions result
  pub can_run : result ≡ ok → CanRun bits (plain_span bits) spans words

-- A call that runs requests under conditions: else the memory and the replies are as before.
pub record IsRunCall (conditions : List (Type 0 × ℕ)) (spans : List PlainSpan) (old new : Operand) (requests : List PlainRequest) (replies_old replies_new : List PlainReply) (result : ℕ) : Type 0 where
  pub status : IsFirstFailed conditions result
  pub done : result ≡ ok → IsPlainRun old.bits (order_of old) spans old.memory requests replies_new new.memory
  pub kept : result ≢ ok → new.memory ≡ old.memory
  pub unanswered : result ≢ ok → replies_new ≡ replies_old

-- such a call whose run has at most 64 spans
abbrev pub IsRunOf : List PlainSpan → Operand → Operand → List PlainRequest → List PlainReply → List PlainReply → ℕ → Type 0
IsRunOf spans old new requests replies_old replies_new result =
    IsRunCall (spans_conditions old.bits old.order spans old.words ++ requests_conditions requests (length replies_old)) spans old new requests replies_old replies_new result

-- such a call with room for the numbers of the spans
abbrev pub IsRoomyRun : List ℕ → List PlainSpan → Operand → Operand → List PlainRequest → List PlainReply → List PlainReply → ℕ → Type 0
IsRoomyRun room spans old new requests replies_old replies_new result =
    IsRunCall (roomy_conditions old.bits old.order spans old.words (length room) ++ requests_conditions requests (length replies_old)) spans old new requests replies_old replies_new result

-- What becomes of the room: where the order is one of the two, there is just room for the number of each span, and each is
-- short enough and lies in a memory of `words` words, it holds the numbers in an order in which the spans start; else it is as
-- before.
pub record IsRoomAfter (bits order : ℕ) (spans : List PlainSpan) (words : ℕ) (old new : List ℕ) : Type 0 where
  pub sorted : order ≤ 1 → length old ≡ length spans → AllShort spans → AllInside bits words spans → IsRising bits (plain_span bits) spans new
  pub kept : ¬ ((order ≤ 1) × (length old ≡ length spans) × AllShort spans × AllInside bits words spans) → new ≡ old
