-- Steps through spans and runs of requests, by plain numbers.
use Rattle.std.proofs.Common.{◌≡◌, ℕ, ◌<◌, ◌≤◌, List, [], ◌∷◌, ◌++◌, length, get_or, take, take_all, subst, arith}
use Rattle.std.proofs.lemmas.Int.{ints}
use Rattle.std.proofs.lemmas.List.{map_push}
use Rattle.std.proofs.lemmas.List.Elements.{All-append}
use Rattle.bitvec.proofs.AppendedRuns.{run-more}
use Rattle.bitvec.specs.Run.{CanRun, IsRun}
use Rattle.bitvec_call.specs.Plain.{plain_span, AllInside, AllApart, plain_request, reply_of, IsPlainReply, IsPlainRun}
use Rattle.bitvec_call.specs.declared.plain.PlainSpan.{PlainSpan}
use Rattle.bitvec_call.specs.declared.plain.PlainRequest.{PlainRequest}
use Rattle.bitvec_call.specs.declared.plain.PlainReply.{PlainReply}
use Rattle.bitvec_call.proofs.PlainRangeLemmas.{range_within}

-- ranges that end within a memory and have no bit in common can run
pub can_run_plain : (bits : ℕ) (spans : List PlainSpan) (words : ℕ) → 0 < bits → AllInside bits words spans → AllApart bits spans → CanRun bits (plain_span bits) spans words
can_run_plain bits spans words some inside apart = (
  (λ k d h. let span = get_or spans k d in (omega (arith, ints), range_within bits words span.start span.count some (inside k d h))),
  apart,
)

-- a run of one request, by plain numbers
pub one_plain : (bits : ℕ) (at : ℕ → ℕ) (spans : List PlainSpan) (old new : List ℕ) (request : PlainRequest) (reply : PlainReply)
    → IsRun (λ n. n) bits at (plain_span bits) spans old (plain_request bits request ∷ []) (reply_of reply ∷ []) new → IsPlainReply reply
    → IsPlainRun bits at spans old (request ∷ []) (reply ∷ []) new
one_plain bits at spans old new request reply run plain = record {
  run = run;
  plain = λ i d below. let first : i ≡ 0 = omega arith in rw first plain;
}

-- one request more is run
pub plain_more : (bits : ℕ) (at : ℕ → ℕ) (spans : List PlainSpan) (old mid new : List ℕ)
    (requests : List PlainRequest) (replies : List PlainReply)
    (request : PlainRequest) (reply : PlainReply)
    → IsPlainRun bits at spans old requests replies mid
    → IsPlainRun bits at spans mid (request ∷ []) (reply ∷ []) new
    → IsPlainRun bits at spans old (requests ++ request ∷ []) (replies ++ reply ∷ []) new
plain_more bits at spans old mid new requests replies request reply so_far last = record {
  run =
      rw (map_push, map_push)
      (run-more (λ n. n) bits at (plain_span bits) spans old mid new _ _ _ _ so_far.run last.run);
  plain = All-append IsPlainReply replies (reply ∷ []) so_far.plain last.plain;
}

-- all requests are run
pub plain_all : (bits : ℕ) (at : ℕ → ℕ) (spans : List PlainSpan) (old new : List ℕ) (requests : List PlainRequest) (replies : List PlainReply) (n : ℕ)
    → length requests ≤ n → length replies ≤ n → IsPlainRun bits at spans old (take n requests) (take n replies) new → IsPlainRun bits at spans old requests replies new
plain_all bits at spans old new requests replies n h k is =
    subst (λ rs. IsPlainRun bits at spans old requests rs new) (take_all n replies k) (subst (λ qs. IsPlainRun bits at spans old qs (take n replies) new) (take_all n requests h) is)
