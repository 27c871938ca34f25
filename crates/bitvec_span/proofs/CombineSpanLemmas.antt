-- What a combination of a span's bits with those of another makes of the span's list, and of all else.
use Rattle.std.proofs.Common.{◌≡◌, ℕ, ◌+◌, ◌-◌, ◌*◌, ◌<◌, Bool, false, List, ◌++◌, length, take, drop, refl, sym, ap, ◌∙◌, arith, length-drop, get_or-drop}
use Rattle.std.specs.Prelude.{nat_abs}
use Rattle.bitvec_ptr.specs.Memory.{memory_bits, zip_with, list_with}
use Rattle.bitvec_ptr.proofs.BitLemmas.{length-memory_bits, get_or-memory_bits}
use Rattle.bitvec_ptr.proofs.CombineLemmas.{long-zip_with, get_or-zip_with}
use Rattle.bitvec_ptr.proofs.CopyLemmas.{met_covers}
use Rattle.bitvec_span.specs.Span.{Span, BecomesList, list_of, element}
use Rattle.bitvec_span.proofs.BecomesLemmas.{LiesIn, becomes-same, copy-becomes}
use Rattle.bitvec_span.proofs.PartLemmas.{element-list_of, length-list_of}
use Rattle.bitvec_span.proofs.ZipLemmas.{length-zip_with, take-zip_with}

-- the bits of a span in one memory were combined with those at the places of another span of as
-- many bits, which made `new` of `old`
pub record IsCombined (f : Bool → Bool → Bool) (wide : ℕ) (place_in : ℕ → ℕ) (source : Span)
    (from : List ℕ) (bits : ℕ) (at : ℕ → ℕ) (span : Span) (old new : List ℕ) : Type 0 where
  pub len : source.len ≡ span.len
  pub words : length new ≡ length old
  pub combined : memory_bits bits at new
      ≡ list_with f (memory_bits wide place_in from) (nat_abs source.word * wide + source.head)
      (memory_bits bits at old) (nat_abs span.word * bits + span.head) span.len

-- bit j of a span that lies in a memory, among the memory's bits from the span's first on
bit_from : (bits : ℕ) (at : ℕ → ℕ) (span : Span) (words : List ℕ) (j : ℕ) → LiesIn bits span (length words) → j < span.len
    → (j < length (drop (nat_abs span.word * bits + span.head) (memory_bits bits at words)))
    × (element (drop (nat_abs span.word * bits + span.head) (memory_bits bits at words)) j ≡ element (list_of bits at span words) j)
bit_from bits at span words j lies h =
    let start : ℕ = nat_abs span.word * bits + span.head in
    let all : List Bool = memory_bits bits at words in
    let some : 0 < bits = omega (arith, lies.in_head) in
    let room = met_covers bits (nat_abs span.word) span.head span.len (length words) some (omega (arith, h)) lies.fits.1 in (
      omega (arith, room, h, length-memory_bits bits at words, length-drop start all),
      get_or-drop start all j false
          ∙ get_or-memory_bits bits at words (start + j) false (omega (arith, room, h))
          ∙ sym (element-list_of bits at span words j h),
    )

-- the span's list becomes its list combined with that of the other, of any width and order
pub span-combines : (f : Bool → Bool → Bool) (wide : ℕ) (place_in : ℕ → ℕ) (source : Span)
    (from : List ℕ) (bits : ℕ) (at : ℕ → ℕ) (span : Span) (old new : List ℕ)
    → LiesIn wide source (length from) → LiesIn bits span (length old)
    → IsCombined f wide place_in source from bits at span old new
    → BecomesList bits at span old new
    (zip_with f (list_of bits at span old) (list_of wide place_in source from))
span-combines f wide place_in source from bits at span old new there here is =
    let xs : List Bool = list_of bits at span old in
    let ys : List Bool = list_of wide place_in source from in
    let long : length xs ≡ span.len = length-list_of bits at span old in
    let as_long : length ys ≡ length xs =
    length-list_of wide place_in source from ∙ is.len ∙ sym long in
    let to : ℕ = nat_abs span.word * bits + span.head in
    let ours : List Bool = drop to (memory_bits bits at old) in
    let theirs : List Bool = drop (nat_abs source.word * wide + source.head) (memory_bits wide place_in from) in
    let our_bit = λ (j : ℕ) (h : j < span.len). bit_from bits at span old j here h in
    let their_bit = λ (j : ℕ) (h : j < span.len). bit_from wide place_in source from j there (omega (arith, h, is.len)) in
    copy-becomes bits at span old new here.in_head here.fits (zip_with f xs ys)
    (zip_with f ours theirs) 0 to
    (length-zip_with f xs ys as_long ∙ long)
    (λ more. let last : span.len - 1 < span.len = omega (arith, more) in
    let r = long-zip_with f ours theirs span.len (omega (arith, (our_bit (span.len - 1) last).0)) (omega (arith, (their_bit (span.len - 1) last).0)) in omega (arith, r))
    (λ j h. let mine = our_bit j h in
    let other = their_bit j h in
    let same : 0 + j ≡ j = omega arith in
    get_or-zip_with f xs ys j false false false (omega (arith, h, long)) (omega (arith, h, long, as_long))
    ∙ sym (ap (element (zip_with f ours theirs)) same
    ∙ get_or-zip_with f ours theirs j false false false mine.0 other.0
    ∙ ap (λ b. f b (element theirs j)) mine.1 ∙ ap (f (element xs j)) other.1))
    refl is.words is.combined

-- a range of a span's bits is combined with another range
pub range-combines : (f : Bool → Bool → Bool) (bits : ℕ) (at : ℕ → ℕ) (span : Span) (old new : List ℕ) (from to count : ℕ) (xs ys : List Bool)
    → xs ≡ take (to + count - to) (drop to (list_of bits at span old)) → ys ≡ take (from + count - from) (drop from (list_of bits at span old))
    → BecomesList bits at span old new (take to (list_of bits at span old) ++ zip_with f xs ys ++ drop (to + count) (list_of bits at span old))
    → BecomesList bits at span old new (list_with f (list_of bits at span old) from (list_of bits at span old) to count)
range-combines f bits at span old new from to count xs ys here there edit =
    let to_all : to + count - to ≡ count = omega arith in
    let from_all : from + count - from ≡ count = omega arith in
    let zs : List Bool = list_of bits at span old in
    becomes-same bits at span old new _ _
    (ap (λ ws. take to zs ++ ws ++ drop (to + count) zs)
    (ap (λ vs. zip_with f vs ys) (here ∙ ap (λ n. take n (drop to zs)) to_all)
    ∙ ap (zip_with f (take count (drop to zs))) (there ∙ ap (λ n. take n (drop from zs)) from_all)
    ∙ take-zip_with f count (drop to zs) (drop from zs)))
    edit
