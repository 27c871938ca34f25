-- What is asked of the pairs of two ranges of bits, as it is said of the lists of two spans.
use Rattle.std.proofs.Common.{◌≡◌, ℕ, ◌+◌, ◌*◌, ◌<◌, Bool, true, false, List, length, Option, None, Some, sym, ap, ◌∙◌, arith}
use Rattle.std.specs.Prelude.{nat_abs, MatchOption}
use Rattle.bitvec_mem.specs.Digit.{count_below}
use Rattle.bitvec_mem.proofs.DigitLemmas.{count_below-same}
use Rattle.bitvec_ptr.specs.Memory.{bit_of, zip_with}
use Rattle.bitvec_ptr.specs.Pairs.{NoneBelow, IsFirstBelow}
use Rattle.bitvec_ptr.proofs.CombineLemmas.{get_or-zip_with}
use Rattle.bitvec_span.specs.Span.{Span, list_of, element}
use Rattle.bitvec_span.specs.Truths.{ones_in, AllAre, IsFirst}
use Rattle.bitvec_span.proofs.PartLemmas.{element-list_of, length-list_of}
use Rattle.bitvec_span.proofs.ZipLemmas.{length-zip_with}

-- The pairs of a span in a memory with another span of the same length in another memory, each made one bit by f.
pub record ArePairs (f : Bool → Bool → Bool) (bits : ℕ) (at : ℕ → ℕ) (span : Span) (words : List ℕ) (bits2 : ℕ) (at2 : ℕ → ℕ) (other : Span)
    (others : List ℕ) (pair : ℕ → Bool) (count : ℕ) : Type 0 where
  pub same : other.len ≡ span.len
  pub all : count ≡ span.len
  pub pairs : (j : ℕ) → pair j ≡ f (bit_of bits at words (nat_abs span.word * bits + span.head + j)) (bit_of bits2 at2 others (nat_abs other.word * bits2 + other.head + j))

module _ (f : Bool → Bool → Bool) (bits : ℕ) (at : ℕ → ℕ) (span : Span) (words : List ℕ) (bits2 : ℕ) (at2 : ℕ → ℕ) (other : Span)
    (others : List ℕ) (pair : ℕ → Bool) (count : ℕ) (are : ArePairs f bits at span words bits2 at2 other others pair count) where
  abbrev xs : List Bool
  xs = list_of bits at span words

  abbrev ys : List Bool
  ys = list_of bits2 at2 other others

  long : length xs ≡ span.len
  long = length-list_of bits at span words

  as_long : length ys ≡ length xs
  as_long = length-list_of bits2 at2 other others ∙ are.same ∙ sym long

  many : length (zip_with f xs ys) ≡ count
  many = length-zip_with f xs ys as_long ∙ long ∙ sym are.all

  each : (j : ℕ) → j < count → element (zip_with f xs ys) j ≡ pair j
  each j h =
      let one : j < length xs = omega (arith, h, long, are.all) in
      let two : j < length ys = omega (arith, one, as_long) in
      get_or-zip_with f xs ys j false false false one two
      ∙ ap (λ b. f b (element ys j)) (element-list_of bits at span words j (omega (arith, one, long)))
      ∙ ap (f (bit_of bits at words (nat_abs span.word * bits + span.head + j))) (element-list_of bits2 at2 other others j (omega (arith, one, long, are.same)))
      ∙ sym (are.pairs j)

  -- `total` is the number of the pairs that are one
  pub pairs_ones : (total : ℕ) → total ≡ count_below pair count
      → total ≡ ones_in (zip_with f (list_of bits at span words) (list_of bits2 at2 other others))
  pairs_ones total e = e ∙ sym (ap (count_below (element (zip_with f xs ys))) many ∙ count_below-same (element (zip_with f xs ys)) pair count each)

  -- the first pair that is one, if any is
  pub pairs_match : (found : Option ℕ) → MatchOption found (NoneBelow pair count) (IsFirstBelow pair count)
      → MatchOption found (AllAre false (zip_with f (list_of bits at span words) (list_of bits2 at2 other others)))
      (IsFirst true (zip_with f (list_of bits at span words) (list_of bits2 at2 other others)))
  pairs_match None none = λ j h. let low : j < count = omega (arith, h, many) in each j low ∙ none j low
  pairs_match (Some i) is =
      let low = is.0 in
      (omega (arith, low, many), each i low ∙ is.1, λ j h. each j (omega (arith, h, low)) ∙ is.2 j h)
