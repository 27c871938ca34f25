use Rattle.std.proofs.Common.{◌≡◌, ◌+◌, ◌*◌, ◌<◌, ◌≤◌, length, map, ap, ◌∙◌, arith}
use Rattle.std.specs.Prelude.{slice_index}
use Rattle.std.proofs.lemmas.List.{length-map, length-set, map-set}
use Rattle.bitvec_mem.specs.Digit.{digit}
use Rattle.bitvec_ptr.specs.Memory.{bit_of, memory_bits}
use Rattle.bitvec_ptr.proofs.CopyLemmas.{word_is}
use Rattle.bitvec_ptr.proofs.GatherLemmas.{IsFromPair, pair_bits, IsCombinedWord, word_combined}
use Rattle.bitvec_ptr.proofs.ptr.copy.words.combine_pair.Goals as goal

pub returns : goal.returns
returns g c = λ source from holds_all is_low is_high.
    let R = g.R.BitRegister in
    let at = g.O.BitAt.at_of in
    let words = c.args.writer.now.words.now in
    let to = c.args.to in
    let of = g.C.Combine.of in
    let below = g.met.O.BitOrder.one_to_one.below in
    let s = from * R.BITS + c.args.shift in
    let bit = c.args.bit in
    let old = c.get-old.result in
    let word = c.word in
    let with = c.gathered_from_pair-ours in
    let end : c.args.count ≤ R.BITS = omega arith in
    let was : R.number c.get-old.result ≡ slice_index (map R.number words) to =
    word_is R.number words to c.get-old.result c.requires.to_in c.get-old.ensures in
    let long = length-map words R.number in
    let room : to < length (map R.number words) = omega (arith, long, c.requires.to_in) in
    let holds : s + c.args.count ≤ length (map R.number source) * R.BITS =
    omega (arith, holds_all, ap (λ n. n * R.BITS) (length-map source R.number)) in
    let both : IsFromPair R.BITS at at c.args.shift bit c.args.count (R.number with.result) (R.number c.args.low) (R.number c.args.high) =
    record { most = c.requires.most; end = end; first = with.ensures.low; second = with.ensures.high } in
    let gathers = pair_bits both (map R.number source) from is_low is_high in
    let combined : IsCombinedWord of R.BITS at (map R.number source) s R.BITS at (map R.number words) to bit c.args.count (R.number word.result) =
    record {
      some = c.requires.some;
      end = c.requires.bit_in;
      inside = room;
      has = holds;
      digits = λ j h.
          word.ensures (at (bit + j)) (below (bit + j) (omega arith))
          ∙ ap (λ b. of (digit (R.number old) (at (bit + j))) b) (gathers j h)
          ∙ ap (λ n. of (digit n (at (bit + j))) (bit_of R.BITS at (map R.number source) (s + j))) was;
      others = λ j h u.
          word.ensures (at j) (below j h)
          ∙ ap (λ b. of (digit (R.number old) (at j)) b) (with.ensures.outside j h u)
          ∙ c.ground.ensures (at j) (below j h)
          ∙ ap (λ n. digit n (at j)) was;
    } in
    record {
      reference = c.put.ensures.reference;
      direction = c.put.ensures.direction;
      len = ap length c.put.ensures.words ∙ length-set words to word.result;
      writes = c.put.ensures.writes;
      rising_mark = c.put.ensures.rising_mark;
      falling_mark = c.put.ensures.falling_mark;
      bits = ap (λ w. memory_bits R.BITS at (map R.number w)) c.put.ensures.words
          ∙ ap (memory_bits R.BITS at) (map-set R.number words to word.result)
          ∙ word_combined combined;
    }
