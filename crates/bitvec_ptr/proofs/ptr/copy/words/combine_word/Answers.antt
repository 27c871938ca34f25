use Rattle.std.proofs.Common.{◌≡◌, ◌+◌, ◌*◌, ◌<◌, ◌≤◌, length, map, ap, ◌∙◌, arith}
use Rattle.std.specs.Prelude.{slice_index}
use Rattle.std.proofs.lemmas.List.{length-map, length-set, map-set}
use Rattle.bitvec_mem.specs.Digit.{digit}
use Rattle.bitvec_ptr.specs.Memory.{bit_of, memory_bits}
use Rattle.bitvec_ptr.proofs.CopyLemmas.{word_is}
use Rattle.bitvec_ptr.proofs.GatherLemmas.{IsCombinedWord, word_combined}
use Rattle.bitvec_ptr.proofs.ptr.copy.words.combine_word.Goals as goal

pub returns : goal.returns
returns g c =
    let R = g.R.BitRegister in
    let R2 = g.R2.BitRegister in
    let of = g.C.Combine.of in
    let at = g.O.BitAt.at_of in
    let at2 = g.O2.BitAt.at_of in
    let below = g.met.O2.BitOrder.one_to_one.below in
    let xs = c.args.source.now in
    let words = c.args.writer.now.words.now in
    let s = c.args.from.word * R.BITS + c.args.from.bit in
    let to = c.args.to in
    let bit = c.args.bit in
    let word = c.word in
    let with = c.gathered_from-theirs in
    let old = c.get-old.result in
    let was : R2.number old ≡ slice_index (map R2.number words) to = word_is R2.number words to old c.requires.to_in c.get-old.ensures in
    let room : to < length (map R2.number words) = omega (arith, length-map words R2.number, c.requires.to_in) in
    let holds : s + c.args.count ≤ length (map R.number xs) * R.BITS =
    omega (arith, c.requires.from_in, ap (λ n. n * R.BITS) (length-map xs R.number)) in
    let combined : IsCombinedWord of R.BITS at (map R.number xs) s R2.BITS at2 (map R2.number words) to bit c.args.count (R2.number word.result) =
    record {
      some = c.requires.some;
      end = c.requires.bit_in;
      inside = room;
      has = holds;
      digits = λ j h.
          word.ensures (at2 (bit + j)) (below (bit + j) (omega arith))
          ∙ ap (λ b. of (digit (R2.number old) (at2 (bit + j))) b) (with.ensures.inside j h)
          ∙ ap (λ n. of (digit n (at2 (bit + j))) (bit_of R.BITS at (map R.number xs) (s + j))) was;
      others = λ j h u.
          word.ensures (at2 j) (below j h)
          ∙ ap (λ b. of (digit (R2.number old) (at2 j)) b) (with.ensures.outside j h u)
          ∙ c.ground.ensures (at2 j) (below j h)
          ∙ ap (λ n. digit n (at2 j)) was;
    } in
    record {
      reference = c.put.ensures.reference;
      direction = c.put.ensures.direction;
      len = ap length c.put.ensures.words ∙ length-set words to word.result;
      writes = c.put.ensures.writes;
      rising_mark = c.put.ensures.rising_mark;
      falling_mark = c.put.ensures.falling_mark;
      bits = ap (λ w. memory_bits R2.BITS at2 (map R2.number w)) c.put.ensures.words
          ∙ ap (memory_bits R2.BITS at2) (map-set R2.number words to word.result)
          ∙ word_combined combined;
    }
