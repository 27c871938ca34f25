use Rattle.std.proofs.Common.{◌≡◌, ◌<◌, length, map}
use Rattle.std.specs.List.{All}
use Rattle.std.specs.Str.Parse.{digits_value}
use Rattle.std.specs.Prelude.{IsSomeAnd, slice_get}
use Rattle.bits_text.specs.Words.{IsWordText, pieces}
use Rattle.bits_text.proofs.words.words_of.Given as goal

abbrev pub invariant-loop-word : goal.invariant-loop-word
invariant-loop-word g l = record {
  read : All (IsWordText g.R.BitRegister.BITS) (map (λ x. x.now) l.yielded);
  begun : 0 < length l.yielded → IsSomeAnd (slice_get (pieces l.fn.text) 0) (IsWordText g.R.BitRegister.BITS);
  same : map g.R.BitRegister.number l.words.items ≡ map (digits_value 16) (map (λ x. x.now) l.yielded);
}
