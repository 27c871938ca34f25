-- What a combination through a writer of words has done.
use Rattle.std.specs.Prelude.{ℕ, ◌≡◌, ◌+◌, ◌*◌, ◌≤◌, slice_index, Bool, true, false, List, length, map}
use Rattle.bitvec_ptr.specs.declared.ptr.cursor.Cursor.{Cursor}
use Rattle.bitvec_ptr.specs.declared.ptr.writer.WordWriter.{WordWriter}
use Rattle.bitvec_ptr.specs.Cursor.{cursor_place}
use Rattle.bitvec_ptr.specs.Place.{words_met}
use Rattle.bitvec_ptr.specs.Memory.{memory_bits, list_with}
use Rattle.bitvec_ptr.specs.WordWriter.{writer_memory, writer_of}

-- From its older to its newer state, a writer has put the `met` words from the word `first` on, and has so combined
-- `count` bits, from place s of a source on, with those of its memory from place t on: each became f of what it was and
-- of the source's. The words of the source have `width` bits at the positions `at` and are numbers by `number`; those
-- of the memory have `width2`, `at2`, `number2`.
pub record HasCombined {X Y : Type 0} (f : Bool → Bool → Bool) (width : ℕ) (at : ℕ → ℕ) (number : X → ℕ) (source : List X) (s : ℕ) (width2 : ℕ)
    (at2 : ℕ → ℕ) (number2 : Y → ℕ) (older newer : WordWriter Y) (t count first met : ℕ) : Type 0 where
  pub reference : (writer_memory newer).ghost_name ≡ (writer_memory older).ghost_name
  pub direction : (writer_of newer).rising ≡ (writer_of older).rising
  pub len : length (writer_of newer).words ≡ length (writer_of older).words
  pub writes : (writer_of newer).writes ≡ (writer_of older).writes + met
  pub rising_mark : (writer_of older).rising ≡ true → (writer_of newer).mark ≡ first + met
  pub falling_mark : (writer_of older).rising ≡ false → (writer_of newer).mark ≡ first
  pub bits : memory_bits width2 at2 (map number2 (writer_of newer).words)
      ≡ list_with f (memory_bits width at (map number source)) s (memory_bits width2 at2 (map number2 (writer_of older).words)) t count

-- The same inside one memory: what is combined with the target is what was there before.
abbrev pub HasCombinedWithin : {Y : Type 0} (f : Bool → Bool → Bool) (width : ℕ) (at : ℕ → ℕ) (number : Y → ℕ) (s : ℕ) (older newer : WordWriter Y)
    (t count first met : ℕ)
    → Type 0
HasCombinedWithin f width at number s older newer t count first met =
    HasCombined f width at number (writer_of older).words s width at number older newer t count first met

-- The same with a source from a cursor on, whose words have the cursor's width and numbers.
abbrev pub HasCombinedFrom : {R Y : Type 0} {a b c d e f g : _} → (Bool → Bool → Bool) → Cursor R a b c d e f g → (ℕ → ℕ) → List R → ℕ
    → (ℕ → ℕ) → (Y → ℕ) → WordWriter Y → WordWriter Y → ℕ → ℕ → ℕ → ℕ → Type 0
HasCombinedFrom {a = own} of from at source width2 at2 number2 older newer t count first met =
    HasCombined of own.BITS at own.number source (cursor_place from) width2 at2 number2 older newer t count first met

-- The same with a target from a cursor on too: the words put are those that the target meets.
abbrev pub HasCombinedTo : {R R2 : Type 0} {a b c d e f g a2 b2 c2 d2 e2 f2 g2 : _} → (Bool → Bool → Bool) → Cursor R a b c d e f g
    → (ℕ → ℕ) → List R → Cursor R2 a2 b2 c2 d2 e2 f2 g2 → (ℕ → ℕ) → WordWriter R2 → WordWriter R2 → ℕ → Type 0
HasCombinedTo {a2 = its} of from at source to at2 older newer count =
    HasCombinedFrom of from at source its.BITS at2 its.number older newer (cursor_place to) count to.word (words_met its.BITS to.bit count)

-- The same inside one memory, from a cursor on to another.
abbrev pub HasCombinedOver : {R : Type 0} {a b c d e f g : _} → (Bool → Bool → Bool) → Cursor R a b c d e f g → (ℕ → ℕ)
    → Cursor R a b c d e f g → WordWriter R → WordWriter R → ℕ → Type 0
HasCombinedOver of from at to older newer count = HasCombinedTo of from at (writer_of older).words to at older newer count

-- From its older to its newer state, a writer has put its word `first`, and has so combined `count` bits of two words, from
-- index `shift` of the first on, with those of its memory from place t on. The two may stand side by side in any list of
-- words: `low` is its word `word`, and `high`, which counts only where `reads_high`, is the next.
abbrev pub HasCombinedPair : {R : Type 0} (f : Bool → Bool → Bool) (width : ℕ) (at : ℕ → ℕ) (number : R → ℕ) (low high : R) (reads_high : Type 0)
    (shift : ℕ) (older newer : WordWriter R) (t count first : ℕ)
    → Type 0
HasCombinedPair {R = R} f width at number low high reads_high shift older newer t count first =
    (source : List R) (word : ℕ) → word * width + shift + count ≤ length source * width
    → number low ≡ slice_index (map number source) word
    → (reads_high → number high ≡ slice_index (map number source) (word + 1))
    → HasCombined f width at number source (word * width + shift) width at number older newer t count first 1
