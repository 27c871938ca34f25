use Rattle.std.proofs.Common.{◌≡◌, ◌+◌, Bool, true, false, not, map, refl, ap, ◌∙◌, arith}
use Rattle.std.specs.Prelude.{nat_abs, slice_index}
use Rattle.std.specs.Bool.{beq}
use Rattle.bitvec.specs.Digit.{digit}
use Rattle.bitvec_slice.proofs.AddressLemmas.{address_index, word_there}
use Rattle.bitvec_slice.proofs.slice.bit_slice.BitSlice.turned_word.Goals as goal

-- a truth value is compared with a true one, or with a false one
as_it_is : (a bit : Bool) → bit ≡ true → a ≡ beq a bit
as_it_is true true e = refl
as_it_is false true e = refl
as_it_is a false e = cc

turned_over : (a bit : Bool) → bit ≡ false → not a ≡ beq a bit
turned_over true false e = refl
turned_over false false e = refl
turned_over a true e = cc

pub bounds-self-address : goal.bounds-self-address
bounds-self-address g c =
    let first = address_index c.address.result _ c.address.type_inv c.address.ensures in
    omega (arith, first, c.args.self.now.fits.1, c.requires)

pub returns-then-bit : goal.returns-then-bit
returns-then-bit g c = λ p small.
    let number = g.R.BitRegister.number in
    let slice = c.args.self.now in
    let first = nat_abs slice.span.word in
    let old = slice_index (map number slice.memory.now) (first + c.args.k) in
    let word = word_there number slice.memory.now _ first c.args.k c.index-self-address.result
    (address_index c.address.result _ c.address.type_inv c.address.ensures)
    (omega (arith, slice.fits.1, c.requires)) in
    ap (λ n. digit n p) word ∙ as_it_is (digit old p) c.args.bit c.if-bit.true

pub returns-else-bit : goal.returns-else-bit
returns-else-bit g c = λ p small.
    let number = g.R.BitRegister.number in
    let slice = c.args.self.now in
    let first = nat_abs slice.span.word in
    let old = slice_index (map number slice.memory.now) (first + c.args.k) in
    let word = word_there number slice.memory.now _ first c.args.k c.index-self-address.result
    (address_index c.address.result _ c.address.type_inv c.address.ensures)
    (omega (arith, slice.fits.1, c.requires)) in
    c.not.ensures.digits p small ∙ ap (λ n. not (digit n p)) word
    ∙ turned_over (digit old p) c.args.bit c.if-bit.false
