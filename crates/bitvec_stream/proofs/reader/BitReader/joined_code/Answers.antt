use Rattle.std.proofs.Common.{rules, ◌+◌, ◌-◌, ◌≤◌, length, sym, subst, arith, inr}
use Rattle.bitvec_slice.specs.BitSlice.{slice_bits}
use Rattle.bitvec_stream.specs.Window.{IsWindow}
use Rattle.bitvec_stream.proofs.KeepLemmas.{window_of}
use Rattle.bitvec_stream.proofs.reader.BitReader.joined_code.Goals as goal

pub returns-then-self-count : goal.returns-then-self-count
returns-then-self-count g c =
    let it = c.args.self.now in
    let bits = g.R.BitRegister.BITS in
    let w = g.R.BitRegister.number c.joined.result in
    let xs = slice_bits it.slice in
    let place = it.loaded - it.kept in
    let many = it.slice.many in
    let whole = c.bits_of.ensures.value in
    let falls = c.direction_of.ensures.falls.0 (search (rules, c.if-ne.false, c.ne.ensures)) in
    let window = subst (λ n. IsWindow bits xs place n w) (sym whole) (window_of bits g.O.BitAt.at_of xs place bits w falls (omega arith) c.joined.ensures) in
    let long : place + c.bits_of.result ≤ length xs = omega (arith, it.behind, many, whole, c.requires.room) in
    (falls, c.if-self-count.true, omega (arith, whole, c.in_ok-count.ensures.0), c.in_ok-count.ensures.1 xs place window long)

pub joined-requires-clause-way : goal.joined-requires-clause-way
joined-requires-clause-way g c = inr (c.direction_of.ensures.falls.0 (search (rules, c.if-ne.false, c.ne.ensures)))

pub code_in-requires : goal.code_in-requires
code_in-requires g c = omega (arith, c.bits_of.ensures.value)
