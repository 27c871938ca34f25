use Rattle.std.proofs.Common.{◌≡◌, ◌≤◌, length, sym, arith}
use Rattle.bitvec_slice.specs.BitSlice.{slice_bits}
use Rattle.bitvec_stream.proofs.CodeLemmas.{code_small, code_long, code_greatest, code_greater}
use Rattle.bitvec_stream.proofs.reader.golomb.code_number.Goals as goal

pub overflow_sub-result : goal.overflow_sub-result
overflow_sub-result g c =
    let few : length (slice_bits c.args.digits) ≤ 128 = omega (arith, c.len.ensures.list, c.if-len-le128.true) in
    let it = code_small (slice_bits c.args.digits) c.requires few in
    omega (arith, c.load_be.ensures, it.0)

pub returns-then-len-le128 : goal.returns-then-len-le128
returns-then-len-le128 g c =
    let few : length (slice_bits c.args.digits) ≤ 128 = omega (arith, c.len.ensures.list, c.if-len-le128.true) in
    let it = code_small (slice_bits c.args.digits) c.requires few in
    (omega (arith, c.load_be.ensures, it.0), omega (arith, c.load_be.ensures, it.0, it.1))

pub returns-then-len-gt129 : goal.returns-then-len-gt129
returns-then-len-gt129 g c =
    let it = code_long (slice_bits c.args.digits) c.requires (omega (arith, c.if-len-gt129.true, c.len-2.ensures.list)) in
    omega (arith, it)

pub returns-then-not_any : goal.returns-then-not_any
returns-then-not_any g c =
    let many : length (slice_bits c.args.digits) ≡ 129 = omega (arith, c.len.ensures.list, c.len-2.ensures.list, c.if-len-le128.false, c.if-len-gt129.false) in
    (sym (code_greatest (slice_bits c.args.digits) _ c.requires c.split_at.ensures.back many (c.not_any.ensures.0 c.if-not_any.true)), omega arith)

pub returns-else-not_any : goal.returns-else-not_any
returns-else-not_any g c =
    let many : length (slice_bits c.args.digits) ≡ 129 = omega (arith, c.len.ensures.list, c.len-2.ensures.list, c.if-len-le128.false, c.if-len-gt129.false) in
    code_greater (slice_bits c.args.digits) _ c.requires c.split_at.ensures.back many (λ none. let all = c.not_any.ensures.1 none in let not = c.if-not_any.false in cc)
