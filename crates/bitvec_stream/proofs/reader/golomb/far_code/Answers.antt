use Rattle.std.proofs.Common.{◌-◌, ◌*◌, sym, ap, ◌∙◌}
use Rattle.bitvec_slice.specs.BitSlice.{slice_bits}
use Rattle.bitvec_stream.specs.Reader.{unread}
use Rattle.bitvec_stream.proofs.GolombLemmas.{code_of, code_beyond}
use Rattle.bitvec_stream.proofs.reader.golomb.far_code.Goals as goal

pub returns-in-Some : goal.returns-in-Some
returns-in-Some g c =
    let code = code_of (unread c.args.reader) (slice_bits c.in_ok-digits.digits) (g.N.BitRegister.number c.in-Some.value) c.in_ok-digits.ensures c.in-Some.ensures in
    (code.0, ap (λ n. 2 * n - 1) c.len.ensures.list ∙ sym code.1)

pub returns-in-None : goal.returns-in-None
returns-in-None g c = code_beyond (unread c.args.reader) (slice_bits c.in_ok-digits.digits) _ c.in_ok-digits.ensures c.in-None.ensures
