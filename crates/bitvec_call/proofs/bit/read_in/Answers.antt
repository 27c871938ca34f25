use Rattle.std.proofs.Common.{◌*◌, ◌<◌, ℕ, map, sym, subst}
use Rattle.std.proofs.lemmas.List.{length-map}
use Rattle.bitvec_call.proofs.ReadLemmas.{bit_read}
use Rattle.bitvec_call.proofs.bit.read_in.Goals as goal

pub returns : goal.returns
returns g c =
    let number = g.R.BitRegister.number in
    let memory = c.args.memory.now in
    let inside = subst (λ (n : ℕ). c.args.place < n * g.R.BitRegister.BITS) (sym (length-map memory number)) c.requires in
    bit_read g.R.BitRegister.BITS g.O.BitAt.at_of (map number memory) c.args.place _ c.read.result c.pointer.ensures.index inside c.read.ensures
