use Rattle.std.proofs.Common.{◌-◌, drop, arith, take_all, length-drop}
use Rattle.std.proofs.lemmas.Str.{IsUtf8-from_ascii}
use Rattle.bitvec_mem.proofs.numeral.numeral_in.Goals as goal

pub from_utf8_unchecked-requires : goal.from_utf8_unchecked-requires
from_utf8_unchecked-requires c =
    let e = c.encode-start in
    IsUtf8-from_ascii _ (rw (take_all (128 - e.result) (drop e.result e.new.out) (omega (arith, length-drop e.result e.new.out)), e.ensures.value) e.ensures.ascii)
