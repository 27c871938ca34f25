use Rattle.std.proofs.Common.{◌≤◌, ◌-◌, ap, pos}
use Rattle.std.proofs.Math.Bridge.{le_prop}
use Rattle.bitvec_ptr.specs.declared.ptr.single.BitPtr.{BitPtr}
use Rattle.bitvec_ptr.proofs.ptr.single.BitPtrDangling.DANGLING.Goals as goal

pub returns : goal.returns
returns g c =
    let make : 0 ≤ g.R.BitRegister.BITS - 1 → BitPtr g.row.R.Denot g.row.O.Denot g.R.BitRegister _ _ _ _ _ _ = λ h. record { word = pos 0; bit = 0; of = record {}; in_word = h } in
    ap make (le_prop _ _)
