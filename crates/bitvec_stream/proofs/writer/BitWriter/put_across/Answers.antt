use Rattle.std.proofs.Common.{◌≡◌, ◌+◌, ◌-◌, ◌++◌, ◌^◌, sym, ap, ◌∙◌, arith}
use Rattle.std.proofs.lemmas.Nat.{mod_below, pow_pos}
use Rattle.bitvec_slice.proofs.DigitListLemmas.{digits_be-low}
use Rattle.bitvec_stream.specs.Numbers.{digits_be}
use Rattle.bitvec_stream.proofs.DigitRangeLemmas.{dropped_small}
use Rattle.bitvec_stream.proofs.KnownLemmas.{digits_be-split}
use Rattle.bitvec_stream.proofs.WriterLemmas.{writes-as, writes-both, writes-from}
use Rattle.bitvec_stream.proofs.writer.BitWriter.put_across.Goals as goal

pub put_kept-requires-clause-small : goal.put_kept-requires-clause-small
put_kept-requires-clause-small g c =
    let it = c.args.self.now in
    let number = g.N.BitRegister.number in
    let all : c.args.count - it.kept + it.kept ≡ c.args.count = omega (arith, c.requires.more) in
    dropped_small g.N.BitRegister.BITS (number c.args.digits) (c.args.count - it.kept) it.kept c.args.count (number c.shr.result) all c.requires.small c.shr.ensures.below c.shr.ensures.moved c.shr.ensures.high

pub returns : goal.returns
returns g c =
    let it = c.args.self.now in
    let mid = c.put_kept.new.self in
    let new = c.put_kept-2.new.self in
    let kept = it.kept in
    let rest = c.args.count - it.kept in
    let number = g.N.BitRegister.number in
    let value = number c.args.digits in
    let high = number c.shr.result in
    let low = number c.lowest.result in
    let first = digits_be kept high in
    let second = digits_be rest low in
    let behind = writes-from mid c.know.new.self new second c.know.ensures.memory c.know.ensures.span c.know.ensures.position c.put_kept-2.ensures.writes in
    let all : kept + rest ≡ c.args.count = omega (arith, c.requires.more) in
    let both : first ++ second ≡ digits_be c.args.count value =
    ap (λ xs. first ++ xs) (sym (digits_be-low rest value low (sym c.lowest.ensures)))
    ∙ digits_be-split kept rest value high (λ q h. c.shr.ensures.moved q (omega (arith, h, all, c.requires.few)))
    ∙ ap (λ n. digits_be n value) all in
    writes-as it new _ (digits_be c.args.count value) both (writes-both it mid new first second c.put_kept.ensures.writes behind)

pub know-requires-clause-falls : goal.know-requires-clause-falls
know-requires-clause-falls g c = c.args.self.now.shown.falls c.requires.some

pub put_kept-requires-2-clause-kept : goal.put_kept-requires-2-clause-kept
put_kept-requires-2-clause-kept g c = omega (arith, c.know.ensures.kept, c.requires.near)

pub put_kept-requires-2-clause-small : goal.put_kept-requires-2-clause-small
put_kept-requires-2-clause-small g c =
    let rest = c.args.count - c.args.self.now.kept in
    omega (arith, c.lowest.ensures, mod_below (g.N.BitRegister.number c.args.digits) (2 ^ rest) (pow_pos rest))
