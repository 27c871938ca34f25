use Rattle.std.proofs.Common.{◌≡◌, ◌+◌, ◌-◌, ◌++◌, ◌∙◌, List, Bool, [], length, take, drop, sym, ap, arith, length-append, length-drop, length-take-le}
use Rattle.std.proofs.lemmas.List.{append-nil, take_all}
use Rattle.bitvec_vec.specs.BitVec.{vec_bits}
use Rattle.bitvec_vec.proofs.BoolLemmas.{put-next}
use Rattle.bitvec_vec.proofs.vec.bit_vec.BitVec.extend_from_bools.Goals as goal

pub loop-done-init : goal.loop-done-init
loop-done-init g c = record {
  inside = omega arith;
  list = c.reserve.ensures.bits ∙ sym (append-nil (vec_bits c.args.self.now));
  room = omega (arith, c.in_ok-reserve.ensures.ok);
  grown = c.reserve.ensures.capacity;
}

pub push_some-done-requires-clause-room : goal.push_some-done-requires-clause-room
push_some-done-requires-clause-room g c =
    let xs = vec_bits c.args.self.now in
    let bs = c.args.bits.now in
    let n = c.loop-done.done in
    omega (arith, ap (λ (us : List Bool). length us) c.loop-done.invariant.list, length-append xs (take n bs), length-take-le n bs c.loop-done.invariant.inside, length-drop n bs, c.loop-done.invariant.inside, c.loop-done.invariant.room)

pub loop-done-preserved : goal.loop-done-preserved
loop-done-preserved g c =
    let xs = vec_bits c.args.self.now in
    let bs = c.args.bits.now in
    let n = c.loop-done.done in
    let k = c.push_some-done.result in
    record {
      inside = omega (arith, c.push_some-done.ensures.inside, length-drop n bs, c.loop-done.invariant.inside);
      list = put-next xs bs _ n k (c.push_some-done.ensures.bits
          ∙ ap (λ (us : List Bool). vec_bits c.loop-done.self ++ take k us) (take_all (length bs - n) (drop n bs) (omega (arith, length-drop n bs)))
          ∙ ap (λ (us : List Bool). us ++ take k (drop n bs)) c.loop-done.invariant.list);
      room = omega (arith, c.loop-done.invariant.room, c.push_some-done.ensures.capacity);
      grown = omega (arith, c.loop-done.invariant.grown, c.push_some-done.ensures.capacity);
    }

pub returns-clause-bits : goal.returns-clause-bits
returns-clause-bits g c =
    let bs = c.args.bits.now in
    c.loop-done.invariant.list ∙ ap (λ (us : List Bool). vec_bits c.args.self.now ++ us) (take_all c.loop-done.done bs (omega (arith, c.loop-done-test.false)))

pub returns-clause-capacity : goal.returns-clause-capacity
returns-clause-capacity g c = c.loop-done.invariant.grown
