use Rattle.std.proofs.Common.{◌<◌, length, map, sym, subst, arith}
use Rattle.std.proofs.lemmas.List.{take_all, take_more, take_more_set, map_push}
use Rattle.bitvec_span.specs.BitSpan.{span_of}
use Rattle.bitvec.specs.Run.{CanRun}
use Rattle.bitvec.proofs.AppendedRuns.{run-none, run-more}
use Rattle.bitvec.proofs.run.run.Goals as goal

pub loop-n-init : goal.loop-n-init
loop-n-init g c = run-none g.R.BitRegister.number g.R.BitRegister.BITS g.O.BitAt.at_of span_of c.args.spans.now (map g.R.BitRegister.number c.args.memory.now)

pub serve-requires : goal.serve-requires
serve-requires g c = subst (λ words. CanRun g.R.BitRegister.BITS span_of c.args.spans.now words) (sym c.loop-n.auto.memory) c.requires.can_run

pub loop-n-preserved : goal.loop-n-preserved
loop-n-preserved g c =
    let within : c.loop-n.n < length c.args.requests.now = omega arith in
    let room : c.loop-n.n < length c.loop-n.replies = omega arith in
    rw (take_more c.args.requests.now c.loop-n.n c.index-requests-n.result within, take_more_set c.loop-n.replies c.loop-n.n _ room, ← c.index-requests-n.is, map_push)
    (run-more _ _ _ span_of c.args.spans.now _ _ _ _ _ _ _ c.loop-n.invariant c.serve.ensures)

pub returns : goal.returns
returns g c = rw (take_all c.loop-n.n c.args.requests.now (omega arith), take_all c.loop-n.n c.loop-n.replies (omega arith)) at c.loop-n.invariant
