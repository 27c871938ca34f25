use Rattle.std.proofs.Common.{refl, rules}
use Rattle.bitvec.specs.BitSpan.{span_of}
use Rattle.example_packet.proofs.header.write.Goals as goal
use Rattle.example_packet.proofs.HeaderLemmas.{room-from_can_run, behind, kept-by_run, header-written}

pub run-requires-clause-can_run : goal.run-requires-clause-can_run
run-requires-clause-can_run g c = c.can_run.ensures.0 (search rules)

pub returns-clause-room : goal.returns-clause-room
returns-clause-room g c =
    (λ t. room-from_can_run span_of c.span.result c.span-2.result c.span-3.result c.span-4.result c.span.ensures c.span-2.ensures c.span-3.ensures c.span-4.ensures _ (c.can_run.ensures.0 (search rules)), λ h. search rules)

pub returns-clause-written : goal.returns-clause-written
returns-clause-written g c h =
    header-written span_of _ g.O.BitAt.at_of _ _ (record {
      a = c.span.result;
      b = c.span-2.result;
      c = c.span-3.result;
      d = c.span-4.result;
      are_spans = refl;
      is_version = c.span.ensures;
      is_class = c.span-2.ensures;
      is_flags = c.span-3.ensures;
      is_length = c.span-4.ensures;
      r0 = c.to.result;
      r1 = c.to-2.result;
      r2 = c.to-3.result;
      r3 = c.to-4.result;
      are_requests = refl;
      version = record { command = _; is_request = c.to.ensures; is_store = c.store.ensures };
      class = record { command = _; is_request = c.to-2.ensures; is_store = c.store-2.ensures };
      flags = record { command = _; is_request = c.to-3.ensures; is_store = c.store-3.ensures };
      length = record { command = _; is_request = c.to-4.ensures; is_store = c.store-4.ensures };
    })
    c.args.memory.now c.run.new.memory _ c.run.ensures

pub returns-clause-others : goal.returns-clause-others
returns-clause-others g c place h =
    kept-by_run span_of _ g.O.BitAt.at_of c.args.memory.now c.run.new.memory _ _ c.run.ensures place
    (behind span_of c.span.result c.span-2.result c.span-3.result c.span-4.result c.span.ensures c.span-2.ensures c.span-3.ensures c.span-4.ensures place h)
