use Rattle.std.proofs.Common.{string_bytes, subst, sym}
use Rattle.sage.specs.World.{sink_state}
use Rattle.sage.specs.Try.{IsAnswerOf}
use Rattle.sage.proofs.Sinks.{put_got, put_prefix}
use Rattle.sage.proofs.try_query.try_query.Goals as goal

pub returns-in-Ok-put : goal.returns-in-Ok-put
returns-in-Ok-put g c =
    let before = sink_state g.O.Sink.written g.O.Sink.faults c.args.out.now in
    let after = sink_state g.O.Sink.written g.O.Sink.faults c.put.new.self in
    let text = c.in-Ok.answer.text.items in
    record {
      text = text;
      answer = subst (λ counts. IsAnswerOf (g.S.Shelf.files c.args.shelf.now) c.args.document.now c.args.query.now c.args.quanta.now text counts) (sym c.from_string.ensures) c.in-Ok.ensures.answer;
      got = put_got before after _ _ _ _ c.in-Ok-put.is c.deref.ensures.value c.put.ensures.puts;
      files = c.read_and_answer.ensures.same;
    }

pub returns-in-Err-put : goal.returns-in-Err-put
returns-in-Err-put g c =
    let before = sink_state g.O.Sink.written g.O.Sink.faults c.args.out.now in
    let after = sink_state g.O.Sink.written g.O.Sink.faults c.put.new.self in
    record {
      text = c.in-Ok.answer.text.items;
      counts = string_bytes c.in-Ok.answer.counts;
      answer = c.in-Ok.ensures.answer;
      rose = c.in-Err-put.ensures.cause.failed;
      prefix = put_prefix before after _ _ _ _ c.in-Err-put.is c.deref.ensures.value c.put.ensures.puts;
      files = c.read_and_answer.ensures.same;
    }
