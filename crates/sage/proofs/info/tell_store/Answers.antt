use Rattle.sage.specs.World.{sink_state}
use Rattle.sage.proofs.Sinks.{put_got, put_prefix}
use Rattle.sage.proofs.StoreFiles.{told_of, told_in_part}
use Rattle.sage.proofs.info.tell_store.Goals as goal

pub returns-in-Ok-put : goal.returns-in-Ok-put
returns-in-Ok-put g c =
    let before = sink_state g.O.Sink.written g.O.Sink.faults c.args.out.now in
    let after = sink_state g.O.Sink.written g.O.Sink.faults c.put.new.self in (
      record {
        told = record {
          there = c.in-Ok.ensures.lines.there;
          holds = λ file tells. told_of file c.in-Ok.lines.items before after (c.in-Ok.ensures.lines.holds file tells) (put_got before after _ _ _ _ c.in-Ok-put.is c.deref.ensures.value c.put.ensures.puts);
        };
        files = c.file_lines.ensures.same;
      },
      c.nothing.ensures,
    )

pub returns-in-Ok : goal.returns-in-Ok
returns-in-Ok g c =
    let before = sink_state g.O.Sink.written g.O.Sink.faults c.args.out.now in
    let after = sink_state g.O.Sink.written g.O.Sink.faults c.put.new.self in
    record {
      rose = c.in-Err-put.ensures.cause.failed;
      prefix = record {
        there = c.in-Ok.ensures.lines.there;
        holds = λ file tells. told_in_part file c.in-Ok.lines.items before after (c.in-Ok.ensures.lines.holds file tells) (put_prefix before after _ _ _ _ c.in-Err-put.is c.deref.ensures.value c.put.ensures.puts);
      };
      files = c.file_lines.ensures.same;
    }
