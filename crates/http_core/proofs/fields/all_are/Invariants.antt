use Rattle.std.proofs.Common.{◌≡◌, drop, map}
use Rattle.httparse.specs.Spans.{header_bytes}
use Rattle.http_core.specs.Fields.{all_are}
use Rattle.http_core.proofs.fields.all_are.Given as goal

abbrev pub invariant-loop-field : goal.invariant-loop-field
invariant-loop-field l = all_are l.name l.value (map (header_bytes l.buf) (drop l.field-index l.fields)) ≡ all_are l.name l.value (map (header_bytes l.buf) l.fields)
