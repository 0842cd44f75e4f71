use Rattle.std.proofs.Common.{◌≡◌, drop, map}
use Rattle.httparse.specs.Spans.{header_bytes}
use Rattle.http_core.specs.Fields.{has_field}
use Rattle.http_core.proofs.fields.has_field.Given as goal

abbrev pub invariant-loop-field : goal.invariant-loop-field
invariant-loop-field l = has_field l.name (map (header_bytes l.buf) (drop l.field-index l.fields)) ≡ has_field l.name (map (header_bytes l.buf) l.fields)
