use Rattle.std.specs.Str.{chars}
use Rattle.nt_text.proofs.Documents.{next_line, fault_passes, all_read, fewer}
use Rattle.nt_text.proofs.document.read_lines.Goals as goal

pub returns-in-Err : goal.returns-in-Err
returns-in-Err c = fault_passes c.in-Err.fault c.lines.number c.lines.triples c.add_line.new.triples (chars c.in-Some.rest.now) (chars c.cut_line.result.0.now) _ c.cut_line.ensures.line c.in-Err.ensures (rw c.in-Some.is at c.lines.invariant.so_far)

pub lines-preserved : goal.lines-preserved
lines-preserved c = record {
  so_far = next_line c.lines.number c.lines.triples c.add_line.new.triples (chars c.in-Some.rest.now) (chars c.cut_line.result.0.now) _ _ c.cut_line.ensures.line c.cut_line.ensures.behind c.in-Ok.ensures (rw c.in-Some.is at c.lines.invariant.so_far);
  few = fewer c.lines.number c.in-Some.rest.now c.cut_line.result.1 c.args.text.now c.cut_line.ensures.shorter (rw c.in-Some.is at c.lines.invariant.few);
}

pub returns : goal.returns
returns c = all_read c.lines.number c.lines.triples _ (rw c.in_default.is at c.lines.invariant.so_far)
