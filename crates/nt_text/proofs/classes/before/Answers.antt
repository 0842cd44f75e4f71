use Rattle.std.proofs.Common.{◌∙◌, length, ◌-◌}
use Rattle.nt_text.proofs.Cut.{cut_before, range_front}
use Rattle.nt_text.proofs.classes.before.Goals as goal

pub overflow_sub-text : goal.overflow_sub-text
overflow_sub-text c = (cut_before c.args.text.now c.args.rest.now c.requires.0 c.utf8.text c.utf8.rest c.requires.1).fits

pub range-requires-clause-end_boundary : goal.range-requires-clause-end_boundary
range-requires-clause-end_boundary c = (cut_before c.args.text.now c.args.rest.now c.requires.0 c.utf8.text c.utf8.rest c.requires.1).boundary

pub returns : goal.returns
returns c = c.range.ensures.value ∙ range_front c.args.text.now (length c.args.text.now - length c.args.rest.now) ∙ (cut_before c.args.text.now c.args.rest.now c.requires.0 c.utf8.text c.utf8.rest c.requires.1).front
