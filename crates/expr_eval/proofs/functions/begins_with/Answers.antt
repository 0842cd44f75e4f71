use Rattle.std.proofs.lemmas.Str.Pattern.{starts_text}
use Rattle.expr_eval.proofs.functions.begins_with.Goals as goal

pub returns : goal.returns
returns c = starts_text c.starts_with.result c.args.needle.now c.args.text.now c.starts_with.ensures.cases
