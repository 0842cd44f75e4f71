use Rattle.std.proofs.lemmas.Str.Pattern.{contains_text}
use Rattle.expr_eval.proofs.Occurs.{occurs}
use Rattle.expr_eval.proofs.functions.has_text.Goals as goal

pub returns : goal.returns
returns c = occurs c.contains.result c.args.text.now c.args.needle.now (contains_text c.contains.result c.args.needle.now c.args.text.now c.contains.ensures.cases)
