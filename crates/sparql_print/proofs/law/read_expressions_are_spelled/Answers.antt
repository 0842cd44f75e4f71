use Rattle.sparql_print.proofs.SpelledExprs.{expr-spelled}
use Rattle.sparql_print.proofs.SpelledTokens.{text-spelled}
use Rattle.sparql_print.proofs.law.read_expressions_are_spelled.Goals as goal

pub returns : goal.returns
returns c = record { symbols = text-spelled; expressions = λ aggregates symbols rest a k h. expr-spelled h k }
