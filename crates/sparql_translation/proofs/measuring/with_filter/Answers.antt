use Rattle.std.proofs.Common.{◌++◌, ◌∷◌, [], subst, sym}
use Rattle.std.proofs.lemmas.List.{append-nil}
use Rattle.sparql_translation.specs.Measures.{AreSums}
use Rattle.sparql_translation.proofs.Elements.{filter_there, no_filter}
use Rattle.sparql_translation.proofs.measuring.with_filter.Goals as goal

pub returns-in-Filter : goal.returns-in-Filter
returns-in-Filter c = λ es h. subst (λ fs. AreSums c.with_expression.result (es ++ fs)) (sym (filter_there _ _ c.in-Filter.is)) (c.with_expression.ensures es h)

pub returns-in_default : goal.returns-in_default
returns-in_default c = λ es h. subst (λ fs. AreSums c.args.sums (es ++ fs)) (sym (no_filter c.args.element.now c.in_default.not-Filter)) (subst (AreSums c.args.sums) (sym (append-nil es)) h)
