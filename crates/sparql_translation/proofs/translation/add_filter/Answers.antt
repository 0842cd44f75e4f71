use Rattle.std.proofs.Common.{◌≡◌, ◌∙◌, ◌++◌, subst, sym, ap}
use Rattle.std.specs.Result.{OnOk}
use Rattle.std.proofs.lemmas.List.{append-nil}
use Rattle.sparql_tree.specs.ExprTrees.{trees_of}
use Rattle.sparql_translation.proofs.Elements.{filter_there, no_filter}
use Rattle.sparql_translation.proofs.translation.add_filter.Goals as goal

pub returns-in-Filter : goal.returns-in-Filter
returns-in-Filter c =
    subst (λ fs. OnOk c.add_copy.result (trees_of c.add_copy.new.found.items ≡ trees_of c.args.found.now.items ++ fs)) (sym (filter_there _ _ c.in-Filter.is)) c.add_copy.ensures

pub returns-in_default : goal.returns-in_default
returns-in_default c =
    sym (ap (λ fs. trees_of c.args.found.now.items ++ fs) (no_filter c.args.part.now c.in_default.not-Filter) ∙ append-nil (trees_of c.args.found.now.items))
