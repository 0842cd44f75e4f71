use Rattle.sparql_print.proofs.TranslatedScopes.{group-scope}
use Rattle.sparql_print.proofs.law.translation_keeps_scope.Goals as goal

pub returns : goal.returns
returns c = group-scope
