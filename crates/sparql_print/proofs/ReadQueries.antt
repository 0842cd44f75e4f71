-- Each expression of a query that is read of a text reads back when it is printed, and each of its variables is the name of one.
use Rattle.std.proofs.Common.{ℕ, List}
use Rattle.term_core.specs.Bags.{In}
use Rattle.term_core.specs.Mappings.{Name}
use Rattle.sparql_tree.specs.Groups.{Query}
use Rattle.sparql_tree.specs.Queries.{variables}
use Rattle.sparql_tree.specs.Scopes.{scope_of_group}
use Rattle.sparql_tree.specs.Trees.{IsTree}
use Rattle.sparql_print.specs.Constraints.{ReadsBack}
use Rattle.sparql_print.specs.QueryExpressions.{EachExpression}
use Rattle.sparql_print.specs.Spelled.{IsSpelledName}
use Rattle.sparql_print.proofs.Constraints.{text-spells}
use Rattle.sparql_print.proofs.QueryExpressions.{query-each}
use Rattle.sparql_print.proofs.SpelledExprs.{expr-spelled}
use Rattle.sparql_print.proofs.SpelledNames.{HasSpelledNames, name-among}
use Rattle.sparql_print.proofs.SpelledTokens.{text-spelled}

both : (text : List ℕ) (query : Query) → IsTree text query → EachExpression ReadsBack query × HasSpelledNames query
both text query h =
    query-each ReadsBack (λ b ts rest a e k. text-spells b a (record { tokens = ts; rest = rest; spelled = e }) (expr-spelled e k).0)
    h.symbols query h.spelled (text-spelled text h.symbols h.are_symbols)

pub query-reads-back : (text : List ℕ) (query : Query) → IsTree text query → EachExpression ReadsBack query
query-reads-back text query h = (both text query h).0

pub item-names : (text : List ℕ) (query : Query) → IsTree text query → (name : Name) → In (variables query.items) name → IsSpelledName name
item-names text query h = name-among (variables query.items) (both text query h).1.items

pub scope-names : (text : List ℕ) (query : Query) → IsTree text query → (name : Name) → In (scope_of_group query.body) name → IsSpelledName name
scope-names text query h = name-among (scope_of_group query.body) (both text query h).1.scope
