-- What stands in an operand.
use Rattle.std.specs.Prelude.{Bool, List}
use Rattle.term_core.specs.Mappings.{Name}
use Rattle.sparql_tree.specs.Exprs.{Expr}
use Rattle.sparql_tree.specs.Scopes.{outside}

-- the variables of an operand that stand outside aggregates
abbrev pub outside_operand : Bool × Expr → List Name
outside_operand operand = outside operand.1
