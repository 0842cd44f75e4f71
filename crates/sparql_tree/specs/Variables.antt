-- The variables that are in scope of an operator of the algebra (SPARQL 1.1, 18.2.1), in the order in which they first appear.
use Rattle.std.specs.Prelude.{List, [], ◌∷◌, ◌++◌, flat_map}
use Rattle.term_core.specs.Mappings.{Name, same_name}
use Rattle.term_core.specs.Bags.{distinct}
use Rattle.sparql_tree.specs.Algebra.{Algebra, Bgp, Join, LeftJoin, Minus, Union, Filter, Extend, Table}
use Rattle.sparql_tree.specs.Scopes.{variables_in}

-- each place at which one appears: not in an expression, nor in the group of MINUS
abbrev pub in_scope : Algebra → List Name
in_scope (Bgp patterns) = flat_map variables_in patterns
in_scope (Join left right) = in_scope left ++ in_scope right
in_scope (LeftJoin left right condition) = in_scope left ++ in_scope right
in_scope (Minus left right) = in_scope left
in_scope (Union left right) = in_scope left ++ in_scope right
in_scope (Filter condition inner) = in_scope inner
in_scope (Extend inner variable value) = in_scope inner ++ variable ∷ []
in_scope (Table variables rows) = variables

-- each once, at its first place
abbrev pub variables : Algebra → List Name
variables a = distinct same_name (in_scope a)
