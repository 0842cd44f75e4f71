-- The text in which a plan is shown.
use Rattle.std.specs.Prelude.{ℕ, List, [], ◌∷◌, ◌++◌, codes, flat_map, length}
use Rattle.std.specs.Fmt.{decimal}
use Rattle.term_core.specs.Mappings.{Name}
use Rattle.term_core.specs.declared.pattern.Pattern.{Pattern}
use Rattle.sparql_tree.specs.ExprTrees.{tree_of}
use Rattle.sparql_print.specs.ExprText.{spaced, expr_text}
use Rattle.sparql_print.specs.PartText.{place_text, variable_text}
use Rattle.plan_tree.specs.declared.plan.Plan.{Plan}
use Rattle.plan_tree.specs.declared.plan.Plan.TheVariants as plans

-- a triple pattern without its point
abbrev pub triple_text : Pattern → List ℕ
triple_text p = spaced (place_text p.subject) (spaced (place_text p.predicate) (place_text p.object))

-- a variable behind others
abbrev pub variable_behind : Name → List ℕ
variable_behind name = 32 ∷ variable_text name

-- the variables of a projection behind its plan, if there are any
abbrev pub variables_behind : List Name → List ℕ
variables_behind [] = []
variables_behind (name ∷ names) = codes ", " ++ (variable_text name ++ flat_map variable_behind names)

-- a plan: a table by how many rows it has, each other operator by its name and, in parentheses, what it stands on and has
unfoldable pub plan_text : Plan → List ℕ
plan_text (plans.Table variables rows) = codes "table(" ++ (decimal (length rows) ++ codes ")")
plan_text (plans.Join' p left pattern) = codes "join(" ++ (plan_text left ++ (codes ", " ++ (triple_text pattern ++ codes ")")))
plan_text (plans.Union' p first q second) = codes "union(" ++ (plan_text first ++ (codes ", " ++ (plan_text second ++ codes ")")))
plan_text (plans.Filter' p inner condition) = codes "filter(" ++ (plan_text inner ++ (codes ", " ++ (expr_text (tree_of condition) ++ codes ")")))
plan_text (plans.Bind' p inner variable value) =
    codes "bind(" ++ (plan_text inner ++ (codes ", " ++ (expr_text (tree_of value) ++ (codes ", " ++ (variable_text variable ++ codes ")")))))
plan_text (plans.Project' p inner variables) = codes "project(" ++ (plan_text inner ++ (variables_behind variables ++ codes ")"))
