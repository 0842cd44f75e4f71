-- Plans, and what the engine gives for each, step by step.
use Rattle.std.specs.Prelude.{ℕ, List, [], ◌∷◌, ◌++◌, length, map, flat_map, Option, Some, None, cond}
use Rattle.std.specs.List.{filter_map}
use Rattle.std.specs.FinMap as finmap
use Rattle.term_core.specs.declared.term.Term.{Term}
use Rattle.term_core.specs.declared.term.Triple.{Triple}
use Rattle.term_core.specs.Mappings.{Name, Row, value, same_term, restricted}
use Rattle.term_core.specs.Patterns.{Position, Known, Named, Pattern}
use Rattle.term_core.specs.Index.{range}
use Rattle.sparql_tree.specs.Exprs.{Expr}
use Rattle.sparql_value.specs.Evaluation.{value_under, is_true_under}
use Rattle.sparql_value.specs.Solutions.{with_value}

-- a plan: a table of rows; the join of a plan's rows with a pattern; the rows of two plans; the rows of a plan on which a
-- condition is true; a plan's rows with an expression's value under a variable; a plan's rows restricted to names
pub data Plan : Type 0 where
  rows_plan : (variables : List Name) (rows : List Row) → Plan
  join_plan : (left : Plan) (p : Pattern) → Plan
  union_plan : (first second : Plan) → Plan
  filter_plan : (inner : Plan) (condition : Expr) → Plan
  bind_plan : (inner : Plan) (variable : Name) (e : Expr) → Plan
  project_plan : (inner : Plan) (names : List Name) → Plan

-- a row with a name bound to a term, or nothing where the name has another value
abbrev pub put : Row → Name → Term → Option Term → Option Row
put row name term None = Some (finmap.insert row name term)
put row name term (Some other) = cond (same_term other term) (Some row) None

-- a row with the name at a position, if any, bound to a term
abbrev pub bind_at : Position → Term → Option Row → Option Row
bind_at (Known other) term row = row
bind_at (Named name) term None = None
bind_at (Named name) term (Some row) = put row name term (value row name)

-- the entry of a triple: the row with the pattern's names bound, or nothing where one name would get two values
abbrev pub extended : Pattern → Row → Triple → Option Row
extended p row t = bind_at p.object t.object (bind_at p.predicate t.predicate (bind_at p.subject t.subject (Some row)))

-- the rows that a pattern makes of one row
abbrev pub made_of : List Triple → Pattern → Row → List Row
made_of D p row = filter_map (extended p row) (range D p row)

-- what a plan gives in each of its steps: a row or nothing
abbrev pub Entries : Type 0
Entries = List (Option Row)

-- the entries that a row makes of triples that are still to come, and one at their end
abbrev pub triple_entries : Pattern → Row → List Triple → Entries
triple_entries p row ts = map (extended p row) ts ++ None ∷ []

-- what a join makes of one entry of its left side
abbrev pub join_entries : List Triple → Pattern → Option Row → Entries
join_entries D p None = None ∷ []
join_entries D p (Some row) = None ∷ triple_entries p row (range D p row)

-- an entry whose row, if any, is changed
abbrev pub changed : (Row → Row) → Option Row → Option Row
changed f None = None
changed f (Some row) = Some (f row)

-- an entry whose row, if any, is kept where the condition is true: not where it is an error (SPARQL 1.1, 17.2)
abbrev pub kept : Expr → Option Row → Option Row
kept condition None = None
kept condition (Some row) = cond (is_true_under condition row) (Some row) None

-- a row with an expression's value under a variable, or as it is where that is the error (SPARQL 1.1, 18.5, Extend)
abbrev pub extended_by : Name → Expr → Row → Row
extended_by variable e row = with_value variable (value_under e row) row

-- the entries of a plan over the data
abbrev pub trace : List Triple → Plan → Entries
trace D (rows_plan variables rows) = map Some rows ++ None ∷ []
trace D (join_plan left p) = flat_map (join_entries D p) (trace D left)
trace D (union_plan first second) = trace D first ++ trace D second
trace D (filter_plan inner condition) = map (kept condition) (trace D inner)
trace D (bind_plan inner variable e) = map (changed (extended_by variable e)) (trace D inner)
trace D (project_plan inner names) = map (changed (restricted names)) (trace D inner)

-- how many steps a plan takes
abbrev pub steps : List Triple → Plan → ℕ
steps D plan = length (trace D plan)

-- the rows among entries, in their order
abbrev pub rows_of : Entries → List Row
rows_of [] = []
rows_of (None ∷ entries) = rows_of entries
rows_of (Some row ∷ entries) = row ∷ rows_of entries
