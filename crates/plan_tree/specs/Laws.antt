-- What is proved of plans.
use Rattle.std.specs.Prelude.{◌≡◌, ◌<◌, List, [], ◌∷◌, ◌++◌, map, flat_map, Some, None, true, ◌⊎◌}
use Rattle.std.specs.FinMap as finmap
use Rattle.term_core.specs.declared.term.Term.{Term}
use Rattle.term_core.specs.declared.term.Triple.{Triple}
use Rattle.term_core.specs.Bags.{SameBag, In, HaveSame}
use Rattle.term_core.specs.Mappings.{Name, Row, value, restricted}
use Rattle.term_core.specs.Patterns.{Pattern, names_in, agrees}
use Rattle.sparql_tree.specs.Algebra.{Algebra, Bgp, Join, LeftJoin, Minus, Union, Filter, Extend, Table, is_server}
use Rattle.sparql_tree.specs.Bgp.{becomes, is_variable, solutions}
use Rattle.sparql_tree.specs.Scopes.{variables_in, labels_in, outside}
use Rattle.sparql_value.specs.Solutions.{eval}
use Rattle.sparql_tree.specs.Answer.{IsAnswer}
use Rattle.plan_tree.specs.Plans.{IsPlan, plan_of}
use Rattle.plan_tree.specs.Trace.{Plan, rows_plan, join_plan, project_plan, extended, made_of, Entries, trace, steps, rows_of}

-- a row that has what another has, and besides the values under which the pattern becomes the triple
pub record IsExtended (p : Pattern) (row : Row) (t : Triple) (k : Row) : Type 0 where
  pub more : (name : Name) (s : Term) → value row name ≡ Some s → value k name ≡ Some s
  pub only : (name : Name) (s : Term) → value k name ≡ Some s → (value row name ≡ Some s) ⊎ In (names_in p) name
  pub made : becomes k p t ≡ true

-- the entry of a triple that agrees is the row that extends, and nothing exactly where there is none
pub record ExtendedIs (p : Pattern) (row : Row) (t : Triple) (k : Row) : Type 0 where
  pub to : agrees p row t ≡ true → extended p row t ≡ Some k → IsExtended p row t k
  pub from : IsExtended p row t k → (agrees p row t ≡ true) × (extended p row t ≡ Some k)

-- so it is for each pattern, row and triple
abbrev pub EntriesExtend : Type 0
EntriesExtend = (p : Pattern) (row : Row) (t : Triple) (k : Row) → ExtendedIs p row t k

-- every trace ends with an entry without a row
abbrev pub TracesEnd : Type 0
TracesEnd = (D : List Triple) (plan : Plan) → (entries : Entries) × (trace D plan ≡ entries ++ None ∷ [])

-- so a plan takes at least one step
abbrev pub SomeSteps : Type 0
SomeSteps = (D : List Triple) (plan : Plan) → 0 < steps D plan

-- the rows of one pattern's plan are those that its triples make of the empty row, restricted
abbrev pub RowsOfPattern : Type 0
RowsOfPattern = (D : List Triple) (p : Pattern) (names : List Name) →
    rows_of (trace D (project_plan (join_plan (rows_plan [] (finmap.empty ∷ [])) p) names)) ≡ map (restricted names) (made_of D p finmap.empty)

-- only which triples there are counts, not their order or repeats
abbrev pub TracesOfSets : Type 0
TracesOfSets = (D E : List Triple) (plan : Plan) → HaveSame D E → trace D plan ≡ trace E plan

-- each of the names is a variable's, as those of a SELECT clause are (SPARQL 1.1, 19.8, SelectClause)
abbrev pub AreVariables : List Name → Type 0
AreVariables names = (name : Name) → In names name → is_variable name ≡ true

-- the labels of blank nodes in an algebra's basic graph patterns
abbrev pub labels_of : Algebra → List Name
labels_of (Bgp patterns) = flat_map labels_in patterns
labels_of (Join left right) = labels_of left ++ labels_of right
labels_of (LeftJoin left right condition) = labels_of left ++ labels_of right
labels_of (Minus left right) = labels_of left ++ labels_of right
labels_of (Union left right) = labels_of left ++ labels_of right
labels_of (Filter condition inner) = labels_of inner
labels_of (Extend inner variable e) = labels_of inner
labels_of (Table variables rows) = []

-- rows bind variables alone
abbrev pub BindVariables : List Row → Type 0
BindVariables rows = (row : Row) (name : Name) (t : Term) → In rows row → value row name ≡ Some t → is_variable name ≡ true

-- An algebra as servers get it: its variables are named as such, also in expressions and in tables, and no label of a blank
-- node stands in two basic graph patterns that are joined (SPARQL 1.1, 19.6).
abbrev pub IsProper : Algebra → Type 0
IsProper (Bgp patterns) = AreVariables (flat_map variables_in patterns)
IsProper (Join left right) = IsProper left × IsProper right × ((label : Name) → In (labels_of left) label → In (labels_of right) label → ⊥)
IsProper (LeftJoin left right condition) = IsProper left × IsProper right
IsProper (Minus left right) = IsProper left × IsProper right
IsProper (Union left right) = IsProper left × IsProper right
IsProper (Filter condition inner) = AreVariables (outside condition) × IsProper inner
IsProper (Extend inner variable e) = IsProper inner × (is_variable variable ≡ true) × AreVariables (outside e)
IsProper (Table variables rows) = BindVariables rows

-- a plan's rows are the solutions of its algebra, equally often (SPARQL 1.1, 18.6)
abbrev pub BagIsKept : Type 0
BagIsKept = (L D : List Triple) (a : Algebra) (plan : Plan) (names : List Name) → HaveSame L D → IsProper a → IsPlan a plan → AreVariables names
    → SameBag (rows_of (trace D (project_plan plan names))) (map (restricted names) (eval L a))

-- a plan's rows answer the query over any list of the same triples (SPARQL 1.1, 18.5, Project)
abbrev pub RowsAnswer : Type 0
RowsAnswer = (L D : List Triple) (a : Algebra) (plan : Plan) (names : List Name) → HaveSame L D → IsProper a → IsPlan a plan → AreVariables names
    → IsAnswer (eval L a) names (rows_of (trace D (project_plan plan names)))

-- the plan of an algebra that servers evaluate is one of its plans
abbrev pub PlanIsOne : Type 0
PlanIsOne = (D : List Triple) (a : Algebra) → is_server a ≡ true → IsPlan a (plan_of D a)

-- and it is the same over all lists of the same triples
abbrev pub PlansOfSets : Type 0
PlansOfSets = (D E : List Triple) (a : Algebra) → HaveSame D E → plan_of D a ≡ plan_of E a

-- the same for one pattern
abbrev pub PatternAnswers : Type 0
PatternAnswers = (L D : List Triple) (p : Pattern) (names : List Name) → HaveSame L D → AreVariables names
    → IsAnswer (solutions L (p ∷ [])) names (rows_of (trace D (project_plan (join_plan (rows_plan [] (finmap.empty ∷ [])) p) names)))
