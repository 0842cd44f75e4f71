-- The plan of an algebra over data, and the plans that it may have whatever the order in which patterns are joined.
use Rattle.std.specs.Prelude.{◌≡◌, ℕ, zero, suc, Bool, not, ◌&&◌, ◌||◌, nat_le, if◌then◌else◌, List, [], ◌∷◌, ◌++◌, length, map, Option, Some, None}
use Rattle.std.specs.List.{list_any}
use Rattle.std.specs.FinMap as finmap
use Rattle.term_core.specs.declared.term.Triple.{Triple}
use Rattle.term_core.specs.Bags.{HaveSame}
use Rattle.term_core.specs.Mappings.{Name, has_name}
use Rattle.term_core.specs.Patterns.{Pattern, names_in, pattern_of}
use Rattle.term_core.specs.Index.{range}
use Rattle.sparql_tree.specs.Algebra.{Algebra, Bgp, Join, LeftJoin, Minus, Union, Filter, Extend, Table}
use Rattle.plan_tree.specs.Trace.{Plan, rows_plan, join_plan, union_plan, filter_plan, bind_plan, project_plan}

-- the patterns joined to a plan, in their order
abbrev pub joined_onto : Plan → List Pattern → Plan
joined_onto plan [] = plan
joined_onto plan (p ∷ ps) = joined_onto (join_plan plan p) ps

-- the table of one empty row, to which the patterns of a basic graph pattern are joined
abbrev pub one_row : Plan
one_row = rows_plan [] (finmap.empty ∷ [])

-- the patterns of a basic graph pattern
abbrev pub patterns_of : Algebra → Option (List Pattern)
patterns_of (Bgp patterns) = Some (map pattern_of patterns)
patterns_of a = None

-- the patterns, in whatever order, joined to one of these plans
abbrev pub IsOnto : List Pattern → (Plan → Type 0) → Plan → Type 0
IsOnto ps IsBelow plan = (below : Plan) × (qs : List Pattern) × IsBelow below × HaveSame ps qs × (plan ≡ joined_onto below qs)

-- the patterns of one side joined to a plan of the other: to the left one's where both sides have patterns
abbrev pub IsJoined : (left right : Option (List Pattern)) → (Plan → Type 0) → (Plan → Type 0) → Plan → Type 0
IsJoined left (Some ps) IsLeft IsRight plan = IsOnto ps IsLeft plan
IsJoined (Some ps) None IsLeft IsRight plan = IsOnto ps IsRight plan
IsJoined None None IsLeft IsRight plan = ⊥

-- a plan of an algebra, whatever the order in which the patterns of each basic graph pattern are joined
abbrev pub IsPlan : Algebra → Plan → Type 0
IsPlan (Bgp patterns) plan = (qs : List Pattern) × HaveSame (map pattern_of patterns) qs × (plan ≡ joined_onto one_row qs)
IsPlan (Join left right) plan = IsJoined (patterns_of left) (patterns_of right) (λ below. IsPlan left below) (λ below. IsPlan right below) plan
IsPlan (LeftJoin left right condition) plan = ⊥
IsPlan (Minus left right) plan = ⊥
IsPlan (Union left right) plan = (first : Plan) × (second : Plan) × IsPlan left first × IsPlan right second × (plan ≡ union_plan first second)
IsPlan (Filter condition inner) plan = (below : Plan) × IsPlan inner below × (plan ≡ filter_plan below condition)
IsPlan (Extend inner variable e) plan = (below : Plan) × IsPlan inner below × (plan ≡ bind_plan below variable e)
IsPlan (Table variables rows) plan = plan ≡ rows_plan variables rows

-- how many triples agree with a pattern's terms; the values of a name that stands twice are not compared
abbrev pub count : List Triple → Pattern → ℕ
count D p = length (range D p finmap.empty)

-- the names that rows of a plan may bind
abbrev pub scope_of : Plan → List Name
scope_of (rows_plan variables rows) = variables
scope_of (join_plan left p) = scope_of left ++ names_in p
scope_of (union_plan first second) = scope_of first ++ scope_of second
scope_of (filter_plan inner condition) = scope_of inner
scope_of (bind_plan inner variable e) = scope_of inner ++ variable ∷ []
scope_of (project_plan inner names) = names

-- a pattern and its count
abbrev pub counted : List Triple → Pattern → Pattern × ℕ
counted D p = (p, count D p)

-- whether a pattern shares a name with those in scope
abbrev pub shares : (Name → Bool) → Pattern → Bool
shares in_scope p = list_any in_scope (names_in p)

-- the names in scope, and these besides
abbrev pub wider : (Name → Bool) → List Name → Name → Bool
wider in_scope names name = in_scope name || has_name names name

-- whether a pattern is joined before one that stands behind it: where one of the two alone shares a name, that one is, and
-- else the one with the lesser count, and of equal ones the first
abbrev pub comes_first : (Name → Bool) → Pattern × ℕ → Pattern × ℕ → Bool
comes_first in_scope p q =
    if shares in_scope p.0 then (not (shares in_scope q.0) || nat_le p.1 q.1) else (not (shares in_scope q.0) && nat_le p.1 q.1)

-- the pattern that is joined next, and the others in their order
abbrev pub taken : (Name → Bool) → Pattern × ℕ → List (Pattern × ℕ) → (Pattern × ℕ) × List (Pattern × ℕ)
taken in_scope p [] = (p, [])
taken in_scope p (q ∷ qs) =
    let rest = taken in_scope q qs in
    if comes_first in_scope p rest.0 then (p, q ∷ qs) else (rest.0, p ∷ rest.1)

-- the patterns in the order in which they are joined, up to so many
abbrev pub ordered : ℕ → (Name → Bool) → List (Pattern × ℕ) → List Pattern
ordered zero in_scope ps = []
ordered (suc n) in_scope [] = []
ordered (suc n) in_scope (p ∷ ps) =
    let next = taken in_scope p ps in
    next.0.0 ∷ ordered n (wider in_scope (names_in next.0.0)) next.1

-- all of these patterns joined to a plan, the next one always by its names and its count
abbrev pub counted_onto : Plan → List (Pattern × ℕ) → Plan
counted_onto below ps = joined_onto below (ordered (length ps) (has_name (scope_of below)) ps)

-- the patterns joined to a plan by their counts in the data
abbrev pub ordered_onto : List Triple → Plan → List Pattern → Plan
ordered_onto D below ps = counted_onto below (map (counted D) ps)

-- the patterns of one side joined to the plan of the other; where neither side has patterns, servers do not evaluate the join
abbrev pub join_of : List Triple → (left right : Option (List Pattern)) → Plan → Plan → Plan
join_of D left (Some ps) first second = ordered_onto D first ps
join_of D (Some ps) None first second = ordered_onto D second ps
join_of D None None first second = one_row

-- the plan of an algebra over the data; operators that servers do not evaluate have none
abbrev pub plan_of : List Triple → Algebra → Plan
plan_of D (Bgp patterns) = ordered_onto D one_row (map pattern_of patterns)
plan_of D (Join left right) = join_of D (patterns_of left) (patterns_of right) (plan_of D left) (plan_of D right)
plan_of D (LeftJoin left right condition) = one_row
plan_of D (Minus left right) = one_row
plan_of D (Union left right) = union_plan (plan_of D left) (plan_of D right)
plan_of D (Filter condition inner) = filter_plan (plan_of D inner) condition
plan_of D (Extend inner variable e) = bind_plan (plan_of D inner) variable e
plan_of D (Table variables rows) = rows_plan variables rows

-- the plan of a query: that of its algebra, restricted to its variables
abbrev pub query_plan : List Triple → Algebra → List Name → Plan
query_plan D a variables = project_plan (plan_of D a) variables
