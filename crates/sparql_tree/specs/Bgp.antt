-- Basic graph patterns and their solutions (SPARQL 1.1, sections 18.1.6 and 18.3).
use Rattle.std.specs.Prelude.{◌≡◌, List, [], ◌∷◌, map, Option, Some, None, Bool, true, false, not, ◌==◌, ◌&&◌, flat_map, filter}
use Rattle.std.specs.List.{list_any, list_all}
use Rattle.std.specs.FinMap as finmap
use Rattle.term_core.specs.declared.term.Term.{Term}
use Rattle.term_core.specs.declared.term.Triple.{Triple}
use Rattle.term_core.specs.Bags.{In, distinct}
use Rattle.term_core.specs.Mappings.{Name, Row, value, same_name, same_term}
use Rattle.term_core.specs.Patterns.{Pattern, names_in, filled}
use Rattle.term_core.specs.Data.{terms_of}

-- the variables and blank nodes of the patterns, each once
abbrev pub names_of : List Pattern → List Name
names_of ps = distinct same_name (flat_map names_in ps)

-- all functions from the names to the terms, each once
abbrev pub assignments : List Name → List Term → List Row
assignments [] terms = finmap.empty ∷ []
assignments (name ∷ names) terms = flat_map (λ row. map (finmap.insert row name) terms) (assignments names terms)

-- whether a value is there and is the term
abbrev pub is_term : Option Term → Term → Bool
is_term None term = false
is_term (Some other) term = same_term other term

-- whether the pattern becomes the triple under the row (SPARQL 1.1, 18.3.1: a pattern instance mapping)
abbrev pub becomes : Row → Pattern → Triple → Bool
becomes row p t = is_term (filled row p.subject) t.subject && (is_term (filled row p.predicate) t.predicate && is_term (filled row p.object) t.object)

-- whether every pattern becomes a triple of the data under the row (SPARQL 1.1, 18.3.1)
abbrev pub solves : List Triple → List Pattern → Row → Bool
solves D ps row = list_all (λ p. list_any (becomes row p) D) ps

-- the functions from the names to the data's terms under which every pattern becomes a triple (SPARQL 1.1, 18.3.1)
abbrev pub full_solutions : List Triple → List Pattern → List Row
full_solutions D ps = filter (solves D ps) (assignments (names_of ps) (terms_of D))

-- whether a name is a blank node's: it begins with `_:` (SPARQL 1.1, 4.1.4)
abbrev pub is_label : Name → Bool
is_label (a ∷ b ∷ label) = (a == 95) && (b == 58)
is_label name = false

-- whether a name is a variable's, which has no colon (SPARQL 1.1, 19.8, VARNAME)
abbrev pub is_variable : Name → Bool
is_variable name = not (is_label name)

-- a row restricted to the variables (SPARQL 1.1, 18.3.1)
abbrev pub visible : Row → Row
visible row = finmap.retain_keys row is_variable

-- the solutions of a basic graph pattern: the full ones without the values of blank nodes (SPARQL 1.1, 18.3.1)
abbrev pub solutions : List Triple → List Pattern → List Row
solutions D ps = map visible (full_solutions D ps)

-- a name that stands in one of the patterns
abbrev pub Names : List Pattern → Name → Type 0
Names ps name = (p : Pattern) × In ps p × In (names_in p) name

-- a full solution, said without a list of candidates (SPARQL 1.1, 18.3.1)
pub record IsFull (D : List Triple) (ps : List Pattern) (row : Row) : Type 0 where
  -- only names of the patterns have a value
  pub within : (name : Name) (t : Term) → value row name ≡ Some t → Names ps name
  -- each pattern becomes some triple of the data
  pub made : (p : Pattern) → In ps p → (t : Triple) × In D t × (becomes row p t ≡ true)
