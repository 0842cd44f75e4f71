-- Solution mappings: compatible ones, their merges and joins (SPARQL 1.1, sections 18.1.8, 18.3 and 18.5).
use Rattle.std.specs.Prelude.{◌≡◌, ℕ, List, [], ◌∷◌, Option, Some, None, Bool, true, cond, flat_map, ◌⊎◌}
use Rattle.std.specs.List.{list_any, list_all, filter_map}
use Rattle.std.specs.Ordering.{eq_by_cmp}
use Rattle.std.specs.FinMap as map
use Rattle.term_core.specs.declared.term.Term.{Term}
use Rattle.term_core.specs.Order.{bytes_cmp, term_cmp}
use Rattle.term_core.specs.Bags.{In}

-- a name, by its bytes
abbrev pub Name : Type 0
Name = List ℕ

-- a solution mapping: a partial function from names to terms (SPARQL 1.1, section 18.1.8)
abbrev pub Row : Type 0
Row = map.FinMap bytes_cmp Term

-- the term of a name, if it is bound
abbrev pub value : Row → Name → Option Term
value row name = map.get row name

-- whether two names are one
abbrev pub same_name : Name → Name → Bool
same_name a b = eq_by_cmp bytes_cmp a b

-- whether two terms are one (RDF 1.1 Concepts, sections 3.2 to 3.4: equal character by character)
abbrev pub same_term : Term → Term → Bool
same_term a b = eq_by_cmp term_cmp a b

-- whether a name is among some
abbrev pub has_name : List Name → Name → Bool
has_name names name = list_any (same_name name) names

-- whether two values of a name agree, where both are there
abbrev pub do_agree : Option Term → Option Term → Bool
do_agree None other = true
do_agree (Some term) None = true
do_agree (Some term) (Some other) = same_term term other

-- two rows agree on the names that both have (SPARQL 1.1, section 18.3, compatible mappings)
abbrev pub are_compatible : Row → Row → Bool
are_compatible a b = list_all (λ name. do_agree (value a name) (value b name)) (map.keys a)

-- what is given by entries, and else by the row
abbrev pub with_entries : List (Name × Term) → Row → Row
with_entries [] row = row
with_entries (e ∷ es) row = map.insert (with_entries es row) e.0 e.1

-- the union of two rows (SPARQL 1.1, section 18.3, merge)
abbrev pub merge : Row → Row → Row
merge a b = with_entries (map.entries a) b

-- the merge of two rows, where they are compatible
abbrev pub joined : Row → Row → Option Row
joined a b = cond (are_compatible a b) (Some (merge a b)) None

-- the merge of each compatible pair (SPARQL 1.1, section 18.5, Join)
abbrev pub joins : List Row → List Row → List Row
joins xs ys = flat_map (λ a. filter_map (joined a) ys) xs

-- a row restricted to names (SPARQL 1.1, section 18.5, Project)
abbrev pub restricted : List Name → Row → Row
restricted names row = map.retain_keys row (has_name names)

-- the row k binds what either row binds and nothing else, so they agree (SPARQL 1.1, section 18.3)
pub record IsJoin (a b k : Row) : Type 0 where
  pub left : (name : Name) (t : Term) → value a name ≡ Some t → value k name ≡ Some t
  pub right : (name : Name) (t : Term) → value b name ≡ Some t → value k name ≡ Some t
  pub only : (name : Name) (t : Term) → value k name ≡ Some t → (value a name ≡ Some t) ⊎ (value b name ≡ Some t)

-- the row k is the merge of a row of each list (SPARQL 1.1, section 18.5, Join)
pub record IsAmongJoins (xs ys : List Row) (k : Row) : Type 0 where
  pub a : Row
  pub b : Row
  pub left : In xs a
  pub right : In ys b
  pub join : IsJoin a b k
