-- Lists of names of variables.
use Rattle.std.proofs.Common.{List, [], ◌∷◌, ◌++◌, ◌≡◌, inl, inr, refl, sym, ap, ◌∙◌, subst}
use Rattle.std.specs.Prelude.{flat_map}
use Rattle.std.proofs.lemmas.Grind.{flat_map-append}
use Rattle.std.proofs.lemmas.List.{append_assoc}
use Rattle.term_core.specs.Bags.{In}
use Rattle.term_core.specs.Mappings.{Name}
use Rattle.term_core.specs.declared.pattern.Pattern.{Pattern}
use Rattle.term_core.specs.declared.pattern.Place.{Place}
use Rattle.sparql_tree.specs.Groups.{Element, elements, Query}
use Rattle.sparql_tree.specs.Queries.{variables}
use Rattle.sparql_tree.specs.Scopes.{variable_in, variables_in, scope_at, scope_of, scope_of_group}
use Rattle.sparql_tree.specs.Triples.{pattern}
use Rattle.sparql_print.specs.Spelled.{IsSpelledName}

-- each of them is the name of a variable
abbrev pub AreSpelledNames : List Name → Type 0
AreSpelledNames [] = Unit {0}
AreSpelledNames (first ∷ rest) = IsSpelledName first × AreSpelledNames rest

pub names-append : (xs ys : List Name) → AreSpelledNames xs → AreSpelledNames ys → AreSpelledNames (xs ++ ys)
names-append [] ys h k = k
names-append (x ∷ xs) ys h k = (h.0, names-append xs ys h.1 k)

pub name-among : (names : List Name) → AreSpelledNames names → (name : Name) → In names name → IsSpelledName name
name-among [] h name i = absurd i
name-among (first ∷ rest) h name (inl e) = subst IsSpelledName e h.0
name-among (first ∷ rest) h name (inr i) = name-among rest h.1 name i

-- ---- patterns

-- each variable at a place is one
abbrev pub IsSpelledPlace : Place → Type 0
IsSpelledPlace place = AreSpelledNames (variable_in place)

-- each variable of the patterns is one
abbrev pub AreSpelledPatterns : List Pattern → Type 0
AreSpelledPatterns patterns = AreSpelledNames (flat_map variables_in patterns)

pub first_pattern : (subject verb object : Place) (more : List Pattern) → IsSpelledPlace subject → IsSpelledPlace verb → IsSpelledPlace object → AreSpelledPatterns more
    → AreSpelledPatterns (pattern subject verb object ∷ more)
first_pattern subject verb object more s v o m =
    names-append (variables_in (pattern subject verb object)) _ (names-append (variable_in subject) _ s (names-append (variable_in verb) (variable_in object) v o)) m

pub patterns-append : (ps qs : List Pattern) → AreSpelledPatterns ps → AreSpelledPatterns qs → AreSpelledPatterns (ps ++ qs)
patterns-append ps qs h k = subst AreSpelledNames (sym (flat_map-append variables_in ps qs)) (names-append (flat_map variables_in ps) _ h k)

-- ---- groups

-- each variable in scope of the parts is one
abbrev pub AreSpelledParts : List Element → Type 0
AreSpelledParts parts = AreSpelledNames (scope_of (elements parts))

parts-scope : (xs ys : List Element) → scope_of (elements (xs ++ ys)) ≡ scope_of (elements xs) ++ scope_of (elements ys)
parts-scope [] ys = refl
parts-scope (x ∷ xs) ys = ap (λ names. scope_at x ++ names) (parts-scope xs ys) ∙ sym (append_assoc (scope_at x) _ _)

pub parts-append : (xs ys : List Element) → AreSpelledParts xs → AreSpelledParts ys → AreSpelledParts (xs ++ ys)
parts-append xs ys h k = subst AreSpelledNames (sym (parts-scope xs ys)) (names-append (scope_of (elements xs)) _ h k)

-- ---- queries

-- each variable of a query's items, and each in scope of its group, is one
pub record HasSpelledNames (query : Query) : Type 0 where
  pub items : AreSpelledNames (variables query.items)
  pub scope : AreSpelledNames (scope_of_group query.body)
