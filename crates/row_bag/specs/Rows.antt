-- Equality of rows, and the names that rows bind.
use Rattle.std.specs.Prelude.{◌≡◌, Bool, true, false, ◌&&◌, List, [], ◌∷◌, is_some}
use Rattle.std.specs.List.{list_all, list_any}
use Rattle.std.specs.FinMap as finmap
use Rattle.term_core.specs.declared.term.Term.{Term}
use Rattle.term_core.specs.Mappings.{Name, Row, value, same_name, same_term}

-- whether two entries have the same name and the same term
abbrev pub same_entry : Name × Term → Name × Term → Bool
same_entry a b = same_name a.0 b.0 && same_term a.1 b.1

-- whether two lists of entries are one
abbrev pub same_entries : List (Name × Term) → List (Name × Term) → Bool
same_entries [] [] = true
same_entries [] (b ∷ others) = false
same_entries (a ∷ more) [] = false
same_entries (a ∷ more) (b ∷ others) = same_entry a b && same_entries more others

-- whether two rows bind the same names to the same terms (SPARQL 1.1, section 18.5, Distinct)
abbrev pub same_row : Row → Row → Bool
same_row a b = same_entries (finmap.entries a) (finmap.entries b)

-- each of the names is bound in each of the rows
abbrev pub are_bound : List Name → List Row → Bool
are_bound names rows = list_all (λ name. list_all (λ row. is_some (value row name)) rows) names

-- a row binds the names that some of the rows bind, and no other
abbrev pub BindsAll : Row → List Row → Type 0
BindsAll bound rows = (name : Name) → is_some (value bound name) ≡ list_any (λ row. is_some (value row name)) rows

-- there is a row
abbrev pub has_row : List Row → Bool
has_row [] = false
has_row (row ∷ rows) = true
