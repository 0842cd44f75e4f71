-- Rows that are built name by name.
use Rattle.std.proofs.Common.{◌≡◌, Bool, true, false, cond, List, [], ◌∷◌, fold, Option, Some, None, refl, sym, ap, ◌∙◌}
use Rattle.std.specs.Prelude.{◌||◌}
use Rattle.std.specs.FinMap as finmap
use Rattle.std.proofs.lemmas.Cmp.{nat_list_cmp_total}
use Rattle.term_core.specs.declared.term.Term.{Term}
use Rattle.term_core.specs.Order.{bytes_cmp}
use Rattle.term_core.specs.Mappings.{Name, Row, value, same_name, has_name, merge, restricted}
use Rattle.term_core.proofs.Merges.{names_same, same_row, either, value-merge, value-restricted}
use Rattle.sparql_value.specs.Solutions.{with_value}

either_nothing : (a : Option Term) → either a None ≡ a
either_nothing None = refl
either_nothing (Some t) = refl

-- all entries of a row make the row
pub whole : (row : Row) → merge row finmap.empty ≡ row
whole row = same_row (merge row finmap.empty) row (λ name.
    value-merge row finmap.empty name ∙ ap (either (value row name)) (finmap.get-empty bytes_cmp name) ∙ either_nothing (value row name))

either_assoc : (a b c : Option Term) → either a (either b c) ≡ either (either a b) c
either_assoc None b c = refl
either_assoc (Some t) b c = refl

value-with_value : (row : Row) (name : Name) (o : Option Term) (q : Name) → value (with_value name o row) q ≡ either (cond (same_name q name) o None) (value row q)
value-with_value row name None q = elim (same_name q name) as (λ b. value row q ≡ either (cond b None None) (value row q)) [ true ↦ refl | false ↦ refl ]
value-with_value row name (Some t) q =
    finmap.get-insert nat_list_cmp_total row name t q
    ∙ elim (same_name q name) as (λ b. cond b (Some t) (value row q) ≡ either (cond b (Some t) None) (value row q)) [ true ↦ refl | false ↦ refl ]

-- a value once or twice
one_or_more : (row : Row) (name q : Name) (b : Bool) → either (cond b (value row q) None) (cond (same_name q name) (value row name) None) ≡ cond (same_name q name || b) (value row q) None
one_or_more row name q b =
    elim (same_name q name) as (λ s. same_name q name ≡ s → either (cond b (value row q) None) (cond s (value row name) None) ≡ cond (s || b) (value row q) None) [
      | true ↦ λ s. ap (λ w. either (cond b (value row q) None) (value row w)) (sym (names_same q name s))
          ∙ elim b as (λ b. either (cond b (value row q) None) (value row q) ≡ value row q) [ true ↦ twice (value row q) | false ↦ refl ]
      | false ↦ λ s. either_nothing (cond b (value row q) None)
    ] refl
  where
    twice : (o : Option Term) → either o o ≡ o
    twice None = refl
    twice (Some t) = refl

value-picked : (names : List Name) (row done : Row) (q : Name) → value (fold (λ done name. with_value name (value row name) done) done names) q ≡ either (cond (has_name names q) (value row q) None) (value done q)
value-picked [] row done q = refl
value-picked (name ∷ names) row done q =
    value-picked names row (with_value name (value row name) done) q
    ∙ ap (either (cond (has_name names q) (value row q) None)) (value-with_value done name (value row name) q)
    ∙ either_assoc (cond (has_name names q) (value row q) None) (cond (same_name q name) (value row name) None) (value done q)
    ∙ ap (λ o. either o (value done q)) (one_or_more row name q (has_name names q))

-- what is picked is the restricted row
pub picked_is : (names : List Name) (row : Row) → fold (λ done name. with_value name (value row name) done) finmap.empty names ≡ restricted names row
picked_is names row = same_row _ _ (λ q.
    value-picked names row finmap.empty q
    ∙ ap (either (cond (has_name names q) (value row q) None)) (finmap.get-empty bytes_cmp q)
    ∙ either_nothing (cond (has_name names q) (value row q) None)
    ∙ sym (value-restricted names row q))
