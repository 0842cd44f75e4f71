-- Equality of rows.
use Rattle.std.proofs.Common.{◌≡◌, Bool, true, false, List, [], ◌∷◌, length, refl, ap, ◌∙◌, suc}
use Rattle.std.specs.Prelude.{◌&&◌}
use Rattle.std.specs.FinMap as finmap
use Rattle.term_core.specs.declared.term.Term.{Term}
use Rattle.term_core.specs.Mappings.{Name, Row, same_name, same_term}
use Rattle.term_core.proofs.Merges.{names_same, name_itself, terms_same, term_itself, both_true, and_true}
use Rattle.row_bag.specs.Rows.{same_entry, same_entries, same_row}

entry_same : (a b : Name × Term) → same_entry a b ≡ true → a ≡ b
entry_same (name, term) (other, value) e =
    let both = both_true (same_name name other) (same_term term value) e in
    ap (λ n. (n, term)) (names_same name other both.0) ∙ ap (λ t. (other, t)) (terms_same term value both.1)

entry_itself : (a : Name × Term) → same_entry a a ≡ true
entry_itself a = and_true _ _ (name_itself a.0) (term_itself a.1)

entries_same : (xs ys : List (Name × Term)) → same_entries xs ys ≡ true → xs ≡ ys
entries_same [] [] e = refl
entries_same [] (y ∷ ys) e = cc
entries_same (x ∷ xs) [] e = cc
entries_same (x ∷ xs) (y ∷ ys) e =
    let both = both_true (same_entry x y) (same_entries xs ys) e in
    ap (λ z. z ∷ xs) (entry_same x y both.0) ∙ ap (λ zs. y ∷ zs) (entries_same xs ys both.1)

entries_itself : (xs : List (Name × Term)) → same_entries xs xs ≡ true
entries_itself [] = refl
entries_itself (x ∷ xs) = and_true _ _ (entry_itself x) (entries_itself xs)

-- rows that are found equal are equal
pub rows_same : (a b : Row) → same_row a b ≡ true → a ≡ b
rows_same a b e = finmap.same_entries_map a b (entries_same _ _ e)

pub row_itself : (a : Row) → same_row a a ≡ true
row_itself a = entries_itself (finmap.entries a)

never : (b : Bool) → b && false ≡ false
never true = refl
never false = refl

-- lists of two lengths are not one
pub unlike : (xs ys : List (Name × Term)) → (length xs ≡ length ys → ⊥) → same_entries xs ys ≡ false
unlike [] [] d = absurd (d refl)
unlike [] (y ∷ ys) d = refl
unlike (x ∷ xs) [] d = refl
unlike (x ∷ xs) (y ∷ ys) d = ap (λ b. same_entry x y && b) (unlike xs ys (λ e. d (ap suc e))) ∙ never (same_entry x y)
