-- The rows that cells mean.
use Rattle.std.proofs.Common.{◌≡◌, ℕ, zero, suc, ◌<◌, Bool, true, false, List, [], ◌∷◌, length, Option, Some, None, refl, sym, ap, ◌∙◌, subst, arith}
use Rattle.std.specs.Prelude.{slice_get, slice_set, slice_index_or, cond}
use Rattle.std.specs.FinMap as finmap
use Rattle.term_core.specs.declared.term.Term.{Term}
use Rattle.term_core.specs.declared.term.Term.TheVariants.{Iri}
use Rattle.term_core.specs.Mappings.{Name, Row, value, same_name}
use Rattle.term_core.specs.Order.{bytes_cmp}
use Rattle.term_core.proofs.Merges.{names_same, name_itself, Some_same, same_row}
use Rattle.sparql_tree.proofs.Assignments.{value-insert}
use Rattle.sparql_value.specs.Solutions.{with_value}
use Rattle.store_image.specs.Table.{term_numbered}
use Rattle.row_cells.specs.declared.cell.Cell.{Cell}
use Rattle.row_cells.specs.declared.cell.Cell.TheVariants.{Free, Id, Given, Made}
use Rattle.row_cells.specs.Cells.{Words, cell_term, row_of, cell_at, IsCellIn, AreCellsIn}
use Rattle.row_cells.specs.Laws.{IsOnce, AgreeBelow}

pub not_true : (b : Bool) → (b ≡ true → ⊥) → b ≡ false
not_true true h = absurd (h refl)
not_true false h = refl

pub value_itself : (row : Row) (name : Name) (t : Term) → value (finmap.insert row name t) name ≡ Some t
value_itself row name t = value-insert row name name t ∙ ap (λ b. cond b (Some t) (value row name)) (name_itself name)

other_name : (other name : Name) → (other ≡ name → ⊥) → same_name other name ≡ false
other_name other name h = not_true (same_name other name) (λ e. h (names_same other name e))

pub value_other : (row : Row) (name other : Name) (t : Term) → (other ≡ name → ⊥) → value (finmap.insert row name t) other ≡ value row other
value_other row name other t h = value-insert row name other t ∙ ap (λ b. cond b (Some t) (value row other)) (other_name other name h)

pub value_with : (row : Row) (name other : Name) (o : Option Term) → (other ≡ name → ⊥) → value (with_value name o row) other ≡ value row other
value_with row name other None h = refl
value_with row name other (Some t) h = value_other row name other t h

two_tests : {X : Type 0} (a b : Bool) (x y z : X) → (a ≡ true → b ≡ true → ⊥) → cond a x (cond b y z) ≡ cond b y (cond a x z)
two_tests true true x y z h = absurd (h refl refl)
two_tests true false x y z h = refl
two_tests false true x y z h = refl
two_tests false false x y z h = refl

pub inserts_swap : (row : Row) (m n : Name) (u t : Term) → (m ≡ n → ⊥) → finmap.insert (finmap.insert row n t) m u ≡ finmap.insert (finmap.insert row m u) n t
inserts_swap row m n u t apart = same_row _ _ (λ q.
    value-insert (finmap.insert row n t) m q u
    ∙ ap (λ w. cond (same_name q m) (Some u) w) (value-insert row n q t)
    ∙ two_tests (same_name q m) (same_name q n) (Some u) (Some t) (value row q) (λ e d. apart (sym (names_same q m e) ∙ names_same q n d))
    ∙ sym (value-insert (finmap.insert row m u) n q t ∙ ap (λ w. cond (same_name q n) (Some t) w) (value-insert row m q u)))

twice : {X : Type 0} (a : Bool) (x y z : X) → cond a x z ≡ cond a x (cond a y z)
twice true x y z = refl
twice false x y z = refl

inserts_once : (row : Row) (m : Name) (u t : Term) → finmap.insert row m t ≡ finmap.insert (finmap.insert row m u) m t
inserts_once row m u t = same_row _ _ (λ q.
    value-insert row m q t
    ∙ twice (same_name q m) (Some t) (Some u) (value row q)
    ∙ sym (value-insert (finmap.insert row m u) m q t ∙ ap (λ w. cond (same_name q m) (Some t) w) (value-insert row m q u)))

-- names without the first
pub once_more : (n : Name) (ns : List Name) → IsOnce (n ∷ ns) → IsOnce ns
once_more n ns h = record { alone = λ i j x e d. let r = h.alone (suc i) (suc j) x e d in omega (arith, r) }

pub not_first : (n : Name) (ns : List Name) (k : ℕ) (m : Name) → IsOnce (n ∷ ns) → slice_get ns k ≡ Some m → m ≡ n → ⊥
not_first n ns k m h e d = let r = h.alone 0 (suc k) m (ap Some (sym d)) e in omega (arith, r)

pub no_value : (names : List Name) (words : Words) (cells : List Cell) (n : Name) → ((k : ℕ) → slice_get names k ≡ Some n → ⊥) → value (row_of names words cells) n ≡ None
no_value [] words cells n h = finmap.get-empty bytes_cmp n
no_value (m ∷ names) words [] n h = finmap.get-empty bytes_cmp n
no_value (m ∷ names) words (c ∷ cells) n h =
    value_with (row_of names words cells) m n (cell_term words c) (λ e. h 0 (ap Some (sym e))) ∙ no_value names words cells n (λ k e. h (suc k) e)

with_itself : (row : Row) (name : Name) (o : Option Term) → value row name ≡ None → value (with_value name o row) name ≡ o
with_itself row name None gone = gone
with_itself row name (Some t) gone = value_itself row name t

-- the value of a name is the term of its cell
pub value_of_cell : (names : List Name) (words : Words) (cells : List Cell) (k : ℕ) (n : Name) → IsOnce names → slice_get names k ≡ Some n
    → value (row_of names words cells) n ≡ cell_term words (cell_at cells k)
value_of_cell [] words cells k n once e = cc
value_of_cell (m ∷ names) words [] k n once e = finmap.get-empty bytes_cmp n
value_of_cell (m ∷ names) words (c ∷ cells) zero n once e =
    let same : m ≡ n = Some_same m n e in
    subst (λ w. value (with_value w (cell_term words c) (row_of names words cells)) n ≡ cell_term words c) (sym same)
    (with_itself (row_of names words cells) n (cell_term words c) (no_value names words cells n (λ k d. not_first m names k n once d (sym same))))
value_of_cell (m ∷ names) words (c ∷ cells) (suc k) n once e =
    value_with (row_of names words cells) m n (cell_term words c) (not_first m names k n once e) ∙ value_of_cell names words cells k n (once_more m names once) e

swapped : (row : Row) (m n : Name) (t : Term) (o : Option Term) → (m ≡ n → ⊥) → with_value m o (finmap.insert row n t) ≡ finmap.insert (with_value m o row) n t
swapped row m n t None apart = refl
swapped row m n t (Some u) apart = inserts_swap row m n u t apart

set_with : (row : Row) (m : Name) (t : Term) (o : Option Term) → finmap.insert row m t ≡ finmap.insert (with_value m o row) m t
set_with row m t None = refl
set_with row m t (Some u) = inserts_once row m u t

-- a cell that is set binds its name
pub set_row : (names : List Name) (words : Words) (cells : List Cell) (k : ℕ) (n : Name) (c : Cell) (t : Term) → IsOnce names → slice_get names k ≡ Some n
    → k < length cells → cell_term words c ≡ Some t → row_of names words (slice_set cells k c) ≡ finmap.insert (row_of names words cells) n t
set_row [] words cells k n c t once e h is = cc
set_row (m ∷ names) words [] k n c t once e h is = absurd (omega arith)
set_row (m ∷ names) words (x ∷ cells) zero n c t once e h is =
    let same : m ≡ n = Some_same m n e in
    ap (λ o. with_value m o (row_of names words cells)) is
    ∙ set_with (row_of names words cells) m t (cell_term words x)
    ∙ ap (λ w. finmap.insert (with_value m (cell_term words x) (row_of names words cells)) w t) same
set_row (m ∷ names) words (x ∷ cells) (suc k) n c t once e h is =
    ap (with_value m (cell_term words x)) (set_row names words cells k n c t (once_more m names once) e (omega arith) is)
    ∙ swapped (row_of names words cells) m n t (cell_term words x) (λ d. not_first m names k n once e (sym d))

index_of_get : {X : Type 0} (xs ys : List X) (k : ℕ) (d : X) → slice_get xs k ≡ slice_get ys k → slice_index_or xs k d ≡ slice_index_or ys k d
index_of_get [] [] k d e = refl
index_of_get [] (y ∷ ys) zero d e = cc
index_of_get [] (y ∷ ys) (suc k) d e = index_of_get [] ys k d e
index_of_get (x ∷ xs) [] zero d e = cc
index_of_get (x ∷ xs) [] (suc k) d e = index_of_get xs [] k d e
index_of_get (x ∷ xs) (y ∷ ys) zero d e = Some_same x y e
index_of_get (x ∷ xs) (y ∷ ys) (suc k) d e = index_of_get xs ys k d e

same_cell : (words : Words) (made : List Term) (terms given n : ℕ) (c : Cell) → IsCellIn terms given n c → AgreeBelow n words.made made
    → cell_term record { terms = words.terms; given = words.given; made = made } c ≡ cell_term words c
same_cell words made terms given n Free h agree = refl
same_cell words made terms given n (Id k) h agree = refl
same_cell words made terms given n (Given k) h agree = refl
same_cell words made terms given n (Made k) h agree = ap Some (sym (index_of_get words.made made k (Iri []) (agree k h)))

-- cells whose BINDs are below a number mean the same whatever the others give
pub same_made : (names : List Name) (words : Words) (made : List Term) (terms given n : ℕ) (cells : List Cell) → AreCellsIn terms given n cells
    → AgreeBelow n words.made made → row_of names record { terms = words.terms; given = words.given; made = made } cells ≡ row_of names words cells
same_made [] words made terms given n cells h agree = refl
same_made (m ∷ names) words made terms given n [] h agree = refl
same_made (m ∷ names) words made terms given n (c ∷ cells) h agree =
    λ i. with_value m (same_cell words made terms given n c h.0 agree i) (same_made names words made terms given n cells h.1 agree i)
