-- Lists, entries of traces, and cells of rows of VALUES.
use Rattle.std.proofs.Common.{◌≡◌, ℕ, zero, suc, ◌+◌, ◌-◌, ◌<◌, ◌≤◌, Bool, true, false, List, [], ◌∷◌, ◌++◌, length, map, Option, Some, None, refl, sym, ap, ◌∙◌, subst, arith, inl, inr, ⊎_elim, length-append}
use Rattle.std.specs.Prelude.{flat_map, filter, slice_get, slice_set, slice_index_or, option_map, replicate, cond, if◌then◌else◌, ◌⊎◌}
use Rattle.std.proofs.lemmas.List.{length-map}
use Rattle.term_core.specs.declared.term.Term.{Term}
use Rattle.term_core.specs.Bags.{In}
use Rattle.term_core.specs.Mappings.{Name, Row, same_name}
use Rattle.term_core.proofs.Merges.{Some_same, names_same, name_itself}
use Rattle.sparql_value.specs.Solutions.{with_value}
use Rattle.plan_tree.specs.States.{pieces_before}
use Rattle.plan_tree.proofs.Pieces.{slice_get-front, slice_get-back, slice_get-within}
use Rattle.row_cells.specs.declared.cell.Cell.{Cell}
use Rattle.row_cells.specs.declared.cell.Cell.TheVariants.{Free, Id, Given, Made}
use Rattle.row_cells.specs.Cells.{Words, cell_term, row_of, IsCellIn, AreCellsIn}
use Rattle.row_cells.proofs.Set.{set_within}
use Rattle.plan_course.specs.declared.course.Placed.{Placed}
use Rattle.plan_course.specs.Courses.{cells_of, ArePlaced, AllPlaced}

pub slice_get-past : {X : Type 0} (xs : List X) (i : ℕ) → length xs ≤ i → slice_get xs i ≡ None
slice_get-past [] i h = refl
slice_get-past (x ∷ xs) zero h = absurd (omega arith)
slice_get-past (x ∷ xs) (suc i) h = slice_get-past xs i (omega arith)

pub past_of-slice_get : {X : Type 0} (xs : List X) (i : ℕ) → slice_get xs i ≡ None → length xs ≤ i
past_of-slice_get [] i h = omega arith
past_of-slice_get (x ∷ xs) zero h = cc
past_of-slice_get (x ∷ xs) (suc i) h = omega (arith, past_of-slice_get xs i h)

pub get-map : {X Y : Type 0} (f : X → Y) (xs : List X) (i : ℕ) → slice_get (map f xs) i ≡ option_map f (slice_get xs i)
get-map f [] i = refl
get-map f (x ∷ xs) zero = refl
get-map f (x ∷ xs) (suc i) = get-map f xs i

pub before-all : {X Y : Type 0} (f : X → List Y) (xs : List X) (m : ℕ) → length xs ≤ m → pieces_before f xs m ≡ length (flat_map f xs)
before-all f [] zero h = refl
before-all f [] (suc m) h = refl
before-all f (x ∷ xs) zero h = absurd (omega arith)
before-all f (x ∷ xs) (suc m) h = omega (arith, before-all f xs m (omega arith), length-append (f x) (flat_map f xs))

-- the entries of a table
pub table_front : (rows : List Row) (place : ℕ) (row : Row) → slice_get rows place ≡ Some row → slice_get (map Some rows ++ None ∷ []) place ≡ Some (Some row)
table_front rows place row e =
    let h = slice_get-within rows place row e in
    slice_get-front (map Some rows) (None ∷ []) place (omega (arith, length-map rows (λ (r : Row). Some r)))
    ∙ get-map (λ (r : Row). Some r) rows place ∙ ap (option_map (λ (r : Row). Some r)) e

pub table_last : (rows : List Row) → slice_get (map Some rows ++ None ∷ []) (length rows) ≡ Some None
table_last rows =
    let e : length rows ≡ length (map (λ (r : Row). Some r) rows) + 0 = omega (arith, length-map rows (λ (r : Row). Some r)) in
    ap (slice_get (map Some rows ++ None ∷ [])) e ∙ slice_get-back (map (λ (r : Row). Some r) rows) (None ∷ []) 0

pub table_long : (rows : List Row) → length (map Some rows ++ None ∷ []) ≡ length rows + 1
table_long rows = omega (arith, length-append (map (λ (r : Row). Some r) rows) (None ∷ []), length-map rows (λ (r : Row). Some r))

-- rows of terms of the plan alone mean the same over any data
pub given_alone : (names : List Name) (given terms made terms2 made2 : List Term) (n : ℕ) (cells : List Cell) → AreCellsIn 0 n 0 cells
    → row_of names record { terms = terms; given = given; made = made } cells ≡ row_of names record { terms = terms2; given = given; made = made2 } cells
given_alone [] given terms made terms2 made2 n cells h = refl
given_alone (m ∷ names) given terms made terms2 made2 n [] h = refl
given_alone (m ∷ names) given terms made terms2 made2 n (Free ∷ cells) h = given_alone names given terms made terms2 made2 n cells h.1
given_alone (m ∷ names) given terms made terms2 made2 n (Id k ∷ cells) h = absurd (omega (arith, h.0))
given_alone (m ∷ names) given terms made terms2 made2 n (Given k ∷ cells) h =
    ap (with_value m (cell_term record { terms = terms; given = given; made = made } (Given k))) (given_alone names given terms made terms2 made2 n cells h.1)
given_alone (m ∷ names) given terms made terms2 made2 n (Made k ∷ cells) h = absurd (omega (arith, h.0))

free_within : (terms given made width : ℕ) → AreCellsIn terms given made (replicate width Free)
free_within terms given made zero = tt
free_within terms given made (suc width) = (tt, free_within terms given made width)

-- the cells of a row of VALUES
pub cells_within : (terms width given : ℕ) (entries : List Placed) → ArePlaced width given entries → AreCellsIn terms given 0 (cells_of width entries)
cells_within terms width given [] h = free_within terms given 0 width
cells_within terms width given (entry ∷ entries) h = set_within terms given 0 entry.slot (Given entry.term) (cells_of width entries) (cells_within terms width given entries h.1) h.0.1

pub placed_at : (width given : ℕ) (rows : List (List Placed)) (k : ℕ) (row : List Placed) → AllPlaced width given rows → slice_get rows k ≡ Some row → ArePlaced width given row
placed_at width given [] k row h e = cc
placed_at width given (r ∷ rows) zero row h e = subst (ArePlaced width given) (Some_same r row e) h.0
placed_at width given (r ∷ rows) (suc k) row h e = placed_at width given rows k row h.1 e

-- a name has a place among names, or none
pub named_or_not : (names : List Name) (name : Name) → ((k : ℕ) × (slice_get names k ≡ Some name)) ⊎ ((k : ℕ) → slice_get names k ≡ Some name → ⊥)
named_or_not [] name = inr (λ k e. cc)
named_or_not (m ∷ names) name = by_test (same_name m name) refl (named_or_not names name)
  where
    by_test : (b : Bool) → same_name m name ≡ b → ((k : ℕ) × (slice_get names k ≡ Some name)) ⊎ ((k : ℕ) → slice_get names k ≡ Some name → ⊥)
        → ((k : ℕ) × (slice_get (m ∷ names) k ≡ Some name)) ⊎ ((k : ℕ) → slice_get (m ∷ names) k ≡ Some name → ⊥)
    by_test true t rest = inl (0, ap Some (names_same m name t))
    by_test false t rest = ⊎_elim
        (λ there. inl (suc there.0, there.1))
        (λ none. inr (λ k e. at k e none))
        rest
      where
        at : (k : ℕ) → slice_get (m ∷ names) k ≡ Some name → ((j : ℕ) → slice_get names j ≡ Some name → ⊥) → ⊥
        at zero e none = let same : m ≡ name = Some_same m name e in let both : same_name m name ≡ true = ap (same_name m) (sym same) ∙ name_itself m in cc
        at (suc k) e none = none k e
