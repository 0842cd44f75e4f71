-- Small rows and projected rows, name by name.
use Rattle.std.proofs.Common.{◌≡◌, ℕ, zero, suc, ◌+◌, ◌<◌, ◌≤◌, Bool, true, false, List, [], ◌∷◌, length, Option, Some, None, refl, sym, ap, ◌∙◌, subst, arith, inl, inr, ⊎_elim}
use Rattle.std.specs.Prelude.{slice_get, slice_index_or, cond, if◌then◌else◌, ◌⊎◌}
use Rattle.std.specs.FinMap as finmap
use Rattle.std.proofs.lemmas.Option.{get_or_from_slice_get, slice_get_within}
use Rattle.term_core.specs.declared.term.Term.{Term}
use Rattle.term_core.specs.Mappings.{Name, Row, value, same_name, has_name, restricted}
use Rattle.term_core.specs.Order.{bytes_cmp}
use Rattle.term_core.proofs.Merges.{Some_same, names_same, name_itself, not_both, same_row, value-restricted}
use Rattle.sparql_tree.specs.Exprs.{Expr}
use Rattle.sparql_tree.specs.Scopes.{outside}
use Rattle.sparql_value.specs.Evaluation.{value_under, is_true_under}
use Rattle.sparql_value.specs.Operators.{as_truth}
use Rattle.sparql_value.specs.Solutions.{with_value}
use Rattle.sparql_value.proofs.Names.{same_value}
use Rattle.std.specs.Prelude.{unwrap_or}
use Rattle.row_cells.specs.declared.cell.Cell.{Cell}
use Rattle.row_cells.specs.declared.cell.Cell.TheVariants.{Free, Id, Given, Made}
use Rattle.row_cells.specs.Cells.{Words, cell_term, row_of, cell_at, name_at, IsCellIn, AreCellsIn}
use Rattle.row_cells.specs.Laws.{IsOnce}
use Rattle.row_cells.proofs.Rows.{value_of_cell, no_value, value_itself, value_other, value_with}
use Rattle.row_cells.proofs.Binding.{name_there}
use Rattle.plan_course.specs.Courses.{AreRead, Covers, AreKept}
use Rattle.preempt_join.specs.Steps.{picked, freed}
use Rattle.preempt_join.proofs.Entries.{named_or_not}

-- a row has the term of a cell under a name, or nothing yet
abbrev IsOpenFor : Row → Name → Option Term → Type 0
IsOpenFor row name o = (value row name ≡ o) ⊎ (value row name ≡ None)

with_same : (row : Row) (name : Name) (o : Option Term) → IsOpenFor row name o → value (with_value name o row) name ≡ o
with_same row name None held = ⊎_elim (λ e. e) (λ e. e) held
with_same row name (Some t) held = value_itself row name t

module _ (names : List Name) (words : Words) (cells : List Cell) (once : IsOnce names) where
  abbrev term_of : ℕ → Option Term
  term_of slot = cell_term words (cell_at cells slot)

  abbrev set : ℕ → Row → Row
  set slot row = with_value (name_at names slot) (term_of slot) row

  -- a slot that is set is the one of a name, or leaves the name as it was
  set_is : (slot other : ℕ) (name : Name) (row : Row) → other < length names → slice_get names slot ≡ Some name → IsOpenFor row name (term_of slot)
      → (value (set other row) name ≡ term_of slot) ⊎ ((other ≡ slot → ⊥) × (value (set other row) name ≡ value row name))
  set_is slot other name row h e held = by_test (same_name name (name_at names other)) refl
    where
      by_test : (b : Bool) → same_name name (name_at names other) ≡ b
          → (value (set other row) name ≡ term_of slot) ⊎ ((other ≡ slot → ⊥) × (value (set other row) name ≡ value row name))
      by_test true t =
          let same : name ≡ name_at names other = names_same name (name_at names other) t in
          let place : slot ≡ other = once.alone slot other name e (name_there names other h ∙ ap Some (sym same)) in
          let here : name_at names slot ≡ name = get_or_from_slice_get names slot name [] e in
          inl (subst (λ j. value (set j row) name ≡ term_of slot) place
          (subst (λ n. value (with_value n (term_of slot) row) name ≡ term_of slot) (sym here) (with_same row name (term_of slot) held)))
      by_test false t =
          let apart : name ≡ name_at names other → ⊥ = λ same. not_both (same_name name (name_at names other)) (subst (λ n. same_name name n ≡ true) same (name_itself name)) t in
          inr (
            (λ place. apart (Some_same name (name_at names other) (sym e ∙ ap (slice_get names) (sym place) ∙ name_there names other h))),
            value_with row (name_at names other) name (term_of other) apart,
          )

  set_open : (slot other : ℕ) (name : Name) (row : Row) → other < length names → slice_get names slot ≡ Some name → IsOpenFor row name (term_of slot) → IsOpenFor (set other row) name (term_of slot)
  set_open slot other name row h e held = ⊎_elim (λ l. inl l) (λ r. ⊎_elim (λ l. inl (r.1 ∙ l)) (λ q. inr (r.1 ∙ q)) held) (set_is slot other name row h e held)

  -- the value of a name whose slot is read, or that had it before
  picked_value : (reads : List ℕ) (slot : ℕ) (name : Name) (row : Row) → AreRead (length names) reads → slice_get names slot ≡ Some name → IsOpenFor row name (term_of slot)
      → ((k : ℕ) × (slice_get reads k ≡ Some slot)) ⊎ (value row name ≡ term_of slot) → value (picked names words cells reads row) name ≡ term_of slot
  picked_value [] slot name row h e held there = ⊎_elim (λ l. cc (l.1)) (λ r. r) there
  picked_value (other ∷ reads) slot name row h e held there =
      ⊎_elim
      (λ l. at l.0 l.1 (λ is. picked_value reads slot name (set other row) h.1 e open2 is))
      (λ r. picked_value reads slot name (set other row) h.1 e open2 (inr (⊎_elim (λ a. a) (λ b. b.1 ∙ r) is)))
      there
    where
      is : (value (set other row) name ≡ term_of slot) ⊎ ((other ≡ slot → ⊥) × (value (set other row) name ≡ value row name))
      is = set_is slot other name row h.0 e held

      open2 : IsOpenFor (set other row) name (term_of slot)
      open2 = set_open slot other name row h.0 e held

      at : (k : ℕ) → slice_get (other ∷ reads) k ≡ Some slot
          → (((j : ℕ) × (slice_get reads j ≡ Some slot)) ⊎ (value (set other row) name ≡ term_of slot) → value (picked names words cells reads (set other row)) name ≡ term_of slot)
          → value (picked names words cells reads (set other row)) name ≡ term_of slot
      at zero d rest = rest (inr (⊎_elim (λ a. a) (λ b. absurd (b.0 (Some_same other slot d))) is))
      at (suc k) d rest = rest (inl (k, d))

  picked_other : (reads : List ℕ) (name : Name) (row : Row) → AreRead (length names) reads → ((k : ℕ) → slice_get names k ≡ Some name → ⊥) → value (picked names words cells reads row) name ≡ value row name
  picked_other [] name row h none = refl
  picked_other (other ∷ reads) name row h none =
      picked_other reads name (set other row) h.1 none
      ∙ value_with row (name_at names other) name (term_of other) (λ same. none other (name_there names other h.0 ∙ ap Some (sym same)))

  -- what is read for an expression gives it its value
  pub picked_same : (reads : List ℕ) (e : Expr) → AreRead (length names) reads → Covers names reads e
      → value_under e (picked names words cells reads finmap.empty) ≡ value_under e (row_of names words cells)
  picked_same reads e h covers = same_value e (picked names words cells reads finmap.empty) (row_of names words cells) (λ name is.
      picked_value reads (covers.slot name is) name finmap.empty h (covers.named name is) (inr (finmap.get-empty bytes_cmp name)) (inl (covers.read name is))
      ∙ sym (value_of_cell names words cells (covers.slot name is) name once (covers.named name is)))

  pub picked_truth : (reads : List ℕ) (e : Expr) → AreRead (length names) reads → Covers names reads e
      → is_true_under e (picked names words cells reads finmap.empty) ≡ is_true_under e (row_of names words cells)
  picked_truth reads e h covers = ap (λ o. unwrap_or (as_truth o) false) (picked_same reads e h covers)

  -- what is read of all names is the row
  pub picked_all : (reads : List ℕ) → AreRead (length names) reads → ((slot : ℕ) → slot < length names → (k : ℕ) × (slice_get reads k ≡ Some slot))
      → picked names words cells reads finmap.empty ≡ row_of names words cells
  picked_all reads h all = same_row _ _ (λ name. ⊎_elim
      (λ there.
      let within : there.0 < length names = slice_get_within names there.0 name there.1 in
      picked_value reads there.0 name finmap.empty h there.1 (inr (finmap.get-empty bytes_cmp name)) (inl (all there.0 within)) ∙ sym (value_of_cell names words cells there.0 name once there.1))
      (λ none. picked_other reads name finmap.empty h none ∙ finmap.get-empty bytes_cmp name ∙ sym (no_value names words cells name none))
      (named_or_not names name))

-- cells of which some are let go
freed_nothing : (cells : List Cell) (k : ℕ) → cell_at (freed [] cells) k ≡ Free
freed_nothing [] k = refl
freed_nothing (c ∷ cells) zero = refl
freed_nothing (c ∷ cells) (suc k) = freed_nothing cells k

abbrev free_or : Bool → Cell → Cell
free_or b c = if b then c else Free

freed_at : (kept : List Bool) (cells : List Cell) (k : ℕ) → cell_at (freed kept cells) k ≡ free_or (slice_index_or kept k false) (cell_at cells k)
freed_at [] cells k = freed_nothing cells k
freed_at (keep ∷ kept) [] zero = either keep
  where
    either : (b : Bool) → Free ≡ free_or b Free
    either true = refl
    either false = refl
freed_at (keep ∷ kept) [] (suc k) = freed_at kept [] k
freed_at (keep ∷ kept) (c ∷ cells) zero = refl
freed_at (keep ∷ kept) (c ∷ cells) (suc k) = freed_at kept cells k

kept_term : (words : Words) (b : Bool) (c : Cell) → cell_term words (free_or b c) ≡ cond b (cell_term words c) None
kept_term words true c = refl
kept_term words false c = refl

abbrev nothing : Option Term
nothing = None

neither : (b : Bool) → cond b nothing nothing ≡ nothing
neither true = refl
neither false = refl

-- the row of cells that are kept has the variables alone (SPARQL 1.1, 18.5, Project)
pub freed_means : (names : List Name) (words : Words) (variables : List Name) (kept : List Bool) (cells : List Cell) → IsOnce names → AreKept names variables kept
    → row_of names words (freed kept cells) ≡ restricted variables (row_of names words cells)
freed_means names words variables kept cells once are = same_row _ _ (λ name. ⊎_elim
    (λ there.
    value_of_cell names words (freed kept cells) there.0 name once there.1
    ∙ ap (cell_term words) (freed_at kept cells there.0)
    ∙ kept_term words (slice_index_or kept there.0 false) (cell_at cells there.0)
    ∙ (λ i. cond (are there.0 name there.1 i) (sym (value_of_cell names words cells there.0 name once there.1) i) None)
    ∙ sym (value-restricted variables (row_of names words cells) name))
    (λ none.
    no_value names words (freed kept cells) name none
    ∙ sym (value-restricted variables (row_of names words cells) name ∙ ap (λ o. cond (has_name variables name) o None) (no_value names words cells name none) ∙ neither (has_name variables name)))
    (named_or_not names name))

pub freed_length : (kept : List Bool) (cells : List Cell) → length (freed kept cells) ≡ length cells
freed_length kept [] = refl
freed_length [] (c ∷ cells) = ap suc (freed_length [] cells)
freed_length (keep ∷ kept) (c ∷ cells) = ap suc (freed_length kept cells)

pub freed_within : (terms given made : ℕ) (kept : List Bool) (cells : List Cell) → AreCellsIn terms given made cells → AreCellsIn terms given made (freed kept cells)
freed_within terms given made kept [] h = tt
freed_within terms given made [] (c ∷ cells) h = (tt, freed_within terms given made [] cells h.1)
freed_within terms given made (true ∷ kept) (c ∷ cells) h = (h.0, freed_within terms given made kept cells h.1)
freed_within terms given made (false ∷ kept) (c ∷ cells) h = (tt, freed_within terms given made kept cells h.1)
