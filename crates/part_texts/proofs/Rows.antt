-- A row has what its cells put into it, where no name stands twice.
use Rattle.std.proofs.Common.{◌≡◌, inl, inr, Bool, true, false, cond, List, [], ◌∷◌, ◌++◌, refl, sym, subst, ap, ◌∙◌, Option, Some, None}
use Rattle.std.specs.FinMap as finmap
use Rattle.std.specs.FinMap.{get-empty, get-insert}
use Rattle.std.proofs.lemmas.Cmp.{nat_list_cmp_total}
use Rattle.term_core.specs.Bags.{In, AreDistinct}
use Rattle.term_core.specs.Mappings.{Name, Row, value, has_name, same_name}
use Rattle.term_core.specs.Order.{bytes_cmp}
use Rattle.term_core.specs.declared.term.Term.{Term}
use Rattle.term_core.proofs.Bags.{In-append_left, In-append_right}
use Rattle.term_core.proofs.Merges.{names_same, name_itself, has_name-from}
use Rattle.sparql_tree.specs.Breaches.{breach_if, repeated}
use Rattle.sparql_tree.specs.Values.{with_cell}
use Rattle.part_texts.proofs.Forms.{with_cells, IsWrittenRow}

-- ---- names that do not repeat

no_repeat : (before names : List Name) → repeated before names ≡ [] → AreDistinct names × ((name : Name) → In names name → In before name → ⊥)
no_repeat before [] h = (tt, λ name i k. absurd i)
no_repeat before (first ∷ rest) h =
    let parts = both_none (breach_if (has_name before first) first) (repeated (before ++ first ∷ []) rest) h in
    let more = no_repeat (before ++ first ∷ []) rest parts.1 in
    let new : In before first → ⊥ = λ i. taken (has_name before first) first parts.0 (has_name-from before first i) in (
      (λ i. more.1 first i (In-append_right before (first ∷ []) first (inl refl)), more.0),
      λ name i k. elim i [ inl is ↦ new (subst (In before) (sym is) k) | inr behind ↦ more.1 name behind (In-append_left before (first ∷ []) name k) ],
    )
  where
    both_none : (xs ys : List Name) → xs ++ ys ≡ [] → (xs ≡ []) × (ys ≡ [])
    both_none [] ys h = (refl, h)
    both_none (x ∷ xs) ys h = absurd (cc)

    taken : (t : Bool) (name : Name) → breach_if t name ≡ [] → t ≡ true → ⊥
    taken true name h e = absurd (cc)
    taken false name h e = absurd (cc)

pub names-differ : (names : List Name) → repeated [] names ≡ [] → AreDistinct names
names-differ names h = (no_repeat [] names h).0

-- ---- cells

-- the row has these cells under these names
abbrev pub HasCells : Row → List Name → List (Option Term) → Type 0
HasCells row (name ∷ names) (cell ∷ cells) = (value row name ≡ cell) × HasCells row names cells
HasCells row names cells = Unit {0}

other_name : (a b : Name) → (a ≡ b → ⊥) → same_name a b ≡ false
other_name a b h = go (same_name a b) refl
  where
    go : (t : Bool) → same_name a b ≡ t → t ≡ false
    go true e = absurd (h (names_same a b e))
    go false e = refl

cell-there : (row : Row) (name : Name) (cell : Option Term) → value row name ≡ None → value (with_cell row name cell) name ≡ cell
cell-there row name None h = h
cell-there row name (Some term) h = get-insert nat_list_cmp_total row name term name ∙ ap (λ t. cond t (Some term) (value row name)) (name_itself name)

cell-other : (row : Row) (name other : Name) (cell : Option Term) → (other ≡ name → ⊥) → value (with_cell row name cell) other ≡ value row other
cell-other row name other None h = refl
cell-other row name other (Some term) h = get-insert nat_list_cmp_total row name term other ∙ ap (λ t. cond t (Some term) (value row other)) (other_name other name h)

cells-other : (row : Row) (names : List Name) (cells : List (Option Term)) (other : Name) → (In names other → ⊥) → value (with_cells row names cells) other ≡ value row other
cells-other row [] cells other h = refl
cells-other row (name ∷ names) [] other h = refl
cells-other row (name ∷ names) (cell ∷ cells) other h =
    cells-other (with_cell row name cell) names cells other (λ i. h (inr i)) ∙ cell-other row name other cell (λ e. h (inl (sym e)))

cells-there : (row : Row) (names : List Name) (cells : List (Option Term)) → AreDistinct names → ((name : Name) → In names name → value row name ≡ None)
    → HasCells (with_cells row names cells) names cells
cells-there row [] cells d h = tt
cells-there row (name ∷ names) [] d h = tt
cells-there row (name ∷ names) (cell ∷ cells) d h = (
  cells-other (with_cell row name cell) names cells name d.0 ∙ cell-there row name cell (h name (inl refl)),
  cells-there (with_cell row name cell) names cells d.1
      (λ other i. cell-other row name other cell (λ e. d.0 (subst (In names) e i)) ∙ h other (inr i)),
)

pub row-cells : (names : List Name) (row : Row) → AreDistinct names → (w : IsWrittenRow names row) → HasCells row names w.cells
row-cells names row d w = subst (λ r. HasCells r names w.cells) (sym w.spelled) (cells-there finmap.empty names w.cells d (λ name i. get-empty bytes_cmp name))
