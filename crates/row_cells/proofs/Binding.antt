-- What a triple makes of cells.
use Rattle.std.proofs.Common.{◌≡◌, ℕ, zero, suc, ◌<◌, Bool, true, false, List, [], ◌∷◌, length, get_or, Option, Some, None, refl, sym, ap, ◌∙◌, subst, arith, inl, inr, ⊎_elim, eq-eqb}
use Rattle.std.specs.Prelude.{slice_get, slice_set, slice_index_or, option_map, ◌⊎◌, if◌then◌else◌, cond, ◌==◌, ◌&&◌}
use Rattle.std.specs.List.Sorted.{IsStrictlySortedBy}
use Rattle.std.proofs.lemmas.Bool.Decides.{nat_tests}
use Rattle.std.proofs.lemmas.Option.{get_or_from_slice_get, slice_get-get_or, slice_get_within}
use Rattle.term_core.specs.declared.term.Term.{Term}
use Rattle.term_core.specs.declared.term.Term.TheVariants.{Iri}
use Rattle.term_core.specs.declared.pattern.IdTriple.{IdTriple}
use Rattle.term_core.specs.Mappings.{Name, Row, value, same_term}
use Rattle.term_core.specs.Order.{term_cmp}
use Rattle.term_core.specs.OrderLaws.{terms_total}
use Rattle.term_core.specs.Patterns.{Position, Known, Named, Pattern, filled, fits, agrees}
use Rattle.term_core.proofs.Merges.{terms_same, term_itself, Some_same}
use Rattle.std.specs.FinMap as finmap
use Rattle.plan_tree.specs.Trace.{put, bind_at, extended as row_extended}
use Rattle.store_image.specs.Table.{term_numbered, decode, IsBelow, IsFound}
use Rattle.store_image.proofs.TableFound.{found}
use Rattle.row_cells.specs.declared.cell.Cell.{Cell}
use Rattle.row_cells.specs.declared.cell.Cell.TheVariants.{Free, Id, Given, Made}
use Rattle.row_cells.specs.declared.cell.Position as code
use Rattle.row_cells.specs.declared.cell.Position.TheVariants as place
use Rattle.row_cells.specs.declared.cell.PatternSlots.{PatternSlots}
use Rattle.row_cells.specs.Cells.{Words, cell_term, row_of, cell_at, name_at, position_of, pattern_of, IsSlot, AreSlots, bind_cell, bind_slot, extended, IsCellIn, AreCellsIn}
use Rattle.row_cells.specs.Laws.{IsOnce, AreCells}
use Rattle.row_cells.proofs.Set.{set_within, within_at, length_set, set_at}
use Rattle.row_cells.proofs.Rows.{value_of_cell, set_row}

pub same_tests : (a b : Bool) → (a ≡ true → b ≡ true) → (b ≡ true → a ≡ true) → a ≡ b
same_tests true true h g = refl
same_tests true false h g = sym (h refl)
same_tests false true h g = g refl
same_tests false false h g = refl

eqb_true : (m n : ℕ) → (m == n) ≡ true → m ≡ n
eqb_true m n h = grind (arith, nat_tests)

pub term_there : (terms : List Term) (id : ℕ) → id < length terms → slice_get terms id ≡ Some (term_numbered terms id)
term_there terms id h = slice_get-get_or terms id (Iri []) h

-- equal ranks and equal terms
pub ids_and_terms : (terms : List Term) → IsStrictlySortedBy term_cmp terms → (k id : ℕ) → k < length terms → id < length terms
    → (k == id) ≡ same_term (term_numbered terms k) (term_numbered terms id)
ids_and_terms terms rising k id h g = same_tests (k == id) (same_term (term_numbered terms k) (term_numbered terms id))
    (λ a. subst (λ u. same_term (term_numbered terms k) (term_numbered terms u) ≡ true) (eqb_true k id a) (term_itself (term_numbered terms k)))
    (λ b.
    let is : IsFound terms (term_numbered terms k) (Some k) = found term_cmp terms_total terms (term_numbered terms k) k rising (term_there terms k h) in
    let same : term_numbered terms k ≡ term_numbered terms id = terms_same (term_numbered terms k) (term_numbered terms id) b in
    let at : Some k ≡ Some id = (is.at id).1 (term_there terms id g ∙ ap Some (sym same)) in
    eq-eqb k id (Some_same k id at))

pub name_there : (names : List Name) (k : ℕ) → k < length names → slice_get names k ≡ Some (name_at names k)
name_there names k h = slice_get-get_or names k [] h

-- binding one position: a cell that has a term of its own has the triple's there
abbrev OwnAgree : Words → List Cell → code.Position → Term → Type 0
OwnAgree words cells (place.Known k) t = Unit {0}
OwnAgree words cells (place.Slot k) t = (u : Term) → cell_term words (cell_at cells k) ≡ Some u → ((id : ℕ) → cell_at cells k ≡ Id id → ⊥) → u ≡ t

-- what binding keeps: cells stay cells, and what is no rank stays
record Keeps (names : List Name) (words : Words) (before after : List Cell) : Type 0 where
  are : AreCells names words after
  own : (k : ℕ) → ((id : ℕ) → cell_at after k ≡ Id id → ⊥) → cell_at before k ≡ cell_at after k

record Binds (names : List Name) (words : Words) (cells : List Cell) (bound : Option (List Cell)) (row : Option Row) : Type 0 where
  means : option_map (row_of names words) bound ≡ row
  keeps : (after : List Cell) → bound ≡ Some after → Keeps names words cells after

keeps_itself : (names : List Name) (words : Words) (cells after : List Cell) → AreCells names words cells → Some cells ≡ Some after → Keeps names words cells after
keeps_itself names words cells after are e = subst (Keeps names words cells) (Some_same cells after e) record { are = are; own = λ k h. refl }

-- a cell that is set to a rank, or is as it was
set_or_same : (cells : List Cell) (k j id : ℕ) → ((i : ℕ) → cell_at (slice_set cells k (Id id)) j ≡ Id i → ⊥) → cell_at cells j ≡ cell_at (slice_set cells k (Id id)) j
set_or_same cells k j id h = ⊎_elim (λ a. a) (λ b. absurd (h id b)) (set_at cells k j (Id id) (cell_at (slice_set cells k (Id id)) j) refl)

module _ (names : List Name) (words : Words) (once : IsOnce names) (rising : IsStrictlySortedBy term_cmp words.terms) where
  bind_free : (cells : List Cell) (k : ℕ) (name : Name) (id : ℕ) → AreCells names words cells → id < length words.terms → slice_get names k ≡ Some name
      → Binds names words cells (Some (slice_set cells k (Id id))) (Some (finmap.insert (row_of names words cells) name (term_numbered words.terms id)))
  bind_free cells k name id are h e = record {
    means = let within : k < length names = slice_get_within names k name e in
        ap Some (set_row names words cells k name (Id id) (term_numbered words.terms id) once e (omega (arith, are.count)) refl);
    keeps = λ after d. subst (Keeps names words cells) (Some_same (slice_set cells k (Id id)) after d) record {
      are = record {
        count = length_set cells k (Id id) ∙ are.count;
        within = set_within (length words.terms) (length words.given) (length words.made) k (Id id) cells are.within h;
      };
      own = λ j g. set_or_same cells k j id g;
    };
  }

  tested : (cells : List Cell) (a b : Bool) → AreCells names words cells → a ≡ b
      → Binds names words cells (if a then Some cells else None) (cond b (Some (row_of names words cells)) None)
  tested cells true true are e = record { means = refl; keeps = λ after d. keeps_itself names words cells after are d }
  tested cells true false are e = cc
  tested cells false true are e = cc
  tested cells false false are e = record { means = refl; keeps = λ after d. cc }

  -- a cell whose term is the triple's
  bind_own : (cells : List Cell) (name : Name) (t v : Term) → AreCells names words cells → v ≡ t
      → Binds names words cells (Some cells) (put (row_of names words cells) name t (Some v))
  bind_own cells name t v are is = record {
    means = sym (ap (λ b. cond b (Some (row_of names words cells)) None) (subst (λ w. same_term v w ≡ true) is (term_itself v)));
    keeps = λ after d. keeps_itself names words cells after are d;
  }

  bind_cells : (cells : List Cell) (k : ℕ) (name : Name) (id : ℕ) (c : Cell) → AreCells names words cells → id < length words.terms → slice_get names k ≡ Some name
      → cell_at cells k ≡ c → ((u : Term) → cell_term words c ≡ Some u → ((i : ℕ) → c ≡ Id i → ⊥) → u ≡ term_numbered words.terms id)
      → Binds names words cells (bind_cell k id c cells) (put (row_of names words cells) name (term_numbered words.terms id) (cell_term words c))
  bind_cells cells k name id Free are h e d own = bind_free cells k name id are h e
  bind_cells cells k name id (Id i) are h e d own =
      let here : i < length words.terms = subst (IsCellIn (length words.terms) (length words.given) (length words.made)) d
      (within_at (length words.terms) (length words.given) (length words.made) k cells are.within) in
      tested cells (i == id) (same_term (term_numbered words.terms i) (term_numbered words.terms id)) are (ids_and_terms words.terms rising i id here h)
  bind_cells cells k name id (Given g) are h e d own =
      bind_own cells name (term_numbered words.terms id) (term_numbered words.given g) are (own (term_numbered words.given g) refl (λ i q. cc))
  bind_cells cells k name id (Made m) are h e d own =
      bind_own cells name (term_numbered words.terms id) (term_numbered words.made m) are (own (term_numbered words.made m) refl (λ i q. cc))

  bind_means : (s : code.Position) (cells : List Cell) (id : ℕ) → IsSlot (length names) s → AreCells names words cells → id < length words.terms
      → OwnAgree words cells s (term_numbered words.terms id)
      → Binds names words cells (bind_slot s id (Some cells)) (bind_at (position_of names words.given s) (term_numbered words.terms id) (Some (row_of names words cells)))
  bind_means (place.Known k) cells id b are h own = record { means = refl; keeps = λ after d. keeps_itself names words cells after are d }
  bind_means (place.Slot k) cells id b are h own =
      let name = name_at names k in
      let e = name_there names k b in
      subst (λ o. Binds names words cells (bind_slot (place.Slot k) id (Some cells)) (put (row_of names words cells) name (term_numbered words.terms id) o))
      (sym (value_of_cell names words cells k name once e))
      (bind_cells cells k name id (cell_at cells k) are h e refl own)

  own_after : (cells after : List Cell) (s : code.Position) (t : Term) → Keeps names words cells after → OwnAgree words cells s t → OwnAgree words after s t
  own_after cells after (place.Known k) t keeps own = tt
  own_after cells after (place.Slot k) t keeps own = λ u e none.
      let same = keeps.own k none in
      own u (ap (cell_term words) same ∙ e) (λ id d. none id (sym same ∙ d))

  bind_none : (p : Position) (t : Term) → bind_at p t None ≡ None
  bind_none (Known u) t = refl
  bind_none (Named n) t = refl

  slot_none : (s : code.Position) (id : ℕ) → bind_slot s id None ≡ None
  slot_none (place.Known k) id = refl
  slot_none (place.Slot k) id = refl

  then_bind : (s : code.Position) (cells : List Cell) (bound : Option (List Cell)) (row : Option Row) (id : ℕ) → IsSlot (length names) s
      → id < length words.terms → OwnAgree words cells s (term_numbered words.terms id) → Binds names words cells bound row
      → Binds names words cells (bind_slot s id bound) (bind_at (position_of names words.given s) (term_numbered words.terms id) row)
  then_bind s cells None row id b h own first = record {
    means = ap (option_map (row_of names words)) (slot_none s id)
        ∙ sym (ap (bind_at (position_of names words.given s) (term_numbered words.terms id)) (sym first.means) ∙ bind_none (position_of names words.given s) (term_numbered words.terms id));
    keeps = λ after d. cc (sym (slot_none s id) ∙ d);
  }
  then_bind s cells (Some mid) row id b h own first =
      let k = first.keeps mid refl in
      let n = bind_means s mid id b k.are h (own_after cells mid s (term_numbered words.terms id) k own) in
      record {
        means = n.means ∙ ap (bind_at (position_of names words.given s) (term_numbered words.terms id)) first.means;
        keeps = λ after d. let m = n.keeps after d in record {
          are = m.are;
          own = λ j none. let here = m.own j none in k.own j (λ id q. none id (sym here ∙ q)) ∙ here;
        };
      }

  own_agrees : (s : code.Position) (cells : List Cell) (t : Term) → IsSlot (length names) s
      → fits (filled (row_of names words cells) (position_of names words.given s)) t ≡ true → OwnAgree words cells s t
  own_agrees (place.Known k) cells t b f = tt
  own_agrees (place.Slot k) cells t b f = λ u e none.
      terms_same u t (sym (ap (λ o. fits o t) (value_of_cell names words cells k (name_at names k) once (name_there names k b) ∙ e)) ∙ f)

all_true : (a b c : Bool) → (a && (b && c)) ≡ true → (a ≡ true) × (b ≡ true) × (c ≡ true)
all_true true true true e = (refl, refl, refl)
all_true true true false e = cc
all_true true false c e = cc
all_true false b c e = cc

pub cells_extend : (names : List Name) (words : Words) (s : PatternSlots) (cells : List Cell) (ids : IdTriple) → IsOnce names → IsStrictlySortedBy term_cmp words.terms
    → AreSlots (length names) s → AreCells names words cells → IsBelow (length words.terms) ids
    → agrees (pattern_of names words.given s) (row_of names words cells) (decode words.terms ids) ≡ true
    → option_map (row_of names words) (extended s cells ids) ≡ row_extended (pattern_of names words.given s) (row_of names words cells) (decode words.terms ids)
cells_extend names words s cells ids once rising b are h agree =
    let a = all_true _ _ _ agree in
    let first = bind_means names words once rising s.subject cells ids.s b.0 are h.s (own_agrees names words once rising s.subject cells (term_numbered words.terms ids.s) b.0 a.0) in
    let second = then_bind names words once rising s.predicate cells _ _ ids.p b.1.0 h.p
    (own_agrees names words once rising s.predicate cells (term_numbered words.terms ids.p) b.1.0 a.1) first in
    let third = then_bind names words once rising s.object cells _ _ ids.o b.1.1 h.o
    (own_agrees names words once rising s.object cells (term_numbered words.terms ids.o) b.1.1 a.2) second in
    third.means

bound_within : (terms given made slot id : ℕ) (c : Cell) (cells after : List Cell) → AreCellsIn terms given made cells → id < terms → bind_cell slot id c cells ≡ Some after
    → AreCellsIn terms given made after
bound_within terms given made slot id Free cells after h lt e = subst (AreCellsIn terms given made) (Some_same _ after e) (set_within terms given made slot (Id id) cells h lt)
bound_within terms given made slot id (Id k) cells after h lt e = by_test (k == id) e
  where
    by_test : (b : Bool) → (if b then Some cells else None) ≡ Some after → AreCellsIn terms given made after
    by_test true d = subst (AreCellsIn terms given made) (Some_same cells after d) h
    by_test false d = cc
bound_within terms given made slot id (Given k) cells after h lt e = subst (AreCellsIn terms given made) (Some_same cells after e) h
bound_within terms given made slot id (Made k) cells after h lt e = subst (AreCellsIn terms given made) (Some_same cells after e) h

abbrev WithinIf : (terms given made : ℕ) → Option (List Cell) → Type 0
WithinIf terms given made None = Unit {0}
WithinIf terms given made (Some cells) = AreCellsIn terms given made cells

within_if : (terms given made : ℕ) (o : Option (List Cell)) → ((after : List Cell) → o ≡ Some after → AreCellsIn terms given made after) → WithinIf terms given made o
within_if terms given made None h = tt
within_if terms given made (Some cells) h = h cells refl

slot_within : (terms given made : ℕ) (s : code.Position) (id : ℕ) (o : Option (List Cell)) → id < terms → WithinIf terms given made o → WithinIf terms given made (bind_slot s id o)
slot_within terms given made (place.Known k) id o lt h = h
slot_within terms given made (place.Slot k) id None lt h = tt
slot_within terms given made (place.Slot k) id (Some cells) lt h =
    within_if terms given made (bind_cell k id (cell_at cells k) cells) (λ after e. bound_within terms given made k id (cell_at cells k) cells after h lt e)

pub extended_within : (terms given made : ℕ) (s : PatternSlots) (cells after : List Cell) (ids : IdTriple) → AreCellsIn terms given made cells → IsBelow terms ids
    → extended s cells ids ≡ Some after → AreCellsIn terms given made after
extended_within terms given made s cells after ids h b e =
    subst (WithinIf terms given made) e
    (slot_within terms given made s.object ids.o _ b.o (slot_within terms given made s.predicate ids.p _ b.p (slot_within terms given made s.subject ids.s (Some cells) b.s h)))
