-- What a pattern asks for under a row of cells.
use Rattle.std.proofs.Common.{◌≡◌, ℕ, ◌<◌, Bool, true, false, List, [], length, get_or, Option, Some, None, refl, sym, ap, ◌∙◌, subst, ⊎_elim}
use Rattle.std.specs.Prelude.{slice_get, slice_set, is_some, ◌&&◌, ◌==◌}
use Rattle.std.specs.List.Sorted.{IsStrictlySortedBy}
use Rattle.std.proofs.lemmas.Option.{slice_get-get_or}
use Rattle.term_core.specs.declared.term.Term.{Term}
use Rattle.term_core.specs.declared.term.Term.TheVariants.{Iri}
use Rattle.term_core.specs.declared.pattern.IdTriple.{IdTriple}
use Rattle.term_core.specs.Mappings.{Name, value, same_term}
use Rattle.term_core.specs.Order.{term_cmp}
use Rattle.term_core.specs.Patterns.{filled, fits, agrees}
use Rattle.term_core.specs.Index.{index_at, index_of}
use Rattle.sage_outside.specs.Blocks.{Tells}
use Rattle.term_dict.specs.Ranks.{IsRank}
use Rattle.store_image.specs.Table.{term_numbered, decode, IsBelow}
use Rattle.store_image.specs.Holds.{Shows}
use Rattle.triple_store.specs.declared.asked.Wanted.{Wanted}
use Rattle.triple_store.specs.declared.asked.Wanted.TheVariants.{Any, Only, Nothing}
use Rattle.triple_store.specs.declared.asked.Asked.{Asked}
use Rattle.triple_store.specs.Asked.{wanted_of, admits, is_bound, asks_for, index_for}
use Rattle.triple_store.specs.Ranges.{IsAskedBy}
use Rattle.triple_store.specs.Stores.{View, IsKept, IsShown}
use Rattle.triple_store.proofs.Matches.{wants}
use Rattle.row_cells.specs.declared.cell.Cell.{Cell}
use Rattle.row_cells.specs.declared.cell.Cell.TheVariants.{Free, Id, Given, Made}
use Rattle.row_cells.specs.declared.cell.Position as code
use Rattle.row_cells.specs.declared.cell.Position.TheVariants as place
use Rattle.row_cells.specs.declared.cell.PatternSlots.{PatternSlots}
use Rattle.row_cells.specs.Cells.{Words, cell_term, row_of, position_of, position_cell, pattern_of, IsSlot, AreSlots}
use Rattle.row_cells.specs.Data.{Data, ShowsData}
use Rattle.row_cells.specs.declared.own.OwnTerms.{OwnTerms}
use Rattle.row_cells.specs.Owns.{Wants, AsksFor, IsSameOwn, words_of}
use Rattle.row_cells.specs.Laws.{IsOnce}
use Rattle.term_core.proofs.Merges.{Some_same}
use Rattle.row_cells.proofs.Set.{get_set}
use Rattle.row_cells.proofs.Rows.{value_of_cell}
use Rattle.row_cells.proofs.Binding.{ids_and_terms, name_there}

-- a store that shows data, as its own calls see it
pub shown_store : (store : View) (D : Data) → ShowsData store.header store.device.image D → IsShown store D.terms D.ids
shown_store store D shown = record { image = shown.bytes; told = shown.told; shows = shown.shows }

pub shown_after : (before now : View) (D : Data) → IsKept before now → ShowsData before.header before.device.image D → ShowsData now.header now.device.image D
shown_after before now D kept shown = record {
  bytes = shown.bytes;
  told = record { told = kept.image ∙ shown.told.told };
  shows = subst (λ h. Shows h D.terms D.ids shown.bytes) (sym kept.header) shown.shows;
}

rank_bound : (r : Option ℕ) → is_bound (wanted_of r) ≡ true
rank_bound None = refl
rank_bound (Some k) = refl

-- a term's rank is what it asks for
pub wants_rank : (terms : List Term) (t : Term) (r : Option ℕ) → IsStrictlySortedBy term_cmp terms → IsRank terms t r → Wants terms (Some t) (wanted_of r)
wants_rank terms t r rising rank = record { bound = rank_bound r; same = λ k lt. wants terms t r k rising rank lt }

pub wants_any : (terms : List Term) → Wants terms None Any
wants_any terms = record { bound = refl; same = λ k lt. refl }

pub wants_id : (terms : List Term) (id : ℕ) → IsStrictlySortedBy term_cmp terms → id < length terms → Wants terms (Some (term_numbered terms id)) (Only id)
wants_id terms id rising h = record { bound = refl; same = λ k lt. ids_and_terms terms rising id k h lt }

-- what stands at a position is what the pattern has there under the row
position_value : (names : List Name) (words : Words) (s : code.Position) (cells : List Cell) → IsOnce names → IsSlot (length names) s
    → cell_term words (position_cell cells s) ≡ filled (row_of names words cells) (position_of names words.given s)
position_value names words (place.Known k) cells once b = refl
position_value names words (place.Slot k) cells once b = sym (value_of_cell names words cells k _ once (name_there names k b))

wants_there : (names : List Name) (words : Words) (s : code.Position) (cells : List Cell) (w : Wanted) → IsOnce names → IsSlot (length names) s
    → Wants words.terms (cell_term words (position_cell cells s)) w → Wants words.terms (filled (row_of names words cells) (position_of names words.given s)) w
wants_there names words s cells w once b h = subst (λ o. Wants words.terms o w) (position_value names words s cells once b) h

pub cells_ask : (names : List Name) (words : Words) (s : PatternSlots) (cells : List Cell) (asked : Asked) → IsOnce names → AreSlots (length names) s
    → AsksFor words.terms words s cells asked → IsAskedBy words.terms (pattern_of names words.given s) (row_of names words cells) asked
cells_ask names words s cells asked once b h =
    let subject = wants_there names words s.subject cells asked.s once b.0 h.subject in
    let predicate = wants_there names words s.predicate cells asked.p once b.1.0 h.predicate in
    let object = wants_there names words s.object cells asked.o once b.1.1 h.object in
    record {
      index = λ i. index_at (subject.bound i) (predicate.bound i) (object.bound i);
      same = λ ids below. λ i. subject.same ids.s below.s i && (predicate.same ids.p below.p i && object.same ids.o below.o i);
    }

-- a rank that was looked up is set beside its term
pub sought_set : (terms given : List Term) (ranks : List (Option Wanted)) (number : ℕ) (w : Wanted) → Wants terms (Some (term_numbered given number)) w
    → ((k : ℕ) (v : Wanted) → slice_get ranks k ≡ Some (Some v) → Wants terms (Some (term_numbered given k)) v)
    → (k : ℕ) (v : Wanted) → slice_get (slice_set ranks number (Some w)) k ≡ Some (Some v) → Wants terms (Some (term_numbered given k)) v
sought_set terms given ranks number w here old k v e = ⊎_elim
    (λ there. old k v there)
    (λ set. subst (λ j. Wants terms (Some (term_numbered given j)) v) (sym set.0) (subst (Wants terms (Some (term_numbered given number))) (Some_same w v set.1) here))
    (get_set ranks number k (Some w) (Some v) e)

pub same_words : (terms : List Term) (a b : OwnTerms) → IsSameOwn a b → words_of terms b ≡ words_of terms a
same_words terms a b same = λ i. record { terms = terms; given = same.given i; made = same.made i }

-- what an index reads is the term with that number
pub read_term : (given : List Term) (n : ℕ) (t : Term) → n < length given → t ≡ get_or given n t → t ≡ term_numbered given n
read_term given n t h e = e ∙ Some_same (get_or given n t) (term_numbered given n) (sym (slice_get-get_or given n t h) ∙ slice_get-get_or given n (Iri []) h)

-- what is asked for at the three positions, when each was looked up behind the one before
pub asks_parts : (terms : List Term) (a b c : OwnTerms) (s : PatternSlots) (cells : List Cell) (x y z : Cell) (u v w : Wanted)
    → x ≡ position_cell cells s.subject → y ≡ position_cell cells s.predicate → z ≡ position_cell cells s.object → IsSameOwn a b → IsSameOwn b c
    → Wants terms (cell_term (words_of terms a) x) u → Wants terms (cell_term (words_of terms b) y) v → Wants terms (cell_term (words_of terms c) z) w
    → AsksFor terms (words_of terms a) s cells record { s = u; p = v; o = w }
asks_parts terms a b c s cells x y z u v w e f g ab bc p q r =
    let to_b = same_words terms a b ab in
    let to_c = same_words terms b c bc ∙ to_b in
    record {
      subject = subst (λ cell. Wants terms (cell_term (words_of terms a) cell) u) e p;
      predicate = subst (λ words. Wants terms (cell_term words (position_cell cells s.predicate)) v) to_b (subst (λ cell. Wants terms (cell_term (words_of terms b) cell) v) f q);
      object = subst (λ words. Wants terms (cell_term words (position_cell cells s.object)) w) to_c (subst (λ cell. Wants terms (cell_term (words_of terms c) cell) w) g r);
    }
