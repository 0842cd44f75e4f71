-- Cursors, the entries that they leave, and the bytes that they have.
use Rattle.std.proofs.Common.{◌≡◌, ℕ, zero, suc, ◌+◌, ◌<◌, List, [], ◌∷◌, ◌++◌, length, drop, Option, Some, None, Result, Ok, Err, IfOk, refl, sym, ap, ◌∙◌, subst, arith}
use Rattle.std.specs.Prelude.{slice_get, option_map}
use Rattle.std.proofs.Math.Seq.{drop-append_seam}
use Rattle.term_core.specs.declared.pattern.IdTriple.{IdTriple}
use Rattle.term_core.specs.Mappings.{Row}
use Rattle.term_core.proofs.Merges.{Some_same}
use Rattle.plan_tree.specs.States.{at_triple, State, join_state}
use Rattle.plan_tree.specs.Spelling.{state_bytes}
use Rattle.plan_tree.specs.OnePattern.{fresh_state, opened_state, closing_state}
use Rattle.term_core.proofs.Ranked.{In-slice_get}
use Rattle.pattern_page.specs.declared.page.Cursor.{Cursor}
use Rattle.pattern_page.specs.declared.page.Cursor.TheVariants as cursors
use Rattle.pattern_page.specs.declared.page.Part.{Part}
use Rattle.pattern_page.specs.declared.state.State as code_state
use Rattle.pattern_page.specs.declared.state.State.TheVariants as states
use Rattle.term_core.specs.declared.term.Term.{Term}
use Rattle.sage_outside.specs.declared.fault.StoreFault.{StoreFault}
use Rattle.store_image.specs.Table.{IsBelow, IsFound}
use Rattle.pattern_page.specs.StateReading.{at_state, state_of, state_at, AreSmall, AreBytes}
use Rattle.pattern_page.specs.PagesOf.{Seen, part_seen, range_entry, rest_of, IsCursorWithin, IsSound, IsReadable, cursor_state, spelled_state, saved_at, IsBehind, IsNamed, IsRead, IsPlaced, Loads}
use Rattle.pattern_page.proofs.StateBytes.{state_again, state_only}
use Rattle.pattern_page.proofs.PageLists.{drop_at}

-- a triple of the range
pub below_at : (part : Seen) (k : ℕ) (ids : IdTriple) → IsSound part → slice_get (part.triples) k ≡ Some ids → IsBelow (length (part.terms)) ids
below_at part k ids s e = s.below ids (In-slice_get (part.triples) k ids e)

small_at : (part : Seen) (k : ℕ) (ids : IdTriple) → IsSound part → slice_get (part.triples) k ≡ Some ids → AreSmall ids
small_at part k ids s e =
    let b = below_at part k ids s e in
    record { s = omega (arith, b.s, s.few); p = omega (arith, b.p, s.few); o = omega (arith, b.o, s.few) }

-- the steps
pub gives_triple : (part : Seen) (place : ℕ) (ids : IdTriple) (row : Option Row) → slice_get (part.triples) place ≡ Some ids → row ≡ range_entry part ids
    → rest_of part (drop place (part.triples)) ≡ row ∷ rest_of part (drop (place + 1) (part.triples))
gives_triple part place ids row e r =
    ap (rest_of part) (drop_at (part.triples) place ids e) ∙ ap (λ w. w ∷ rest_of part (drop (place + 1) (part.triples))) (sym r)

-- the bytes of a cursor
pub record HasState (part : Seen) (cursor : Cursor) (bytes : List ℕ) : Type 0 where
  pub state : State
  pub at : cursor_state part cursor ≡ Some state
  pub is : bytes ≡ spelled_state part state

from_saved : (part : Seen) (found : Option State) (bytes : List ℕ) → option_map (spelled_state part) found ≡ Some bytes → (state : State) × (found ≡ Some state) × (bytes ≡ spelled_state part state)
from_saved part None bytes e = cc
from_saved part (Some state) bytes e = (state, refl, sym (Some_same (spelled_state part state) bytes e))

pub saved_state : (part : Seen) (cursor : Cursor) (bytes : List ℕ) → saved_at part cursor ≡ Some bytes → HasState part cursor bytes
saved_state part cursor bytes e = let r = from_saved part (cursor_state part cursor) bytes e in record { state = r.0; at = r.1; is = r.2 }

slice_get_below : {X : Type 0} (xs : List X) (k : ℕ) (x : X) → slice_get xs k ≡ Some x → k < length xs
slice_get_below [] k x e = cc
slice_get_below (y ∷ xs) zero x e = omega arith
slice_get_below (y ∷ xs) (suc k) x e = omega (arith, slice_get_below xs k x e)

-- where the cursor's state is read from its bytes
again_after : (part : Seen) (place : ℕ) (found : Option IdTriple) (state : State) → IsSound part → slice_get (part.triples) place ≡ found → option_map at_state found ≡ Some state
    → IsReadable state
again_after part place None state s f e = cc
again_after part place (Some ids) state s f e =
    let same : at_state ids ≡ state = Some_same (at_state ids) state e in
    subst (λ (w : State). state_at (state_bytes w) ≡ Some w) same (state_again (states.At ids) (small_at part place ids s f))

pub cursor_again : (part : Seen) (cursor : Cursor) (state : State) → IsSound part → cursor_state part cursor ≡ Some state → IsReadable state
cursor_again part cursors.Fresh state s e = subst (λ (w : State). state_at (state_bytes w) ≡ Some w) (Some_same fresh_state state e) refl
cursor_again part cursors.Opened state s e = subst (λ (w : State). state_at (state_bytes w) ≡ Some w) (Some_same opened_state state e) refl
cursor_again part (cursors.After place) state s e = again_after part place (slice_get (part.triples) place) state s refl e
cursor_again part cursors.Closing state s e = subst (λ (w : State). state_at (state_bytes w) ≡ Some w) (Some_same closing_state state e) refl
cursor_again part cursors.Done state s e = cc

-- one front after the other
behind_same : (front a b : List ℕ) → front ++ a ≡ front ++ b → a ≡ b
behind_same front a b e = sym (drop-append_seam front a) ∙ ap (drop (length front)) e ∙ drop-append_seam front b

named_same : (data_name text_name a b : List ℕ) → 2 ∷ (data_name ++ (text_name ++ a)) ≡ 2 ∷ (data_name ++ (text_name ++ b)) → a ≡ b
named_same data_name text_name a b e = behind_same text_name a b (behind_same data_name (text_name ++ a) (text_name ++ b) (ap (drop 1) e))

pub named_behind : (data_name text_name bytes a b : List ℕ) (found : Option (List ℕ)) → bytes ≡ 2 ∷ a → a ≡ data_name ++ b → IsBehind text_name b found
    → IsNamed data_name text_name bytes found
named_behind data_name text_name bytes a b None e f h = λ rest g.
    h rest (behind_same data_name b (text_name ++ rest) (sym f ∙ ap (drop 1) (sym e ∙ g)))
named_behind data_name text_name bytes a b (Some rest) e f h = e ∙ ap (λ w. 2 ∷ w) (f ∙ ap (λ w. data_name ++ w) h)

-- what stands behind bytes are bytes
behind_bytes : (front rest : List ℕ) → AreBytes (front ++ rest) → AreBytes rest
behind_bytes [] rest h = h
behind_bytes (x ∷ front) rest h = behind_bytes front rest (λ i. h (suc i))

bytes_behind : (data_name text_name bytes rest : List ℕ) → AreBytes bytes → bytes ≡ 2 ∷ (data_name ++ (text_name ++ rest)) → AreBytes rest
bytes_behind data_name text_name bytes rest h n =
    let names : AreBytes (2 ∷ (data_name ++ (text_name ++ rest))) = subst (λ w. AreBytes w) n h in
    behind_bytes text_name rest (behind_bytes data_name (text_name ++ rest) (λ i. names (suc i)))

-- the state that bytes spell
module _ (part : Part) (bytes : List ℕ) where
  pub unnamed : IsNamed part.data_name part.text_name bytes None → IsRead part bytes None
  unnamed n = λ state r e. n (state_bytes state) (sym e)

  pub unread : (rest : List ℕ) → IsNamed part.data_name part.text_name bytes (Some rest) → None ≡ state_at rest → IsRead part bytes None
  unread rest n f = λ state r e.
      let same : rest ≡ state_bytes state = named_same part.data_name part.text_name rest (state_bytes state) (sym n ∙ sym e) in
      let k : None ≡ Some state = f ∙ ap state_at same ∙ r in cc

  pub read : (rest : List ℕ) (state : code_state.State) → AreBytes bytes → IsNamed part.data_name part.text_name bytes (Some rest) → Some (state_of state) ≡ state_at rest
      → IsRead part bytes (Some state)
  read rest state b n f =
      let same : rest ≡ state_bytes (state_of state) = state_only rest (state_of state) (bytes_behind part.data_name part.text_name bytes rest b n) (sym f) in
      (ap (λ w. 2 ∷ (part.data_name ++ (part.text_name ++ w))) (sym same) ∙ sym n, ap state_at (sym same) ∙ sym f)

-- the place of a state's triple
module _ (part : Seen) (ids : IdTriple) where
  triple_in : State → IdTriple
  triple_in (join_state left (at_triple i)) = i
  triple_in state = ids

  same_triple : (other : IdTriple) → at_state other ≡ at_state ids → other ≡ ids
  unfolding triple_in
  same_triple other e = ap triple_in e

  placed_at : (place : ℕ) (found : Option IdTriple) → slice_get part.triples place ≡ found → option_map at_state found ≡ Some (at_state ids)
      → slice_get part.triples place ≡ Some ids
  placed_at place None f e = cc
  placed_at place (Some other) f e = f ∙ ap Some (same_triple other (Some_same (at_state other) (at_state ids) e))

  pub strayed : IsFound part.triples ids None → IsPlaced part (states.At ids) None
  strayed found cursors.Fresh w e = cc
  strayed found cursors.Opened w e = cc
  strayed found (cursors.After place) w e =
      found.none.0 refl (In-slice_get part.triples place ids (placed_at place (slice_get part.triples place) refl e))
  strayed found cursors.Closing w e = cc
  strayed found cursors.Done w e = cc

  pub placed : (place : ℕ) → IsFound part.triples ids (Some place) → IsPlaced part (states.At ids) (Some (cursors.After place))
  placed place found =
      let e = (found.at place).0 refl in
      (slice_get_below part.triples place ids e, ap (option_map at_state) e)

-- the cursor of bytes
module _ (part : Part) (terms : List Term) (ids : List IdTriple) (bytes : List ℕ) (sound : IsSound (part_seen part terms ids)) where
  pub not_loaded : IsRead part bytes None → Loads (part_seen part terms ids) bytes None
  not_loaded r = λ cursor w e.
      let h = saved_state (part_seen part terms ids) cursor bytes e in
      r h.state (cursor_again (part_seen part terms ids) cursor h.state sound h.at) (sym h.is)

  pub loaded : (state : code_state.State) (found : Option Cursor) → IsRead part bytes (Some state) → IsPlaced (part_seen part terms ids) state found → Loads (part_seen part terms ids) bytes found
  loaded state None r p = λ cursor w e.
      let h = saved_state (part_seen part terms ids) cursor bytes e in
      let same : state_bytes (state_of state) ≡ state_bytes h.state = named_same part.data_name part.text_name (state_bytes (state_of state)) (state_bytes h.state) (r.0 ∙ h.is) in
      p cursor w (h.at ∙ sym (cursor_again (part_seen part terms ids) cursor h.state sound h.at) ∙ ap state_at (sym same) ∙ r.1)
  loaded state (Some cursor) r p = (p.0, ap (option_map (spelled_state (part_seen part terms ids))) p.1 ∙ ap Some r.0)

  pub loaded_all : (state : code_state.State) (r : Result (Option Cursor) StoreFault) → IsRead part bytes (Some state) → IfOk r (IsPlaced (part_seen part terms ids) state)
      → IfOk r (Loads (part_seen part terms ids) bytes)
  loaded_all state (Ok found) r p = loaded state found r p
  loaded_all state (Err fault) r p = tt

pub read_all : (part : Part) (bytes rest : List ℕ) (found : Option code_state.State) → AreBytes bytes → IsNamed part.data_name part.text_name bytes (Some rest)
    → option_map state_of found ≡ state_at rest → IsRead part bytes found
read_all part bytes rest None b n f = unread part bytes rest n f
read_all part bytes rest (Some state) b n f = read part bytes rest state b n f
