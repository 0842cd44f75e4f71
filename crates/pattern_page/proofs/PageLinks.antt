-- The cursors of a part and the states of its plan.
use Rattle.std.proofs.Common.{◌≡◌, ℕ, zero, suc, ◌+◌, ◌<◌, ◌≤◌, List, [], ◌∷◌, ◌++◌, length, map, take, drop, Option, Some, None, Result, Ok, Err, IfOk, IfErr, refl, sym, ap, ◌∙◌, subst, arith, length-append}
use Rattle.std.specs.Prelude.{slice_get, slice_index_or, option_map, flat_map}
use Rattle.std.proofs.lemmas.List.{length-map}
use Rattle.std.proofs.lemmas.Option.{slice_get-map, slice_get-get_or}
use Rattle.term_core.specs.declared.term.Term.{Term}
use Rattle.term_core.specs.declared.term.Term.TheVariants.{Iri}
use Rattle.term_core.specs.declared.term.Triple.{Triple}
use Rattle.term_core.specs.declared.pattern.IdTriple.{IdTriple}
use Rattle.term_core.specs.declared.pattern.Pattern.{Pattern}
use Rattle.term_core.specs.Mappings.{Row, same_term}
use Rattle.term_core.proofs.Merges.{Some_same, terms_same, term_itself}
use Rattle.term_core.proofs.Distinct.{In-distinct, from_In-distinct}
use Rattle.term_core.specs.Patterns.{pattern_of, names_in}
use Rattle.term_core.specs.Data.{parts, terms_of, rank, ids_of}
use Rattle.term_core.specs.Bags.{HaveSame}
use Rattle.plan_tree.specs.Trace.{Entries, trace, steps, rows_of}
use Rattle.plan_tree.specs.States.{State, Stands}
use Rattle.plan_tree.specs.Spelling.{plan_bytes, state_bytes}
use Rattle.plan_tree.specs.OnePattern.{matches, solution_of, entry_of, fresh_state, opened_state, closing_state, triple_state, IsPatternState, is_fresh, is_opened, is_triple, is_closing}
use Rattle.plan_tree.specs.Pages.{IsNext, page_end, IsPage}
use Rattle.term_core.proofs.Ranked.{In-slice_get, rank_is}
use Rattle.plan_tree.proofs.Single.{pattern_trace, pattern_states, state_is, entry_kept}
use Rattle.pattern_page.specs.declared.page.Page as code_page
use Rattle.triple_store.specs.Stores.{View}
use Rattle.pattern_page.specs.declared.page.PageFault.{PageFault}
use Rattle.pattern_page.specs.declared.page.PageFault.TheVariants as faults
use Rattle.pattern_page.specs.declared.page.Cursor.{Cursor}
use Rattle.pattern_page.specs.declared.page.Cursor.TheVariants as cursors
use Rattle.store_image.specs.Table.{term_numbered, decode, IsBelow}
use Rattle.pattern_page.specs.Part.{select_all_text, part_plan}
use Rattle.pattern_page.specs.StateReading.{at_state}
use Rattle.pattern_page.specs.PagesOf.{Seen, IsOf, IsSound, range_entry, rest_of, left_at, IsCursorWithin, cursor_place, cursor_state, spelled_state, saved_at, Loads, Starts, IsPageFrom, page_of, Resumes, NoState, AnswersPage, IsRefusal}
use Rattle.pattern_page.proofs.PageLists.{length-drop_sum, left_length}
use Rattle.pattern_page.proofs.PageCursor.{saved_state}

-- the entries
map_same : {X Y : Type 0} (f g : X → Y) (xs : List X) → ((x : X) → f x ≡ g x) → map f xs ≡ map g xs
map_same f g [] h = refl
map_same f g (x ∷ xs) h = λ i. h x i ∷ map_same f g xs h i

map_twice : {X Y Z : Type 0} (f : Y → Z) (g : X → Y) (xs : List X) → map f (map g xs) ≡ map (λ x. f (g x)) xs
map_twice f g [] = refl
map_twice f g (x ∷ xs) = ap (λ w. f (g x) ∷ w) (map_twice f g xs)

module _ (D : List Triple) (pattern : Pattern) (part : Seen) (h : IsOf D pattern part) where
  entries_same : map (entry_of (pattern_of pattern) (names_in (pattern_of pattern))) (matches D (pattern_of pattern)) ≡ map (range_entry part) (part.triples)
  entries_same =
      let p = pattern_of pattern in
      let terms = part.terms in
      map_same (entry_of p (names_in p)) (solution_of p) (matches D p) (λ t. entry_kept p (names_in p) t (λ name i. i))
      ∙ ap (map (solution_of p)) (sym h.listing)
      ∙ map_twice (solution_of p) (decode terms) (part.triples)
      ∙ ap (λ (w : Pattern). map (λ i. solution_of (pattern_of w) (decode terms i)) (part.triples)) (sym h.same)

  pub trace_is : trace D (part_plan pattern) ≡ left_at part cursors.Fresh
  trace_is = (pattern_trace D (pattern_of pattern) (names_in (pattern_of pattern))).entries_are ∙ ap (λ w. None ∷ (w ++ None ∷ None ∷ [])) entries_same

  range_length : length (matches D (pattern_of pattern)) ≡ length (part.triples)
  range_length = ap (λ (w : List Triple). length w) (sym h.listing) ∙ length-map (part.triples) (decode (part.terms))

  pub steps_are : steps D (part_plan pattern) ≡ length (part.triples) + 3
  steps_are = omega (arith, (pattern_trace D (pattern_of pattern) (names_in (pattern_of pattern))).steps_are, range_length)

-- what a cursor leaves is what stands behind its place
module _ {X : Type 0} (f : X → Option Row) where
  drop_mapped : (xs : List X) (n : ℕ) (es : Entries) → n ≤ length xs → drop n (map f xs ++ es) ≡ map f (drop n xs) ++ es
  drop_mapped xs zero es h = refl
  drop_mapped [] (suc n) es h = absurd (omega (arith, h))
  drop_mapped (x ∷ xs) (suc n) es h = drop_mapped xs n es (omega (arith, h))

  past_one : (xs : List X) → drop (suc (length xs)) (map f xs ++ None ∷ None ∷ []) ≡ None ∷ []
  past_one [] = refl
  past_one (x ∷ xs) = past_one xs

  past_two : (xs : List X) → drop (suc (suc (length xs))) (map f xs ++ None ∷ None ∷ []) ≡ []
  past_two [] = refl
  past_two (x ∷ xs) = past_two xs

drop_from : (n m : ℕ) (es left : Entries) → n ≡ suc m → left ≡ drop m es → left ≡ drop n (None ∷ es)
drop_from n m es left e h = subst (λ w. left ≡ drop w (None ∷ es)) (sym e) h

pub left_is : (part : Seen) (cursor : Cursor) → IsCursorWithin part cursor → left_at part cursor ≡ drop (cursor_place part cursor) (left_at part cursors.Fresh)
left_is part cursors.Fresh w = refl
left_is part cursors.Opened w = refl
left_is part (cursors.After place) w =
    let ids = part.triples in
    drop_from (place + 2) (place + 1) (rest_of part ids) (left_at part (cursors.After place)) (omega arith)
    (sym (drop_mapped (range_entry part) ids (place + 1) (None ∷ None ∷ []) (omega (arith, w))))
left_is part cursors.Closing w =
    let ids = part.triples in
    drop_from (length ids + 2) (suc (length ids)) (rest_of part ids) (None ∷ []) (omega arith) (sym (past_one (range_entry part) ids))
left_is part cursors.Done w =
    let ids = part.triples in
    drop_from (length ids + 3) (suc (suc (length ids))) (rest_of part ids) [] (omega arith) (sym (past_two (range_entry part) ids))

pub fresh_length : (part : Seen) → length (left_at part cursors.Fresh) ≡ length (part.triples) + 3
fresh_length part =
    let ids = part.triples in
    omega (arith, length-append (map (range_entry part) ids) (None ∷ None ∷ []), length-map ids (range_entry part))

place_inside : (part : Seen) (cursor : Cursor) → IsCursorWithin part cursor → cursor_place part cursor ≤ length (part.triples) + 3
place_inside part cursors.Fresh w = omega arith
place_inside part cursors.Opened w = omega arith
place_inside part (cursors.After place) w = omega (arith, w)
place_inside part cursors.Closing w = omega arith
place_inside part cursors.Done w = omega arith

pub left_count : (part : Seen) (cursor : Cursor) → IsCursorWithin part cursor → length (left_at part cursor) + cursor_place part cursor ≡ length (part.triples) + 3
left_count part cursor w =
    let n = cursor_place part cursor in
    let es = left_at part cursors.Fresh in
    let inside : n ≤ length es = omega (arith, place_inside part cursor w, fresh_length part) in
    ap (λ (l : Entries). length l + n) (left_is part cursor w) ∙ length-drop_sum es n inside ∙ fresh_length part

-- the numbers of a triple are its ranks
module _ (D : List Triple) (pattern : Pattern) (part : Seen) (h : IsOf D pattern part) where
  abbrev terms : List Term
  terms = part.terms

  pub terms_alike : HaveSame terms (terms_of D)
  terms_alike = record {
    to = λ t i. In-distinct same_term terms_same term_itself (flat_map parts D) t (h.table_is.to t i);
    from = λ t i. h.table_is.from t (from_In-distinct same_term terms_same term_itself (flat_map parts D) t i);
  }

  rank_at : (k : ℕ) → k < length terms → rank D (term_numbered terms k) ≡ k
  rank_at k l = rank_is D terms h.table_is.rising terms_alike k (term_numbered terms k) (slice_get-get_or terms k (Iri []) l)

  pub ids_decoded : (ids : IdTriple) → IsBelow (length terms) ids → ids_of D (decode terms ids) ≡ ids
  ids_decoded ids b =
      let s = rank_at ids.s b.s in let p = rank_at ids.p b.p in let o = rank_at ids.o b.o in
      λ i. record { s = s i; p = p i; o = o i }

  found_at : (k : ℕ) (ids : IdTriple) → slice_get (part.triples) k ≡ Some ids → slice_get (matches D (pattern_of pattern)) k ≡ Some (decode terms ids)
  found_at k ids e =
      ap (λ (w : List Triple). slice_get w k) (sym h.listing) ∙ slice_get-map (decode terms) (part.triples) k ∙ ap (option_map (decode terms)) e

  below_found : (k : ℕ) (ids : IdTriple) → slice_get (part.triples) k ≡ Some ids → IsBelow (length terms) ids
  below_found k ids e = h.sound.below ids (In-slice_get (part.triples) k ids e)

  -- a cursor's state stands at its place
  after_stands : (place : ℕ) (found : Option IdTriple) (state : State) → slice_get (part.triples) place ≡ found → option_map at_state found ≡ Some state
      → Stands D (part_plan pattern) state (place + 2)
  after_stands place None state e f = cc
  after_stands place (Some ids) state e f =
      let stands = (pattern_states D (pattern_of pattern) (names_in (pattern_of pattern))).triple place (decode terms ids) (found_at place ids e) in
      let same : triple_state D (decode terms ids) ≡ state = ap at_state (ids_decoded ids (below_found place ids e)) ∙ Some_same (at_state ids) state f in
      subst (λ (w : State). Stands D (part_plan pattern) w (place + 2)) same stands

  pub cursor_stands : (cursor : Cursor) (state : State) → cursor_state part cursor ≡ Some state → Stands D (part_plan pattern) state (cursor_place part cursor)
  cursor_stands cursors.Fresh state e =
      subst (λ (w : State). Stands D (part_plan pattern) w 0) (Some_same fresh_state state e) (pattern_states D (pattern_of pattern) (names_in (pattern_of pattern))).fresh
  cursor_stands cursors.Opened state e =
      subst (λ (w : State). Stands D (part_plan pattern) w 1) (Some_same opened_state state e) (pattern_states D (pattern_of pattern) (names_in (pattern_of pattern))).opened_next
  cursor_stands (cursors.After place) state e = after_stands place (slice_get (part.triples) place) state refl e
  cursor_stands cursors.Closing state e =
      subst (λ (w : State). Stands D (part_plan pattern) w (length (part.triples) + 2)) (Some_same closing_state state e)
      (subst (λ (w : ℕ). Stands D (part_plan pattern) closing_state (w + 2)) (range_length D pattern part h) (pattern_states D (pattern_of pattern) (names_in (pattern_of pattern))).closing)
  cursor_stands cursors.Done state e = cc

  after_end : (place : ℕ) (found : Option IdTriple) → place < length (part.triples) → slice_get (part.triples) place ≡ found → option_map at_state found ≡ None → ⊥
  after_end place None w e f =
      let there : slice_get (part.triples) place ≡ Some (slice_index_or (part.triples) place (record { s = 0; p = 0; o = 0 })) = slice_get-get_or (part.triples) place (record { s = 0; p = 0; o = 0 }) w in
      cc
  after_end place (Some ids) w e f = cc

  -- a cursor without a state is at the end
  cursor_ends : (cursor : Cursor) → IsCursorWithin part cursor → cursor_state part cursor ≡ None → cursor_place part cursor ≡ steps D (part_plan pattern)
  cursor_ends cursors.Fresh w e = cc
  cursor_ends cursors.Opened w e = cc
  cursor_ends (cursors.After place) w e = absurd (after_end place (slice_get (part.triples) place) w refl e)
  cursor_ends cursors.Closing w e = cc
  cursor_ends cursors.Done w e = sym (steps_are D pattern part h)

  -- bytes of a state
  pub spelled_is : (state : State) → spelled_state part state ≡ plan_bytes D (select_all_text pattern) state
  spelled_is state = λ i. 2 ∷ (h.data_name i ++ (h.text_name i ++ state_bytes state))

  next_of : (cursor : Cursor) (found : Option State) (next : Option (List ℕ)) → IsCursorWithin part cursor → cursor_state part cursor ≡ found → next ≡ option_map (spelled_state part) found
      → IsNext D (part_plan pattern) (select_all_text pattern) (cursor_place part cursor) next
  next_of cursor None next w e f = subst (IsNext D (part_plan pattern) (select_all_text pattern) (cursor_place part cursor)) (sym f) (cursor_ends cursor w e)
  next_of cursor (Some state) next w e f =
      subst (IsNext D (part_plan pattern) (select_all_text pattern) (cursor_place part cursor)) (sym f) (state, cursor_stands cursor state e, spelled_is state)

  -- the page of a cursor
  pub page_is : (start : Cursor) (quantum : ℕ) (page : code_page.Page) → IsCursorWithin part start → IsPageFrom part start quantum page
      → IsPage D (part_plan pattern) (select_all_text pattern) (cursor_place part start) quantum (page_of page)
  page_is start quantum page w f =
      let n = cursor_place part start in
      let total = steps_are D pattern part h in
      let before = left_count part start w in
      let after = left_count part f.end f.within in
      let taken = left_length (left_at part start) page.steps page.rows (left_at part f.end) f.taken in
      let ends : cursor_place part f.end ≡ page_end D (part_plan pattern) n quantum = omega (arith, total, before, after, taken, f.steps_are) in
      record {
        steps_are = omega (arith, total, before, f.steps_are);
        rows_are = f.taken.rows_are ∙ ap (λ (l : Entries). rows_of (take page.steps l)) (left_is part start w ∙ ap (drop n) (sym (trace_is D pattern part h)));
        next_is = subst (λ m. IsNext D (part_plan pattern) (select_all_text pattern) m (page_of page).next) ends
            (next_of f.end (cursor_state part f.end) (page_of page).next f.within refl f.next_is);
      }

  -- bytes that are of a cursor, and bytes that are of none
  pub resumed : (start : Cursor) (quantum : ℕ) (page : code_page.Page) (bytes : List ℕ) → IsCursorWithin part start → saved_at part start ≡ Some bytes → IsPageFrom part start quantum page
      → Resumes D pattern bytes quantum (page_of page)
  resumed start quantum page bytes w e f =
      let s = saved_state part start bytes e in
      record {
        entry = cursor_place part start;
        state = s.state;
        stands = cursor_stands start s.state s.at;
        bytes_are = s.is ∙ spelled_is s.state;
        page_is = page_is start quantum page w f;
      }

  saved_from : (cursor : Cursor) (bytes : List ℕ) (state other : State) → state ≡ other → cursor_state part cursor ≡ Some other → bytes ≡ plan_bytes D (select_all_text pattern) state → saved_at part cursor ≡ Some bytes
  saved_from cursor bytes state other e f g =
      ap (option_map (spelled_state part)) f ∙ ap Some (spelled_is other ∙ ap (plan_bytes D (select_all_text pattern)) (sym e) ∙ sym g)

  record Located (k : ℕ) (t : Triple) : Type 0 where
    ids : IdTriple
    found : slice_get (part.triples) k ≡ Some ids
    is : ids_of D t ≡ ids
    within : k < length (part.triples)

  located_in : (k : ℕ) (t : Triple) (found : Option IdTriple) → slice_get (part.triples) k ≡ found → option_map (decode terms) found ≡ Some t → Located k t
  located_in k t None e f = cc
  located_in k t (Some ids) e f = record {
    ids = ids;
    found = e;
    is = ap (ids_of D) (sym (Some_same (decode terms ids) t f)) ∙ ids_decoded ids (below_found k ids e);
    within = inside (part.triples) k ids e;
  }
    where
      inside : (is : List IdTriple) (j : ℕ) (x : IdTriple) → slice_get is j ≡ Some x → j < length is
      inside [] j x g = cc
      inside (y ∷ is) zero x g = omega arith
      inside (y ∷ is) (suc j) x g = omega (arith, inside is j x g)

  located : (k : ℕ) (t : Triple) → slice_get (matches D (pattern_of pattern)) k ≡ Some t → Located k t
  located k t e = located_in k t (slice_get (part.triples) k) refl
      (sym (slice_get-map (decode terms) (part.triples) k) ∙ ap (λ (w : List Triple). slice_get w k) h.listing ∙ e)

  no_form : (bytes : List ℕ) (state : State) (n : ℕ) → Loads part bytes None → bytes ≡ plan_bytes D (select_all_text pattern) state → IsPatternState D (pattern_of pattern) state n → ⊥
  no_form bytes state n none e (is_fresh is at) = none cursors.Fresh tt (saved_from cursors.Fresh bytes state fresh_state is refl e)
  no_form bytes state n none e (is_opened is at) = none cursors.Opened tt (saved_from cursors.Opened bytes state opened_state is refl e)
  no_form bytes state n none e (is_triple k t found is at) =
      let l = located k t found in
      none (cursors.After k) l.within (saved_from (cursors.After k) bytes state (at_state l.ids) (is ∙ ap at_state l.is) (ap (option_map at_state) l.found) e)
  no_form bytes state n none e (is_closing is at) = none cursors.Closing tt (saved_from cursors.Closing bytes state closing_state is refl e)

  pub refused : (bytes : List ℕ) → Loads part bytes None → NoState D pattern bytes
  refused bytes none = λ state n stands e. no_form bytes state n none e (state_is D (pattern_of pattern) (names_in (pattern_of pattern)) state n stands)

  pub answered : (next : Option (List ℕ)) (start : Cursor) (quantum : ℕ) (page : code_page.Page) → Starts part next (Some start) → IsPageFrom part start quantum page → AnswersPage D pattern next quantum (Ok page)
  answered None start quantum page s f =
      let fresh : start ≡ cursors.Fresh = Some_same start cursors.Fresh s in
      page_is cursors.Fresh quantum page tt (subst (λ (w : Cursor). IsPageFrom part w quantum page) fresh f)
  answered (Some bytes) start quantum page s f = resumed start quantum page bytes s.0 s.1 f

  -- the page of a cursor, or a refusal that is none of its bytes
  pub answered_all : (next : Option (List ℕ)) (start : Cursor) (quantum : ℕ) (r : Result code_page.Page PageFault) (a b : View) → Starts part next (Some start)
      → IfOk r (IsPageFrom part start quantum) → IfErr r (λ e. IsRefusal e a b) → AnswersPage D pattern next quantum r
  answered_all next start quantum (Ok page) a b s f e = answered next start quantum page s f
  answered_all next start quantum (Err faults.Plan) a b s f e = absurd e
  answered_all None start quantum (Err faults.Memory) a b s f e = tt
  answered_all (Some bytes) start quantum (Err faults.Memory) a b s f e = tt
  answered_all None start quantum (Err (faults.Store fault)) a b s f e = tt
  answered_all (Some bytes) start quantum (Err (faults.Store fault)) a b s f e = tt

  pub unanswered : (next : Option (List ℕ)) (quantum : ℕ) → Starts part next None → AnswersPage D pattern next quantum (Err faults.Plan)
  unanswered None quantum s = cc
  unanswered (Some bytes) quantum s = refused bytes s

pub start_within : (part : Seen) (next : Option (List ℕ)) (start : Cursor) → Starts part next (Some start) → IsCursorWithin part start
start_within part None start s = subst (IsCursorWithin part) (sym (Some_same start cursors.Fresh s)) tt
start_within part (Some bytes) start s = s.0
