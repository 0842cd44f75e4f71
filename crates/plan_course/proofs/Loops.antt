-- One more turn of the loops that give numbers.
use Rattle.std.proofs.Common.{◌≡◌, ℕ, zero, suc, ◌+◌, ◌<◌, Bool, true, List, [], ◌∷◌, ◌++◌, length, take, get_or, Some, sym, ap, ◌∙◌, subst, arith}
use Rattle.std.specs.Prelude.{slice_get, slice_set, slice_index_or}
use Rattle.std.specs.FinMap as finmap
use Rattle.std.proofs.lemmas.List.{take_more, length-set}
use Rattle.std.proofs.lemmas.Option.{slice_get-get_or, slice_get_within}
use Rattle.term_core.specs.declared.term.Term.{Term}
use Rattle.term_core.specs.Mappings.{Name, Row}
use Rattle.term_core.proofs.Merges.{Some_same}
use Rattle.plan_course.specs.declared.course.Placed.{Placed}
use Rattle.plan_course.specs.declared.numbering.Numbering.{Numbering}
use Rattle.plan_course.specs.Meanings.{Grown, AreNamed, none_named, then_named, AreEntries, AreRows, AreMarked}
use Rattle.plan_course.proofs.Grows.{named_on, named_push, entries_on, entries_push, rows_on, rows_push}
use Rattle.plan_course.proofs.Marked.{marks_more}

next_taken : {X : Type 0} (xs : List X) (i : ℕ) (x : X) → i < length xs → x ≡ get_or xs i x → take (i + 1) xs ≡ take i xs ++ x ∷ []
next_taken xs i x p e = take_more xs i x p ∙ ap (λ y. take i xs ++ y ∷ []) (sym e)

pub named_next : {old new : Numbering} (names : List Name) (i : ℕ) (name : Name) (slots slots2 : List ℕ) (slot : ℕ) → i < length names → name ≡ get_or names i name → slots2 ≡ slots ++ slot ∷ []
    → Grown old new → AreNamed old.names slots (take i names) → slice_get new.names slot ≡ Some name → AreNamed new.names slots2 (take (i + 1) names)
named_next {old} {new} names i name slots slots2 slot p e d g h is =
    subst (λ (w : List ℕ). AreNamed new.names w (take (i + 1) names)) (sym d)
    (subst (λ (w : List Name). AreNamed new.names (slots ++ slot ∷ []) w) (sym (next_taken names i name p e)) (named_push slot name (named_on g h) is))

pub entries_next : {old new : Numbering} (entries : List (Name × Term)) (i : ℕ) (entry : Name × Term) (row row2 : List Placed) (placed : Placed) → i < length entries
    → entry ≡ get_or entries i entry → row2 ≡ row ++ placed ∷ [] → Grown old new → AreEntries old row (take i entries) → slice_get new.names placed.slot ≡ Some entry.0
    → slice_get new.given placed.term ≡ Some entry.1 → AreEntries new row2 (take (i + 1) entries)
entries_next {old} {new} entries i entry row row2 placed p e d g h is at =
    subst (λ (w : List Placed). AreEntries new w (take (i + 1) entries)) (sym d)
    (subst (λ (w : List (Name × Term)). AreEntries new (row ++ placed ∷ []) w) (sym (next_taken entries i entry p e)) (entries_push placed entry (entries_on g h) is at))

pub rows_next : {old new : Numbering} (rows : List Row) (i : ℕ) (row : Row) (more more2 : List (List Placed)) (placed : List Placed) → i < length rows → row ≡ get_or rows i row
    → more2 ≡ more ++ placed ∷ [] → Grown old new → AreRows old more (take i rows) → AreEntries new placed (finmap.entries row) → AreRows new more2 (take (i + 1) rows)
rows_next {old} {new} rows i row more more2 placed p e d g h is =
    subst (λ (w : List (List Placed)). AreRows new w (take (i + 1) rows)) (sym d)
    (subst (λ (w : List Row). AreRows new (more ++ placed ∷ []) w) (sym (next_taken rows i row p e)) (rows_push placed row (rows_on g h) is))

pub marks_next : (slots : List ℕ) (i width : ℕ) (kept : List Bool) → i < length slots → ((k slot : ℕ) → slice_get slots k ≡ Some slot → slot < width) → length kept ≡ width
    → AreMarked (take i slots) kept → AreMarked (take (i + 1) slots) (slice_set kept (slice_index_or slots i 0) true)
marks_next slots i width kept p below wide m =
    let slot : ℕ = slice_index_or slots i 0 in
    subst (λ (w : List ℕ). AreMarked w (slice_set kept slot true)) (sym (take_more slots i 0 p))
    (marks_more kept (take i slots) slot (omega (arith, below i slot (slice_get-get_or slots i 0 p), wide)) m)

pub set_width : (kept : List Bool) (k width : ℕ) → length kept ≡ width → length (slice_set kept k true) ≡ width
set_width kept k width e = length-set kept k true ∙ e

-- numbers of names are of so many
named_below : {names : List Name} {slots : List ℕ} {all : List Name} (k slot : ℕ) → AreNamed names slots all → slice_get slots k ≡ Some slot → slot < length names
named_below k slot none_named e = absurd (cc e)
named_below {names} zero slot (then_named {slot = first} {name = name} d h) e = subst (λ (w : ℕ). w < length names) (Some_same first slot e) (slice_get_within names first name d)
named_below (suc k) slot (then_named d h) e = named_below k slot h e

pub slots_below : {names : List Name} {all : List Name} (slots given : List ℕ) (count : ℕ) → count ≡ length names → given ≡ slots → AreNamed names slots all
    → (k slot : ℕ) → slice_get given k ≡ Some slot → slot < count
slots_below {names} slots given count c g h k slot e = omega (arith, c, named_below k slot h (ap (λ (w : List ℕ). slice_get w k) (sym g) ∙ e))
