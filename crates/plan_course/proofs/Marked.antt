-- Numbers that are marked, and the names that have them.
use Rattle.std.proofs.Common.{◌≡◌, ℕ, zero, suc, ◌<◌, Bool, true, false, List, [], ◌∷◌, ◌++◌, length, Some, refl, sym, ap, ◌∙◌, subst, arith}
use Rattle.std.specs.Prelude.{◌==◌, ◌||◌, slice_get, slice_set, slice_index_or, replicate}
use Rattle.std.proofs.Math.Dec.{eqb-suc-zero, eqb-zero-suc, eqb-suc-suc}
use Rattle.std.proofs.lemmas.Bool.{eqb-true, eq-eqb}
use Rattle.term_core.specs.Mappings.{Name, has_name, same_name}
use Rattle.term_core.proofs.Merges.{Some_same, names_same, name_itself}
use Rattle.row_cells.specs.Laws.{IsOnce}
use Rattle.plan_course.specs.Meanings.{has_slot, AreMarked, AreNamed, none_named, then_named}

same_tests : (a b : Bool) → (a ≡ true → b ≡ true) → (b ≡ true → a ≡ true) → a ≡ b
same_tests true true h k = refl
same_tests true false h k = sym (h refl)
same_tests false true h k = k refl
same_tests false false h k = refl

-- of names that stand once, one name has one number
test_is : {names : List Name} (k slot : ℕ) (name other : Name) → IsOnce names → slice_get names k ≡ Some name → slice_get names slot ≡ Some other
    → (k == slot) ≡ same_name name other
test_is {names} k slot name other once e d =
    same_tests (k == slot) (same_name name other)
    (λ h.
    let at : k ≡ slot = eqb-true k slot h in
    let is : name ≡ other = Some_same name other (sym e ∙ (ap (slice_get names) at ∙ d)) in
    subst (λ w. same_name name w ≡ true) is (name_itself name))
    (λ h.
    let is : name ≡ other = names_same name other h in
    eq-eqb k slot (once.alone k slot name e (d ∙ ap Some (sym is))))

pub slots_are : {names : List Name} (k : ℕ) (name : Name) {slots : List ℕ} {variables : List Name} → IsOnce names → slice_get names k ≡ Some name
    → AreNamed names slots variables → has_slot slots k ≡ has_name variables name
slots_are k name once e none_named = refl
slots_are k name once e (then_named {slot = slot} {name = other} {slots = slots} {more = more} d h) =
    ap (λ b. b || has_slot slots k) (test_is k slot name other once e d) ∙ ap (λ b. same_name name other || b) (slots_are k name once e h)

-- nothing is marked
pub none_marked : (n k : ℕ) → slice_index_or (replicate n false) k false ≡ false
none_marked zero k = refl
none_marked (suc n) zero = refl
none_marked (suc n) (suc k) = none_marked n k

or_true : (b : Bool) → true ≡ (b || true)
or_true true = refl
or_true false = refl

or_false : (b : Bool) → b ≡ (b || false)
or_false true = refl
or_false false = refl

-- one more is marked
set_marks : (kept : List Bool) (slot k : ℕ) → slot < length kept → slice_index_or (slice_set kept slot true) k false ≡ (slice_index_or kept k false || (k == slot))
set_marks [] slot k h = absurd (omega arith)
set_marks (x ∷ kept) zero zero h = or_true x
set_marks (x ∷ kept) zero (suc k) h = or_false (slice_index_or kept k false) ∙ ap (λ b. slice_index_or kept k false || b) (sym (eqb-suc-zero k))
set_marks (x ∷ kept) (suc slot) zero h = or_false x ∙ ap (λ b. x || b) (sym (eqb-zero-suc slot))
set_marks (x ∷ kept) (suc slot) (suc k) h = set_marks kept slot k (omega arith) ∙ ap (λ b. slice_index_or kept k false || b) (sym (eqb-suc-suc k slot))

or_joined : (a b c : Bool) → (a || (b || c)) ≡ ((a || b) || c)
or_joined true b c = refl
or_joined false b c = refl

slot_push : (slots : List ℕ) (slot k : ℕ) → has_slot (slots ++ slot ∷ []) k ≡ (has_slot slots k || (k == slot))
slot_push [] slot k = sym (or_false (k == slot))
slot_push (x ∷ slots) slot k = ap (λ b. (k == x) || b) (slot_push slots slot k) ∙ or_joined (k == x) (has_slot slots k) (k == slot)

-- the marks of some numbers and one more
pub marks_more : (kept : List Bool) (slots : List ℕ) (slot : ℕ) → slot < length kept → AreMarked slots kept → AreMarked (slots ++ slot ∷ []) (slice_set kept slot true)
marks_more kept slots slot h m = record {
  marked = λ k. set_marks kept slot k h ∙ ap (λ b. b || (k == slot)) (m.marked k) ∙ sym (slot_push slots slot k);
}

-- where a name that is read has its number
pub record Found (names : List Name) (reads : List ℕ) (name : Name) : Type 0 where
  pub slot : ℕ
  pub place : ℕ
  pub read : slice_get reads place ≡ Some slot
  pub named : slice_get names slot ≡ Some name

pub found : {names : List Name} {slots : List ℕ} {all : List Name} (name : Name) → AreNamed names slots all → has_name all name ≡ true → Found names slots name
found name none_named e = absurd (cc e)
found {names} name (then_named {slot = slot} {name = other} {slots = slots} {more = more} d h) e =
    elim (same_name name other) as (λ b. same_name name other ≡ b → b || has_name more name ≡ true → Found names (slot ∷ slots) name) [
      | true ↦ λ is _. record { slot = slot; place = 0; read = refl; named = d ∙ ap Some (sym (names_same name other is)) }
      | false ↦ λ is f. let r = found name h f in record { slot = r.slot; place = suc r.place; read = r.read; named = r.named }
    ] refl e
