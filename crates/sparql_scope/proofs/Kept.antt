-- A query without a breach keeps the rules.
use Rattle.std.proofs.Common.{◌≡◌, ◌++◌, ◌∷◌, [], Bool, true, false, List, refl, sym, ap, ◌∙◌}
use Rattle.std.specs.Prelude.{not, ◌&&◌, ◌||◌}
use Rattle.term_core.specs.Mappings.{Name, has_name, same_name}
use Rattle.term_core.proofs.Merges.{names_same}
use Rattle.term_core.specs.Patterns.{label_name}
use Rattle.sparql_tree.specs.Groups.{Group, GroupOf, Elements, EndOfElements, ThenElement, Groups, EndOfGroups, ThenGroup, Element, Triples, Union, Optional, Filter, Bind, Values, Query}
use Rattle.sparql_tree.specs.Groups as tree
use Rattle.sparql_tree.specs.Breaches.{breach_if, star_name, is_grouped, item_breaches, breaches_behind, declared_again, repeated, marks_at, marks_of, marks_of_group, marks_of_groups, mark_breaches, breaches}
use Rattle.sparql_tree.specs.Scopes.{scope_at}
use Rattle.sparql_tree.specs.declared.mark.Mark.{Mark}
use Rattle.sparql_tree.specs.declared.mark.Mark.TheVariants as marks
use Rattle.sparql_scope.specs.Rules.{Differ, KeepsAt, KeepsBehind, Keeps, AllKeep, labels_from, labels_of_group, AreNew, AreFresh}

-- two lists that are none together
both_none : {A : Type 0} (a b : List A) → a ++ b ≡ [] → (a ≡ []) × (b ≡ [])
both_none [] b e = (refl, e)
both_none (x ∷ a) b e = absurd (cc)

-- no variable is there already
abbrev NoneAgain : List Mark → Type 0
NoneAgain [] = Unit {0}
NoneAgain (marks.Edge ∷ rest) = NoneAgain rest
NoneAgain (marks.Label name ∷ rest) = NoneAgain rest
NoneAgain (marks.Again name ∷ rest) = ⊥

none_again : (ended going : List Name) (ms : List Mark) → mark_breaches ended going ms ≡ [] → NoneAgain ms
none_again ended going [] e = tt
none_again ended going (marks.Edge ∷ rest) e = none_again (ended ++ going) [] rest e
none_again ended going (marks.Label name ∷ rest) e = none_again ended (going ++ name ∷ []) rest (both_none _ _ e).1
none_again ended going (marks.Again name ∷ rest) e = absurd (cc)

parts_of : (a b : List Mark) → NoneAgain (a ++ b) → NoneAgain a × NoneAgain b
parts_of [] b h = (tt, h)
parts_of (marks.Edge ∷ a) b h = parts_of a b h
parts_of (marks.Label name ∷ a) b h = parts_of a b h
parts_of (marks.Again name ∷ a) b h = absurd h

-- ---- variables

bind_new : (there : Bool) (variable : Name) → NoneAgain (declared_again (breach_if there variable)) → there ≡ false
bind_new true variable h = absurd h
bind_new false variable h = refl

one_new : (there : Bool) (first : Name) (more : List Name) → NoneAgain (declared_again (breach_if there first ++ more)) → (there ≡ false) × NoneAgain (declared_again more)
one_new true first more h = absurd h
one_new false first more h = (refl, h)

all_differ : (before variables : List Name) → NoneAgain (declared_again (repeated before variables)) → Differ before variables
all_differ before [] h = tt
all_differ before (first ∷ rest) h =
    let parts = one_new (has_name before first) first (repeated (before ++ first ∷ []) rest) h in
    (parts.0, all_differ (before ++ first ∷ []) rest parts.1)

mutual
  at_keeps : (before : List Name) (element : Element) → NoneAgain (marks_at before element) → KeepsAt before element
  at_keeps before (Triples patterns) h = tt
  at_keeps before (Union groups) h = groups_keep groups h
  at_keeps before (Optional group) h = group_keeps group h
  at_keeps before (tree.Minus group) h = group_keeps group h
  at_keeps before (Filter value) h = tt
  at_keeps before (Bind value variable) h = bind_new (has_name before variable) variable h
  at_keeps before (Values variables rows) h = all_differ [] variables h

  behind_keeps : (before : List Name) (elements : Elements) → NoneAgain (marks_of before elements) → KeepsBehind before elements
  behind_keeps before EndOfElements h = tt
  behind_keeps before (ThenElement first rest) h =
      let parts = parts_of (marks_at before first) (marks_of (before ++ scope_at first) rest) h in
      (at_keeps before first parts.0, behind_keeps (before ++ scope_at first) rest parts.1)

  group_keeps : (group : Group) → NoneAgain (marks_of_group group) → Keeps group
  group_keeps (GroupOf elements) h = behind_keeps [] elements (parts_of (marks_of [] elements) (marks.Edge ∷ []) h).0

  groups_keep : (groups : Groups) → NoneAgain (marks_of_groups groups) → AllKeep groups
  groups_keep EndOfGroups h = tt
  groups_keep (ThenGroup first rest) h =
      let parts = parts_of (marks_of_group first) (marks_of_groups rest) h in
      (group_keeps first parts.0, groups_keep rest parts.1)

-- ---- labels

-- a name among new ones is new
new_of : (before going : List Name) (name : Name) → AreNew before going → has_name going name ≡ true → has_name before name ≡ false
new_of before [] name h e = absurd (cc)
new_of before (first ∷ rest) name h e = by_test (same_name name first) refl e (new_of before rest name h.1)
  where
    by_test : (t : Bool) → same_name name first ≡ t → has_name (first ∷ rest) name ≡ true → (has_name rest name ≡ true → has_name before name ≡ false) → has_name before name ≡ false
    by_test true s k among = ap (has_name before) (names_same name first s) ∙ h.0
    by_test false s k among = among (ap (λ b. b || has_name rest name) (sym s) ∙ k)

label_new : (there going : Bool) (name : Name) → breach_if (there && not going) name ≡ [] → (going ≡ true → there ≡ false) → there ≡ false
label_new false going name e k = refl
label_new true true name e k = k refl
label_new true false name e k = absurd (cc)

one_more : (before going : List Name) (name : Name) → AreNew before going → has_name before name ≡ false → AreNew before (going ++ name ∷ [])
one_more before [] name h e = (e, tt)
one_more before (first ∷ rest) name h e = (h.0, one_more before rest name h.1 e)

all_apart : (ended going : List Name) (ms : List Mark) → AreNew ended going → mark_breaches ended going ms ≡ [] → AreFresh ended (labels_from going ms)
all_apart ended going [] h e = (h, tt)
all_apart ended going (marks.Edge ∷ rest) h e = (h, all_apart (ended ++ going) [] rest tt e)
all_apart ended going (marks.Label name ∷ rest) h e =
    let none = both_none (breach_if (has_name ended name && not (has_name going name)) (label_name name)) (mark_breaches ended (going ++ name ∷ []) rest) e in
    all_apart ended (going ++ name ∷ []) rest
    (one_more ended going name h (label_new (has_name ended name) (has_name going name) (label_name name) none.0 (new_of ended going name h))) none.1
all_apart ended going (marks.Again name ∷ rest) h e = absurd (cc)

-- ---- queries

marks_none : (q : Query) → breaches q ≡ [] → mark_breaches [] [] (marks_of_group q.body) ≡ []
marks_none q e =
    let behind_star = (both_none (breach_if (q.star && is_grouped q) star_name) _ e).1 in
    let behind_items = (both_none (item_breaches q [] q.items) _ behind_star).1 in
    (both_none (mark_breaches [] [] (marks_of_group q.body)) (breaches_behind (is_grouped q) q) behind_items).0

pub variables_new : (q : Query) → breaches q ≡ [] → Keeps q.body
variables_new q e = group_keeps q.body (none_again [] [] (marks_of_group q.body) (marks_none q e))

pub labels_apart : (q : Query) → breaches q ≡ [] → AreFresh [] (labels_of_group q.body)
labels_apart q e = all_apart [] [] (marks_of_group q.body) tt (marks_none q e)
