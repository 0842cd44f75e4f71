-- Where a query's group breaks no rule on scopes, its operators break none, and no more does the group that a part is written as.
use Rattle.std.proofs.Common.{◌≡◌, inl, inr, Bool, true, false, not, List, [], ◌∷◌, ◌++◌, refl, sym, subst, ap, ◌∙◌, append_assoc, append-nil, Option, Some, None}
use Rattle.std.specs.Prelude.{◌&&◌, map, flat_map}
use Rattle.std.proofs.lemmas.Grind.{flat_map-append}
use Rattle.term_core.specs.Bags.{In}
use Rattle.term_core.specs.Mappings.{Name, has_name}
use Rattle.term_core.specs.Patterns.{label_name}
use Rattle.term_core.specs.declared.pattern.Pattern.{Pattern}
use Rattle.term_core.proofs.Bags.{In-append_cases}
use Rattle.term_core.proofs.Merges.{has_name-from, not_named}
use Rattle.sparql_tree.specs.Algebra as algebra
use Rattle.sparql_tree.specs.Algebra.{Algebra, Bgp}
use Rattle.sparql_tree.specs.Breaches.{breaches, breach_if, declared_again, repeated, label, marks_of, marks_of_group, marks_of_groups, mark_breaches}
use Rattle.sparql_tree.specs.Exprs.{Expr}
use Rattle.sparql_tree.specs.Groups.{Group, GroupOf, Elements, EndOfElements, ThenElement, Groups, EndOfGroups, ThenGroup, Triples, Union, Optional, Filter, Bind, Values, Query}
use Rattle.sparql_tree.specs.Groups as tree
use Rattle.sparql_tree.specs.Scopes.{labels_in, variables_in, scope_of, scope_of_groups}
use Rattle.sparql_tree.specs.Translation.{unit, joined, filters_in, conjunction, filtered, of_group, of_elements, of_groups, union_from, translation}
use Rattle.sparql_tree.specs.Variables.{in_scope}
use Rattle.sparql_tree.specs.declared.mark.Mark.{Mark}
use Rattle.sparql_tree.specs.declared.mark.Mark.TheVariants as marks
use Rattle.sparql_print.proofs.TranslatedScopes.{group-scope}
use Rattle.part_texts.specs.Rules.{labels_of, AreApartFrom, KeepsRules}
use Rattle.part_texts.proofs.Meaning.{joined-unit}

-- ---- lists without members

both_none : {X : Type 0} (xs ys : List X) → xs ++ ys ≡ [] → (xs ≡ []) × (ys ≡ [])
both_none [] ys h = (refl, h)
both_none (x ∷ xs) ys h = absurd (cc)

none_of-map : {X Y : Type 0} (f : X → Y) (xs : List X) → map f xs ≡ [] → xs ≡ []
none_of-map f [] h = refl
none_of-map f (x ∷ xs) h = absurd (cc)

none-apart : (before : List Name) → AreApartFrom before []
none-apart before name i k = absurd i

-- ---- labels

-- marks that break nothing
abbrev Fine : List Name → List Name → List Mark → Type 0
Fine ended going ms = mark_breaches ended going ms ≡ []

no_breach : (t u : Bool) (name : Name) → breach_if (t && not u) name ≡ [] → u ≡ false → t ≡ false
no_breach true u name h e = let all : breach_if (true && not false) name ≡ [] = subst (λ v. breach_if (true && not v) name ≡ []) e h in absurd (cc)
no_breach false u name h e = refl

-- a label that breaks nothing stands in no pattern that has ended
label-free : (ended going : List Name) (name : Name) → AreApartFrom ended going → breach_if (has_name ended name && not (has_name going name)) (label_name name) ≡ [] → In ended name → ⊥
label-free ended going name apart h i =
    let other : has_name going name ≡ false = not_named going name (λ k. apart name k i) in
    let free : has_name ended name ≡ false = no_breach _ _ _ h other in
    let there : has_name ended name ≡ true = has_name-from ended name i in absurd (cc)

more-apart : (ended going : List Name) (name : Name) → AreApartFrom ended going → (In ended name → ⊥) → AreApartFrom ended (going ++ name ∷ [])
more-apart ended going name apart free other i k = elim (In-append_cases going (name ∷ []) other i) [
  | inl before ↦ apart other before k
  | inr last ↦ elim last [
    | inl is ↦ free (subst (In ended) (sym is) k)
    | inr none ↦ absurd none
  ]
]

labels-free : (names ended going : List Name) (rest : List Mark) → AreApartFrom ended going → Fine ended going (map label names ++ rest)
    → AreApartFrom ended (going ++ names) × Fine ended (going ++ names) rest
labels-free [] ended going rest apart h = subst (λ all. AreApartFrom ended all × Fine ended all rest) (sym (append-nil going)) (apart, h)
labels-free (name ∷ names) ended going rest apart h =
    let parts = both_none (breach_if (has_name ended name && not (has_name going name)) (label_name name)) _ h in
    subst (λ all. AreApartFrom ended all × Fine ended all rest) (append_assoc going (name ∷ []) names)
    (labels-free names ended (going ++ name ∷ []) rest (more-apart ended going name apart (label-free ended going name apart parts.0)) parts.1)

again-none : (names ended going : List Name) (rest : List Mark) → Fine ended going (declared_again names ++ rest) → (names ≡ []) × Fine ended going rest
again-none [] ended going rest h = (refl, h)
again-none (name ∷ names) ended going rest h = absurd (cc)

not_there : (t : Bool) (name : Name) → breach_if t name ≡ [] → t ≡ false
not_there true name h = absurd (cc)
not_there false name h = refl

-- ---- what is joined

joined-keeps : (before : List Name) (left right : Algebra) → KeepsRules before left → KeepsRules (before ++ labels_of left) right → KeepsRules before (joined left right)
joined-keeps before (Bgp []) right h k = subst (λ all. KeepsRules all right) (append-nil before) k
joined-keeps before left (Bgp []) h k = h
joined-keeps before left right h k = (h, k)

joined-labels : (left right : Algebra) → labels_of (joined left right) ≡ labels_of left ++ labels_of right
joined-labels (Bgp []) right = refl
joined-labels left (Bgp []) = sym (append-nil (labels_of left))
joined-labels left right = refl

joined-scope : (left right : Algebra) → in_scope (joined left right) ≡ in_scope left ++ in_scope right
joined-scope (Bgp []) right = refl
joined-scope left (Bgp []) = sym (append-nil (in_scope left))
joined-scope left right = refl

filtered-keeps : (before : List Name) (condition : Option Expr) (a : Algebra) → KeepsRules before a → KeepsRules before (filtered condition a)
filtered-keeps before None a h = h
filtered-keeps before (Some condition) a h = h

filtered-labels : (condition : Option Expr) (a : Algebra) → labels_of (filtered condition a) ≡ labels_of a
filtered-labels None a = refl
filtered-labels (Some condition) a = refl

groups-scope : (groups : Groups) → in_scope (of_groups groups) ≡ scope_of_groups groups
groups-scope groups = sym (ap in_scope (joined-unit (of_groups groups))) ∙ (group-scope (GroupOf (ThenElement (Union groups) EndOfElements)) ∙ append-nil (scope_of_groups groups))

optional-scope : (elements : Elements) → in_scope (of_elements unit [] elements) ≡ scope_of elements
optional-scope elements = group-scope (GroupOf (ThenElement (Optional (GroupOf elements)) EndOfElements)) ∙ append-nil (scope_of elements)

-- ---- groups that are read

-- the operators keep the rules behind these labels, and the marks that follow break nothing behind theirs
abbrev Kept : List Name → Algebra → List Mark → Type 0
Kept before a rest = KeepsRules before a × Fine (before ++ labels_of a) [] rest

-- the same names behind an operator with its patterns, and behind a part that follows
behind : (before operator patterns part all : List Name) → all ≡ (operator ++ patterns) ++ part → before ++ all ≡ ((before ++ operator) ++ patterns) ++ part
behind before operator patterns part all e =
    ap (λ names. before ++ names) e ∙ (sym (append_assoc before (operator ++ patterns) part) ∙ ap (λ names. names ++ part) (sym (append_assoc before operator patterns)))

-- the operator with its patterns
module _ (before : List Name) (a : Algebra) (ps : List Pattern) (keeps : KeepsRules before a) (apart : AreApartFrom (before ++ labels_of a) (flat_map labels_in ps)) where
  so_far-keeps : KeepsRules before (joined a (Bgp ps))
  so_far-keeps = joined-keeps before a (Bgp ps) keeps apart

  so_far-labels : before ++ labels_of (joined a (Bgp ps)) ≡ (before ++ labels_of a) ++ flat_map labels_in ps
  so_far-labels = ap (λ names. before ++ names) (joined-labels a (Bgp ps)) ∙ sym (append_assoc before (labels_of a) (flat_map labels_in ps))

  right-keeps : (right : Algebra) → KeepsRules ((before ++ labels_of a) ++ flat_map labels_in ps) right → KeepsRules (before ++ labels_of (joined a (Bgp ps))) right
  right-keeps right k = subst (λ names. KeepsRules names right) (sym so_far-labels) k

-- a group begins with nothing
begun : (elements : Elements) (before : List Name) (rest : List Mark) → Fine before [] (marks_of_group (GroupOf elements) ++ rest) → Fine (before ++ []) [] (marks_of [] elements ++ marks.Edge ∷ rest)
begun elements before rest h =
    subst (λ names. Fine names [] (marks_of [] elements ++ marks.Edge ∷ rest)) (sym (append-nil before))
    (subst (Fine before []) (append_assoc (marks_of [] elements) (marks.Edge ∷ []) rest) h)

-- behind a part that ends the patterns: the operator with it, and the names and labels that it adds
module _ (a : Algebra) (ps : List Pattern) (before scope : List Name) (whole : Algebra) (names labels : List Name) where
  next-scope : scope ≡ in_scope a ++ flat_map variables_in ps → in_scope whole ≡ in_scope (joined a (Bgp ps)) ++ names → scope ++ names ≡ in_scope whole ++ flat_map variables_in []
  next-scope e i = ap (λ all. all ++ names) (e ∙ sym (joined-scope a (Bgp ps))) ∙ (sym i ∙ sym (append-nil (in_scope whole)))

  next-fine : (rest : List Mark) → labels_of whole ≡ labels_of (joined a (Bgp ps)) ++ labels → Fine (((before ++ labels_of a) ++ flat_map labels_in ps) ++ labels) [] rest → Fine (before ++ labels_of whole) [] rest
  next-fine rest l h =
      subst (λ all. Fine all [] rest) (sym (behind before (labels_of a) (flat_map labels_in ps) labels (labels_of whole) (l ∙ ap (λ all. all ++ labels) (joined-labels a (Bgp ps))))) h

mutual
  group-keeps : (group : Group) (before : List Name) (rest : List Mark) → Fine before [] (marks_of_group group ++ rest) → Kept before (of_group group) rest
  group-keeps (GroupOf elements) before rest h =
      let inner = elements-keep elements unit [] before [] rest (none-apart before) (none-apart (before ++ [])) refl (begun elements before rest h) in
      let c = conjunction (filters_in elements) in
      let a = of_elements unit [] elements in
      (filtered-keeps before c a inner.0, subst (λ names. Fine (before ++ names) [] rest) (sym (filtered-labels c a)) inner.1)

  elements-keep : (elements : Elements) (a : Algebra) (ps : List Pattern) (before scope : List Name) (rest : List Mark) → KeepsRules before a
      → AreApartFrom (before ++ labels_of a) (flat_map labels_in ps) → scope ≡ in_scope a ++ flat_map variables_in ps
      → Fine (before ++ labels_of a) (flat_map labels_in ps) (marks_of scope elements ++ marks.Edge ∷ rest) → Kept before (of_elements a ps elements) rest
  elements-keep EndOfElements a ps before scope rest k d e h =
      (so_far-keeps before a ps k d, subst (λ names. Fine names [] rest) (sym (so_far-labels before a ps k d)) h)
  elements-keep (ThenElement (Triples more) tail) a ps before scope rest k d e h =
      let split = labels-free (flat_map labels_in more) (before ++ labels_of a) (flat_map labels_in ps) _ d
      (subst (Fine (before ++ labels_of a) (flat_map labels_in ps)) (append_assoc (map label (flat_map labels_in more)) (marks_of (scope ++ flat_map variables_in more) tail) (marks.Edge ∷ rest)) h) in
      let all = sym (flat_map-append labels_in ps more) in
      elements-keep tail a (ps ++ more) before (scope ++ flat_map variables_in more) rest k
      (subst (AreApartFrom (before ++ labels_of a)) all split.0)
      (ap (λ names. names ++ flat_map variables_in more) e ∙ (append_assoc (in_scope a) (flat_map variables_in ps) (flat_map variables_in more) ∙ ap (λ names. in_scope a ++ names) (sym (flat_map-append variables_in ps more))))
      (subst (λ going. Fine (before ++ labels_of a) going (marks_of (scope ++ flat_map variables_in more) tail ++ marks.Edge ∷ rest)) all split.1)
  elements-keep (ThenElement (Filter value) tail) a ps before scope rest k d e h =
      elements-keep tail a ps before (scope ++ []) rest k d (append-nil scope ∙ e) h
  elements-keep (ThenElement (Union groups) tail) a ps before scope rest k d e h =
      let next : List Mark = marks_of (scope ++ scope_of_groups groups) tail ++ marks.Edge ∷ rest in
      let inner = groups-keep groups ((before ++ labels_of a) ++ flat_map labels_in ps) next
      (subst (Fine _ []) (append_assoc (marks_of_groups groups) (marks_of (scope ++ scope_of_groups groups) tail) (marks.Edge ∷ rest)) h) in
      let whole = joined (joined a (Bgp ps)) (of_groups groups) in
      elements-keep tail whole [] before (scope ++ scope_of_groups groups) rest
      (joined-keeps before (joined a (Bgp ps)) (of_groups groups) (so_far-keeps before a ps k d) (right-keeps before a ps k d (of_groups groups) inner.0))
      (none-apart (before ++ labels_of whole))
      (next-scope a ps before scope whole (scope_of_groups groups) [] e (joined-scope (joined a (Bgp ps)) (of_groups groups) ∙ ap (λ names. in_scope (joined a (Bgp ps)) ++ names) (groups-scope groups)))
      (next-fine a ps before scope whole [] (labels_of (of_groups groups)) next (joined-labels (joined a (Bgp ps)) (of_groups groups)) inner.1)
  elements-keep (ThenElement (Optional (GroupOf elements)) tail) a ps before scope rest k d e h =
      let next : List Mark = marks_of (scope ++ scope_of elements) tail ++ marks.Edge ∷ rest in
      let inner = elements-keep elements unit [] ((before ++ labels_of a) ++ flat_map labels_in ps) [] next (none-apart _) (none-apart _) refl
      (begun elements ((before ++ labels_of a) ++ flat_map labels_in ps) next
      (subst (Fine _ []) (append_assoc (marks_of_group (GroupOf elements)) (marks_of (scope ++ scope_of elements) tail) (marks.Edge ∷ rest)) h)) in
      let right = of_elements unit [] elements in
      let whole = algebra.LeftJoin (joined a (Bgp ps)) right (conjunction (filters_in elements)) in
      elements-keep tail whole [] before (scope ++ scope_of elements) rest (so_far-keeps before a ps k d, right-keeps before a ps k d right inner.0)
      (none-apart (before ++ labels_of whole))
      (next-scope a ps before scope whole (scope_of elements) [] e (ap (λ names. in_scope (joined a (Bgp ps)) ++ names) (optional-scope elements)))
      (next-fine a ps before scope whole [] (labels_of right) next refl inner.1)
  elements-keep (ThenElement (tree.Minus group) tail) a ps before scope rest k d e h =
      let next : List Mark = marks_of (scope ++ []) tail ++ marks.Edge ∷ rest in
      let inner = group-keeps group ((before ++ labels_of a) ++ flat_map labels_in ps) next
      (subst (Fine _ []) (append_assoc (marks_of_group group) (marks_of (scope ++ []) tail) (marks.Edge ∷ rest)) h) in
      let whole = algebra.Minus (joined a (Bgp ps)) (of_group group) in
      elements-keep tail whole [] before (scope ++ []) rest (so_far-keeps before a ps k d, right-keeps before a ps k d (of_group group) inner.0)
      (none-apart (before ++ labels_of whole))
      (next-scope a ps before scope whole [] [] e (sym (append-nil (in_scope (joined a (Bgp ps))))))
      (next-fine a ps before scope whole [] (labels_of (of_group group)) next refl inner.1)
  elements-keep (ThenElement (Bind value variable) tail) a ps before scope rest k d e h =
      let next : List Mark = marks_of (scope ++ variable ∷ []) tail ++ marks.Edge ∷ rest in
      let inner = again-none (breach_if (has_name scope variable) variable) ((before ++ labels_of a) ++ flat_map labels_in ps) [] next
      (subst (Fine _ []) (append_assoc (declared_again (breach_if (has_name scope variable) variable)) (marks_of (scope ++ variable ∷ []) tail) (marks.Edge ∷ rest)) h) in
      let whole = algebra.Extend (joined a (Bgp ps)) variable value in
      elements-keep tail whole [] before (scope ++ variable ∷ []) rest
      (so_far-keeps before a ps k d, subst (λ names. has_name names variable ≡ false) (e ∙ sym (joined-scope a (Bgp ps))) (not_there _ variable inner.0))
      (none-apart (before ++ labels_of whole))
      (next-scope a ps before scope whole (variable ∷ []) [] e refl)
      (next-fine a ps before scope whole [] [] next (sym (append-nil (labels_of (joined a (Bgp ps)))))
      (subst (λ names. Fine names [] next) (sym (append-nil ((before ++ labels_of a) ++ flat_map labels_in ps))) inner.1))
  elements-keep (ThenElement (Values variables rows) tail) a ps before scope rest k d e h =
      let next : List Mark = marks_of (scope ++ variables) tail ++ marks.Edge ∷ rest in
      let inner = again-none (repeated [] variables) ((before ++ labels_of a) ++ flat_map labels_in ps) [] next
      (subst (Fine _ []) (append_assoc (declared_again (repeated [] variables)) (marks_of (scope ++ variables) tail) (marks.Edge ∷ rest)) h) in
      let whole = joined (joined a (Bgp ps)) (algebra.Table variables rows) in
      elements-keep tail whole [] before (scope ++ variables) rest
      (joined-keeps before (joined a (Bgp ps)) (algebra.Table variables rows) (so_far-keeps before a ps k d) inner.0)
      (none-apart (before ++ labels_of whole))
      (next-scope a ps before scope whole variables [] e (joined-scope (joined a (Bgp ps)) (algebra.Table variables rows)))
      (next-fine a ps before scope whole [] [] next (joined-labels (joined a (Bgp ps)) (algebra.Table variables rows))
      (subst (λ names. Fine names [] next) (sym (append-nil ((before ++ labels_of a) ++ flat_map labels_in ps))) inner.1))

  groups-keep : (groups : Groups) (before : List Name) (rest : List Mark) → Fine before [] (marks_of_groups groups ++ rest) → Kept before (of_groups groups) rest
  groups-keep EndOfGroups before rest h = (none-apart before, subst (λ names. Fine names [] rest) (sym (append-nil before)) h)
  groups-keep (ThenGroup first more) before rest h =
      let inner = group-keeps first before _ (subst (Fine before []) (append_assoc (marks_of_group first) (marks_of_groups more) rest) h) in
      union-keeps more (of_group first) before rest inner.0 inner.1

  union-keeps : (groups : Groups) (a : Algebra) (before : List Name) (rest : List Mark) → KeepsRules before a → Fine (before ++ labels_of a) [] (marks_of_groups groups ++ rest) → Kept before (union_from a groups) rest
  union-keeps EndOfGroups a before rest k h = (k, h)
  union-keeps (ThenGroup next more) a before rest k h =
      let inner = group-keeps next (before ++ labels_of a) _ (subst (Fine (before ++ labels_of a) []) (append_assoc (marks_of_group next) (marks_of_groups more) rest) h) in
      union-keeps more (algebra.Union a (of_group next)) before rest (k, inner.0)
      (subst (λ names. Fine names [] (marks_of_groups more ++ rest)) (append_assoc before (labels_of a) (labels_of (of_group next))) inner.1)

-- a query that breaks no rule
pub query-keeps : (q : Query) → breaches q ≡ [] → KeepsRules [] (translation q)
query-keeps q h =
    let group = (both_none _ _ (both_none _ _ (both_none _ _ h).1).1).0 in
    (group-keeps q.body [] [] (subst (Fine [] []) (sym (append-nil (marks_of_group q.body))) group)).0
