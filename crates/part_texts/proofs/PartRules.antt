-- The group that a part is written as breaks no rule on scopes, where the part's operators break none.
use Rattle.std.proofs.Common.{◌≡◌, inl, inr, false, not, List, [], ◌∷◌, ◌++◌, refl, sym, ap, ◌∙◌, append_assoc, append-nil}
use Rattle.std.specs.Prelude.{◌&&◌, map, flat_map}
use Rattle.term_core.specs.Bags.{In}
use Rattle.term_core.specs.Mappings.{Name, has_name}
use Rattle.term_core.specs.Patterns.{label_name}
use Rattle.term_core.proofs.Bags.{In-append_left, In-append_right, In-append_cases}
use Rattle.term_core.proofs.Merges.{not_named}
use Rattle.sparql_tree.specs.Algebra as algebra
use Rattle.sparql_tree.specs.Algebra.{Algebra}
use Rattle.sparql_tree.specs.Breaches.{breaches, breach_if, declared_again, label, marks_of_group, mark_breaches}
use Rattle.sparql_tree.specs.Scopes.{labels_in, scope_of_group}
use Rattle.sparql_tree.specs.Variables.{in_scope}
use Rattle.sparql_tree.specs.declared.mark.Mark.{Mark}
use Rattle.sparql_tree.specs.declared.mark.Mark.TheVariants as marks
use Rattle.sparql_print.proofs.TranslatedScopes.{group-scope}
use Rattle.part_texts.specs.Rules.{labels_of, AreApartFrom, KeepsRules}
use Rattle.part_texts.proofs.Forms.{group_of_part, query_of_part, IsPart, IsWritten}
use Rattle.part_texts.proofs.Meaning.{means-back}

-- ---- fewer labels before

fewer-more : (before fewer labels : List Name) → ((name : Name) → In fewer name → In before name) → (name : Name) → In (fewer ++ labels) name → In (before ++ labels) name
fewer-more before fewer labels f name i = elim (In-append_cases fewer labels name i) [
  | inl h ↦ In-append_left before labels name (f name h)
  | inr h ↦ In-append_right before labels name h
]

pub weaker : (before fewer : List Name) (a : Algebra) → ((name : Name) → In fewer name → In before name) → KeepsRules before a → KeepsRules fewer a
weaker before fewer (algebra.Bgp patterns) f k = λ name i b. k name i (f name b)
weaker before fewer (algebra.Table variables rows) f k = k
weaker before fewer (algebra.Filter condition inner) f k = weaker before fewer inner f k
weaker before fewer (algebra.Extend inner variable value) f k = (weaker before fewer inner f k.0, k.1)
weaker before fewer (algebra.Join left right) f k = (weaker before fewer left f k.0, weaker _ _ right (fewer-more before fewer (labels_of left) f) k.1)
weaker before fewer (algebra.Union left right) f k = (weaker before fewer left f k.0, weaker _ _ right (fewer-more before fewer (labels_of left) f) k.1)
weaker before fewer (algebra.LeftJoin left right condition) f k = (weaker before fewer left f k.0, weaker _ _ right (fewer-more before fewer (labels_of left) f) k.1)
weaker before fewer (algebra.Minus left right) f k = (weaker before fewer left f k.0, weaker _ _ right (fewer-more before fewer (labels_of left) f) k.1)

-- ---- marks

labels-kept : (names ended going : List Name) (rest : List Mark) → AreApartFrom ended names → mark_breaches ended going (map label names ++ rest) ≡ mark_breaches ended (going ++ names) rest
labels-kept [] ended going rest apart = ap (λ names. mark_breaches ended names rest) (sym (append-nil going))
labels-kept (name ∷ names) ended going rest apart =
    ap (λ t. breach_if (t && not (has_name going name)) (label_name name) ++ mark_breaches ended (going ++ name ∷ []) (map label names ++ rest)) (not_named ended name (apart name (inl refl)))
    ∙ (labels-kept names ended (going ++ name ∷ []) rest (λ other i. apart other (inr i))
    ∙ ap (λ all. mark_breaches ended all rest) (append_assoc going (name ∷ []) names))

edge : (before : List Name) (rest : List Mark) → mark_breaches before [] (marks.Edge ∷ rest) ≡ mark_breaches before [] rest
edge before rest = ap (λ names. mark_breaches names [] rest) (append-nil before)

one-behind : (xs : List Mark) (rest : List Mark) → (((xs ++ []) ++ []) ++ marks.Edge ∷ []) ++ rest ≡ xs ++ marks.Edge ∷ rest
one-behind xs rest = simp (append-nil, append_assoc) refl

two-behind : (xs ys rest : List Mark) → (((xs ++ []) ++ marks.Edge ∷ ((ys ++ []) ++ [])) ++ marks.Edge ∷ []) ++ rest ≡ xs ++ marks.Edge ∷ (ys ++ marks.Edge ∷ rest)
two-behind xs ys rest = simp (append-nil, append_assoc) refl

both-behind : (xs ys rest : List Mark) → (((xs ++ (ys ++ [])) ++ []) ++ marks.Edge ∷ []) ++ rest ≡ xs ++ (ys ++ marks.Edge ∷ rest)
both-behind xs ys rest = simp (append-nil, append_assoc) refl

bind-behind : (xs ys rest : List Mark) → (((xs ++ []) ++ marks.Edge ∷ (ys ++ [])) ++ marks.Edge ∷ []) ++ rest ≡ xs ++ marks.Edge ∷ (ys ++ marks.Edge ∷ rest)
bind-behind xs ys rest = simp (append-nil, append_assoc) refl

part-scope : (a : Algebra) → IsPart a → IsWritten a → scope_of_group (group_of_part a) ≡ in_scope a
part-scope a p w = sym (group-scope (group_of_part a)) ∙ ap in_scope (means-back a p w)

-- the operators' labels are what the marks leave behind
group-marks : (a : Algebra) (before : List Name) (rest : List Mark) → IsPart a → IsWritten a → KeepsRules before a
    → mark_breaches before [] (marks_of_group (group_of_part a) ++ rest) ≡ mark_breaches (before ++ labels_of a) [] rest
group-marks (algebra.Bgp []) before rest p w k = refl
group-marks (algebra.Bgp (q ∷ qs)) before rest p w k =
    let labels : List Name = flat_map labels_in (q ∷ qs) in
    ap (mark_breaches before []) (bgp-behind (map label labels) rest) ∙ labels-kept labels before [] (marks.Edge ∷ rest) k
  where
    bgp-behind : (xs rest : List Mark) → ((xs ++ []) ++ marks.Edge ∷ []) ++ rest ≡ xs ++ marks.Edge ∷ rest
    bgp-behind xs rest = simp (append-nil, append_assoc) refl
group-marks (algebra.Join left right) before rest p w k =
    let l : List Mark = marks_of_group (group_of_part left) in
    let r : List Mark = marks_of_group (group_of_part right) in
    ap (λ ms. mark_breaches before [] (marks.Edge ∷ ms)) (two-behind l r rest)
    ∙ (edge before (l ++ marks.Edge ∷ (r ++ marks.Edge ∷ rest))
    ∙ (group-marks left before (marks.Edge ∷ (r ++ marks.Edge ∷ rest)) p.0 w.0 k.0
    ∙ (edge (before ++ labels_of left) (r ++ marks.Edge ∷ rest)
    ∙ (group-marks right (before ++ labels_of left) (marks.Edge ∷ rest) p.1 w.1 k.1
    ∙ (edge ((before ++ labels_of left) ++ labels_of right) rest
    ∙ ap (λ names. mark_breaches names [] rest) (append_assoc before (labels_of left) (labels_of right)))))))
group-marks (algebra.Union left right) before rest p w k =
    let l : List Mark = marks_of_group (group_of_part left) in
    let r : List Mark = marks_of_group (group_of_part right) in
    ap (λ ms. mark_breaches before [] (marks.Edge ∷ ms)) (both-behind l r rest)
    ∙ (edge before (l ++ (r ++ marks.Edge ∷ rest))
    ∙ (group-marks left before (r ++ marks.Edge ∷ rest) p.0 w.0 k.0
    ∙ (group-marks right (before ++ labels_of left) (marks.Edge ∷ rest) p.1 w.1 k.1
    ∙ (edge ((before ++ labels_of left) ++ labels_of right) rest
    ∙ ap (λ names. mark_breaches names [] rest) (append_assoc before (labels_of left) (labels_of right))))))
group-marks (algebra.Filter condition inner) before rest p w k =
    let i : List Mark = marks_of_group (group_of_part inner) in
    ap (λ ms. mark_breaches before [] (marks.Edge ∷ ms)) (one-behind i rest)
    ∙ (edge before (i ++ marks.Edge ∷ rest) ∙ (group-marks inner before (marks.Edge ∷ rest) p w.0 k ∙ edge (before ++ labels_of inner) rest))
group-marks (algebra.Extend inner variable value) before rest p w k =
    let i : List Mark = marks_of_group (group_of_part inner) in
    let none : has_name (scope_of_group (group_of_part inner) ++ []) variable ≡ false =
    ap (λ names. has_name names variable) (append-nil (scope_of_group (group_of_part inner)) ∙ part-scope inner p w.0) ∙ k.1 in
    ap (λ t. mark_breaches before [] (marks.Edge ∷ ((((i ++ []) ++ marks.Edge ∷ (declared_again (breach_if t variable) ++ [])) ++ marks.Edge ∷ []) ++ rest))) none
    ∙ (ap (λ ms. mark_breaches before [] (marks.Edge ∷ ms)) (bind-behind i [] rest)
    ∙ (edge before (i ++ marks.Edge ∷ marks.Edge ∷ rest)
    ∙ (group-marks inner before (marks.Edge ∷ marks.Edge ∷ rest) p w.0 k.0
    ∙ (edge (before ++ labels_of inner) (marks.Edge ∷ rest) ∙ edge (before ++ labels_of inner) rest))))
group-marks (algebra.Table variables rows) before rest p w k =
    ap (λ names. mark_breaches before [] (marks.Edge ∷ (((declared_again names ++ []) ++ marks.Edge ∷ []) ++ rest))) k
    ∙ (edge before (marks.Edge ∷ rest) ∙ (edge before rest ∙ ap (λ names. mark_breaches names [] rest) (sym (append-nil before))))
group-marks (algebra.LeftJoin left right condition) before rest p w k = absurd p
group-marks (algebra.Minus left right) before rest p w k = absurd p

pub part-breaches : (a : Algebra) (before : List Name) → IsPart a → IsWritten a → KeepsRules before a → breaches (query_of_part a) ≡ []
part-breaches a before p w k =
    let ms : List Mark = marks_of_group (group_of_part a) in
    append-nil (mark_breaches [] [] ms)
    ∙ (ap (mark_breaches [] []) (sym (append-nil ms)) ∙ group-marks a [] [] p w (weaker before [] a (λ name i. absurd i) k))
