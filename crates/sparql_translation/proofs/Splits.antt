-- The solutions of a query's parts, put into its tree.
use Rattle.std.proofs.Common.{◌≡◌, ◌∙◌, ◌+◌, ℕ, zero, suc, Bool, true, false, List, [], ◌∷◌, ◌++◌, map, length, refl, sym, ap, subst, arith, append_assoc, length-append}
use Rattle.std.specs.Prelude.{if◌then◌else◌, filter}
use Rattle.std.proofs.lemmas.List.{append-nil, map-append, length-map}
use Rattle.term_core.specs.declared.term.Triple.{Triple}
use Rattle.term_core.specs.Mappings.{Row, joins}
use Rattle.sparql_tree.specs.Algebra as algebra
use Rattle.sparql_tree.specs.Algebra.{Algebra, is_server}
use Rattle.sparql_value.specs.Evaluation.{is_true_under}
use Rattle.sparql_value.specs.Solutions.{eval, left_joins, differences, extensions}
use Rattle.sparql_translation.specs.Splits.{Tree, Part, Join, LeftJoin, Minus, Union, Filter, Extend, parts_of, tree_from, behind, solutions_at, tree_solutions}

-- the part behind others
seam : (before : List (List Row)) (rows : List Row) (after : List (List Row)) (n : ℕ) → n ≡ length before → solutions_at (before ++ (rows ∷ after)) n ≡ rows
seam [] rows after zero e = refl
seam [] rows after (suc n) e = absurd (omega arith)
seam (x ∷ xs) rows after zero e = absurd (omega arith)
seam (x ∷ xs) rows after (suc n) e = seam xs rows after n (omega arith)

-- the solutions of an operator's parts, which stand among others, put into its tree
abbrev Kept : List Triple → Algebra → Type 0
Kept D a = (before after : List (List Row)) (n : ℕ) → n ≡ length before → tree_solutions (before ++ (map (eval D) (parts_of a) ++ after)) (tree_from n a) ≡ eval D a

-- the parts of two operators, which stand among others
abbrev among : List Triple → List (List Row) → List Algebra → List Algebra → List (List Row) → List (List Row)
among D before ls rs after = before ++ (map (eval D) (ls ++ rs) ++ after)

apart : (D : List Triple) (before after : List (List Row)) (ls rs : List Algebra) → among D before ls rs after ≡ before ++ (map (eval D) ls ++ (map (eval D) rs ++ after))
apart D before after ls rs = ap (λ all. before ++ all) (ap (λ all. all ++ after) (map-append (eval D) ls rs) ∙ append_assoc (map (eval D) ls) (map (eval D) rs) after)

left-kept : (D : List Triple) (l r : Algebra) → Kept D l → (before after : List (List Row)) (n : ℕ) → n ≡ length before → tree_solutions (among D before (parts_of l) (parts_of r) after) (tree_from n l) ≡ eval D l
left-kept D l r h before after n e =
    subst (λ all. tree_solutions all (tree_from n l) ≡ eval D l) (sym (apart D before after (parts_of l) (parts_of r))) (h before (map (eval D) (parts_of r) ++ after) n e)

right-kept : (D : List Triple) (l r : Algebra) → Kept D r → (before after : List (List Row)) (n : ℕ) → n ≡ length before → tree_solutions (among D before (parts_of l) (parts_of r) after) (tree_from (behind n l) r) ≡ eval D r
right-kept D l r h before after n e =
    let front = before ++ map (eval D) (parts_of l) in
    let same : among D before (parts_of l) (parts_of r) after ≡ front ++ (map (eval D) (parts_of r) ++ after) =
    apart D before after (parts_of l) (parts_of r) ∙ sym (append_assoc before (map (eval D) (parts_of l)) (map (eval D) (parts_of r) ++ after)) in
    let long : behind n l ≡ length front = omega (arith, length-append before (map (eval D) (parts_of l)), length-map (parts_of l) (eval D)) in
    subst (λ all. tree_solutions all (tree_from (behind n l) r) ≡ eval D r) (sym same) (h front after (behind n l) long)

-- one part, or the tree over its operands
choose : (D : List Triple) (a : Algebra) (parts : List Algebra) (tree : Tree) (before after : List (List Row)) (n : ℕ) → n ≡ length before → tree_solutions (before ++ (map (eval D) parts ++ after)) tree ≡ eval D a →
    (server : Bool) → tree_solutions (before ++ (map (eval D) (if server then a ∷ [] else parts) ++ after)) (if server then Part n else tree) ≡ eval D a
choose D a parts tree before after n e h true = seam before (eval D a) after n e
choose D a parts tree before after n e h false = h

kept : (D : List Triple) (a : Algebra) → Kept D a
kept D (algebra.Bgp patterns) before after n e = seam before (eval D (algebra.Bgp patterns)) after n e
kept D (algebra.Table variables rows) before after n e = seam before (eval D (algebra.Table variables rows)) after n e
kept D (algebra.Join l r) before after n e =
    let left = left-kept D l r (kept D l) before after n e in
    let right = right-kept D l r (kept D r) before after n e in
    choose D (algebra.Join l r) (parts_of l ++ parts_of r) (Join (tree_from n l) (tree_from (behind n l) r)) before after n e (λ i. joins (left i) (right i)) (is_server (algebra.Join l r))
kept D (algebra.Union l r) before after n e =
    let left = left-kept D l r (kept D l) before after n e in
    let right = right-kept D l r (kept D r) before after n e in
    choose D (algebra.Union l r) (parts_of l ++ parts_of r) (Union (tree_from n l) (tree_from (behind n l) r)) before after n e (λ i. left i ++ right i) (is_server (algebra.Union l r))
kept D (algebra.LeftJoin l r condition) before after n e =
    let left = left-kept D l r (kept D l) before after n e in
    let right = right-kept D l r (kept D r) before after n e in
    λ i. left_joins condition (left i) (right i)
kept D (algebra.Minus l r) before after n e =
    let left = left-kept D l r (kept D l) before after n e in
    let right = right-kept D l r (kept D r) before after n e in
    λ i. differences (left i) (right i)
kept D (algebra.Filter condition inner) before after n e =
    choose D (algebra.Filter condition inner) (parts_of inner) (Filter condition (tree_from n inner)) before after n e
    (ap (filter (is_true_under condition)) (kept D inner before after n e)) (is_server (algebra.Filter condition inner))
kept D (algebra.Extend inner variable value) before after n e =
    choose D (algebra.Extend inner variable value) (parts_of inner) (Extend (tree_from n inner) variable value) before after n e
    (ap (extensions variable value) (kept D inner before after n e)) (is_server (algebra.Extend inner variable value))

pub whole : (D : List Triple) (a : Algebra) → tree_solutions (map (eval D) (parts_of a)) (tree_from 0 a) ≡ eval D a
whole D a = subst (λ all. tree_solutions all (tree_from 0 a) ≡ eval D a) (append-nil (map (eval D) (parts_of a))) (kept D a [] [] 0 refl)
