-- What a server evaluates is one part.
use Rattle.std.proofs.Common.{◌≡◌, ℕ, Bool, true, false, cond, List, [], ◌∷◌, ◌++◌, refl, ap}
use Rattle.sparql_tree.specs.Algebra as algebra
use Rattle.sparql_tree.specs.Algebra.{Algebra, is_server}
use Rattle.sparql_translation.specs.Splits as splits
use Rattle.sparql_translation.specs.Splits.{Tree, Part, parts_of, tree_from, behind}

pub one_part : (a : Algebra) → is_server a ≡ true → parts_of a ≡ a ∷ []
one_part (algebra.Bgp patterns) h = refl
one_part (algebra.Table variables rows) h = refl
one_part (algebra.Join left right) h = ap (λ b. cond b (algebra.Join left right ∷ []) (parts_of left ++ parts_of right)) h
one_part (algebra.Union left right) h = ap (λ b. cond b (algebra.Union left right ∷ []) (parts_of left ++ parts_of right)) h
one_part (algebra.Filter condition inner) h = ap (λ b. cond b (algebra.Filter condition inner ∷ []) (parts_of inner)) h
one_part (algebra.Extend inner variable value) h = ap (λ b. cond b (algebra.Extend inner variable value ∷ []) (parts_of inner)) h
one_part (algebra.LeftJoin left right condition) h = absurd cc
one_part (algebra.Minus left right) h = absurd cc

pub part_alone : (n : ℕ) (a : Algebra) → is_server a ≡ true → tree_from n a ≡ Part n
part_alone n (algebra.Bgp patterns) h = refl
part_alone n (algebra.Table variables rows) h = refl
part_alone n (algebra.Join left right) h = ap (λ b. cond b (Part n) (splits.Join (tree_from n left) (tree_from (behind n left) right))) h
part_alone n (algebra.Union left right) h = ap (λ b. cond b (Part n) (splits.Union (tree_from n left) (tree_from (behind n left) right))) h
part_alone n (algebra.Filter condition inner) h = ap (λ b. cond b (Part n) (splits.Filter condition (tree_from n inner))) h
part_alone n (algebra.Extend inner variable value) h = ap (λ b. cond b (Part n) (splits.Extend (tree_from n inner) variable value)) h
part_alone n (algebra.LeftJoin left right condition) h = absurd cc
part_alone n (algebra.Minus left right) h = absurd cc
