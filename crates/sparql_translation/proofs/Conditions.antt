-- The one condition that several filters are.
use Rattle.std.proofs.Common.{◌≡◌, ◌<◌, ◌+◌, ℕ, List, length, refl, ap, true, false, arith}
use Rattle.std.specs.Prelude.{[], ◌∷◌, ◌++◌, is_some, max}
use Rattle.sparql_tree.specs.Exprs.{Expr, exprs}
use Rattle.sparql_tree.specs.Sizes.{expr_depth, expr_weight, deepest_of, weight_of, deepest_among, weight_among, condition_depth, condition_weight}
use Rattle.sparql_tree.specs.Translation.{conjunction}

pub deepest_all : (es : List Expr) → deepest_of (exprs es) ≡ deepest_among es
deepest_all [] = refl
deepest_all (x ∷ xs) = ap (λ n. max (expr_depth x) n) (deepest_all xs)

pub weight_all : (es : List Expr) → weight_of (exprs es) ≡ weight_among es
weight_all [] = refl
weight_all (x ∷ xs) = ap (λ n. expr_weight x + n) (weight_all xs)

pub none_there : (es : List Expr) → length es ≡ 0 → is_some (conjunction es) ≡ false
none_there [] h = refl
none_there (x ∷ xs) h = absurd (omega arith)

pub none_deep : (es : List Expr) → length es ≡ 0 → condition_depth (conjunction es) ≡ 0
none_deep [] h = refl
none_deep (x ∷ xs) h = absurd (omega arith)

pub none_weighs : (es : List Expr) → length es ≡ 0 → condition_weight (conjunction es) ≡ 0
none_weighs [] h = refl
none_weighs (x ∷ xs) h = absurd (omega arith)

pub some_there : (es : List Expr) → 0 < length es → is_some (conjunction es) ≡ true
some_there [] h = absurd (omega arith)
some_there (x ∷ []) h = refl
some_there (x ∷ y ∷ xs) h = refl

pub only_deep : (es : List Expr) → length es ≡ 1 → condition_depth (conjunction es) ≡ deepest_among es
only_deep [] h = absurd (omega arith)
only_deep (x ∷ []) h = grind arith
only_deep (x ∷ y ∷ xs) h = absurd (omega arith)

pub only_weighs : (es : List Expr) → length es ≡ 1 → condition_weight (conjunction es) ≡ weight_among es
only_weighs [] h = absurd (omega arith)
only_weighs (x ∷ []) h = grind arith
only_weighs (x ∷ y ∷ xs) h = absurd (omega arith)

pub all_deep : (es : List Expr) → 1 < length es → condition_depth (conjunction es) ≡ 1 + deepest_among es
all_deep [] h = absurd (omega arith)
all_deep (x ∷ []) h = absurd (omega arith)
all_deep (x ∷ y ∷ xs) h = ap (λ n. 1 + n) (deepest_all (x ∷ y ∷ xs))

pub all_weigh : (es : List Expr) → 1 < length es → condition_weight (conjunction es) ≡ 1 + weight_among es
all_weigh [] h = absurd (omega arith)
all_weigh (x ∷ []) h = absurd (omega arith)
all_weigh (x ∷ y ∷ xs) h = ap (λ n. 1 + n) (weight_all (x ∷ y ∷ xs))

pub ruleset conditions = (none_there, none_deep, none_weighs, some_there, only_deep, only_weighs, all_deep, all_weigh)

-- the expressions of two lists
pub deepest_behind : (es fs : List Expr) → deepest_among (es ++ fs) ≡ max (deepest_among es) (deepest_among fs)
deepest_behind [] fs = grind arith
deepest_behind (x ∷ xs) fs = grind (arith, deepest_behind xs fs)

pub weight_behind : (es fs : List Expr) → weight_among (es ++ fs) ≡ weight_among es + weight_among fs
weight_behind [] fs = grind arith
weight_behind (x ∷ xs) fs = grind (arith, weight_behind xs fs)

pub ruleset behind = (deepest_behind, weight_behind)
