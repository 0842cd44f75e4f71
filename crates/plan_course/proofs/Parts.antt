-- What stands in lists of parts.
use Rattle.std.proofs.Common.{◌≡◌, Bool, List, [], ◌∷◌, ◌++◌, refl, ap}
use Rattle.std.specs.Prelude.{flat_map}
use Rattle.sparql_tree.specs.Exprs.{Expr, exprs, operands}
use Rattle.sparql_tree.specs.Scopes.{outside, outside_all, outside_rest}
use Rattle.plan_course.specs.Parts.{outside_operand}

pub all_outside : (xs : List Expr) → outside_all (exprs xs) ≡ flat_map outside xs
all_outside [] = refl
all_outside (x ∷ xs) = ap (λ ns. outside x ++ ns) (all_outside xs)

pub rest_outside : (xs : List (Bool × Expr)) → outside_rest (operands xs) ≡ flat_map outside_operand xs
rest_outside [] = refl
rest_outside (x ∷ xs) = ap (λ ns. outside x.1 ++ ns) (rest_outside xs)

pub nothing_behind : {A : Type 0} (xs : List A) → xs ++ [] ≡ xs
nothing_behind [] = refl
nothing_behind (x ∷ xs) = ap (λ ys. x ∷ ys) (nothing_behind xs)

pub joined : {A : Type 0} (xs ys zs : List A) → (xs ++ ys) ++ zs ≡ xs ++ (ys ++ zs)
joined [] ys zs = refl
joined (x ∷ xs) ys zs = ap (λ all. x ∷ all) (joined xs ys zs)

pub ruleset variables = (all_outside, rest_outside, nothing_behind, joined)
