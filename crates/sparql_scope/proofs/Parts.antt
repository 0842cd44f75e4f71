-- What stands in lists of parts.
use Rattle.std.proofs.Common.{◌≡◌, Bool, List, [], ◌∷◌, ◌++◌, refl, ap}
use Rattle.std.specs.Prelude.{◌||◌, flat_map}
use Rattle.std.specs.List.{list_any}
use Rattle.sparql_tree.specs.Exprs.{Expr, exprs, operands}
use Rattle.sparql_tree.specs.Scopes.{outside, outside_all, outside_rest, has_aggregate, have_aggregate, rest_has_aggregate}
use Rattle.sparql_scope.specs.Parts.{outside_operand, operand_has_aggregate}

pub all_outside : (xs : List Expr) → outside_all (exprs xs) ≡ flat_map outside xs
all_outside [] = refl
all_outside (x ∷ xs) = ap (λ ns. outside x ++ ns) (all_outside xs)

pub rest_outside : (xs : List (Bool × Expr)) → outside_rest (operands xs) ≡ flat_map outside_operand xs
rest_outside [] = refl
rest_outside (x ∷ xs) = ap (λ ns. outside x.1 ++ ns) (rest_outside xs)

pub any_has : (xs : List Expr) → have_aggregate (exprs xs) ≡ list_any has_aggregate xs
any_has [] = refl
any_has (x ∷ xs) = ap (λ b. has_aggregate x || b) (any_has xs)

pub rest_has : (xs : List (Bool × Expr)) → rest_has_aggregate (operands xs) ≡ list_any operand_has_aggregate xs
rest_has [] = refl
rest_has (x ∷ xs) = ap (λ b. has_aggregate x.1 || b) (rest_has xs)

pub ruleset aggregates = (any_has, rest_has)

pub nothing_behind : {A : Type 0} (xs : List A) → xs ++ [] ≡ xs
nothing_behind [] = refl
nothing_behind (x ∷ xs) = ap (λ ys. x ∷ ys) (nothing_behind xs)

pub joined : {A : Type 0} (xs ys zs : List A) → (xs ++ ys) ++ zs ≡ xs ++ (ys ++ zs)
joined [] ys zs = refl
joined (x ∷ xs) ys zs = ap (λ all. x ∷ all) (joined xs ys zs)

pub ruleset variables = (all_outside, rest_outside, nothing_behind, joined)
