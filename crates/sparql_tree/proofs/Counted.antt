-- Numbers that stop at the greatest of 64 bits.
use Rattle.std.proofs.Common.{◌≡◌, ◌≤◌, ◌+◌, ◌-◌, ◌^◌, ℕ, max, min, arith}
use Rattle.sparql_tree.specs.Sizes.{counted}

pub greatest_is : (n : ℕ) → n ≤ 2 ^ 64 - 1 → counted (max n 0) ≡ n
greatest_is n small = omega arith

pub sum_is : (n : ℕ) → n ≤ 2 ^ 64 - 1 → counted (n + 0) ≡ n
sum_is n small = omega arith
