-- Numbers below 2^64.
use Rattle.std.proofs.Common.{◌≡◌, ℕ, ◌≤◌, arith}
use Rattle.std.proofs.lemmas.Grind.{common_steps}
use Rattle.std.specs.Prelude.{Option, None}
use Rattle.sparql_grammar.specs.Counts.{below_64_bits}

-- what is past 2^64 stays past it
pub none_below : (v w : ℕ) (r : Option ℕ) → r ≡ below_64_bits v → r ≡ None → v ≤ w → None ≡ below_64_bits w
none_below v w r e d h = grind (arith, common_steps)
