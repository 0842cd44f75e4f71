-- What a connection has received and sent, where it tells.
use Rattle.std.specs.Prelude.{◌≡◌, ℕ, ◌≤◌, ◌↔◌, ◌++◌, List, [], take, drop, length, Option, Some, None, Result, Ok, Err}

-- n bytes were taken: a front of those to come, none exactly where none were left
pub record TakesFrom (bytes buf : List ℕ) (n : ℕ) : Type 0 where
  pub within : n ≤ length bytes
  pub filled : take n buf ≡ take n bytes
  pub end : (n ≡ 0) ↔ (bytes ≡ [])

-- the told bytes to come lose the front that was taken; after a failed call they stay
abbrev pub Comes : {E : Type 0} → Option (List ℕ) → Option (List ℕ) → List ℕ → Result ℕ E → Type 0
Comes None new buf result = new ≡ None
Comes (Some bytes) new buf (Ok n) = TakesFrom bytes buf n × (new ≡ Some (drop n bytes))
Comes (Some bytes) new buf (Err e) = new ≡ Some bytes

-- the told bytes taken grow by what the buffer got; after a failed call they stay
abbrev pub Takes : {E : Type 0} → Option (List ℕ) → Option (List ℕ) → List ℕ → Result ℕ E → Type 0
Takes None new buf result = new ≡ None
Takes (Some bytes) new buf (Ok n) = new ≡ Some (bytes ++ take n buf)
Takes (Some bytes) new buf (Err e) = new ≡ Some bytes
