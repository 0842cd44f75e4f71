-- An output that grows at its end.
use Rattle.std.specs.Prelude.{◌≡◌, ◌++◌, ℕ, List}

-- what stood in it stands there still, in front
pub record IsGrown (before now : List ℕ) : Type 0 where
  pub more : List ℕ
  pub is : now ≡ before ++ more
