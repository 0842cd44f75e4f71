-- What the code writes piece by piece.
use Rattle.std.specs.Prelude.{ℕ, zero, suc, List, [], ◌∷◌, ◌++◌}

-- a sign before each text but the first
abbrev pub between : ℕ → List ℕ → List ℕ
between zero sign = []
between (suc i) sign = 32 ∷ (sign ++ 32 ∷ [])
