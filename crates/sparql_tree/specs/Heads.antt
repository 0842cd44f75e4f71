-- Symbols at the front of a list, from which the grammar is built (SPARQL 1.1, 19.8).
use Rattle.std.specs.Prelude.{ℕ, List, [], ◌∷◌, Option, Some, None}
use Rattle.sparql_tree.specs.declared.symbol.Shape.{Shape}
use Rattle.sparql_tree.specs.declared.symbol.Symbol.{Symbol}

-- a symbol of this shape and value
abbrev pub symbol : Shape → List ℕ → Symbol
symbol shape value = record { shape = shape; value = value }

-- a symbol of this shape and value stands first, and these behind it
pub data IsHead : Shape → List ℕ → List Symbol → List Symbol → Type 0 where
  holds : {shape : Shape} {value : List ℕ} {rest : List Symbol} → IsHead shape value (symbol shape value ∷ rest) rest

-- a symbol of this shape stands first, and these behind it
pub data Is : Shape → List Symbol → List Symbol → Type 0 where
  is : {shape : Shape} {value : List ℕ} {rest : List Symbol} → Is shape (symbol shape value ∷ rest) rest

-- what the first symbol is, if there is one
abbrev pub shape_of : List Symbol → Option Shape
shape_of [] = None
shape_of (first ∷ rest) = Some first.shape

-- the same, kept folded
unfoldable pub head : List Symbol → Option Shape
head ts = shape_of ts
