-- Lists whose order means nothing: the multisets of solutions (SPARQL 1.1, sections 18.3 and 18.5).
use Rattle.std.specs.Prelude.{◌≡◌, ℕ, ◌+◌, List, [], ◌∷◌, Bool, true, not, ◌&&◌, filter, ◌⊎◌}

-- what a list's elements weigh together
abbrev pub total : {X : Type 0} → (X → ℕ) → List X → ℕ
total f [] = 0
total f (x ∷ xs) = f x + total f xs

-- each value stands equally often in both: they weigh the same, whatever each value weighs
pub record SameBag {X : Type 0} (xs ys : List X) : Type 0 where
  pub by : (f : X → ℕ) → total f xs ≡ total f ys

-- the value is an element of the list
abbrev pub In : {X : Type 0} → List X → X → Type 0
In [] x = ⊥
In (y ∷ ys) x = (y ≡ x) ⊎ In ys x

-- no value stands twice
abbrev pub AreDistinct : {X : Type 0} → List X → Type 0
AreDistinct [] = Unit {0}
AreDistinct (x ∷ xs) = (In xs x → ⊥) × AreDistinct xs

-- two lists have the same members, in whatever order and however often
pub record HaveSame {X : Type 0} (xs ys : List X) : Type 0 where
  pub to : (x : X) → In xs x → In ys x
  pub from : (x : X) → In ys x → In xs x

-- each of the list's values once, at its first place
abbrev pub distinct : {X : Type 0} → (X → X → Bool) → List X → List X
distinct same [] = []
distinct same (x ∷ xs) = x ∷ filter (λ y. not (same x y)) (distinct same xs)

-- the value stands nowhere in the list
abbrev pub is_new : {X : Type 0} → (X → X → Bool) → List X → X → Bool
is_new same [] y = true
is_new same (x ∷ xs) y = not (same x y) && is_new same xs y
