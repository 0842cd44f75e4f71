-- A list made of pieces, one for each element of another list.
use Rattle.std.proofs.Common.{◌≡◌, ℕ, zero, suc, ◌+◌, ◌-◌, ◌<◌, List, [], ◌∷◌, ◌++◌, length, Some, refl, ap, ◌∙◌, ⊎_elim, arith, length-append, zero-add}
use Rattle.std.specs.Prelude.{flat_map, slice_get}
use Rattle.std.proofs.lemmas.Bool.{cases_lt}
use Rattle.term_core.proofs.Merges.{Some_same}
use Rattle.plan_tree.specs.States.{pieces_before}

-- an element of the front list
pub slice_get-front : {X : Type 0} (xs ys : List X) (i : ℕ) → i < length xs → slice_get (xs ++ ys) i ≡ slice_get xs i
slice_get-front [] ys i h = absurd (omega arith)
slice_get-front (x ∷ xs) ys zero h = refl
slice_get-front (x ∷ xs) ys (suc i) h = slice_get-front xs ys i (omega arith)

-- an element of the back list
pub slice_get-back : {X : Type 0} (xs ys : List X) (i : ℕ) → slice_get (xs ++ ys) (length xs + i) ≡ slice_get ys i
slice_get-back [] ys i = ap (slice_get ys) (zero-add i)
slice_get-back (x ∷ xs) ys i =
    let e : suc (length xs) + i ≡ suc (length xs + i) = omega arith in
    ap (slice_get (x ∷ (xs ++ ys))) e ∙ slice_get-back xs ys i

-- what stands in a list stands below its length
pub slice_get-within : {X : Type 0} (xs : List X) (i : ℕ) (x : X) → slice_get xs i ≡ Some x → i < length xs
slice_get-within [] i x e = cc
slice_get-within (y ∷ ys) zero x e = omega arith
slice_get-within (y ∷ ys) (suc i) x e = omega (arith, slice_get-within ys i x e)

pub slice_get-some : {X : Type 0} (xs : List X) (i : ℕ) → i < length xs → (x : X) × (slice_get xs i ≡ Some x)
slice_get-some [] i h = absurd (omega arith)
slice_get-some (y ∷ ys) zero h = (y, refl)
slice_get-some (y ∷ ys) (suc i) h = slice_get-some ys i (omega arith)

module _ {X Y : Type 0} (f : X → List Y) where
  pub before-suc : (xs : List X) (m : ℕ) (x : X) → slice_get xs m ≡ Some x → pieces_before f xs (suc m) ≡ pieces_before f xs m + length (f x)
  before-suc [] m x e = cc
  before-suc (y ∷ ys) zero x e = let same = Some_same y x e in rw same (omega arith)
  before-suc (y ∷ ys) (suc m) x e = omega (arith, before-suc ys m x e)

  -- an entry of a piece
  pub in_piece : (xs : List X) (m i : ℕ) (x : X) → slice_get xs m ≡ Some x → i < length (f x) → slice_get (flat_map f xs) (pieces_before f xs m + i) ≡ slice_get (f x) i
  in_piece [] m i x e h = cc
  in_piece (y ∷ ys) zero i x e h =
      let same = Some_same y x e in
      let z : 0 + i ≡ i = omega arith in
      rw (same, z) (slice_get-front (f x) (flat_map f ys) i h)
  in_piece (y ∷ ys) (suc m) i x e h =
      let z : length (f y) + pieces_before f ys m + i ≡ length (f y) + (pieces_before f ys m + i) = omega arith in
      rw z (slice_get-back (f y) (flat_map f ys) (pieces_before f ys m + i) ∙ in_piece ys m i x e h)

-- where a place of the whole lies
pub record Lies {X Y : Type 0} (f : X → List Y) (xs : List X) (n : ℕ) : Type 0 where
  pub piece : ℕ
  pub element : X
  pub inside : ℕ
  pub is : slice_get xs piece ≡ Some element
  pub within : inside < length (f element)
  pub sum : n ≡ pieces_before f xs piece + inside

pub lies : {X Y : Type 0} (f : X → List Y) (xs : List X) (n : ℕ) → n < length (flat_map f xs) → Lies f xs n
lies f [] n h = absurd (omega arith)
lies f (x ∷ xs) n h =
    ⊎_elim
    (λ here. record { piece = 0; element = x; inside = n; is = refl; within = here; sum = omega arith })
    (λ past.
    let rest = lies f xs (n - length (f x)) (omega (arith, length-append (f x) (flat_map f xs))) in
    record { piece = suc rest.piece; element = rest.element; inside = rest.inside; is = rest.is; within = rest.within; sum = omega (arith, rest.sum) })
    (cases_lt n (length (f x)))

-- it lies at one place
pub same_piece : {X Y : Type 0} (f : X → List Y) (xs : List X) (m k i j : ℕ) (x y : X) → slice_get xs m ≡ Some x → slice_get xs k ≡ Some y → i < length (f x) → j < length (f y) → pieces_before f xs m + i ≡ pieces_before f xs k + j → (m ≡ k) × (i ≡ j)
same_piece f [] m k i j x y e d h g s = cc
same_piece f (z ∷ zs) zero zero i j x y e d h g s = (refl, omega arith)
same_piece f (z ∷ zs) zero (suc k) i j x y e d h g s =
    let same = Some_same z x e in let long = ap (λ w. length (f w)) same in absurd (omega (arith, long))
same_piece f (z ∷ zs) (suc m) zero i j x y e d h g s =
    let same = Some_same z y d in let long = ap (λ w. length (f w)) same in absurd (omega (arith, long))
same_piece f (z ∷ zs) (suc m) (suc k) i j x y e d h g s =
    let r = same_piece f zs m k i j x y e d h g (omega arith) in (ap suc r.0, r.1)
