-- One more row of the left side.
use Rattle.std.proofs.Common.{◌≡◌, ℕ, zero, suc, ◌+◌, ◌<◌, Bool, true, false, cond, List, [], ◌∷◌, ◌++◌, map, length, take, get_or, refl, sym, ap, ◌∙◌, inl, inr, arith, add-one}
use Rattle.std.specs.Prelude.{filter, ◌&&◌, not, flat_map}
use Rattle.std.specs.List.{filter_map, list_any}
use Rattle.std.proofs.Math.Seq.{take-suc}
use Rattle.std.proofs.lemmas.Grind.{flat_map-append}
use Rattle.term_core.specs.Bags.{In}

-- an element of a list is in it
pub In-get_or : {X : Type 0} (xs : List X) (i : ℕ) (x : X) → i < length xs → x ≡ get_or xs i x → In xs x
In-get_or [] i x p e = absurd (omega (arith, p))
In-get_or (y ∷ xs) zero x p e = inl (sym e)
In-get_or (y ∷ xs) (suc i) x p e = inr (In-get_or xs i x (omega (arith, p)) e)

-- one more element
pub take_next : {X : Type 0} (xs : List X) (i : ℕ) (x : X) → i < length xs → x ≡ get_or xs i x → take (i + 1) xs ≡ take i xs ++ x ∷ []
take_next xs i x p e = ap (λ k. take k xs) (add-one i) ∙ take-suc xs i x p ∙ ap (λ y. take i xs ++ y ∷ []) (sym e)

append_nothing : {X : Type 0} (xs : List X) → xs ++ [] ≡ xs
append_nothing [] = refl
append_nothing (x ∷ xs) = ap (λ w. x ∷ w) (append_nothing xs)

-- one more row, by what f makes of it
pub flat_map_next : {X Y : Type 0} (f : X → List Y) (xs : List X) (i : ℕ) (x : X) → i < length xs → x ≡ get_or xs i x → flat_map f (take (i + 1) xs) ≡ flat_map f (take i xs) ++ f x
flat_map_next f xs i x p e =
    ap (flat_map f) (take_next xs i x p e) ∙ flat_map-append f (take i xs) (x ∷ []) ∙ ap (λ w. flat_map f (take i xs) ++ w) (append_nothing (f x))
