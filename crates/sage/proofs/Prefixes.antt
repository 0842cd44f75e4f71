-- What a shelf gives whose contents are known.
use Rattle.std.proofs.Common.{◌≡◌, ℕ, ◌+◌, zero, suc, zero-add, suc-add, List, [], ◌∷◌, ◌++◌, length, take, drop, Option, Some, Result, refl, ap, ◌∙◌, subst, arith}
use Rattle.std.proofs.lemmas.Grind.{common_steps}
use Rattle.sage_outside.specs.declared.shelf.ShelfFault.{ShelfFault}
use Rattle.sage_outside.specs.Shelf.{Files, Finds, FindsIn, FillsFrom}
use Rattle.sage.specs.Told.{TellsFile}

-- a call on a file whose contents are known speaks of its bytes
pub finds_told : {T : Type 0} (P : List ℕ → T → Type 0) (files : Option Files) (name file : List ℕ) (r : Result T ShelfFault) → TellsFile files name file → FindsIn P files name r → Finds P (Some file) r
finds_told P files name file r t h =
    let in_map : FindsIn P (Some t.all) name r = subst (λ fs. FindsIn P fs name r) t.told h in
    subst (λ bytes. Finds P bytes r) t.has in_map

pub take_add : (a n : ℕ) (xs : List ℕ) → take a xs ++ take n (drop a xs) ≡ take (a + n) xs
take_add zero n xs = rw zero-add refl
take_add (suc a) n [] = grind (arith, common_steps)
take_add (suc a) n (x ∷ xs) = rw suc-add (ap (λ l. x ∷ l) (take_add a n xs))

-- what is read behind a prefix makes a longer prefix
pub prefix_grows : (file bytes old new : List ℕ) (at n : ℕ) → at ≡ length bytes → bytes ≡ take (length bytes) file → FillsFrom at old new file n → bytes ++ take n new ≡ take (length bytes + n) file
prefix_grows file bytes old new at n e is fills =
    ap (λ b. b ++ take n new) is
    ∙ ap (λ t. take (length bytes) file ++ t) (fills.filled ∙ ap (λ k. take n (drop k file)) e) ∙ take_add (length bytes) n file
