-- Text in which no tab stands.
use Rattle.std.proofs.Common.{◌≡◌, ℕ, ◌+◌, ◌-◌, List, [], ◌∷◌, ◌++◌, length, take, drop, true, false, refl, sym, ap, ◌∙◌, arith, length-append}
use Rattle.std.specs.Prelude.{flat_map, ◌==◌, ◌||◌, if◌then◌else◌}
use Rattle.std.specs.List.{list_any}
use Rattle.std.proofs.Math.Seq.{drop-append_seam}
use Rattle.std.proofs.lemmas.List.{take_all}
use Rattle.pattern_page.specs.Results.{tab_escaped}

-- it stays as it is
plain : (xs : List ℕ) → false ≡ list_any (λ y. y == 9) xs → flat_map tab_escaped xs ≡ xs
plain [] e = refl
plain (x ∷ xs) e =
    elim (x == 9) as (λ b. false ≡ (b || list_any (λ y. y == 9) xs) → (if b then 92 ∷ 116 ∷ [] else x ∷ []) ++ flat_map tab_escaped xs ≡ x ∷ xs) [
      | true ↦ λ f. cc
      | false ↦ λ f. ap (λ w. x ∷ w) (plain xs f)
    ] e

-- the text behind what stood there
pub untabbed : (old text out : List ℕ) (start : ℕ) → start ≡ length old → out ≡ old ++ text → false ≡ list_any (λ y. y == 9) (take (length out - start) (drop start out)) → out ≡ old ++ flat_map tab_escaped text
untabbed old text out start s e f =
    let behind : drop start out ≡ text = ap (λ n. drop n out) s ∙ ap (drop (length old)) e ∙ drop-append_seam old text in
    let count : length out ≡ length old + length text = ap (λ (w : List ℕ). length w) e ∙ length-append old text in
    let long : length text ≡ length out - start = omega (arith, count, s) in
    let same : take (length out - start) (drop start out) ≡ text = ap (take (length out - start)) behind ∙ ap (λ n. take n text) (sym long) ∙ take_all (length text) text (omega arith) in
    e ∙ ap (λ w. old ++ w) (sym (plain text (f ∙ ap (list_any (λ y. y == 9)) same)))
