-- Bytes that are not escaped are written as they are.
use Rattle.std.proofs.Common.{◌≡◌, ℕ, Bool, true, false, cond, List, [], ◌∷◌, ◌++◌, take, drop, Result, Ok, Err, IfOk, refl, sym, ap, ◌∙◌, append_assoc}
use Rattle.std.proofs.lemmas.List.{take-append-drop}
use Rattle.std.proofs.lemmas.List.Concat.{flat_map-append}
use Rattle.std.specs.Prelude.{flat_map}
use Rattle.term_core.specs.Texts.{escaped}
use Rattle.term_core.specs.Characters.{is_plain, front}
use Rattle.nt_text.proofs.WrittenText.{IsWrittenAs, written_as}
use Rattle.nt_text.proofs.WrittenText.IsWrittenAs.{backslash, quote, feed, return, itself}

plain_same : (c : ℕ) → is_plain c ≡ true → escaped c ≡ c ∷ []
plain_same c plain = by_case (written_as c) plain
  where
    by_case : {c : ℕ} → IsWrittenAs c → is_plain c ≡ true → escaped c ≡ c ∷ []
    by_case backslash plain = absurd cc
    by_case quote plain = absurd cc
    by_case feed plain = absurd cc
    by_case return plain = absurd cc
    by_case (itself same h) plain = same

run_same : (bytes : List ℕ) → flat_map escaped (front is_plain bytes) ≡ front is_plain bytes
run_same [] = refl
run_same (c ∷ bytes) = by_test (front is_plain bytes) (run_same bytes) (is_plain c) refl
  where
    by_test : (more : List ℕ) → flat_map escaped more ≡ more → (b : Bool) → is_plain c ≡ b → flat_map escaped (cond b (c ∷ more) []) ≡ cond b (c ∷ more) []
    by_test more same true plain = (λ i. plain_same c plain i ++ same i)
    by_test more same false other = refl

-- a run and what is behind it
pub run_is : (old bytes : List ℕ) (n : ℕ) → take n bytes ≡ front is_plain bytes
    → (old ++ take n bytes) ++ flat_map escaped (drop n bytes) ≡ old ++ flat_map escaped bytes
run_is old bytes n run =
    let same : flat_map escaped (take n bytes) ≡ take n bytes = ap (flat_map escaped) run ∙ run_same bytes ∙ sym run in
    append_assoc old (take n bytes) (flat_map escaped (drop n bytes))
    ∙ ap (λ t. old ++ (t ++ flat_map escaped (drop n bytes))) (sym same)
    ∙ ap (λ t. old ++ t) (sym (flat_map-append escaped (take n bytes) (drop n bytes)) ∙ ap (flat_map escaped) (take-append-drop n bytes))

-- the same, from what was written before it
pub run_on : {T E : Type 0} (r : Result T E) (f : T → List ℕ) (old mid bytes run rest : List ℕ) (n : ℕ)
    → mid ≡ old ++ run → run ≡ take n bytes → rest ≡ drop n bytes → take n bytes ≡ front is_plain bytes
    → IfOk r (λ t. f t ≡ mid ++ flat_map escaped rest) → IfOk r (λ t. f t ≡ old ++ flat_map escaped bytes)
run_on (Ok t) f old mid bytes run rest n m p q is e =
    e ∙ ap (λ t. t ++ flat_map escaped rest) (m ∙ ap (λ t. old ++ t) p) ∙ ap (λ t. (old ++ take n bytes) ++ flat_map escaped t) q ∙ run_is old bytes n is
run_on (Err x) f old mid bytes run rest n m p q is e = tt
