-- The triples of a trial are ones that RDF allows and that N-Triples can spell.
use Rattle.std.proofs.Common.{◌≡◌, ◌≢◌, ◌<◌, ◌≤◌, ◌+◌, ◌*◌, ◌/◌, ◌%◌, ◌^◌, ℕ, zero, suc, Bool, true, List, [], ◌∷◌, ◌++◌, length, codes, IsUtf8, inl, refl, ap, ◌∙◌, arith}
use Rattle.std.specs.Prelude.{All}
use Rattle.std.specs.Fmt.{decimal}
use Rattle.std.specs.List.{list_all}
use Rattle.std.proofs.lemmas.Bool.Decides.{nat_tests}
use Rattle.std.proofs.lemmas.Fmt.{decimal_by_steps, IsAscii-decimal}
use Rattle.std.proofs.lemmas.List.Elements.{All-nil, All-cons, All-append}
use Rattle.std.proofs.lemmas.List.Folds.{list_all-append}
use Rattle.std.proofs.lemmas.Str.{IsUtf8-from_ascii}
use Rattle.term_core.specs.Characters.{is_iri}
use Rattle.term_core.specs.Numbers.{xsd_integer}
use Rattle.term_core.specs.Order.{IsAllowed}
use Rattle.term_core.specs.Spelling.{lang_string, IsSpelledIri, IsSpelled, AreSpelled}
use Rattle.term_core.specs.declared.term.Triple.{Triple}
use Rattle.nt_text.proofs.TagLaws.{is_small}
use Rattle.nt_text.proofs.WrittenText.{text_small}
use Rattle.sage.specs.Trial.{trial_node, next_triple, value_triple, trial_front}

-- ---- numbers in IRIs

-- what passes each digit passes the digits of a number
all_of_digits : (test : ℕ → Bool) → ((d : ℕ) → d < 10 → test (48 + d) ≡ true) → (n : ℕ) → n < 2 ^ 64 → list_all test (decimal n) ≡ true
all_of_digits test each n small =
    decimal_by_steps (λ _ ds. list_all test ds ≡ true) one more n small
  where
    one : (n : ℕ) → n < 10 → list_all test ((48 + n) ∷ []) ≡ true
    one n lt = rw (each n lt) refl

    more : (n : ℕ) (ds : List ℕ) → 10 ≤ n → list_all test ds ≡ true → list_all test (ds ++ ((48 + n % 10) ∷ [])) ≡ true
    more n ds le before = list_all-append test ds ((48 + n % 10) ∷ []) ∙ (rw (before, each (n % 10) (omega arith)) refl)

digit_small : (d : ℕ) → d < 10 → is_small (48 + d) ≡ true
digit_small d lt = grind (arith, lt)

digit_iri : (d : ℕ) → d < 10 → is_iri (48 + d) ≡ true
digit_iri d lt = grind (arith, nat_tests, lt)

-- what passes the front of a node's IRI and each digit passes the IRI
node_passes : (test : ℕ → Bool) → ((d : ℕ) → d < 10 → test (48 + d) ≡ true) → list_all test (codes "http://t.example/n") ≡ true → (i : ℕ) → i < 2 ^ 64
    → list_all test (codes "http://t.example/n" ++ decimal i) ≡ true
node_passes test each front i small = list_all-append test (codes "http://t.example/n") (decimal i) ∙ (rw (front, all_of_digits test each i small) refl)

-- ---- terms

node_spelled : (i : ℕ) → i < 2 ^ 64 → IsSpelled (trial_node i)
node_spelled i small = record {
  characters = codes "http://t.example/n" ++ decimal i;
  is_text = text_small (codes "http://t.example/n" ++ decimal i) (node_passes is_small digit_small refl i small);
  of_class = node_passes is_iri digit_iri refl i small;
  scheme = refl;
}

integer_is_plain : xsd_integer ≢ lang_string
integer_is_plain = λ e. absurd (omega (arith, ap length e))

next_iri : IsSpelledIri (codes "http://t.example/next")
next_iri = record { characters = codes "http://t.example/next"; is_text = text_small (codes "http://t.example/next") refl; of_class = refl; scheme = refl }

value_iri : IsSpelledIri (codes "http://t.example/val")
value_iri = record { characters = codes "http://t.example/val"; is_text = text_small (codes "http://t.example/val") refl; of_class = refl; scheme = refl }

integer_iri : IsSpelledIri xsd_integer
integer_iri = record { characters = xsd_integer; is_text = text_small xsd_integer refl; of_class = refl; scheme = refl }

digit_utf8 : (i : ℕ) → IsUtf8 (decimal (i % 10))
digit_utf8 i = IsUtf8-from_ascii (decimal (i % 10)) (IsAscii-decimal (i % 10) (omega arith))

-- ---- triples

next_allowed : (n i : ℕ) → IsAllowed (next_triple n i)
unfolding next_triple
next_allowed n i = record { subject = tt; predicate = tt }

value_allowed : (i : ℕ) → IsAllowed (value_triple i)
unfolding value_triple
value_allowed i = record { subject = tt; predicate = tt }

next_spelled : (n i : ℕ) → i < n → n < 2 ^ 32 → AreSpelled (next_triple n i)
unfolding next_triple
next_spelled n i below few =
    let in_range : (7 * i + 1) % n < 2 ^ 64 = omega arith in
    record { subject = node_spelled i (omega arith); predicate = next_iri; object = node_spelled ((7 * i + 1) % n) in_range }

value_spelled : (i : ℕ) → i < 2 ^ 32 → AreSpelled (value_triple i)
unfolding value_triple
value_spelled i few = record { subject = node_spelled i (omega arith); predicate = value_iri; object = (digit_utf8 i, inl (refl, integer_iri, integer_is_plain)) }

pub all_allowed : (n k : ℕ) → All IsAllowed (trial_front n k)
all_allowed n zero = All-nil IsAllowed
all_allowed n (suc k) =
    All-append IsAllowed (trial_front n k) (next_triple n k ∷ value_triple k ∷ []) (all_allowed n k)
    (All-cons IsAllowed (next_triple n k) (value_triple k ∷ []) (next_allowed n k) (All-cons IsAllowed (value_triple k) [] (value_allowed k) (All-nil IsAllowed)))

pub all_spelled : (n k : ℕ) → k ≤ n → n < 2 ^ 32 → All AreSpelled (trial_front n k)
all_spelled n zero le few = All-nil AreSpelled
all_spelled n (suc k) le few =
    All-append AreSpelled (trial_front n k) (next_triple n k ∷ value_triple k ∷ []) (all_spelled n k (omega arith) few)
    (All-cons AreSpelled (next_triple n k) (value_triple k ∷ []) (next_spelled n k (omega arith) few)
    (All-cons AreSpelled (value_triple k) [] (value_spelled k (omega arith)) (All-nil AreSpelled)))
