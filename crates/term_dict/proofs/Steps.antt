-- One more term among the places and the records.
use Rattle.std.proofs.Common.{◌≡◌, ℕ, ◌+◌, ◌<◌, ◌≤◌, ◌++◌, max, List, [], ◌∷◌, length, drop, get_or, map, flat_map, Some, refl, sym, ap, subst, ◌∙◌, arith, append_assoc, length-append}
use Rattle.std.specs.List.{slice_get}
use Rattle.std.proofs.lemmas.Option.{slice_get_read}
use Rattle.std.specs.Int.{w64, to_be_bytes}
use Rattle.std.proofs.lemmas.List.{drop_more, length-map, get_or-map}
use Rattle.term_core.specs.declared.term.Term.{Term}
use Rattle.term_core.specs.declared.term.Term.TheVariants.{Iri, Blank, Literal}
use Rattle.term_core.specs.Order.{size_of}
use Rattle.term_dict.specs.Records.{record_of}
use Rattle.term_dict.specs.Built.{records_of, places_from, longest_of}
use Rattle.term_dict.proofs.Held.{by_last}

-- a record has at most nine bytes beside its texts
pub record_short : (t : Term) → size_of t ≤ 262144 → length (record_of t) ≤ 262153
record_short (Blank label) h = omega arith
record_short (Iri iri) h = omega arith
record_short (Literal lexical datatype lang) h = omega (arith, length-append {A = ℕ})

module _ (ts : List Term) (i : ℕ) (t : Term) (lt : i < length ts) (is : t ≡ get_or ts i t) where
  here : drop i ts ≡ t ∷ drop (i + 1) ts
  here = drop_more ts i t lt ∙ ap (λ u. u ∷ drop (i + 1) ts) (sym is)

  pub records_more : (old new all : List ℕ) → new ≡ old ++ record_of t → old ++ records_of (drop i ts) ≡ all → new ++ records_of (drop (i + 1) ts) ≡ all
  records_more old new all e h = ap (λ l. l ++ records_of (drop (i + 1) ts)) e ∙ append_assoc old (record_of t) (records_of (drop (i + 1) ts)) ∙ (sym (ap (λ l. old ++ records_of l) here) ∙ h)

  pub places_more : (old new all : List ℕ) (n m : ℕ) → new ≡ old ++ n ∷ [] → m ≡ n + length (record_of t) → old ++ places_from n (drop i ts) ≡ all → new ++ places_from m (drop (i + 1) ts) ≡ all
  places_more old new all n m e f h =
      let rest = places_from (n + length (record_of t)) (drop (i + 1) ts) in
      ap (λ l. l ++ places_from m (drop (i + 1) ts)) e ∙ ap (λ k. (old ++ n ∷ []) ++ places_from k (drop (i + 1) ts)) f ∙ append_assoc old (n ∷ []) rest ∙ (sym (ap (λ l. old ++ places_from n l) here) ∙ h)

  pub bytes_more : (old new all n : ℕ) → n ≡ length (record_of t) → new ≡ old + n → old + length (records_of (drop i ts)) ≡ all → new + length (records_of (drop (i + 1) ts)) ≡ all
  bytes_more old new all n e f h =
      let long : length (records_of (drop i ts)) ≡ length (record_of t) + length (records_of (drop (i + 1) ts)) = ap (λ l. length (records_of l)) here ∙ length-append (record_of t) (records_of (drop (i + 1) ts)) in
      omega arith

  pub numbers_more : (old new all : List ℕ) (n m : ℕ) → new ≡ old ++ to_be_bytes w64 n → m ≡ n + length (record_of t)
      → old ++ flat_map (to_be_bytes w64) (places_from n (drop i ts)) ≡ all → new ++ flat_map (to_be_bytes w64) (places_from m (drop (i + 1) ts)) ≡ all
  numbers_more old new all n m e f h =
      let bytes : List ℕ → List ℕ = flat_map (to_be_bytes w64) in
      let rest = places_from (n + length (record_of t)) (drop (i + 1) ts) in
      ap (λ l. l ++ bytes (places_from m (drop (i + 1) ts))) e ∙ ap (λ k. (old ++ to_be_bytes w64 n) ++ bytes (places_from k (drop (i + 1) ts))) f
      ∙ append_assoc old (to_be_bytes w64 n) (bytes rest) ∙ (sym (ap (λ l. old ++ bytes (places_from n l)) here) ∙ h)

  pub longest_more : (old new all : ℕ) → new ≡ max old (length (record_of t)) → max old (longest_of (drop i ts)) ≡ all → max new (longest_of (drop (i + 1) ts)) ≡ all
  longest_more old new all e h =
      let f : longest_of (drop i ts) ≡ max (length (record_of t)) (longest_of (drop (i + 1) ts)) = ap longest_of here in
      omega arith

-- what holds of the terms before a place and of the term there
pub before_more : (P : Term → Type 0) (ts : List Term) (i : ℕ) (t : Term) → slice_get ts i ≡ Some t → P t
    → ((k : ℕ) (u : Term) → k < i → slice_get ts k ≡ Some u → P u) → (k : ℕ) (u : Term) → k < i + 1 → slice_get ts k ≡ Some u → P u
before_more P ts i t at is before k u lt at_k =
    by_last (P u) k i (omega arith)
    (λ e. let same : t ≡ u = (let f : slice_get ts k ≡ slice_get ts i = ap (slice_get ts) e in cc) in subst P same is)
    (λ lower. before k u lower at_k)

-- an element that was read, among the values of elements
module _ {X : Type 0} (f : X → Term) (xs : List X) (i : ℕ) (x : X) (lt : i < length xs) (is : x ≡ get_or xs i x) where
  pub mapped_within : i < length (map f xs)
  mapped_within = omega (arith, length-map xs f)

  pub mapped_read : f x ≡ get_or (map f xs) i (f x)
  mapped_read = ap f is ∙ sym (get_or-map f xs i x (f x) lt)

  pub mapped_at : slice_get (map f xs) i ≡ Some (f x)
  mapped_at = slice_get_read (map f xs) _ i (f x) refl mapped_within mapped_read
