-- Where a text is cut: between characters, and by a class that holds all or none of the characters from U+0080 on.
use Rattle.std.proofs.Common.{◌≡◌, ℕ, ◌<◌, ◌≤◌, ◌+◌, ◌-◌, Bool, true, false, ◌&&◌, List, [], ◌∷◌, ◌++◌, get_or, length, take, drop, inl, inr, ◌⊎◌, Some, eqb, refl, sym, ap, subst, ◌∙◌, arith, not}
use Rattle.std.proofs.Math.Utf8.{encode}
use Rattle.std.specs.Str.{IsUtf8, IsCharBoundary, chars, all_scalars, encode_utf8_all}
use Rattle.std.specs.List.{list_all, slice_range}
use Rattle.std.proofs.lemmas.Bool.{cases_lt, not-true}
use Rattle.std.proofs.lemmas.List.{append-nil, length-append}
use Rattle.std.proofs.lemmas.Bool.Decides.{nat_tests}
use native.Mathlib.Numerals.{unary_clauses}
use Rattle.std.proofs.Math.Seq.{take-append_seam, drop-append_seam}
use Rattle.std.proofs.lemmas.List.Elements.{All-from_get_or}
use Rattle.std.proofs.lemmas.List.Sums.{list_all-from_AllPass}
use Rattle.std.proofs.lemmas.Str.{encode_ascii, inside_one, IsCharBoundary-from_rest, IsCharBoundary-start, length-encode, len_utf8_bounds, chars_past_char, encodes-append, encodes-chars, scalars-chars, chars-encodes}
use Rattle.term_core.specs.Characters.{is_letter, front, after, begins}
use Rattle.term_core.specs.Names.{is_scheme, has_scheme}
use Rattle.nt_text.specs.declared.classes.Class.{Class}
use Rattle.nt_text.specs.declared.classes.Class.TheVariants as classes
use Rattle.nt_text.specs.Characters.{is_in}
use Rattle.nt_text.specs.Reading.{front_before, head_at}

-- a test that is the same for every number from 128 on
abbrev pub IsFlat : (ℕ → Bool) → Bool → Type 0
IsFlat p t = (c : ℕ) → 128 ≤ c → p c ≡ t

-- a test of a list is a test of both its parts
list_all-append : (p : ℕ → Bool) (xs ys : List ℕ) → list_all p (xs ++ ys) ≡ (list_all p xs && list_all p ys)
list_all-append p [] ys = refl
list_all-append p (x ∷ xs) ys = elim (p x) as (λ t. (t && list_all p (xs ++ ys)) ≡ ((t && list_all p xs) && list_all p ys)) [ true ↦ list_all-append p xs ys | false ↦ refl ]

-- the bytes of a character that is not ASCII are from 128 on
pub wide_bytes : (p : ℕ → Bool) → IsFlat p true → (c : ℕ) → 128 ≤ c → list_all p (encode c) ≡ true
wide_bytes p wide c large = list_all-from_AllPass p (encode c) (All-from_get_or (λ b. p b ≡ true) (encode c) 0 (λ k within. byte k within (cases_lt (get_or (encode c) k 0) 128)))
  where
    -- a byte of it is from 128 on, else it would be the character itself
    byte : (k : ℕ) → k < length (encode c) → (get_or (encode c) k 0 < 128) ⊎ (128 ≤ get_or (encode c) k 0) → p (get_or (encode c) k 0) ≡ true
    byte k within (inl small) =
        let same : c ≡ get_or (encode c) k 0 = inside_one c [] (encode c) k (sym (append-nil (encode c))) within small in
        absurd (omega (arith, same, small, large))
    byte k within (inr high) = wide (get_or (encode c) k 0) high

true_false : {A : Type 0} → true ≡ false → A
true_false e = absurd cc

-- a list all of the class has its first of it, and the rest
all_rest : (p : ℕ → Bool) (x : ℕ) (xs : List ℕ) → list_all p (x ∷ xs) ≡ true → (p x ≡ true) × (list_all p xs ≡ true)
all_rest p x xs h = go (p x) refl
  where
    go : (t : Bool) → p x ≡ t → (p x ≡ true) × (list_all p xs ≡ true)
    go true e = (e, sym (ap (λ t. t && list_all p xs) e) ∙ h)
    go false e = true_false (sym h ∙ ap (λ t. t && list_all p xs) e)

-- a front all of the class goes on
front-all : (p : ℕ → Bool) (xs ys : List ℕ) → list_all p xs ≡ true → front p (xs ++ ys) ≡ xs ++ front p ys
front-all p [] ys h = refl
front-all p (x ∷ xs) ys h = rw (all_rest p x xs h).0 (ap (λ cs. x ∷ cs) (front-all p xs ys (all_rest p x xs h).1))

after-all : (p : ℕ → Bool) (xs ys : List ℕ) → list_all p xs ≡ true → after p (xs ++ ys) ≡ after p ys
after-all p [] ys h = refl
after-all p (x ∷ xs) ys h = rw (all_rest p x xs h).0 (after-all p xs ys (all_rest p x xs h).1)

-- a class of none of the first byte stops there
stops : (p : ℕ → Bool) (b : ℕ) (bytes : List ℕ) → p b ≡ false → (front p (b ∷ bytes) ≡ []) × (after p (b ∷ bytes) ≡ b ∷ bytes)
stops p b bytes e = (rw e refl, rw e refl)

goes_on : (p : ℕ → Bool) (b : ℕ) (bytes : List ℕ) → p b ≡ true → (front p (b ∷ bytes) ≡ b ∷ front p bytes) × (after p (b ∷ bytes) ≡ after p bytes)
goes_on p b bytes e = (rw e refl, rw e refl)

-- a list with a front byte
abbrev Begun : List ℕ → Type 0
Begun bytes = (b : ℕ) × (rest : List ℕ) × (bytes ≡ b ∷ rest)

-- bytes none of which is of the class, with more than none of them
stopped : (p : ℕ → Bool) (xs ys : List ℕ) → list_all (λ c. not (p c)) xs ≡ true → Begun xs → (front p (xs ++ ys) ≡ []) × (after p (xs ++ ys) ≡ xs ++ ys)
stopped p [] ys h begun = absurd cc
stopped p (x ∷ xs) ys h begun = go (p x) refl
  where
    go : (t : Bool) → p x ≡ t → (front p (x ∷ (xs ++ ys)) ≡ []) × (after p (x ∷ (xs ++ ys)) ≡ x ∷ (xs ++ ys))
    go false e = stops p x (xs ++ ys) e
    go true e = true_false (sym h ∙ ap (λ t. not t && list_all (λ c. not (p c)) xs) e)

encode_begun : (c : ℕ) → Begun (encode c)
encode_begun c = go (encode c) refl
  where
    go : (bytes : List ℕ) → encode c ≡ bytes → Begun bytes
    go [] e = absurd (omega (arith, ap length e, length-encode c, len_utf8_bounds c))
    go (b ∷ rest) e = (b, rest, refl)

-- what a class takes of bytes is the UTF-8 of what it takes of the characters
record Matches (p : ℕ → Bool) (cs bytes : List ℕ) : Type 0 where
  taken : front p bytes ≡ encode_utf8_all (front p cs)
  left : after p bytes ≡ encode_utf8_all (after p cs)

matches_small : (p : ℕ → Bool) (c : ℕ) (cs : List ℕ) → c < 128 → Matches p cs (encode_utf8_all cs) → (t : Bool) → p c ≡ t → Matches p (c ∷ cs) (encode c ++ encode_utf8_all cs)
matches_small p c cs small m true e = record {
  taken = ap (λ bs. front p (bs ++ encode_utf8_all cs)) (encode_ascii c small) ∙ (goes_on p c (encode_utf8_all cs) e).0 ∙ ap (λ bs. c ∷ bs) m.taken ∙ sym (rw ((goes_on p c cs e).0, encode_ascii c small) refl);
  left = ap (λ bs. after p (bs ++ encode_utf8_all cs)) (encode_ascii c small) ∙ (goes_on p c (encode_utf8_all cs) e).1 ∙ m.left ∙ sym (ap encode_utf8_all (goes_on p c cs e).1);
}
matches_small p c cs small m false e = record {
  taken = ap (λ bs. front p (bs ++ encode_utf8_all cs)) (encode_ascii c small) ∙ (stops p c (encode_utf8_all cs) e).0 ∙ sym (ap encode_utf8_all (stops p c cs e).0);
  left = ap (λ bs. after p (bs ++ encode_utf8_all cs)) (encode_ascii c small) ∙ (stops p c (encode_utf8_all cs) e).1 ∙ sym (ap encode_utf8_all (stops p c cs e).1 ∙ ap (λ bs. bs ++ encode_utf8_all cs) (encode_ascii c small));
}

matches_wide : (p : ℕ → Bool) (c : ℕ) (cs : List ℕ) → 128 ≤ c → Matches p cs (encode_utf8_all cs) → (t : Bool) → IsFlat p t → Matches p (c ∷ cs) (encode c ++ encode_utf8_all cs)
matches_wide p c cs large m true flat =
    let all : list_all p (encode c) ≡ true = wide_bytes p flat c large in
    record {
      taken = front-all p (encode c) (encode_utf8_all cs) all ∙ ap (λ bs. encode c ++ bs) m.taken ∙ sym (ap encode_utf8_all (goes_on p c cs (flat c large)).0);
      left = after-all p (encode c) (encode_utf8_all cs) all ∙ m.left ∙ sym (ap encode_utf8_all (goes_on p c cs (flat c large)).1);
    }
matches_wide p c cs large m false flat =
    let none : list_all (λ d. not (p d)) (encode c) ≡ true = wide_bytes (λ d. not (p d)) (λ d high. ap not (flat d high)) c large in
    let both = stopped p (encode c) (encode_utf8_all cs) none (encode_begun c) in
    record {
      taken = both.0 ∙ sym (ap encode_utf8_all (stops p c cs (flat c large)).0);
      left = both.1 ∙ sym (ap encode_utf8_all (stops p c cs (flat c large)).1);
    }

matches : (p : ℕ → Bool) (t : Bool) → IsFlat p t → (cs : List ℕ) → Matches p cs (encode_utf8_all cs)
matches p t flat [] = record { taken = refl; left = refl }
matches p t flat (c ∷ cs) = elim (cases_lt c 128) [
  | inl small ↦ matches_small p c cs small (matches p t flat cs) (p c) refl
  | inr large ↦ matches_wide p c cs large (matches p t flat cs) t flat
]

-- a list of characters is of scalar values, part by part
scalars-front : (xs ys : List ℕ) → all_scalars (xs ++ ys) ≡ true → all_scalars xs ≡ true
scalars-front [] ys h = refl
scalars-front (x ∷ xs) ys h = grind (arith, scalars-front xs ys)

scalars-behind : (xs ys : List ℕ) → all_scalars (xs ++ ys) ≡ true → all_scalars ys ≡ true
scalars-behind [] ys h = h
scalars-behind (x ∷ xs) ys h = grind (arith, scalars-behind xs ys)

parts_by : (p : ℕ → Bool) (c : ℕ) (text : List ℕ) → front p text ++ after p text ≡ text → (t : Bool) → p c ≡ t → front p (c ∷ text) ++ after p (c ∷ text) ≡ c ∷ text
parts_by p c text h true e = rw e (ap (λ cs. c ∷ cs) h)
parts_by p c text h false e = rw e refl

pub parts : (p : ℕ → Bool) (text : List ℕ) → front p text ++ after p text ≡ text
parts p [] = refl
parts p (c ∷ text) = parts_by p c text (parts p text) (p c) refl

-- the first character of a text
pub first_char : (bytes rest : List ℕ) (c : ℕ) → IsUtf8 bytes → bytes ≡ encode c ++ rest → head_at (chars bytes) ≡ Some (c, chars rest)
first_char bytes rest c utf8 e = ap head_at (chars_past_char bytes rest c utf8 e)

-- a text may be cut where what is behind is a text
pub boundary : (bytes : List ℕ) (n : ℕ) → n ≤ length bytes → IsUtf8 (drop n bytes) → IsCharBoundary bytes n
boundary bytes n fits utf8 =
    let same : n + 0 ≡ n = omega arith in
    subst (IsCharBoundary bytes) same (IsCharBoundary-from_rest bytes n 0 fits (IsCharBoundary-start (drop n bytes) utf8))

-- a text cut by a class: where, and its parts
pub record IsCut (p : ℕ → Bool) (bytes : List ℕ) (n : ℕ) : Type 0 where
  pub boundary : IsCharBoundary bytes n
  pub front : chars (take n bytes) ≡ front p (chars bytes)
  pub after : chars (drop n bytes) ≡ after p (chars bytes)

pub cut_by : (p : ℕ → Bool) (t : Bool) → IsFlat p t → (bytes : List ℕ) (n : ℕ) → IsUtf8 bytes → n ≤ length bytes → take n bytes ≡ front p bytes → drop n bytes ≡ after p bytes → IsCut p bytes n
cut_by p t flat bytes n utf8 fits taken left =
    let cs = chars bytes in
    let scalars : all_scalars cs ≡ true = scalars-chars bytes utf8 in
    let whole : encode_utf8_all cs ≡ bytes = encodes-chars bytes utf8 in
    let m = matches p t flat cs in
    let halves : all_scalars (front p cs ++ after p cs) ≡ true = ap all_scalars (parts p cs) ∙ scalars in
    let scalars_front = scalars-front (front p cs) (after p cs) halves in
    let scalars_behind = scalars-behind (front p cs) (after p cs) halves in
    let front_is : take n bytes ≡ encode_utf8_all (front p cs) = taken ∙ ap (front p) (sym whole) ∙ m.taken in
    let after_is : drop n bytes ≡ encode_utf8_all (after p cs) = left ∙ ap (after p) (sym whole) ∙ m.left in
    record {
      boundary = boundary bytes n fits (after p cs, (scalars_behind, sym after_is));
      front = ap chars front_is ∙ chars-encodes (front p cs) scalars_front;
      after = ap chars after_is ∙ chars-encodes (after p cs) scalars_behind;
    }

-- a text before a rest of it: that it is no longer, that it may be cut there, and what is in front
pub record IsBefore (text rest : List ℕ) : Type 0 where
  pub fits : length rest ≤ length text
  pub boundary : IsCharBoundary text (length text - length rest)
  pub front : take (length text - length rest) text ≡ encode_utf8_all (front_before (chars text) (chars rest))

pub cut_before : (text rest front : List ℕ) → IsUtf8 text → IsUtf8 rest → chars text ≡ front ++ chars rest → IsBefore text rest
cut_before text rest front utf8_text utf8_rest e =
    let whole : text ≡ encode_utf8_all front ++ rest =
    sym (encodes-chars text utf8_text) ∙ ap encode_utf8_all e ∙ encodes-append front (chars rest) ∙ ap (λ bs. encode_utf8_all front ++ bs) (encodes-chars rest utf8_rest) in
    let lengths : length text ≡ length (encode_utf8_all front) + length rest = ap length whole ∙ length-append (encode_utf8_all front) rest in
    let place : length text - length rest ≡ length (encode_utf8_all front) = omega (arith, lengths) in
    let behind : drop (length text - length rest) text ≡ rest = ap (λ n. drop n text) place ∙ ap (drop (length (encode_utf8_all front))) whole ∙ drop-append_seam (encode_utf8_all front) rest in
    let taken : take (length text - length rest) text ≡ encode_utf8_all front = ap (λ n. take n text) place ∙ ap (take (length (encode_utf8_all front))) whole ∙ take-append_seam (encode_utf8_all front) rest in
    let count : length (chars text) - length (chars rest) ≡ length front = omega (arith, ap length e ∙ length-append front (chars rest)) in
    record {
      fits = omega (arith, lengths);
      boundary = boundary text (length text - length rest) (omega arith) (subst IsUtf8 (sym behind) utf8_rest);
      front = taken ∙ ap encode_utf8_all (sym (ap (λ n. take n (chars text)) count ∙ ap (take (length front)) e ∙ take-append_seam front (chars rest)));
    }

-- the part of a list before a place
pub range_front : (bytes : List ℕ) (n : ℕ) → slice_range bytes 0 n ≡ take n bytes
range_front bytes n = ap (λ k. take k bytes) (simp unary_clauses refl)

-- each class holds all or none of the numbers from 128 on
pub class_is_flat : (class : Class) → (t : Bool) × IsFlat (is_in class) t
class_is_flat classes.Blank = (false, λ c large. grind (arith, nat_tests))
class_is_flat classes.Iri = (true, λ c large. grind (arith, nat_tests))
class_is_flat classes.Plain = (true, λ c large. grind (arith, nat_tests))
class_is_flat classes.Letter = (false, λ c large. grind (arith, nat_tests))
class_is_flat classes.Line = (true, λ c large. grind (arith, nat_tests))

-- a text cut by a class of the code
pub class_cut : (class : Class) (bytes : List ℕ) (n : ℕ) → IsUtf8 bytes → n ≤ length bytes → take n bytes ≡ front (is_in class) bytes → drop n bytes ≡ after (is_in class) bytes → IsCut (is_in class) bytes n
class_cut class bytes n utf8 fits taken left = cut_by (is_in class) (class_is_flat class).0 (class_is_flat class).1 bytes n utf8 fits taken left

-- ---- schemes

-- the first byte of a character that is not ASCII is none of ASCII
wide_first : (p : ℕ → Bool) → IsFlat p false → (c : ℕ) (bytes : List ℕ) → 128 ≤ c → begins p (encode c ++ bytes) ≡ false
wide_first p flat c bytes large =
    let begun = encode_begun c in
    let none : list_all (λ d. not (p d)) (encode c) ≡ true = wide_bytes (λ d. not (p d)) (λ d high. ap not (flat d high)) c large in
    let first = (all_rest (λ d. not (p d)) begun.0 begun.1 (ap (list_all (λ d. not (p d))) (sym begun.2) ∙ none)).0 in
    ap (λ bs. begins p (bs ++ bytes)) begun.2 ∙ not-true (p begun.0) first

-- a test of ASCII holds of the first byte where it holds of the first character
begins_encoded : (p : ℕ → Bool) → IsFlat p false → (cs : List ℕ) → begins p (encode_utf8_all cs) ≡ begins p cs
begins_encoded p flat [] = refl
begins_encoded p flat (c ∷ cs) = elim (cases_lt c 128) [
  | inl small ↦ ap (λ bs. begins p (bs ++ encode_utf8_all cs)) (encode_ascii c small)
  | inr large ↦ wide_first p flat c (encode_utf8_all cs) large ∙ sym (flat c large)
]

scheme_flat : IsFlat is_scheme false
scheme_flat c large = grind (arith, nat_tests)

letter_flat : IsFlat is_letter false
letter_flat c large = grind (arith, nat_tests)

colon_flat : IsFlat (λ d. eqb d 58) false
colon_flat d large = grind (arith, nat_tests)

-- a text has a scheme where its bytes have one
pub scheme_encoded : (cs : List ℕ) → has_scheme (encode_utf8_all cs) ≡ has_scheme cs
scheme_encoded [] = refl
scheme_encoded (c ∷ cs) = elim (cases_lt c 128) [
  | inl small ↦ ap (λ bs. has_scheme (bs ++ encode_utf8_all cs)) (encode_ascii c small)
      ∙ ap (λ t. is_letter c && t) (ap (begins (λ d. eqb d 58)) (matches is_scheme false scheme_flat cs).left ∙ begins_encoded (λ d. eqb d 58) colon_flat (after is_scheme cs))
  | inr large ↦ no_scheme (encode c ++ encode_utf8_all cs) (wide_first is_letter letter_flat c (encode_utf8_all cs) large) ∙ sym (ap (λ t. t && begins (λ d. eqb d 58) (after is_scheme cs)) (letter_flat c large))
]
  where
    no_scheme : (bytes : List ℕ) → begins is_letter bytes ≡ false → has_scheme bytes ≡ false
    no_scheme [] h = refl
    no_scheme (b ∷ bytes) h = ap (λ t. t && begins (λ d. eqb d 58) (after is_scheme bytes)) h
