-- The tests of lexical forms hold exactly of the forms of the grammar.
use Rattle.std.proofs.Common.{◌≡◌, ℕ, refl, sym, ap, ◌∙◌, arith, Bool, true, false, cond, ◌==◌, ◌⊎◌, inl, inr, List, [], ◌∷◌, ◌++◌}
use Rattle.std.proofs.lemmas.Grind.{common_steps}
use Rattle.std.specs.Prelude.{◌||◌, not}
use Rattle.term_core.specs.Characters.{is_digit}
use Rattle.term_core.specs.Numbers.{are_digits, is_empty, behind_sign, before_point, behind_point, is_integer, is_decimal, IsSign, IsIntegerForm, IsDecimalForm, IsPointedForm}
use Rattle.xsd_num.proofs.Digits.{both_true, digits_join, digits_apart}
use Rattle.xsd_num.proofs.Readback.{no_sign, at_point, sign_free, point_at}

-- the sign in front
sign_of : List ℕ → List ℕ
sign_of [] = []
sign_of (c ∷ cs) = cond (c == 43 || c == 45) (c ∷ []) []

sign_cases : (c : ℕ) → (c == 43 || c == 45) ≡ true → (c ≡ 43) ⊎ (c ≡ 45)
sign_cases c e = grind (arith, common_steps)

ap_sign : (c : ℕ) → (c == 43 || c == 45) ≡ true → (c ∷ [] ≡ 43 ∷ []) ⊎ (c ∷ [] ≡ 45 ∷ [])
ap_sign c e = by_sign c (sign_cases c e)
  where
    by_sign : (c : ℕ) → (c ≡ 43) ⊎ (c ≡ 45) → (c ∷ [] ≡ 43 ∷ []) ⊎ (c ∷ [] ≡ 45 ∷ [])
    by_sign c (inl h) = inl (ap (λ d. d ∷ []) h)
    by_sign c (inr h) = inr (ap (λ d. d ∷ []) h)

sign_is : (b : Bool) (c : ℕ) → b ≡ (c == 43 || c == 45) → IsSign (cond b (c ∷ []) [])
sign_is false c e = inl refl
sign_is true c e = inr (ap_sign c (sym e))

cut_at : (b : Bool) (c : ℕ) (cs : List ℕ) → c ∷ cs ≡ cond b (c ∷ []) [] ++ cond b cs (c ∷ cs)
cut_at true c cs = refl
cut_at false c cs = refl

sign_cut : (text : List ℕ) → IsSign (sign_of text) × (text ≡ sign_of text ++ behind_sign text)
unfolding sign_of
sign_cut [] = (inl refl, refl)
sign_cut (c ∷ cs) = (sign_is (c == 43 || c == 45) c refl, cut_at (c == 43 || c == 45) c cs)

empty_not : (b : Bool) → not b ≡ true → b ≡ false
empty_not true e = cc
empty_not false e = refl

pub integer_sound : (text : List ℕ) → is_integer text ≡ true → IsIntegerForm text
integer_sound text e =
    let p : (are_digits (behind_sign text) ≡ true) × (not (is_empty (behind_sign text)) ≡ true) = both_true (are_digits (behind_sign text)) (not (is_empty (behind_sign text))) e in
    record {
      sign = sign_of text;
      digits = behind_sign text;
      is_sign = (sign_cut text).0;
      are_digits = p.0;
      some = empty_not (is_empty (behind_sign text)) p.1;
      parts = (sign_cut text).1;
    }

-- behind a sign stands what follows it
behind_is : (sign body : List ℕ) → IsSign sign → behind_sign body ≡ body → behind_sign (sign ++ body) ≡ body
behind_is sign body (inl e) free = rw e free
behind_is sign body (inr (inl e)) free = rw e refl
behind_is sign body (inr (inr e)) free = rw e refl

pub integer_complete : (text : List ℕ) → IsIntegerForm text → is_integer text ≡ true
integer_complete text i =
    let behind : behind_sign text ≡ i.digits = ap behind_sign i.parts ∙ behind_is i.sign i.digits i.is_sign (sign_free i.digits i.are_digits i.some).1 in
    rw (behind, i.are_digits, i.some) refl

-- the point, if there is one
point_of : List ℕ → List ℕ
point_of [] = []
point_of (c ∷ cs) = cond (c == 46) (46 ∷ []) (point_of cs)

pointed_at : (b : Bool) (cs point rest : List ℕ) → IsPointedForm point rest → IsPointedForm (cond b (46 ∷ []) point) (cond b cs rest)
pointed_at true cs point rest h = inr refl
pointed_at false cs point rest h = h

is_point : (c : ℕ) → (c == 46) ≡ true → c ≡ 46
is_point c e = grind (arith, common_steps)

parted_at : (b : Bool) (c : ℕ) (cs front point rest : List ℕ) → b ≡ (c == 46) → cs ≡ front ++ (point ++ rest)
    → c ∷ cs ≡ cond b [] (c ∷ front) ++ (cond b (46 ∷ []) point ++ cond b cs rest)
parted_at true c cs front point rest e h = ap (λ d. d ∷ cs) (is_point c (sym e))
parted_at false c cs front point rest e h = ap (λ ds. c ∷ ds) h

point_cut : (body : List ℕ) → IsPointedForm (point_of body) (behind_point body) × (body ≡ before_point body ++ (point_of body ++ behind_point body))
unfolding point_of
point_cut [] = (inl (refl, refl), refl)
point_cut (c ∷ cs) = (
  pointed_at (c == 46) cs (point_of cs) (behind_point cs) (point_cut cs).0,
  parted_at (c == 46) c cs (before_point cs) (point_of cs) (behind_point cs) refl (point_cut cs).1,
)

pub decimal_sound : (text : List ℕ) → is_decimal text ≡ true → IsDecimalForm text
decimal_sound text e =
    let w : List ℕ = before_point (behind_sign text) in
    let f : List ℕ = behind_point (behind_sign text) in
    let p : (are_digits (w ++ f) ≡ true) × (not (is_empty (w ++ f)) ≡ true) = both_true (are_digits (w ++ f)) (not (is_empty (w ++ f))) e in
    let d : (are_digits w ≡ true) × (are_digits f ≡ true) = digits_apart w f p.0 in
    let cut : IsPointedForm (point_of (behind_sign text)) f × (behind_sign text ≡ w ++ (point_of (behind_sign text) ++ f)) = point_cut (behind_sign text) in
    record {
      sign = sign_of text;
      whole = w;
      point = point_of (behind_sign text);
      fraction = f;
      is_sign = (sign_cut text).0;
      whole_digits = d.0;
      fraction_digits = d.1;
      is_pointed = cut.0;
      some = empty_not (is_empty (w ++ f)) p.1;
      parts = (sign_cut text).1 ∙ ap (λ rest. sign_of text ++ rest) cut.1;
    }

decimal_from : (text body w f : List ℕ) → behind_sign text ≡ body → before_point body ≡ w → behind_point body ≡ f
    → are_digits w ≡ true → are_digits f ≡ true → is_empty (w ++ f) ≡ false → is_decimal text ≡ true
decimal_from text body w f r p q d g e = rw (r, p, q, digits_join w f, d, g, e) refl

no_point : (ds : List ℕ) → are_digits ds ≡ true → (before_point ds ≡ ds) × (behind_point ds ≡ [])
no_point [] p = (refl, refl)
no_point (c ∷ cs) p =
    let d : (is_digit c ≡ true) × (are_digits cs ≡ true) = both_true (is_digit c) (are_digits cs) p in
    point_at c cs cs [] d.0 (no_point cs d.1).0 (no_point cs d.1).1

point_free : (ds rest : List ℕ) → are_digits ds ≡ true → behind_sign (ds ++ 46 ∷ rest) ≡ ds ++ 46 ∷ rest
point_free [] rest p = refl
point_free (c ∷ cs) rest p = (no_sign (c ∷ cs) (46 ∷ rest) p refl).1

append_none : (xs : List ℕ) → xs ++ [] ≡ xs
append_none [] = refl
append_none (x ∷ xs) = ap (λ ys. x ∷ ys) (append_none xs)

decimal_parted : (text sign w point f : List ℕ) → IsSign sign → are_digits w ≡ true → are_digits f ≡ true → IsPointedForm point f
    → is_empty (w ++ f) ≡ false → text ≡ sign ++ (w ++ (point ++ f)) → is_decimal text ≡ true
decimal_parted text sign w point f s d g (inr p) e t =
    let body : text ≡ sign ++ (w ++ 46 ∷ f) = t ∙ ap (λ q. sign ++ (w ++ (q ++ f))) p in
    decimal_from text (w ++ 46 ∷ f) w f (ap behind_sign body ∙ behind_is sign (w ++ 46 ∷ f) s (point_free w f d)) (at_point w f d).0 (at_point w f d).1 d g e
decimal_parted text sign w point f s d g (inl p) e t =
    let body : text ≡ sign ++ w = t ∙ ap (λ q. sign ++ (w ++ (q ++ f))) p.0 ∙ ap (λ q. sign ++ (w ++ q)) p.1 ∙ ap (λ q. sign ++ q) (append_none w) in
    let some : is_empty w ≡ false = sym (ap is_empty (append_none w)) ∙ sym (ap (λ q. is_empty (w ++ q)) p.1) ∙ e in
    decimal_from text w w f (ap behind_sign body ∙ behind_is sign w s (sign_free w d some).1) (no_point w d).0 ((no_point w d).1 ∙ sym p.1) d g e

pub decimal_complete : (text : List ℕ) → IsDecimalForm text → is_decimal text ≡ true
decimal_complete text i = decimal_parted text i.sign i.whole i.point i.fraction i.is_sign i.whole_digits i.fraction_digits i.is_pointed i.some i.parts
