-- Digits and the numbers that they write.
use Rattle.std.proofs.Common.{◌≡◌, ◌≢◌, ℕ, zero, suc, ◌+◌, ◌-◌, ◌*◌, ◌/◌, ◌%◌, ◌<◌, ◌≤◌, refl, sym, ap, ◌∙◌, arith, Bool, true, false, ◌⊎◌, List, [], ◌∷◌, ◌++◌, length, get_or, take, drop, length-take, drop-cons, take-suc, inl, inr}
use Rattle.std.proofs.lemmas.Grind.{common_steps}
use Rattle.std.specs.Prelude.{Option, None, ◌&&◌}
use Rattle.term_core.specs.Characters.{is_digit}
use Rattle.term_core.specs.Numbers.{are_digits, value_after, trimmed, is_empty}
use Rattle.xsd_num.specs.Values.{below}
use Rattle.xsd_num.proofs.Trims.{trims_zero, trims_no_place, trims_no_digit}

-- digits behind a number make it no less
pub value_grows : (n : ℕ) (ds : List ℕ) → n ≤ value_after n ds
value_grows n [] = omega arith
value_grows n (c ∷ cs) = omega (arith, value_grows (n * 10 + (c - 48)) cs)

-- nor is it less than with the next digit alone
pub value_from : (n i : ℕ) (ds : List ℕ) → i < length ds → n * 10 + (get_or ds i 0 - 48) ≤ value_after n (drop i ds)
value_from n i ds h = rw (drop-cons ds i 0) (value_grows (n * 10 + (get_or ds i 0 - 48)) (drop (suc i) ds))

-- what is past 2^128 stays past it
pub none_below : (v w : ℕ) (r : Option ℕ) → r ≡ below v → r ≡ None → v ≤ w → None ≡ below w
none_below v w r e d h = grind (arith, common_steps)

-- digits behind digits
pub value_join : (n : ℕ) (xs ys : List ℕ) → value_after n (xs ++ ys) ≡ value_after (value_after n xs) ys
value_join n [] ys = refl
value_join n (x ∷ xs) ys = value_join (n * 10 + (x - 48)) xs ys

-- the last digit of a front
pub value_front : (n e : ℕ) (ds : List ℕ) → e < length ds → value_after n (take (suc e) ds) ≡ value_after n (take e ds) * 10 + (get_or ds e 0 - 48)
value_front n e ds h = rw (take-suc ds e 0) (value_join n (take e ds) (get_or ds e 0 ∷ []))

both_digits : (c : ℕ) (cs : List ℕ) → are_digits (c ∷ cs) ≡ true → (is_digit c ≡ true) × (are_digits cs ≡ true)
both_digits c cs p = grind (arith, common_steps)

join_digits : (c : ℕ) (cs : List ℕ) → is_digit c ≡ true → are_digits cs ≡ true → are_digits (c ∷ cs) ≡ true
join_digits c cs p q = grind (arith, common_steps)

digit_range : (c : ℕ) → is_digit c ≡ true → (48 ≤ c) × (c ≤ 57)
digit_range c p = grind (arith, common_steps)

-- each is a digit
pub digit_at : (ds : List ℕ) (e : ℕ) → are_digits ds ≡ true → e < length ds → (48 ≤ get_or ds e 0) × (get_or ds e 0 ≤ 57)
digit_at [] e p h = absurd (omega arith)
digit_at (c ∷ cs) zero p h = digit_range c (both_digits c cs p).0
digit_at (c ∷ cs) (suc e) p h = digit_at cs e (both_digits c cs p).1 (omega arith)

-- so are those of a front
pub front_digits : (ds : List ℕ) (e : ℕ) → are_digits ds ≡ true → are_digits (take e ds) ≡ true
front_digits [] zero p = refl
front_digits [] (suc e) p = refl
front_digits (c ∷ cs) zero p = refl
front_digits (c ∷ cs) (suc e) p = join_digits c (take e cs) (both_digits c cs p).0 (front_digits cs e (both_digits c cs p).1)

goes_at : (v w e : ℕ) → w ≡ v * 10 + (48 - 48) → trimmed v e ≡ trimmed w (suc e)
goes_at v w e h =
    let tenth : w / 10 ≡ v = omega arith in
    let ends : w % 10 ≡ 0 = omega arith in
    let less : suc e - 1 ≡ e = omega arith in
    rw (← tenth) (rw less at (trims_zero w (suc e) (omega arith) ends))

-- a zero at the end goes
pub zero_goes : (ds : List ℕ) (e n : ℕ) → 0 < e → e ≤ length ds → get_or ds (e - 1) 0 ≡ 48 → trimmed (value_after n (take (e - 1) ds)) (e - 1) ≡ trimmed (value_after n (take e ds)) e
zero_goes ds zero n p h z = absurd (omega arith)
zero_goes ds (suc e) n p h z =
    let less : suc e - 1 ≡ e = omega arith in
    rw less (goes_at (value_after n (take e ds)) (value_after n (take (suc e) ds)) e (value_front n e ds h ∙ ap (λ d. value_after n (take e ds) * 10 + (d - 48)) (rw less at z)))

last_digit : (v w d : ℕ) → w ≡ v * 10 + (d - 48) → 48 ≤ d → d ≤ 57 → d ≢ 48 → w % 10 ≢ 0
last_digit v w d e low high other = λ z. other (omega arith)

stays_at : (ds : List ℕ) (e n : ℕ) → are_digits ds ≡ true → e ≤ length ds → (e ≡ 0) ⊎ (get_or ds (e - 1) 0 ≢ 48) → trimmed (value_after n (take e ds)) e ≡ (value_after n (take e ds), e)
stays_at ds zero n p h end = trims_no_place (value_after n (take zero ds)) zero refl
stays_at ds (suc e) n p h (inl z) = absurd (omega arith)
stays_at ds (suc e) n p h (inr other) =
    let less : suc e - 1 ≡ e = omega arith in
    trims_no_digit (value_after n (take (suc e) ds)) (suc e)
    (last_digit (value_after n (take e ds)) (value_after n (take (suc e) ds)) (get_or ds e 0) (value_front n e ds h) (digit_at ds e p h).0 (digit_at ds e p h).1 (rw less at other))

-- and another digit stays
pub front_stays : (ds : List ℕ) (e n : ℕ) → are_digits ds ≡ true → e ≤ length ds → (e ≡ 0) ⊎ (get_or ds (e - 1) 0 ≢ 48) → trimmed (value_after n (take e ds)) e ≡ (value_after n (take e ds), length (take e ds))
front_stays ds e n p h end =
    let long : length (take e ds) ≡ e = simp length-take (omega arith) in
    rw long (stays_at ds e n p h end)

digits_more : (a b c d : Bool) → d ≡ (b && c) → (a && d) ≡ ((a && b) && c)
digits_more true b c d e = e
digits_more false b c d e = refl

pub both_true : (a b : Bool) → (a && b) ≡ true → (a ≡ true) × (b ≡ true)
both_true true b e = (refl, e)
both_true false b e = cc

-- digits in two parts
pub digits_join : (xs ys : List ℕ) → are_digits (xs ++ ys) ≡ (are_digits xs && are_digits ys)
digits_join [] ys = refl
digits_join (x ∷ xs) ys = digits_more (is_digit x) (are_digits xs) (are_digits ys) (are_digits (xs ++ ys)) (digits_join xs ys)

-- nothing in two parts
pub empty_join : (xs ys : List ℕ) → is_empty (xs ++ ys) ≡ (is_empty xs && is_empty ys)
empty_join [] ys = refl
empty_join (x ∷ xs) ys = refl

-- both parts are digits
pub digits_apart : (xs ys : List ℕ) → are_digits (xs ++ ys) ≡ true → (are_digits xs ≡ true) × (are_digits ys ≡ true)
digits_apart xs ys e = both_true (are_digits xs) (are_digits ys) (sym (digits_join xs ys) ∙ e)
