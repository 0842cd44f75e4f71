-- What is written reads back.
use Rattle.std.proofs.Common.{◌≡◌, ◌≢◌, ℕ, zero, suc, ◌+◌, ◌-◌, ◌*◌, ◌/◌, ◌%◌, ◌^◌, ◌<◌, ◌≤◌, refl, sym, ap, ◌∙◌, arith, Bool, true, false, cond, ◌==◌, ◌⊎◌, inl, inr, List, [], ◌∷◌, ◌++◌, length, ℤ, pos, negsuc}
use Rattle.std.proofs.lemmas.Grind.{common_steps}
use Rattle.std.proofs.lemmas.Fmt.{decimal_by_steps_wide}
use Rattle.std.proofs.Math.Nat.{div-div-eq-div-mul, div-le_self, mul_comm, pow-suc}
use Rattle.std.proofs.lemmas.Nat.{div-add-mod'}
use Rattle.std.specs.Fmt.{decimal, signed_decimal}
use Rattle.std.specs.Int.{is_negative}
use Rattle.std.specs.Prelude.{Option, Some, unsigned_abs, ◌&&◌, ◌||◌, not, nat_le}
use Rattle.term_core.specs.Characters.{is_digit}
use Rattle.term_core.specs.Numbers.{Number, Whole, Decimal, are_digits, value_after, is_empty, is_minus, behind_sign, before_point, behind_point, last_digits, places, sign_text, lexical, datatype, trimmed, signed, least_decimal, is_integer, integer_value, is_held, is_kept, bounds_of, read, read_decimal, numerator, xsd_integer}
use Rattle.xsd_num.proofs.Digits.{value_join, digits_join, both_true}
use Rattle.xsd_num.proofs.Places.{natural_sign}
use Rattle.xsd_num.proofs.Trims.{trims_no_digit}

-- digits that write a number: one at least
pub record Writes (n : ℕ) (ds : List ℕ) : Type 0 where
  pub digits : are_digits ds ≡ true
  pub value : value_after 0 ds ≡ n
  pub some : is_empty ds ≡ false

one_digit : (d : ℕ) → d < 10 → are_digits ((48 + d) ∷ []) ≡ true
one_digit d h = grind (arith, common_steps)

some_more : (xs : List ℕ) (y : ℕ) → is_empty (xs ++ y ∷ []) ≡ false
some_more [] y = refl
some_more (x ∷ xs) y = refl

digit_behind : (n m d : ℕ) (xs : List ℕ) → value_after n xs ≡ m → value_after n (xs ++ (48 + d) ∷ []) ≡ m * 10 + d
digit_behind n m d xs e =
    let last : 48 + d - 48 ≡ d = omega arith in
    value_join n xs ((48 + d) ∷ []) ∙ ap (λ k. k * 10 + (48 + d - 48)) e ∙ ap (λ k. m * 10 + k) last

digits_behind : (d : ℕ) (xs : List ℕ) → d < 10 → are_digits xs ≡ true → are_digits (xs ++ (48 + d) ∷ []) ≡ true
digits_behind d xs h p = digits_join xs ((48 + d) ∷ []) ∙ ap (λ b. b && are_digits ((48 + d) ∷ [])) p ∙ one_digit d h

pub decimal_writes : (n : ℕ) → n < 10 ^ 64 → Writes n (decimal n)
decimal_writes = decimal_by_steps_wide Writes
    (λ n h. record { digits = one_digit n h; value = (let v : 0 * 10 + (48 + n - 48) ≡ n = omega arith in v); some = refl })
    (λ n ds h w. record {
      digits = digits_behind (n % 10) ds (omega arith) w.digits;
      value = digit_behind 0 (n / 10) (n % 10) ds w.value ∙ (let v : n / 10 * 10 + n % 10 ≡ n = div-add-mod' n 10 in v);
      some = some_more ds (48 + n % 10);
    })

-- digits begin with no sign and hold no point
sign_at : (c : ℕ) (cs : List ℕ) → is_digit c ≡ true → (is_minus (c ∷ cs) ≡ false) × (behind_sign (c ∷ cs) ≡ c ∷ cs)
sign_at c cs p = grind (arith, common_steps)

pub no_sign : (ds rest : List ℕ) → are_digits ds ≡ true → is_empty ds ≡ false → (is_minus (ds ++ rest) ≡ false) × (behind_sign (ds ++ rest) ≡ ds ++ rest)
no_sign [] rest p e = cc
no_sign (c ∷ cs) rest p e = sign_at c (cs ++ rest) (both_true (is_digit c) (are_digits cs) p).0

pub point_at : (c : ℕ) (cs xs ys : List ℕ) → is_digit c ≡ true → before_point cs ≡ xs → behind_point cs ≡ ys → (before_point (c ∷ cs) ≡ c ∷ xs) × (behind_point (c ∷ cs) ≡ ys)
point_at c cs xs ys p e f = grind (arith, common_steps)

pub at_point : (ds rest : List ℕ) → are_digits ds ≡ true → (before_point (ds ++ 46 ∷ rest) ≡ ds) × (behind_point (ds ++ 46 ∷ rest) ≡ rest)
at_point [] rest p = (refl, refl)
at_point (c ∷ cs) rest p =
    let more : (before_point (cs ++ 46 ∷ rest) ≡ cs) × (behind_point (cs ++ 46 ∷ rest) ≡ rest) = at_point cs rest (both_true (is_digit c) (are_digits cs) p).1 in
    point_at c (cs ++ 46 ∷ rest) cs rest (both_true (is_digit c) (are_digits cs) p).0 more.0 more.1

-- the last digits
length_more : (xs : List ℕ) (y : ℕ) → length (xs ++ y ∷ []) ≡ suc (length xs)
length_more [] y = refl
length_more (x ∷ xs) y = ap suc (length_more xs y)

pub record WritesLast (s n : ℕ) (ds : List ℕ) : Type 0 where
  pub digits : are_digits ds ≡ true
  pub value : value_after (n / 10 ^ s) ds ≡ n
  pub long : length ds ≡ s

pub last_writes : (s n : ℕ) → WritesLast s n (last_digits s n)
unfolding last_digits
last_writes zero n = record { digits = refl; value = (let v : n / 1 ≡ n = omega arith in v); long = refl }
last_writes (suc s) n =
    let w : WritesLast s (n / 10) (last_digits s (n / 10)) = last_writes s (n / 10) in
    let front : n / 10 ^ suc s ≡ n / 10 / 10 ^ s = ap (λ k. n / k) (pow-suc 10 s ∙ mul_comm (10 ^ s) 10) ∙ sym (div-div-eq-div-mul n 10 (10 ^ s)) in
    record {
      digits = digits_behind (n % 10) (last_digits s (n / 10)) (omega arith) w.digits;
      value = ap (λ k. value_after k (last_digits s (n / 10) ++ (48 + n % 10) ∷ [])) front ∙ digit_behind (n / 10 / 10 ^ s) (n / 10) (n % 10) (last_digits s (n / 10)) w.value ∙ div-add-mod' n 10;
      long = length_more (last_digits s (n / 10)) (48 + n % 10) ∙ ap suc w.long;
    }

held_size : (n : ℕ) → is_held (pos n) ≡ true → n < 10 ^ 64
held_size n h = grind (arith, common_steps)

held_minus_size : (n : ℕ) → is_held (negsuc n) ≡ true → suc n < 10 ^ 64
held_minus_size n h = grind (arith, common_steps)

held_abs_size : (m : ℤ) → is_held m ≡ true → unsigned_abs m < 10 ^ 64
held_abs_size (pos n) h = held_size n h
held_abs_size (negsuc n) h = held_minus_size n h

quotient_size : (n s : ℕ) → n < 10 ^ 64 → n / 10 ^ s < 10 ^ 64
quotient_size n s h = let q : n / 10 ^ s ≤ n = div-le_self n (10 ^ s) in omega arith

-- integers
pub sign_free : (ds : List ℕ) → are_digits ds ≡ true → is_empty ds ≡ false → (is_minus ds ≡ false) × (behind_sign ds ≡ ds)
sign_free [] p e = cc
sign_free (c ∷ cs) p e = sign_at c cs (both_true (is_digit c) (are_digits cs) p).0

integer_read : (text : List ℕ) (m : ℤ) → is_integer text ≡ true → integer_value text ≡ m → is_held m ≡ true → read text xsd_integer ≡ Some (Whole m)
unfolding bounds_of
integer_read text m p v h = rw (p, v, h) refl

digits_integer : (n : ℕ) (ds : List ℕ) → Writes n ds → (is_integer ds ≡ true) × (integer_value ds ≡ pos n)
digits_integer n ds w =
    let free : (is_minus ds ≡ false) × (behind_sign ds ≡ ds) = sign_free ds w.digits w.some in
    (rw (free.1, w.digits, w.some) refl, rw (free.0, free.1, w.value) refl)

minus_integer : (n : ℕ) (ds : List ℕ) → Writes (suc n) ds → (is_integer (45 ∷ ds) ≡ true) × (integer_value (45 ∷ ds) ≡ negsuc n)
minus_integer n ds w = (rw (w.digits, w.some) refl, rw w.value refl)

whole_back : (m : ℤ) → is_held m ≡ true → read (signed_decimal m) xsd_integer ≡ Some (Whole m)
whole_back (pos n) h =
    let i : (is_integer (decimal n) ≡ true) × (integer_value (decimal n) ≡ pos n) = digits_integer n (decimal n) (decimal_writes n (held_size n h)) in
    integer_read (decimal n) (pos n) i.0 i.1 h
whole_back (negsuc n) h =
    let i : (is_integer (45 ∷ decimal (suc n)) ≡ true) × (integer_value (45 ∷ decimal (suc n)) ≡ negsuc n) = minus_integer n (decimal (suc n)) (decimal_writes (suc n) (held_minus_size n h)) in
    integer_read (45 ∷ decimal (suc n)) (negsuc n) i.0 i.1 h

-- decimals
signed_body : (b : Bool) (body : List ℕ) → (is_minus body ≡ false) × (behind_sign body ≡ body) → (is_minus (cond b (45 ∷ []) [] ++ body) ≡ b) × (behind_sign (cond b (45 ∷ []) [] ++ body) ≡ body)
signed_body false body free = free
signed_body true body free = (refl, refl)

pub some_join : (w f : List ℕ) → is_empty w ≡ false → is_empty (w ++ f) ≡ false
some_join [] f e = cc
some_join (c ∷ cs) f e = refl

decimal_parts : (text body w f : List ℕ) (b : Bool) (c : Option Number)
    → is_minus text ≡ b → behind_sign text ≡ body → before_point body ≡ w → behind_point body ≡ f
    → are_digits (w ++ f) ≡ true → is_empty (w ++ f) ≡ false → least_decimal b (value_after 0 (w ++ f)) (length f) ≡ c → read_decimal text ≡ c
decimal_parts text body w f b c m r p q d s v = rw (m, r, p, q, d, s) v

places_digits : (s k : ℕ) → are_digits (places s k) ≡ true
places_digits zero k = refl
places_digits (suc s) k = (last_writes (suc s) k).digits

no_place : (k : ℕ) → trimmed (value_after (k / 10 ^ 0) (48 ∷ [])) 1 ≡ (k, 0)
unfolding trimmed
no_place k =
    let ends : (k / 1 * 10 + 0) % 10 ≡ 0 = omega arith in
    let tenth : (k / 1 * 10 + 0) / 10 ≡ k = omega arith in
    rw (ends, tenth) refl

places_trim : (s k : ℕ) → (s ≡ 0) ⊎ (k % 10 ≢ 0) → trimmed (value_after (k / 10 ^ s) (places s k)) (length (places s k)) ≡ (k, s)
places_trim zero k e = no_place k
places_trim (suc s) k (inl e) = absurd (omega arith)
places_trim (suc s) k (inr e) = rw ((last_writes (suc s) k).value, (last_writes (suc s) k).long) (trims_no_digit k (suc s) e)

signed_back : (m : ℤ) → signed (is_negative m) (unsigned_abs m) ≡ m
signed_back (pos n) = rw (natural_sign n) refl
signed_back (negsuc n) = refl

kept_end : (m : ℤ) (s : ℕ) → is_kept (Decimal m s) ≡ true → (nat_le s 18 ≡ true) × ((s ≡ 0) ⊎ (unsigned_abs m % 10 ≢ 0))
kept_end m s h = kept_end_at (unsigned_abs m % 10) s h
  where
    kept_end_at : (d s : ℕ) → (nat_le s 18 && (s == 0 || not (d == 0))) ≡ true → (nat_le s 18 ≡ true) × ((s ≡ 0) ⊎ (d ≢ 0))
    kept_end_at d s h = grind (arith, common_steps)

decimal_back : (m : ℤ) (s : ℕ) → is_held m ≡ true → is_kept (Decimal m s) ≡ true → read_decimal (lexical (Decimal m s)) ≡ Some (Decimal m s)
decimal_back m s h k =
    let n : ℕ = unsigned_abs m in
    let w : Writes (n / 10 ^ s) (decimal (n / 10 ^ s)) = decimal_writes (n / 10 ^ s) (quotient_size n s (held_abs_size m h)) in
    let body : List ℕ = decimal (n / 10 ^ s) ++ 46 ∷ places s n in
    let sign : (is_minus (sign_text m ++ body) ≡ is_negative m) × (behind_sign (sign_text m ++ body) ≡ body) =
    signed_body (is_negative m) body (no_sign (decimal (n / 10 ^ s)) (46 ∷ places s n) w.digits w.some) in
    let point : (before_point body ≡ decimal (n / 10 ^ s)) × (behind_point body ≡ places s n) = at_point (decimal (n / 10 ^ s)) (places s n) w.digits in
    let ends : (nat_le s 18 ≡ true) × ((s ≡ 0) ⊎ (n % 10 ≢ 0)) = kept_end m s k in
    decimal_parts (sign_text m ++ body) body (decimal (n / 10 ^ s)) (places s n) (is_negative m) (Some (Decimal m s))
    sign.0 sign.1 point.0 point.1
    (rw (digits_join (decimal (n / 10 ^ s)) (places s n), w.digits) (places_digits s n))
    (some_join (decimal (n / 10 ^ s)) (places s n) w.some)
    (rw (value_join 0 (decimal (n / 10 ^ s)) (places s n), w.value, places_trim s n ends.1, signed_back m, h, ends.0) refl)

pub reads_back : (a : Number) → is_held (numerator a) ≡ true → is_kept a ≡ true → read (lexical a) (datatype a) ≡ Some a
reads_back (Whole m) h k = whole_back m h
reads_back (Decimal m s) h k = decimal_back m s h k
