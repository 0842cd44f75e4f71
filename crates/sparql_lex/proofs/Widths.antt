-- The bytes of the front of a text.
use Rattle.std.proofs.Common.{◌≡◌, ℕ, suc, zero, ◌+◌, ◌*◌, ◌≤◌, ◌<◌, List, [], ◌∷◌, ◌++◌, length, take, drop, get_or, length-append, ◌∙◌, arith}
use Rattle.std.specs.Prelude.{encode_utf8, encode_utf8_all}
use Rattle.std.specs.Char.{len_utf8}
use Rattle.std.proofs.lemmas.Bool.Decides.{nat_tests}
use Rattle.std.proofs.lemmas.Str.{length-encode}
use Rattle.term_core.specs.Tokens.{width}

pub width-cons : (c : ℕ) (text : List ℕ) → width (c ∷ text) ≡ length (encode_utf8 c) + width text
width-cons c text = length-append (encode_utf8 c) (encode_utf8_all text)

pub width-append : (a b : List ℕ) → width (a ++ b) ≡ width a + width b
width-append [] b = omega arith
width-append (c ∷ a) b = omega (arith, width-cons c (a ++ b), width-cons c a, width-append a b)

-- the front of n characters, and one more
pub width-more : (n : ℕ) (text : List ℕ) → n < length text → width (take (suc n) text) ≡ width (take n text) + length (encode_utf8 (get_or text n 0))
width-more n [] h = absurd (omega arith)
width-more zero (c ∷ text) h = width-cons c [] ∙ omega arith
width-more (suc n) (c ∷ text) h =
    let low : n < length text = omega arith in
    omega (arith, width-cons c (take (suc n) text), width-cons c (take n text), width-more n text low)

-- a front and the rest
pub width-parts : (n : ℕ) (text : List ℕ) → width (take n text) + width (drop n text) ≡ width text
width-parts zero text = omega arith
width-parts (suc n) [] = omega arith
width-parts (suc n) (c ∷ text) = omega (arith, width-cons c (take n text), width-cons c text, width-parts n text)

encode-small : (c : ℕ) → length (encode_utf8 c) ≤ 4
encode-small c = rw (length-encode c) (len-small c)
  where
    len-small : (c : ℕ) → len_utf8 c ≤ 4
    len-small c = grind (arith, nat_tests)

-- no character has more than four bytes
pub width-small : (text : List ℕ) → width text ≤ 4 * length text
width-small [] = omega arith
width-small (c ∷ text) = omega (arith, width-cons c text, encode-small c, width-small text)
