-- Escapes undone, one character after another.
use Rattle.std.proofs.Common.{◌≡◌, ◌∙◌, ℕ, List, [], ◌∷◌, ◌++◌, Option, Some, None, length, chars, IsUtf8, encode_utf8_all, refl, ap, sym, append_assoc}
use Rattle.std.proofs.Math.Utf8.{encode}
use Rattle.std.proofs.lemmas.Str.{chars-nil, chars_past_char, encodes-append}
use Rattle.sparql_symbol.specs.declared.undoing.Place.{Place}
use Rattle.sparql_symbol.specs.declared.undoing.Reading.{Reading}
use Rattle.sparql_symbol.specs.Undoing.{undone, in_front, undo_step}

-- nothing is left to read
pub undone-end : (place : Place) (rest : List ℕ) → length rest ≡ 0 → encode_utf8_all (undone place (chars rest)) ≡ []
undone-end place [] e = rw chars-nil refl
undone-end place (b ∷ rest) e = absurd cc

onto-bytes : (c : Option ℕ) (text : List ℕ) → encode_utf8_all (in_front c text) ≡ encode_utf8_all (in_front c []) ++ encode_utf8_all text
onto-bytes None text = refl
onto-bytes (Some c) text = encodes-append (c ∷ []) text

-- one character is read
pub undone-step : (place : Place) (bytes rest : List ℕ) (c : ℕ) (r : Reading) (front before after : List ℕ) → IsUtf8 bytes → bytes ≡ encode c ++ rest
    → r ≡ undo_step place c → after ≡ before ++ encode_utf8_all (in_front r.spelled [])
    → before ++ encode_utf8_all (undone place (chars bytes)) ≡ front
    → after ++ encode_utf8_all (undone r.next (chars rest)) ≡ front
undone-step place bytes rest c r front before after utf8 spelled is pushed held =
    let read = chars_past_char bytes rest c utf8 spelled in
    rw (pushed, append_assoc, ← onto-bytes r.spelled (undone r.next (chars rest)))
    (ap (λ (s : Reading). before ++ encode_utf8_all (in_front s.spelled (undone s.next (chars rest)))) is
    ∙ (ap (λ cs. before ++ encode_utf8_all (undone place cs)) (sym read) ∙ held))
