-- The tokens of a text stand in it.
use Rattle.std.proofs.Common.{◌≡◌, ◌∙◌, ◌+◌, ◌-◌, ℕ, zero, suc, true, List, [], ◌∷◌, ◌++◌, length, chars, IsUtf8, encode_utf8_all, refl, sym, ap, subst, arith, append_assoc, length-append}
use Rattle.std.specs.List.{slice_range, All}
use Rattle.std.specs.Str.{IsCharBoundary, all_scalars}
use Rattle.std.proofs.Math.Seq.{take-append_seam, drop-append_seam}
use Rattle.std.proofs.lemmas.Str.{encodes-append, encodes-chars, scalars-chars, chars-encodes, IsCharBoundary-at_seam, IsUtf8-between}
use Rattle.term_core.specs.Terminals.{IsToken}
use Rattle.term_core.specs.Tokens.{Tokens, Lexes, stop, space, comment, next, width, token}
use Rattle.term_core.specs.declared.token.Kind.{Kind}
use Rattle.term_core.specs.declared.token.Token.{Token}
use Rattle.sparql_lex.proofs.Cuts.{space-width}
use Rattle.sparql_symbol.specs.Reading.{StandsIn}
use Rattle.sparql_tree.specs.Symbols.{Lexeme, lexeme, lexemes}
use Rattle.sparql_symbol.proofs.Frames.{scalars-front, scalars-behind}

slice-is : (front body back : List ℕ) (to : ℕ) → to ≡ length front + length body → slice_range (front ++ (body ++ back)) (length front) to ≡ body
slice-is front body back to e =
    let size : to - length front ≡ length body = omega (arith, e) in
    rw (drop-append_seam, size) (take-append_seam body back)

-- a token behind these bytes
stands-at : (text before front rest : List ℕ) (kind : Kind) (at : ℕ) → text ≡ before ++ encode_utf8_all (front ++ rest) → length before ≡ at
    → all_scalars (front ++ rest) ≡ true → IsToken kind front → StandsIn text (token kind at (at + width front))
stands-at text before front rest kind at spelled place scalars h =
    let bytes : text ≡ before ++ (encode_utf8_all front ++ encode_utf8_all rest) = spelled ∙ ap (λ bs. before ++ bs) (encodes-append front rest) in
    let late : text ≡ (before ++ encode_utf8_all front) ++ encode_utf8_all rest = bytes ∙ sym (append_assoc before (encode_utf8_all front) (encode_utf8_all rest)) in
    let end : length (before ++ encode_utf8_all front) ≡ at + width front = omega (arith, place, length-append before (encode_utf8_all front)) in
    let slice : slice_range text at (at + width front) ≡ encode_utf8_all front =
    rw (bytes, ← place) (slice-is before (encode_utf8_all front) (encode_utf8_all rest) (length before + width front) refl) in
    let same : chars (slice_range text at (at + width front)) ≡ front = ap chars slice ∙ chars-encodes front (scalars-front front rest scalars) in
    record {
      order = omega arith;
      begins = subst (IsCharBoundary text) place (IsCharBoundary-at_seam text before (encode_utf8_all front ++ encode_utf8_all rest) bytes
          (front ++ rest, (scalars, encodes-append front rest)));
      ends = subst (IsCharBoundary text) end (IsCharBoundary-at_seam text (before ++ encode_utf8_all front) (encode_utf8_all rest) late
          (rest, (scalars-behind front rest scalars, refl)));
      token = subst (IsToken kind) (sym same) h;
    }

moved : (text before front rest : List ℕ) → text ≡ before ++ encode_utf8_all (front ++ rest) → text ≡ (before ++ encode_utf8_all front) ++ encode_utf8_all rest
moved text before front rest e = e ∙ (ap (λ bs. before ++ bs) (encodes-append front rest) ∙ sym (append_assoc before (encode_utf8_all front) (encode_utf8_all rest)))

size-moved : (before front : List ℕ) (at n : ℕ) → length before ≡ at → width front ≡ n → length (before ++ encode_utf8_all front) ≡ at + n
size-moved before front at n p q = omega (arith, p, q, length-append before (encode_utf8_all front))

all-cons : (text : List ℕ) (t : Token) (ts : List Token) → StandsIn text t → All (StandsIn text) ts → All (StandsIn text) (t ∷ ts)
all-cons text t ts h hs zero d fits = h
all-cons text t ts h hs (suc k) d fits = hs k d (omega arith)

all-stand : {at end : ℕ} {cs rest : List ℕ} {ts : List Token} → Lexes at cs ts end rest → (text before : List ℕ)
    → text ≡ before ++ encode_utf8_all cs → length before ≡ at → all_scalars cs ≡ true → All (StandsIn text) ts
all-stand stop text before e p s = λ k d fits. absurd (omega arith)
all-stand {at} (space {c = c} {text = cs} h k) text before e p s =
    all-stand k text (before ++ encode_utf8_all (c ∷ [])) (moved text before (c ∷ []) cs e) (size-moved before (c ∷ []) at 1 p (space-width c h)) (scalars-behind (c ∷ []) cs s)
all-stand {at} (comment line {text = cs} h l k) text before e p s =
    all-stand k text (before ++ encode_utf8_all (35 ∷ line)) (moved text before (35 ∷ line) cs e) (size-moved before (35 ∷ line) at (width (35 ∷ line)) p refl) (scalars-behind (35 ∷ line) cs s)
all-stand {at} (next {kind = kind} {front = front} {text = cs} {ts = ts} h k) text before e p s =
    all-cons text (token kind at (at + width front)) ts (stands-at text before front cs kind at e p s h.token)
    (all-stand k text (before ++ encode_utf8_all front) (moved text before front cs e) (size-moved before front at (width front) p refl) (scalars-behind front cs s))

-- each token of a text stands in it
pub tokens-stand : (text : List ℕ) (ts : List Token) → Tokens text ts → All (StandsIn text) ts
tokens-stand text ts h = all-stand h.lexed text [] (sym (encodes-chars text h.utf8)) refl (scalars-chars text h.utf8)

-- the bytes of a token are UTF-8 and are the token
pub record IsLexeme (l : Lexeme) : Type 0 where
  pub utf8 : IsUtf8 l.text
  pub token : IsToken l.kind (chars l.text)

abbrev pub AreLexemes : List Lexeme → Type 0
AreLexemes [] = Unit {0}
AreLexemes (l ∷ ls) = IsLexeme l × AreLexemes ls

pub stands-lexeme : (text : List ℕ) (t : Token) → IsUtf8 text → StandsIn text t → IsLexeme (lexeme text t)
stands-lexeme text t utf8 h = record { utf8 = IsUtf8-between text t.from t.to utf8 h.order h.begins h.ends; token = h.token }

pub stand-lexemes : (text : List ℕ) (ts : List Token) → IsUtf8 text → All (StandsIn text) ts → AreLexemes (lexemes text ts)
stand-lexemes text [] utf8 h = tt
stand-lexemes text (t ∷ ts) utf8 h = (stands-lexeme text t utf8 (h 0 t (omega arith)), stand-lexemes text ts utf8 (λ k d fits. h (suc k) d (omega arith)))
