-- What stands at a place of a text.
use Rattle.std.proofs.Common.{◌≡◌, ℕ, zero, suc, ◌+◌, ◌<◌, true, false, List, [], ◌∷◌, ◌++◌, length, take, drop, get_or, None, refl, sym, subst, ap, ◌∙◌, arith}
use Rattle.std.proofs.lemmas.List.{drop-drop}
use Rattle.term_core.specs.Characters.{is_letter}
use Rattle.term_core.specs.Terminals.{is_word_part}
use Rattle.term_core.specs.Tokens.{Lexes, IsStuck, is_space, is_in_line, width}
use Rattle.term_core.specs.declared.token.Kind.TheVariants as kinds
use Rattle.term_core.specs.declared.token.Token.{Token}
use Rattle.sparql_lex.specs.declared.lexing.Front.TheVariants as fronts
use Rattle.sparql_lex.specs.Fronts.{FrontIs}
use Rattle.sparql_lex.specs.Names.{ends_prefix}
use Rattle.sparql_lex.specs.Scan.{run, longest}
use Rattle.sparql_lex.proofs.Cuts.{lexes-then, lexes-same, front-space, front-comment, front-nothing}
use Rattle.sparql_lex.proofs.Reading.{found_at}
use Rattle.sparql_lex.proofs.Widths.{width-cons}
use Rattle.sparql_lex.proofs.WordRuns.{word-found}

-- the characters from the place on, of which the first was read
pub record Begun (text rest : List ℕ) (x : ℕ) : Type 0 where
  pub same : rest ≡ text
  pub some : 0 < length text
  pub first : x ≡ get_or rest 0 x

begun : (text : List ℕ) (x : ℕ) → 0 < length text → x ≡ get_or text 0 x → text ≡ x ∷ drop 1 text
begun [] x some h = absurd (omega arith)
begun (c ∷ text) x some h = ap (λ v. v ∷ text) (sym h)

spelled : {text rest : List ℕ} {x : ℕ} → Begun text rest x → text ≡ x ∷ drop 1 text
spelled {text} {rest} {x} b = begun text x b.some (b.first ∙ ap (λ v. get_or v 0 x) b.same)

pub at-space : {text rest : List ℕ} {x : ℕ} → Begun text rest x → is_space x ≡ true → FrontIs text (fronts.Skip 1)
at-space {text} {rest} {x} b h = subst (λ v. FrontIs v (fronts.Skip 1)) (sym (spelled b)) (front-space x (drop 1 text) h)

pub at-comment : {text rest : List ℕ} {x : ℕ} (n : ℕ) → Begun text rest x → x ≡ 35 → n ≡ run is_in_line rest → FrontIs text (fronts.Skip n)
at-comment {text} {rest} {x} n b h e =
    let is : text ≡ 35 ∷ drop 1 text = spelled b ∙ ap (λ v. v ∷ drop 1 text) h in
    let count : n ≡ suc (run is_in_line (drop 1 text)) = e ∙ (ap (λ v. run is_in_line v) b.same ∙ ap (λ v. run is_in_line v) is) in
    subst (λ v. FrontIs v (fronts.Skip n)) (sym is) (subst (λ v. FrontIs (35 ∷ drop 1 text) (fronts.Skip v)) (sym count) (front-comment (drop 1 text)))

pub at-nothing : {text rest : List ℕ} {x : ℕ} → Begun text rest x → is_space x ≡ false → (x ≡ 35 → ⊥) → longest text ≡ None → IsStuck text
at-nothing {text} {rest} {x} b s n h =
    let is = spelled b in
    subst IsStuck (sym is) (front-nothing x (drop 1 text) s n (ap longest (sym is) ∙ h))

pub at-word : {text rest : List ℕ} {x : ℕ} (n : ℕ) → Begun text rest x → is_letter x ≡ true → ends_prefix text false ≡ false → n ≡ run is_word_part rest
    → found_at kinds.Word n ≡ longest text
at-word {text} {rest} {x} n b h e count =
    let is = spelled b in
    let none : ends_prefix (x ∷ drop 1 text) false ≡ false = ap (λ v. ends_prefix v false) (sym is) ∙ e in
    let same : n ≡ run is_word_part (x ∷ drop 1 text) = count ∙ (ap (λ v. run is_word_part v) b.same ∙ ap (λ v. run is_word_part v) is) in
    ap (λ v. found_at kinds.Word v) same ∙ (sym (word-found x (drop 1 text) h none) ∙ ap longest (sym is))

-- the bytes up to a place, and those of some characters more
pub width-on : (m n : ℕ) (text : List ℕ) → width (take m text) + width (take n (drop m text)) ≡ width (take (m + n) text)
width-on zero n text = let e : 0 + n ≡ n = omega arith in let f = ap (λ v. width (take v text)) e in omega (arith, f)
width-on (suc m) n [] = nothing n (suc m + n)
  where
    none : List ℕ
    none = []

    empty : (k : ℕ) → take k none ≡ none
    empty zero = refl
    empty (suc k) = refl

    nothing : (n k : ℕ) → 0 + width (take n none) ≡ width (take k none)
    nothing n k = let a = ap width (empty n) in let b = ap width (empty k) in omega (arith, a, b)
width-on (suc m) n (c ∷ text) =
    let e : suc m + n ≡ suc (m + n) = omega arith in
    let f = ap (λ v. width (take v (c ∷ text))) e in
    omega (arith, f, width-cons c (take m text), width-cons c (take (m + n) text), width-on m n text)

-- the cutting goes on at the place
pub goes-on : (text : List ℕ) (found more all : List Token) (at index n width : ℕ) → Lexes 0 text found at (drop index text)
    → Lexes at (drop index text) more (at + width) (drop n (drop index text)) → all ≡ found ++ more → Lexes 0 text all (at + width) (drop (index + n) text)
goes-on text found more all at index n width h k e = lexes-same 0 (lexes-then h k) refl (sym e) refl (drop-drop n index text)
