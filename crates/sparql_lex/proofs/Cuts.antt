-- Steps of the cutting of a text.
use Rattle.std.proofs.Common.{◌≡◌, ℕ, suc, ◌+◌, ◌<◌, Bool, true, false, List, [], ◌∷◌, ◌++◌, length, take, drop, length-append, None, refl, sym, subst, ap, ◌∙◌, arith}
use Rattle.std.specs.Prelude.{codes}
use Rattle.std.proofs.lemmas.Str.{encode_ascii}
use Rattle.term_core.specs.Characters.{AreAll}
use Rattle.term_core.specs.Tokens.{Lexes, stop, space, comment, next, EndsLine, is_space, is_in_line, width, token}
use Rattle.term_core.specs.declared.token.Kind.{Kind}
use Rattle.term_core.specs.declared.token.Token.{Token}
use Rattle.sparql_lex.specs.declared.lexing.Front.TheVariants as fronts
use Rattle.sparql_lex.specs.Fronts.{FrontIs}
use Rattle.sparql_lex.specs.Scan.{run, longest}
use Rattle.sparql_lex.proofs.Bools.{among, all-one, all-first}
use Rattle.sparql_lex.proofs.Widths.{width-cons}
use Rattle.sparql_lex.proofs.Reading.{found_at}
use Rattle.sparql_lex.proofs.LongestTokens.{longest-found, longest-none, some-token}

pub lexes-then : {at mid end : ℕ} {text rest left : List ℕ} {ts us : List Token} → Lexes at text ts mid rest → Lexes mid rest us end left → Lexes at text (ts ++ us) end left
lexes-then stop m = m
lexes-then (space h k) m = space h (lexes-then k m)
lexes-then (comment line h e k) m = comment line h e (lexes-then k m)
lexes-then (next h k) m = next h (lexes-then k m)

pub take-front : (a b : List ℕ) → take (length a) (a ++ b) ≡ a
take-front [] b = refl
take-front (c ∷ a) b = ap (λ v. c ∷ v) (take-front a b)

pub drop-front : (a b : List ℕ) → drop (length a) (a ++ b) ≡ b
drop-front [] b = refl
drop-front (c ∷ a) b = drop-front a b

-- the class ends here
abbrev pub Ends : (ℕ → Bool) → List ℕ → Type 0
Ends p [] = Unit {0}
Ends p (c ∷ text) = p c ≡ false

-- a front of the class up to where it ends
pub record HasRun (p : ℕ → Bool) (text : List ℕ) : Type 0 where
  pub front : List ℕ
  pub rest : List ℕ
  pub is : text ≡ front ++ rest
  pub len : length front ≡ run p text
  pub all : AreAll p front
  pub ends : Ends p rest

pub run-front : (p : ℕ → Bool) (text : List ℕ) → HasRun p text
run-front p [] = record { front = []; rest = []; is = refl; len = refl; all = refl; ends = tt }
run-front p (c ∷ text) = go (p c) refl (run-front p text)
  where
    go : (t : Bool) → p c ≡ t → HasRun p text → HasRun p (c ∷ text)
    go true e r = record { front = c ∷ r.front; rest = r.rest; is = ap (λ v. c ∷ v) r.is; len = rw e (ap suc r.len); all = all-one p c r.front e r.all; ends = r.ends }
    go false e r = record { front = []; rest = c ∷ text; is = refl; len = rw e refl; all = refl; ends = e }

pub run-stops : (p : ℕ → Bool) (front rest : List ℕ) → AreAll p front → Ends p rest → run p (front ++ rest) ≡ length front
run-stops p [] [] h e = refl
run-stops p [] (c ∷ rest) h e = rw e refl
run-stops p (c ∷ front) rest h e = let f = all-first p c front h in let first = f.0 in rw first (ap suc (run-stops p front rest f.1 e))

pub ends-line : (text : List ℕ) → Ends is_in_line text → EndsLine text
ends-line [] h = tt
ends-line (c ∷ text) h = h

pub line-ends : (text : List ℕ) → EndsLine text → Ends is_in_line text
line-ends [] h = tt
line-ends (c ∷ text) h = h

-- a space is of one byte
pub space-width : (c : ℕ) → is_space c ≡ true → width (c ∷ []) ≡ 1
space-width c h = among (λ v. width (v ∷ []) ≡ 1) (codes " \t\n\r") c
    (one 32 (omega arith), (one 9 (omega arith), (one 10 (omega arith), (one 13 (omega arith), tt)))) h
  where
    one : (v : ℕ) → v < 128 → width (v ∷ []) ≡ 1
    one v small = width-cons v [] ∙ omega (arith, ap length (encode_ascii v small))

pub lexes-same : (at : ℕ) {end end' : ℕ} {text text' rest rest' : List ℕ} {ts ts' : List Token} → Lexes at text ts end rest → text ≡ text' → ts ≡ ts' → end ≡ end' → rest ≡ rest' → Lexes at text' ts' end' rest'
lexes-same at {end = end} {end' = end'} {text = text} {text' = text'} {rest = rest} {ts = ts} {ts' = ts'} h a b c d =
    let h1 = subst (λ v. Lexes at v ts end rest) a h in
    let h2 = subst (λ v. Lexes at text' v end rest) b h1 in
    let h3 = subst (λ v. Lexes at text' ts' v rest) c h2 in
    subst (λ v. Lexes at text' ts' end' v) d h3

pub front-space : (c : ℕ) (text : List ℕ) → is_space c ≡ true → FrontIs (c ∷ text) (fronts.Skip 1)
front-space c text h = (omega arith, omega arith, λ at. lexes-same at (space h stop) refl refl (ap (λ v. at + v) (sym (space-width c h))) refl)

pub front-comment : (text : List ℕ) → FrontIs (35 ∷ text) (fronts.Skip (suc (run is_in_line text)))
front-comment text =
    let r = run-front is_in_line text in
    let whole : length text ≡ length r.front + length r.rest = ap length r.is ∙ length-append r.front r.rest in
    let taken : take (run is_in_line text) text ≡ r.front = ap (λ v. take v text) (sym r.len) ∙ (ap (λ v. take (length r.front) v) r.is ∙ take-front r.front r.rest) in
    let dropped : drop (run is_in_line text) text ≡ r.rest = ap (λ v. drop v text) (sym r.len) ∙ (ap (λ v. drop (length r.front) v) r.is ∙ drop-front r.front r.rest) in (
      omega arith,
      omega (arith, r.len, whole),
      λ at.
          lexes-same at (comment r.front r.all (ends-line r.rest r.ends) stop) (ap (λ v. 35 ∷ v) (sym r.is)) refl (ap (λ v. at + width (35 ∷ v)) (sym taken)) (sym dropped),
    )

pub front-next : (text : List ℕ) (kind : Kind) (n : ℕ) → longest text ≡ found_at kind n → FrontIs text (fronts.Next kind n)
front-next text kind n h =
    let b = longest-found text kind n h in
    let some : 0 < length b.front = some-token kind b.front b.longest.token in
    let whole : length text ≡ length b.front + length b.rest = ap length b.is ∙ length-append b.front b.rest in
    let taken : take n text ≡ b.front = ap (λ v. take v text) (sym b.len) ∙ (ap (λ v. take (length b.front) v) b.is ∙ take-front b.front b.rest) in
    let dropped : drop n text ≡ b.rest = ap (λ v. drop v text) (sym b.len) ∙ (ap (λ v. drop (length b.front) v) b.is ∙ drop-front b.front b.rest) in (
      omega (arith, b.len),
      omega (arith, b.len, whole),
      λ at.
          lexes-same at (next b.longest stop) (sym b.is) (ap (λ v. token kind at (at + width v) ∷ []) (sym taken)) (ap (λ v. at + width v) (sym taken)) (sym dropped),
    )

pub front-nothing : (c : ℕ) (text : List ℕ) → is_space c ≡ false → (c ≡ 35 → ⊥) → longest (c ∷ text) ≡ None → FrontIs (c ∷ text) fronts.Nothing
front-nothing c text s n h = record { first = c; more = text; spelled = refl; no_space = s; no_comment = n; no_token = longest-none (c ∷ text) h }
