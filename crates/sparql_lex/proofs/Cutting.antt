-- A text is cut in one way, and always.
use Rattle.std.proofs.Common.{◌≡◌, ℕ, zero, suc, ◌+◌, ◌<◌, Bool, true, false, cond, List, [], ◌∷◌, ◌++◌, length, take, drop, length-append, length-drop, Some, None, refl, sym, subst, ap, ◌∙◌, arith}
use Rattle.std.specs.Prelude.{◌==◌}
use Rattle.std.proofs.lemmas.Bool.Decides.{nat_tests}
use Rattle.term_core.specs.Characters.{AreAll}
use Rattle.term_core.specs.Tokens.{Lexes, stop, space, comment, next, IsLongest, IsStuck, EndsLine, is_space, is_in_line, width, token}
use Rattle.term_core.specs.declared.token.Kind.{Kind}
use Rattle.term_core.specs.declared.token.Token.{Token}
use Rattle.sparql_lex.specs.declared.lexing.Front.{Front}
use Rattle.sparql_lex.specs.declared.lexing.Front.TheVariants as fronts
use Rattle.sparql_lex.specs.Fronts.{FrontIs}
use Rattle.sparql_lex.specs.Scan.{Found, run, longest}
use Rattle.sparql_lex.proofs.Bools.{false_of, same}
use Rattle.sparql_lex.proofs.LongestTokens.{longest-found, longest-is, some-token, token-no_space, token-no_comment}
use Rattle.sparql_lex.proofs.Cuts.{lexes-then, take-front, drop-front, run-stops, line-ends, front-space, front-comment, front-next, front-nothing}

-- the tokens, the byte behind them, and whether the text ends there
pub record Outcome : Type 0 where
  pub ts : List Token
  pub end : ℕ
  pub whole : Bool

abbrev pub outcome : List Token → ℕ → Bool → Outcome
outcome ts end whole = record { ts = ts; end = end; whole = whole }

abbrev with_token : Kind → ℕ → ℕ → Outcome → Outcome
with_token kind from to o = outcome (token kind from to ∷ o.ts) o.end o.whole

-- the cutting from left to right, by so many steps at most
abbrev by_found : Found → ℕ → List ℕ → (ℕ → List ℕ → Outcome) → Outcome
by_found None at text more = outcome [] at false
by_found (Some p) at text more = with_token p.0 at (at + width (take p.1 text)) (more (at + width (take p.1 text)) (drop p.1 text))

cut : ℕ → ℕ → List ℕ → Outcome
cut zero at text = outcome [] at false
cut (suc n) at [] = outcome [] at true
cut (suc n) at (c ∷ text) =
    cond (is_space c) (cut n (at + 1) text)
    (cond (c == 35) (cut n (at + width (35 ∷ take (run is_in_line text) text)) (drop (run is_in_line text) text))
    (by_found (longest (c ∷ text)) at (c ∷ text) (cut n)))

-- nothing is left, or nothing begins there
abbrev pub Ended : Bool → List ℕ → Type 0
Ended true rest = rest ≡ []
Ended false rest = IsStuck rest

cut-empty : (n at : ℕ) → 0 < n → cut n at [] ≡ outcome [] at true
unfolding cut
cut-empty zero at h = absurd (omega arith)
cut-empty (suc n) at h = refl

cut-space : (n at c : ℕ) (text : List ℕ) → is_space c ≡ true → cut (suc n) at (c ∷ text) ≡ cut n (at + 1) text
unfolding cut
cut-space n at c text h = rw h refl

cut-comment : (n at : ℕ) (text : List ℕ) → cut (suc n) at (35 ∷ text) ≡ cut n (at + width (35 ∷ take (run is_in_line text) text)) (drop (run is_in_line text) text)
unfolding cut
cut-comment n at text = refl

cut-found : (n at c : ℕ) (text : List ℕ) → is_space c ≡ false → (c ≡ 35 → ⊥) → cut (suc n) at (c ∷ text) ≡ by_found (longest (c ∷ text)) at (c ∷ text) (cut n)
unfolding cut
cut-found n at c text h k = let other : (c == 35) ≡ false = false_of (c == 35) (λ e. k (same c 35 e)) in rw (h, other) refl

stuck-none : (text : List ℕ) → IsStuck text → (o : Found) → longest text ≡ o → o ≡ None
stuck-none text s None h = refl
stuck-none text s (Some p) h = let b = longest-found text p.0 p.1 h in absurd (s.no_token p.0 b.front b.rest b.longest.token (sym b.is))

cut-stuck : (n at : ℕ) (text : List ℕ) → length text < n → IsStuck text → cut n at text ≡ outcome [] at false
cut-stuck zero at text fits s = absurd (omega arith)
cut-stuck (suc n) at text fits s =
    let none = stuck-none text s (longest text) refl in
    let none' : longest (s.first ∷ s.more) ≡ None = ap longest (sym s.spelled) ∙ none in
    ap (λ v. cut (suc n) at v) s.spelled ∙ (cut-found n at s.first s.more s.no_space s.no_comment ∙ ap (λ v. by_found v at (s.first ∷ s.more) (cut n)) none')

cut-ended : (n at : ℕ) (text : List ℕ) (b : Bool) → length text < n → Ended b text → cut n at text ≡ outcome [] at b
cut-ended n at text true fits e = ap (λ v. cut n at v) e ∙ cut-empty n at (omega arith)
cut-ended n at text false fits s = cut-stuck n at text fits s

-- one token
cut-next : (n at : ℕ) (kind : Kind) (front text : List ℕ) → IsLongest kind front text
    → cut (suc n) at (front ++ text) ≡ with_token kind at (at + width front) (cut n (at + width front) text)
cut-next n at kind [] text h = absurd (omega (arith, some-token kind [] h.token))
cut-next n at kind (c ∷ front) text h =
    cut-found n at c (front ++ text) (token-no_space kind c front h.token) (token-no_comment kind c front h.token)
    ∙ (ap (λ v. by_found v at ((c ∷ front) ++ text) (cut n)) (longest-is kind (c ∷ front) text h)
    ∙ (ap (λ v. with_token kind at (at + width v) (cut n (at + width v) (drop (length (c ∷ front)) ((c ∷ front) ++ text)))) (take-front (c ∷ front) text)
    ∙ ap (λ v. with_token kind at (at + width (c ∷ front)) (cut n (at + width (c ∷ front)) v)) (drop-front (c ∷ front) text)))

cut-line : (n at : ℕ) (line text : List ℕ) → AreAll is_in_line line → EndsLine text → cut (suc n) at (35 ∷ (line ++ text)) ≡ cut n (at + width (35 ∷ line)) text
cut-line n at line text h e =
    let r = run-stops is_in_line line text h (line-ends text e) in
    let taken : take (run is_in_line (line ++ text)) (line ++ text) ≡ line = ap (λ v. take v (line ++ text)) r ∙ take-front line text in
    let dropped : drop (run is_in_line (line ++ text)) (line ++ text) ≡ text = ap (λ v. drop v (line ++ text)) r ∙ drop-front line text in
    cut-comment n at (line ++ text) ∙ (ap (λ v. cut n (at + width (35 ∷ v)) (drop (run is_in_line (line ++ text)) (line ++ text))) taken
    ∙ ap (λ v. cut n (at + width (35 ∷ line)) v) dropped)

-- each cutting is the one from left to right
is-cut : {at end : ℕ} {text rest : List ℕ} {ts : List Token} (n : ℕ) (b : Bool) → Lexes at text ts end rest → length text < n → Ended b rest → cut n at text ≡ outcome ts end b
is-cut {at} {end} {text} n b stop fits e = cut-ended n at text b fits e
is-cut zero b (space h k) fits e = absurd (omega arith)
is-cut zero b (comment line h l k) fits e = absurd (omega arith)
is-cut zero b (next h k) fits e = absurd (omega arith)
is-cut {at} (suc n) b (space {c = c} {text = text} h k) fits e = cut-space n at c text h ∙ is-cut n b k (omega arith) e
is-cut {at} (suc n) b (comment line {text = text} h l k) fits e =
    cut-line n at line text h l ∙ is-cut n b k (omega (arith, length-append line text)) e
is-cut {at} (suc n) b (next {kind = kind} {front = front} {text = text} h k) fits e =
    let some : 0 < length front = some-token kind front h.token in
    cut-next n at kind front text h ∙ ap (λ o. with_token kind at (at + width front) o) (is-cut n b k (omega (arith, some, length-append front text)) e)

-- two cuttings of one text
pub record Cutting (at : ℕ) (text : List ℕ) : Type 0 where
  pub ts : List Token
  pub end : ℕ
  pub rest : List ℕ
  pub whole : Bool
  pub lexed : Lexes at text ts end rest
  pub ended : Ended whole rest

pub one-outcome : (at : ℕ) (text : List ℕ) (a b : Cutting at text) → outcome a.ts a.end a.whole ≡ outcome b.ts b.end b.whole
one-outcome at text a b = sym (is-cut (suc (length text)) a.whole a.lexed (omega arith) a.ended) ∙ is-cut (suc (length text)) b.whole b.lexed (omega arith) b.ended

-- what stands at the front of a text that is not empty
pub front-of : (c : ℕ) (text : List ℕ) → (f : Front) × FrontIs (c ∷ text) f
front-of c text = go (is_space c) refl (c == 35) refl (longest (c ∷ text)) refl
  where
    go : (t : Bool) → is_space c ≡ t → (u : Bool) → (c == 35) ≡ u → (o : Found) → longest (c ∷ text) ≡ o → (f : Front) × FrontIs (c ∷ text) f
    go true s u h o e = (fronts.Skip 1, front-space c text s)
    go false s true h o e = (fronts.Skip (suc (run is_in_line text)), subst (λ v. FrontIs (v ∷ text) (fronts.Skip (suc (run is_in_line text)))) (sym (same c 35 h)) (front-comment text))
    go false s false h None e = (fronts.Nothing, front-nothing c text s (λ k. let yes : (c == 35) ≡ true = grind (arith, nat_tests) in absurd (cc)) e)
    go false s false h (Some p) e = (fronts.Next p.0 p.1, front-next (c ∷ text) p.0 p.1 e)

-- each text is cut
pub cut-always : (n at : ℕ) (text : List ℕ) → length text < n → Cutting at text
cut-always zero at text fits = absurd (omega arith)
cut-always (suc n) at [] fits = record { ts = []; end = at; rest = []; whole = true; lexed = stop; ended = refl }
cut-always (suc n) at (c ∷ text) fits = let f = front-of c text in go f.0 f.1 (cut-always n)
  where
    go : (f : Front) → FrontIs (c ∷ text) f → ((at : ℕ) (rest : List ℕ) → length rest < n → Cutting at rest) → Cutting at (c ∷ text)
    go (fronts.Skip m) h more =
        let r = more (at + width (take m (c ∷ text))) (drop m (c ∷ text)) (omega (arith, h.0, length-drop m (c ∷ text))) in
        record { ts = r.ts; end = r.end; rest = r.rest; whole = r.whole; lexed = lexes-then (h.2 at) r.lexed; ended = r.ended }
    go (fronts.Next kind m) h more =
        let r = more (at + width (take m (c ∷ text))) (drop m (c ∷ text)) (omega (arith, h.0, length-drop m (c ∷ text))) in
        record { ts = token kind at (at + width (take m (c ∷ text))) ∷ r.ts; end = r.end; rest = r.rest; whole = r.whole; lexed = lexes-then (h.2 at) r.lexed; ended = r.ended }
    go fronts.Nothing h more = record { ts = []; end = at; rest = c ∷ text; whole = false; lexed = stop; ended = h }
