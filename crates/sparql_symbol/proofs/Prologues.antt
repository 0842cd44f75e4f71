-- The prologue, three tokens after three.
use Rattle.std.proofs.Common.{◌≡◌, ◌∙◌, ◌<◌, ◌≤◌, ◌+◌, ℕ, suc, Bool, true, false, List, [], ◌∷◌, Option, Some, None, cond, length, drop, get_or, drop-cons, refl, sym, ap, arith}
use Rattle.std.specs.Str.{bytes_eq}
use Rattle.term_core.specs.declared.token.Token.{Token}
use Rattle.sparql_tree.specs.Symbols.{Lexeme, Prefixes, lexeme, lexemes}
use Rattle.sparql_tree.specs.Prologue.{Declaration, with_declaration, prefixes_over}
use Rattle.sparql_symbol.specs.Reading.{Declares, declaration_at, with_first, read_prologue}

abbrev Read : Type 0
Read = List Declaration × List Lexeme

with-same : (f g : Prefixes) → ((q : List ℕ) → f q ≡ g q) → (d : Declaration) (q : List ℕ) → with_declaration f d q ≡ with_declaration g d q
with-same f g h d q = ap (cond (bytes_eq d.prefix q) (Some d.iri)) (h q)

-- declarations over prefixes that stand for the same
pub over-same : (f g : Prefixes) → ((q : List ℕ) → f q ≡ g q) → (ds : List Declaration) (q : List ℕ) → prefixes_over f ds q ≡ prefixes_over g ds q
over-same f g h [] q = h q
over-same f g h (d ∷ ds) q = over-same (with_declaration f d) (with_declaration g d) (with-same f g h d) ds q

stopped : (o : Option Declaration) (found : Bool) (old new : Prefixes) → Declares o found old new → found ≡ false → (all : List Lexeme) (more : Read)
    → ((with_first o all more).1 ≡ all) × ((q : List ℕ) → prefixes_over old (with_first o all more).0 q ≡ new q)
stopped None found old new h e all more = (refl, λ q. sym (h.1 q))
stopped (Some d) found old new h e all more = let no : true ≡ false = sym h.0 ∙ e in absurd cc

went : (o : Option Declaration) (found : Bool) (old new : Prefixes) → Declares o found old new → found ≡ true → (all : List Lexeme) (more : Read)
    → ((with_first o all more).1 ≡ more.1) × ((q : List ℕ) → prefixes_over old (with_first o all more).0 q ≡ prefixes_over new more.0 q)
went None found old new h e all more = let no : true ≡ false = sym e ∙ h.0 in absurd cc
went (Some d) found old new h e all more = (refl, over-same (with_declaration old d) new (λ r. sym (h.1 r)) more.0)

-- three tokens and the rest
abbrev Word : List ℕ → List Token → ℕ → Token → Lexeme
Word text ts i d = lexeme text (get_or ts i d)

three : (text : List ℕ) (ts : List Token) (at : ℕ) (d : Token) → at + 2 < length ts
    → lexemes text (drop at ts) ≡ Word text ts at d ∷ Word text ts (at + 1) d ∷ Word text ts (at + 2) d ∷ lexemes text (drop (at + 3) ts)
three text ts at d fits =
    let a : drop at ts ≡ get_or ts at d ∷ drop (at + 1) ts = one at (at + 1) (omega arith) (omega arith) in
    let b : drop (at + 1) ts ≡ get_or ts (at + 1) d ∷ drop (at + 2) ts = one (at + 1) (at + 2) (omega arith) (omega arith) in
    let c : drop (at + 2) ts ≡ get_or ts (at + 2) d ∷ drop (at + 3) ts = one (at + 2) (at + 3) (omega arith) (omega arith) in
    ap (lexemes text) a ∙ (ap (λ us. Word text ts at d ∷ lexemes text us) b ∙ ap (λ us. Word text ts at d ∷ Word text ts (at + 1) d ∷ lexemes text us) c)
  where
    one : (i j : ℕ) → i < length ts → j ≡ suc i → drop i ts ≡ get_or ts i d ∷ drop j ts
    one i j h e = drop-cons ts i d h ∙ ap (λ n. get_or ts i d ∷ drop n ts) (sym e)

-- what a turn does, where these three declare that
abbrev pub Turn : List ℕ → List Token → ℕ → Token → Bool → Prefixes → Prefixes → Type 0
Turn text ts at d found old new =
    Declares (declaration_at (Word text ts at d) (Word text ts (at + 1) d) (Word text ts (at + 2) d)) found old new

pub stop-rest : (text : List ℕ) (ts : List Token) (at : ℕ) (d : Token) (found : Bool) (old new : Prefixes) (rest : List Lexeme) → at + 2 < length ts
    → Turn text ts at d found old new → found ≡ false → (read_prologue (lexemes text (drop at ts))).1 ≡ rest → lexemes text (drop at ts) ≡ rest
stop-rest text ts at d found old new rest fits h e held =
    let t = three text ts at d fits in
    t ∙ (sym (stopped (declaration_at (Word text ts at d) (Word text ts (at + 1) d) (Word text ts (at + 2) d)) found old new h e (Word text ts at d ∷ Word text ts (at + 1) d ∷ Word text ts (at + 2) d ∷ lexemes text (drop (at + 3) ts)) (read_prologue (lexemes text (drop (at + 3) ts)))).0
    ∙ (ap (λ ls. (read_prologue ls).1) (sym t) ∙ held))

pub stop-declared : (text : List ℕ) (ts : List Token) (at : ℕ) (d : Token) (found : Bool) (old new all : Prefixes) → at + 2 < length ts
    → Turn text ts at d found old new → found ≡ false → ((q : List ℕ) → prefixes_over old (read_prologue (lexemes text (drop at ts))).0 q ≡ all q) → (q : List ℕ) → new q ≡ all q
stop-declared text ts at d found old new all fits h e held q =
    let t = three text ts at d fits in
    sym ((stopped (declaration_at (Word text ts at d) (Word text ts (at + 1) d) (Word text ts (at + 2) d)) found old new h e (Word text ts at d ∷ Word text ts (at + 1) d ∷ Word text ts (at + 2) d ∷ lexemes text (drop (at + 3) ts)) (read_prologue (lexemes text (drop (at + 3) ts)))).1 q)
    ∙ (ap (λ ls. prefixes_over old (read_prologue ls).0 q) (sym t) ∙ held q)

pub go-rest : (text : List ℕ) (ts : List Token) (at : ℕ) (d : Token) (found : Bool) (old new : Prefixes) (rest : List Lexeme) → at + 2 < length ts
    → Turn text ts at d found old new → found ≡ true → (read_prologue (lexemes text (drop at ts))).1 ≡ rest → (read_prologue (lexemes text (drop (at + 3) ts))).1 ≡ rest
go-rest text ts at d found old new rest fits h e held =
    let t = three text ts at d fits in
    sym (went (declaration_at (Word text ts at d) (Word text ts (at + 1) d) (Word text ts (at + 2) d)) found old new h e (Word text ts at d ∷ Word text ts (at + 1) d ∷ Word text ts (at + 2) d ∷ lexemes text (drop (at + 3) ts)) (read_prologue (lexemes text (drop (at + 3) ts)))).0
    ∙ (ap (λ ls. (read_prologue ls).1) (sym t) ∙ held)

pub go-declared : (text : List ℕ) (ts : List Token) (at : ℕ) (d : Token) (found : Bool) (old new all : Prefixes) → at + 2 < length ts
    → Turn text ts at d found old new → found ≡ true → ((q : List ℕ) → prefixes_over old (read_prologue (lexemes text (drop at ts))).0 q ≡ all q)
    → (q : List ℕ) → prefixes_over new (read_prologue (lexemes text (drop (at + 3) ts))).0 q ≡ all q
go-declared text ts at d found old new all fits h e held q =
    let t = three text ts at d fits in
    sym ((went (declaration_at (Word text ts at d) (Word text ts (at + 1) d) (Word text ts (at + 2) d)) found old new h e (Word text ts at d ∷ Word text ts (at + 1) d ∷ Word text ts (at + 2) d ∷ lexemes text (drop (at + 3) ts)) (read_prologue (lexemes text (drop (at + 3) ts)))).1 q)
    ∙ (ap (λ ls. prefixes_over old (read_prologue ls).0 q) (sym t) ∙ held q)

-- no three tokens are left
few : (ls : List Lexeme) → length ls ≤ 2 → ((read_prologue ls).1 ≡ ls) × ((read_prologue ls).0 ≡ [])
few [] h = (refl, refl)
few (a ∷ []) h = (refl, refl)
few (a ∷ b ∷ []) h = (refl, refl)
few (a ∷ b ∷ c ∷ ls) h = absurd (omega arith)

length-lexemes : (text : List ℕ) (ts : List Token) → length (lexemes text ts) ≡ length ts
length-lexemes text [] = refl
length-lexemes text (t ∷ ts) = ap suc (length-lexemes text ts)

pub end-rest : (text : List ℕ) (ts : List Token) (rest : List Lexeme) → length ts ≤ 2 → (read_prologue (lexemes text ts)).1 ≡ rest → lexemes text ts ≡ rest
end-rest text ts rest h held = sym (few (lexemes text ts) (omega (arith, length-lexemes text ts))).0 ∙ held

pub end-declared : (text : List ℕ) (ts : List Token) (old all : Prefixes) → length ts ≤ 2
    → ((q : List ℕ) → prefixes_over old (read_prologue (lexemes text ts)).0 q ≡ all q) → (q : List ℕ) → old q ≡ all q
end-declared text ts old all h held q = ap (λ ds. prefixes_over old ds q) (sym (few (lexemes text ts) (omega (arith, length-lexemes text ts))).1) ∙ held q
