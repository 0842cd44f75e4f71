-- What is read as the prologue is the prologue, and the only one.
use Rattle.std.proofs.Common.{◌≡◌, ◌∙◌, ℕ, Bool, true, false, cond, List, [], ◌∷◌, ◌++◌, Option, Some, None, chars, IsUtf8, encode_utf8_all, length, get_or, refl, sym, ap, subst, arith, length-append}
use Rattle.std.specs.Prelude.{codes}
use Rattle.std.proofs.Math.Utf8.{encode}
use Rattle.std.proofs.lemmas.Str.{length-encode, len_utf8_bounds}
use Rattle.term_core.specs.Names.{has_scheme}
use Rattle.term_core.specs.Terminals.{IsToken, IsIri, IsPrefixedName}
use Rattle.term_core.specs.declared.token.Kind.{Kind}
use Rattle.term_core.specs.declared.token.Kind.TheVariants as kinds
use Rattle.sparql_tree.specs.Words.{is_word}
use Rattle.sparql_tree.specs.Symbols.{Lexeme}
use Rattle.sparql_tree.specs.Prologue.{Declaration, IsPrefixName, IsAbsolute, IsDeclaration, NoDeclaration, IsPrologue, ended, declared}
use Rattle.sparql_symbol.specs.Reading.{is_prefix_word, prefix_before, prefix_at, declared_prefix, absolute_iri, declared_by, declaration_at, with_first, read_prologue, before_colon, behind_colon, iri_inside}
use Rattle.sparql_symbol.proofs.NameParts.{name-read}
use Rattle.sparql_symbol.proofs.Readings.{iri-read}
use Rattle.sparql_symbol.proofs.Standing.{IsLexeme, AreLexemes}

abbrev declared_some : Declaration → Option Declaration
declared_some d = Some d

abbrev prefix_some : List ℕ → Option (List ℕ)
prefix_some prefix = Some prefix

-- ---- the word

word-sound : (kind : Kind) (text : List ℕ) → is_prefix_word kind text ≡ true → (kind ≡ kinds.Word) × (is_word text (codes "PREFIX") ≡ true)
word-sound kinds.Word text h = (refl, h)
word-sound _ text h = absurd cc

word-is : (kind : Kind) (text : List ℕ) → kind ≡ kinds.Word → is_word text (codes "PREFIX") ≡ true → is_prefix_word kind text ≡ true
word-is kind text e h = ap (λ k. is_prefix_word k text) e ∙ h

-- ---- the name

-- no bytes are of no characters
no-characters : (cs : List ℕ) → encode_utf8_all cs ≡ [] → cs ≡ []
no-characters [] e = refl
no-characters (c ∷ cs) e =
    let size : length (encode c ++ encode_utf8_all cs) ≡ 0 = ap length e in
    absurd (omega (arith, size, length-append (encode c) (encode_utf8_all cs), length-encode c, len_utf8_bounds c))

before-sound : (front local prefix : List ℕ) → prefix_before front local ≡ Some prefix → (local ≡ []) × (front ≡ prefix)
before-sound front [] prefix e = (refl, cc)
before-sound front (b ∷ local) prefix e = absurd cc

name-kind : (kind : Kind) (text prefix : List ℕ) → prefix_at kind text ≡ Some prefix
    → (kind ≡ kinds.PName) × (prefix_before (before_colon text) (behind_colon text) ≡ Some prefix)
name-kind kinds.PName text prefix e = (refl, e)
name-kind _ text prefix e = absurd cc

name-sound : (l : Lexeme) (prefix : List ℕ) → IsLexeme l → prefix_at l.kind l.text ≡ Some prefix → IsPrefixName l prefix
name-sound l prefix h e =
    let k = name-kind l.kind l.text prefix e in
    let token : IsPrefixedName (chars l.text) = subst (λ kind. IsToken kind (chars l.text)) k.0 h.token in
    let n = name-read l.text h.utf8 token in
    let parts = before-sound (before_colon l.text) (behind_colon l.text) prefix k.1 in
    record { kind = k.0; name = token; no_local = no-characters token.local (sym n.behind ∙ parts.0); spelled = sym parts.1 ∙ n.before }

name-is : (l : Lexeme) (prefix : List ℕ) → IsUtf8 l.text → IsPrefixName l prefix → prefix_at l.kind l.text ≡ Some prefix
name-is l prefix utf8 h =
    let n = name-read l.text utf8 h.name in
    let behind : behind_colon l.text ≡ [] = n.behind ∙ ap (λ cs. encode_utf8_all cs) h.no_local in
    let before : before_colon l.text ≡ prefix = n.before ∙ sym h.spelled in
    ap (λ k. prefix_at k l.text) h.kind ∙ (ap (λ bs. prefix_before (before_colon l.text) bs) behind ∙ ap (λ bs. prefix_some bs) before)

-- ---- the IRI

guarded : (t : Bool) (found iri : List ℕ) → cond t (Some found) None ≡ Some iri → (t ≡ true) × (found ≡ iri)
guarded true found iri e = (refl, cc)
guarded false found iri e = absurd cc

iri-kind : (kind : Kind) (text iri : List ℕ) → absolute_iri kind text ≡ Some iri
    → (kind ≡ kinds.Iri) × (has_scheme (iri_inside text) ≡ true) × (iri_inside text ≡ iri)
iri-kind kinds.Iri text iri e = let g = guarded (has_scheme (iri_inside text)) (iri_inside text) iri e in (refl, g.0, g.1)
iri-kind _ text iri e = absurd cc

iri-sound : (l : Lexeme) (iri : List ℕ) → IsLexeme l → absolute_iri l.kind l.text ≡ Some iri → IsAbsolute l iri
iri-sound l iri h e =
    let k = iri-kind l.kind l.text iri e in
    let token : IsIri (chars l.text) = subst (λ kind. IsToken kind (chars l.text)) k.0 h.token in
    record { kind = k.0; token = token; spelled = sym k.2 ∙ iri-read l.text h.utf8 token; scheme = ap has_scheme (sym k.2) ∙ k.1 }

iri-is : (l : Lexeme) (iri : List ℕ) → IsUtf8 l.text → IsAbsolute l iri → absolute_iri l.kind l.text ≡ Some iri
iri-is l iri utf8 h =
    let same : iri_inside l.text ≡ iri = iri-read l.text utf8 h.token ∙ sym h.spelled in
    ap (λ k. absolute_iri k l.text) h.kind ∙ rw (same, h.scheme) refl

-- ---- the three together

abbrev declares : List ℕ → List ℕ → Declaration
declares prefix iri = record { prefix = prefix; iri = iri }

pub record Parts (o p : Option (List ℕ)) (d : Declaration) : Type 0 where
  pub prefix : o ≡ Some d.prefix
  pub iri : p ≡ Some d.iri

parts : (o p : Option (List ℕ)) (d : Declaration) → declared_by o p ≡ Some d → Parts o p d
parts (Some a) (Some b) d e =
    let same : declares a b ≡ d = cc in
    record { prefix = ap (λ (x : Declaration). prefix_some x.prefix) same; iri = ap (λ (x : Declaration). prefix_some x.iri) same }
parts (Some a) None d e = absurd cc
parts None p d e = absurd cc

prefix-parts : (t : Bool) (o : Option (List ℕ)) (prefix : List ℕ) → cond t o None ≡ Some prefix → (t ≡ true) × (o ≡ Some prefix)
prefix-parts true o prefix e = (refl, e)
prefix-parts false o prefix e = absurd cc

declaration-sound : (word name iri : Lexeme) (d : Declaration) → IsLexeme name → IsLexeme iri → declaration_at word name iri ≡ Some d → IsDeclaration word name iri d
declaration-sound word name iri d hn hi e =
    let p = parts (declared_prefix word name) (absolute_iri iri.kind iri.text) d e in
    let q = prefix-parts (is_prefix_word word.kind word.text) (prefix_at name.kind name.text) d.prefix p.prefix in
    let w = word-sound word.kind word.text q.0 in
    record { is_word = record { kind = w.0; word = w.1 }; is_name = name-sound name d.prefix hn q.1; is_iri = iri-sound iri d.iri hi p.iri }

declaration-is : (word name iri : Lexeme) (d : Declaration) → IsUtf8 name.text → IsUtf8 iri.text → IsDeclaration word name iri d → declaration_at word name iri ≡ Some d
declaration-is word name iri d hn hi h =
    rw (word-is word.kind word.text h.is_word.kind h.is_word.word, name-is name d.prefix hn h.is_name, iri-is iri d.iri hi h.is_iri) refl

none-declared : (word name iri : Lexeme) (ls : List Lexeme) → IsLexeme name → IsLexeme iri → declaration_at word name iri ≡ None → NoDeclaration (word ∷ name ∷ iri ∷ ls)
none-declared word name iri ls hn hi none w n i rest d e k =
    let same : declaration_at word name iri ≡ declaration_at w n i = ap (λ all. declaration_at (get_or all 0 word) (get_or all 1 word) (get_or all 2 word)) e in
    let second : name ≡ n = ap (λ all. get_or all 1 word) e in
    let third : iri ≡ i = ap (λ all. get_or all 2 word) e in
    let some : declaration_at w n i ≡ Some d = declaration-is w n i d (subst IsLexeme second hn).utf8 (subst IsLexeme third hi).utf8 k in
    let both : declared_some d ≡ None = sym some ∙ (sym same ∙ none) in
    absurd cc

-- ---- the prologue

first-sound : (word name iri : Lexeme) (ls : List Lexeme) → IsLexeme name → IsLexeme iri → IsPrologue ls (read_prologue ls).0 (read_prologue ls).1
    → (o : Option Declaration) → declaration_at word name iri ≡ o
    → IsPrologue (word ∷ name ∷ iri ∷ ls) (with_first o (word ∷ name ∷ iri ∷ ls) (read_prologue ls)).0 (with_first o (word ∷ name ∷ iri ∷ ls) (read_prologue ls)).1
first-sound word name iri ls hn hi more None e = ended (none-declared word name iri ls hn hi e)
first-sound word name iri ls hn hi more (Some d) e = declared (declaration-sound word name iri d hn hi e) more

-- what is read is the prologue
pub prologue-sound : (ls : List Lexeme) → AreLexemes ls → IsPrologue ls (read_prologue ls).0 (read_prologue ls).1
prologue-sound [] h = ended (λ word name iri rest d e k. absurd cc)
prologue-sound (a ∷ []) h = ended (λ word name iri rest d e k. absurd cc)
prologue-sound (a ∷ b ∷ []) h = ended (λ word name iri rest d e k. absurd cc)
prologue-sound (word ∷ name ∷ iri ∷ ls) h =
    first-sound word name iri ls h.1.0 h.1.1.0 (prologue-sound ls h.1.1.1) (declaration_at word name iri) refl

-- the prologue is what is read
pub record Reads (ls : List Lexeme) (ds : List Declaration) (rest : List Lexeme) : Type 0 where
  pub declarations : (read_prologue ls).0 ≡ ds
  pub left : (read_prologue ls).1 ≡ rest

ended-is : (ls : List Lexeme) → AreLexemes ls → NoDeclaration ls → Reads ls [] ls
ended-is [] h k = record { declarations = refl; left = refl }
ended-is (a ∷ []) h k = record { declarations = refl; left = refl }
ended-is (a ∷ b ∷ []) h k = record { declarations = refl; left = refl }
ended-is (word ∷ name ∷ iri ∷ ls) h k = go (declaration_at word name iri) refl
  where
    go : (o : Option Declaration) → declaration_at word name iri ≡ o → Reads (word ∷ name ∷ iri ∷ ls) [] (word ∷ name ∷ iri ∷ ls)
    go None e = record { declarations = rw e refl; left = rw e refl }
    go (Some d) e = absurd (k word name iri ls d refl (declaration-sound word name iri d h.1.0 h.1.1.0 e))

pub prologue-is : {ls rest : List Lexeme} {ds : List Declaration} → AreLexemes ls → IsPrologue ls ds rest → Reads ls ds rest
prologue-is {ls} h (ended k) = ended-is ls h k
prologue-is h (declared {word} {name} {iri} {d = d} k more) =
    let r = prologue-is h.1.1.1 more in
    let first = declaration-is word name iri d h.1.0.utf8 h.1.1.0.utf8 k in
    record { declarations = rw first (ap (λ ds. d ∷ ds) r.declarations); left = rw first r.left }
