-- Characters and the symbols that they give, from left to right, and the tokens of a whole text.
use Rattle.std.proofs.Common.{◌≡◌, ℕ, ◌+◌, ◌-◌, Bool, false, List, [], ◌∷◌, ◌++◌, length, None, refl, sym, subst, ap, ◌∙◌, arith, append_assoc, length-append, chars, encode_utf8_all}
use Rattle.std.specs.List.{slice_range}
use Rattle.std.proofs.Math.Seq.{take-append_seam, drop-append_seam}
use Rattle.std.proofs.lemmas.Str.{encodes-append, chars-encodes}
use Rattle.term_core.specs.Characters.{IsTextOf}
use Rattle.term_core.specs.Tokens.{Tokens, Lexes, stop, space, next, IsLongest, width}
use Rattle.term_core.specs.Tokens as tokens
use Rattle.term_core.specs.declared.token.Kind.{Kind}
use Rattle.term_core.specs.declared.token.Kind.TheVariants as kinds
use Rattle.term_core.specs.declared.token.Token.{Token}
use Rattle.sparql_tree.specs.declared.symbol.Symbol.{Symbol}
use Rattle.sparql_tree.specs.Symbols.{Prefixes, Lexeme, lexemes, IsSymbolOf, AreSymbolsOf}
use Rattle.sparql_tree.specs.Unsupported.{before, is_unsupported_of, before_next, first_unsupported_from}
use Rattle.sparql_print.proofs.Separate.{Separate}

-- whatever came before, the token is answered
abbrev pub IsAnswered : Kind → List ℕ → Type 0
IsAnswered kind text = (select count : Bool) → is_unsupported_of (before select count) kind text ≡ false

-- whatever prefixes are declared, this is the token's symbol
abbrev pub HasSymbol : Kind → List ℕ → Symbol → Type 0
HasSymbol kind text s = (prefixes : Prefixes) → IsSymbolOf prefixes kind text s

-- these characters give these symbols, up to those characters, which give those symbols
pub data Gives : List ℕ → List Symbol → List ℕ → List Symbol → Type 0 where
  done : {text : List ℕ} {ss : List Symbol} → Gives text ss text ss
  gap : {text rest : List ℕ} {ss us : List Symbol} → Gives text ss rest us → Gives (32 ∷ text) ss rest us
  piece : {kind : Kind} {front text rest : List ℕ} {s : Symbol} {ss us : List Symbol} → IsLongest kind front text
      → HasSymbol kind (encode_utf8_all front) s → IsAnswered kind (encode_utf8_all front) → Gives text ss rest us → Gives (front ++ text) (s ∷ ss) rest us

pub gives-then : {a b c : List ℕ} {ss us vs : List Symbol} → Gives a ss b us → Gives b us c vs → Gives a ss c vs
gives-then done k = k
gives-then (gap h) k = gap (gives-then h k)
gives-then (piece l s u h) k = piece l s u (gives-then h k)

-- the tokens of these characters, which stand in the text from this byte on
pub record Cut (whole : List ℕ) (at : ℕ) (cs : List ℕ) (ss : List Symbol) : Type 0 where
  pub ts : List Token
  pub end : ℕ
  pub lexed : Lexes at cs ts end []
  pub symbols : (prefixes : Prefixes) → AreSymbolsOf prefixes (lexemes whole ts) ss
  pub answered : (select count : Bool) → first_unsupported_from (before select count) (lexemes whole ts) ≡ None

slice-is : (front body back : List ℕ) (to : ℕ) → to ≡ length front + length body → slice_range (front ++ (body ++ back)) (length front) to ≡ body
slice-is front body back to e = let size : to - length front ≡ length body = omega (arith, e) in rw (drop-append_seam, size) (take-append_seam body back)

moved : (whole before front rest : List ℕ) → whole ≡ before ++ encode_utf8_all (front ++ rest) → whole ≡ (before ++ encode_utf8_all front) ++ encode_utf8_all rest
moved whole before front rest e = e ∙ (ap (λ bs. before ++ bs) (encodes-append front rest) ∙ sym (append_assoc before (encode_utf8_all front) (encode_utf8_all rest)))

answered-on : (kind : Kind) (select count : Bool) (text : List ℕ) (ls : List Lexeme) → ((select count : Bool) → first_unsupported_from (before select count) ls ≡ None)
    → first_unsupported_from (before_next (before select count) kind text) ls ≡ None
answered-on kinds.Word select count text ls h = h _ _
answered-on _ select count text ls h = h _ _

cut-piece : (whole ahead front cs : List ℕ) (at : ℕ) (kind : Kind) (s : Symbol) (ss : List Symbol) → whole ≡ ahead ++ encode_utf8_all (front ++ cs) → length ahead ≡ at
    → IsLongest kind front cs → HasSymbol kind (encode_utf8_all front) s → IsAnswered kind (encode_utf8_all front) → Cut whole (at + width front) cs ss → Cut whole at (front ++ cs) (s ∷ ss)
cut-piece whole ahead front cs at kind s ss e p l h u c =
    let bytes : whole ≡ ahead ++ (encode_utf8_all front ++ encode_utf8_all cs) = e ∙ ap (λ bs. ahead ++ bs) (encodes-append front cs) in
    let slice : slice_range whole at (at + width front) ≡ encode_utf8_all front =
    rw (bytes, ← p) (slice-is ahead (encode_utf8_all front) (encode_utf8_all cs) (length ahead + width front) refl) in
    record {
      ts = tokens.token kind at (at + width front) ∷ c.ts;
      end = c.end;
      lexed = next l c.lexed;
      symbols = λ prefixes. (subst (λ t. IsSymbolOf prefixes kind t s) (sym slice) (h prefixes), c.symbols prefixes);
      answered = λ select count.
          let no : is_unsupported_of (before select count) kind (slice_range whole at (at + width front)) ≡ false = ap (is_unsupported_of (before select count) kind) slice ∙ u select count in
          rw no (answered-on kind select count (slice_range whole at (at + width front)) (lexemes whole c.ts) c.answered);
    }

pub cut-of : {cs rest : List ℕ} {ss us : List Symbol} → Gives cs ss rest us → rest ≡ [] → us ≡ [] → (whole ahead : List ℕ) (at : ℕ) → whole ≡ ahead ++ encode_utf8_all cs → length ahead ≡ at → Cut whole at cs ss
unfolding lib.Utf8.encode
cut-of (done {text} {ss}) r n whole ahead at e p =
    subst (λ t. Cut whole at t ss) (sym r) (subst (λ u. Cut whole at [] u) (sym n) (record { ts = []; end = at; lexed = stop; symbols = λ prefixes. tt; answered = λ select count. refl }))
cut-of (gap {text} {rest} {ss} h) r n whole ahead at e p =
    let c = cut-of h r n whole (ahead ++ 32 ∷ []) (at + 1) (moved whole ahead (32 ∷ []) text e) (omega (arith, p, length-append ahead (32 ∷ []))) in
    record { ts = c.ts; end = c.end; lexed = space refl c.lexed; symbols = c.symbols; answered = c.answered }
cut-of (piece {kind} {front} {text} {rest} {s} {ss} l h u k) r n whole ahead at e p =
    cut-piece whole ahead front text at kind s ss e p l h u
    (cut-of k r n whole (ahead ++ encode_utf8_all front) (at + width front) (moved whole ahead front text e) (omega (arith, p, length-append ahead (encode_utf8_all front))))

-- a text and the symbols that it adds before others, where a space or the end follows
pub record IsShown (text : List ℕ) (add : List Symbol → List Symbol) : Type 0 where
  pub characters : List ℕ
  pub is_text : IsTextOf characters text
  pub gives : (rest : List ℕ) (ss : List Symbol) → Separate rest → Gives (characters ++ rest) (add ss) rest ss

-- a whole text's tokens
pub whole_cut : (cs bytes : List ℕ) (ss : List Symbol) → IsTextOf cs bytes → Gives cs ss [] [] → (c : Cut bytes 0 cs ss) × Tokens bytes c.ts
whole_cut cs bytes ss is h =
    let c = cut-of h refl refl bytes [] 0 (sym is.encoded) refl in
    let same : cs ≡ chars bytes = sym (chars-encodes cs is.scalars) ∙ ap chars is.encoded in
    (c, record { utf8 = (cs, (is.scalars, is.encoded)); end = c.end; lexed = subst (λ t. Lexes 0 t c.ts c.end []) same c.lexed })
