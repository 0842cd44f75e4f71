-- The grammar of terms and its reader agree.
use Rattle.std.proofs.Common.{◌≡◌, ◌≢◌, ℕ, ◌<◌, Bool, true, false, List, [], length, Option, Some, refl, ap, arith, codes}
use Rattle.std.specs.Prelude.{if◌then◌else◌}
use Rattle.std.specs.Str.{bytes_eq}
use Rattle.std.proofs.lemmas.Slice.Eq.{bytes_eq-Decides}
use Rattle.term_core.specs.Spelling.{lang_string}
use Rattle.term_core.specs.Texts.{xsd_string, xsd_boolean}
use Rattle.term_core.specs.declared.term.Term.{Term}
use Rattle.term_core.specs.declared.term.Term.TheVariants as terms
use Rattle.sparql_tree.specs.declared.symbol.Shape.{Shape}
use Rattle.sparql_tree.specs.declared.symbol.Shape.TheVariants as s
use Rattle.sparql_tree.specs.declared.symbol.Symbol.{Symbol}
use Rattle.sparql_tree.specs.Heads.{Is, is, IsHead, holds}
use Rattle.sparql_grammar.specs.Parser.{Parser, next, first_value, refuse, pure}
use Rattle.sparql_tree.specs.Heads.{head}
use Rattle.sparql_tree.specs.Terms.{IsNumber, integer, decimal, IsTerm, iri, plain, tagged, typed, number, plus, minus, boolean, literal}
use Rattle.sparql_grammar.specs.TermReading as r
use Rattle.sparql_grammar.proofs.Steps.{is-next, holds-next, is-head, holds-head, is-shorter, holds-shorter, Good, weaken, Finds}

-- ---- sound

number_by-sound : (sign : List ℕ) (ts : List Symbol) (o : Option Shape) → head ts ≡ o → Good (IsNumber sign ts) (r.number_by sign o ts)
number_by-sound sign ts (Some s.Integer) h = integer (holds-next s.Integer ts h)
number_by-sound sign ts (Some s.Decimal) h = decimal (holds-next s.Decimal ts h)
number_by-sound sign ts o h = tt

pub number-sound : (sign : List ℕ) (ts : List Symbol) → Good (IsNumber sign ts) (r.number sign ts)
unfolding r.number
number-sound sign ts = number_by-sound sign ts (head ts) refl

abbrev chosen : Bool → List ℕ → List ℕ → Parser Term
chosen same lexical datatype = if same then refuse else pure (literal lexical datatype)

-- a datatype that is not that of strings with a tag
datatyped-sound : (lexical datatype : List ℕ) (ts us vs rest : List Symbol) → IsHead s.Quoted lexical ts us → Is s.Typed us vs → IsHead s.Iri datatype vs rest
    → Good (IsTerm ts) (r.datatyped lexical datatype rest)
datatyped-sound lexical datatype ts us vs rest q t d = go (bytes_eq datatype lang_string) refl
  where
    go : (same : Bool) → bytes_eq datatype lang_string ≡ same → Good (IsTerm ts) (chosen same lexical datatype rest)
    go true e = tt
    go false e = typed q t d (λ equal. let t : bytes_eq datatype lang_string ≡ true = (bytes_eq-Decides datatype lang_string).1 equal in absurd cc)

typed_by-sound : (lexical : List ℕ) (ts us vs : List Symbol) (o : Option Shape) → head vs ≡ o → IsHead s.Quoted lexical ts us → Is s.Typed us vs
    → Good (IsTerm ts) (r.typed_by lexical o vs)
typed_by-sound lexical ts us vs (Some s.Iri) h q t = datatyped-sound lexical (first_value vs) ts us vs (next vs) q t (holds-next s.Iri vs h)
typed_by-sound lexical ts us vs o h q t = tt

quoted_by-sound : (lexical : List ℕ) (ts us : List Symbol) (o : Option Shape) → head us ≡ o → IsHead s.Quoted lexical ts us → Good (IsTerm ts) (r.quoted_by lexical o us)
unfolding r.typed
quoted_by-sound lexical ts us (Some s.Tag) h q = tagged q (holds-next s.Tag us h)
quoted_by-sound lexical ts us (Some s.Typed) h q = typed_by-sound lexical ts us (next us) (head (next us)) refl q (is-next s.Typed us h)
quoted_by-sound lexical ts us o h q = plain q

quoted-sound : (lexical : List ℕ) (ts us : List Symbol) → IsHead s.Quoted lexical ts us → Good (IsTerm ts) (r.quoted lexical us)
unfolding r.quoted
quoted-sound lexical ts us q = quoted_by-sound lexical ts us (head us) refl q

term_by-sound : (ts : List Symbol) (o : Option Shape) → head ts ≡ o → Good (IsTerm ts) (r.term_by o ts)
term_by-sound ts (Some s.Iri) h = iri (holds-next s.Iri ts h)
term_by-sound ts (Some s.Quoted) h = quoted-sound (first_value ts) ts (next ts) (holds-next s.Quoted ts h)
term_by-sound ts (Some s.Boolean) h = boolean (holds-next s.Boolean ts h)
term_by-sound ts (Some s.Plus) h = weaken (IsNumber (codes "+") (next ts)) (IsTerm ts) _ (number-sound (codes "+") (next ts)) (λ a us k. plus (is-next s.Plus ts h) k)
term_by-sound ts (Some s.Minus) h = weaken (IsNumber (codes "-") (next ts)) (IsTerm ts) _ (number-sound (codes "-") (next ts)) (λ a us k. minus (is-next s.Minus ts h) k)
term_by-sound ts o h = weaken (IsNumber [] ts) (IsTerm ts) _ (number-sound [] ts) (λ a us k. number k)

pub term-sound : (ts : List Symbol) → Good (IsTerm ts) (r.term ts)
unfolding r.term
term-sound ts = term_by-sound ts (head ts) refl

-- ---- what they take

pub number-shorter : {sign : List ℕ} {ts rest : List Symbol} {a : Term} → IsNumber sign ts a rest → length rest < length ts
number-shorter (integer h) = holds-shorter h
number-shorter (decimal h) = holds-shorter h

pub term-shorter : {ts rest : List Symbol} {a : Term} → IsTerm ts a rest → length rest < length ts
term-shorter (iri h) = holds-shorter h
term-shorter (plain h) = holds-shorter h
term-shorter (tagged h k) = omega (arith, holds-shorter h, holds-shorter k)
term-shorter (typed h k m other) = omega (arith, holds-shorter h, is-shorter k, holds-shorter m)
term-shorter (number h) = number-shorter h
term-shorter (plus h k) = omega (arith, is-shorter h, number-shorter k)
term-shorter (minus h k) = omega (arith, is-shorter h, number-shorter k)
term-shorter (boolean h) = holds-shorter h

-- ---- complete

-- neither a tag nor ^^ stands here: a string ends
abbrev pub ends_string : Option Shape → Bool
ends_string (Some s.Tag) = false
ends_string (Some s.Typed) = false
ends_string o = true

pub number-finds : {sign : List ℕ} {ts rest : List Symbol} {a : Term} → IsNumber sign ts a rest → Finds (r.number sign) ts a rest
unfolding r.number head next first_value
number-finds (integer holds) = record { found = refl }
number-finds (decimal holds) = record { found = refl }

quoted-plain : (lexical : List ℕ) (us : List Symbol) → ends_string (head us) ≡ true → Finds (r.quoted lexical) us (literal lexical xsd_string) us
unfolding r.quoted
quoted-plain lexical us h = record { found = by (head us) h }
  where
    by : (o : Option Shape) → ends_string o ≡ true → r.quoted_by lexical o us ≡ Some (literal lexical xsd_string, us)
    by (Some s.Tag) h = absurd cc
    by (Some s.Typed) h = absurd cc
    by o h = refl

datatyped-finds : (lexical datatype : List ℕ) (rest : List Symbol) → datatype ≢ lang_string → r.datatyped lexical datatype rest ≡ Some (literal lexical datatype, rest)
datatyped-finds lexical datatype rest other = go (bytes_eq datatype lang_string) refl
  where
    go : (same : Bool) → bytes_eq datatype lang_string ≡ same → chosen same lexical datatype rest ≡ Some (literal lexical datatype, rest)
    go true e = absurd (other ((bytes_eq-Decides datatype lang_string).0 e))
    go false e = refl

quoted-tagged : {lexical tag : List ℕ} {us rest : List Symbol} → IsHead s.Tag tag us rest → Finds (r.quoted lexical) us (terms.Literal lexical lang_string tag) rest
unfolding r.quoted head next first_value
quoted-tagged holds = record { found = refl }

quoted-typed : {lexical datatype : List ℕ} {us vs rest : List Symbol} → Is s.Typed us vs → IsHead s.Iri datatype vs rest → datatype ≢ lang_string
    → Finds (r.quoted lexical) us (literal lexical datatype) rest
unfolding r.quoted r.typed head next first_value
quoted-typed {lexical = lexical} {datatype = datatype} {rest = rest} is holds other = record { found = datatyped-finds lexical datatype rest other }

term-quoted : {lexical : List ℕ} {ts us rest : List Symbol} {a : Term} → IsHead s.Quoted lexical ts us → Finds (r.quoted lexical) us a rest → Finds r.term ts a rest
unfolding r.term head next first_value
term-quoted holds k = record { found = k.found }

number-term : {ts rest : List Symbol} {a : Term} → IsNumber [] ts a rest → Finds (r.number []) ts a rest → Finds r.term ts a rest
unfolding r.term head next first_value
number-term (integer holds) k = record { found = k.found }
number-term (decimal holds) k = record { found = k.found }

term-plus : {ts us rest : List Symbol} {a : Term} → Is s.Plus ts us → Finds (r.number (codes "+")) us a rest → Finds r.term ts a rest
unfolding r.term head next
term-plus is k = record { found = k.found }

term-minus : {ts us rest : List Symbol} {a : Term} → Is s.Minus ts us → Finds (r.number (codes "-")) us a rest → Finds r.term ts a rest
unfolding r.term head next
term-minus is k = record { found = k.found }

term-iri : {ts rest : List Symbol} {word : List ℕ} → IsHead s.Iri word ts rest → Finds r.term ts (terms.Iri word) rest
unfolding r.term head next first_value
term-iri holds = record { found = refl }

term-boolean : {ts rest : List Symbol} {word : List ℕ} → IsHead s.Boolean word ts rest → Finds r.term ts (literal word xsd_boolean) rest
unfolding r.term head next first_value
term-boolean holds = record { found = refl }

pub term-finds : {ts rest : List Symbol} {a : Term} → IsTerm ts a rest → ends_string (head rest) ≡ true → Finds r.term ts a rest
term-finds (iri h) ends = term-iri h
term-finds {rest = rest} (plain {lexical = lexical} h) ends = term-quoted h (quoted-plain lexical rest ends)
term-finds (tagged h k) ends = term-quoted h (quoted-tagged k)
term-finds (typed h k m other) ends = term-quoted h (quoted-typed k m other)
term-finds (number h) ends = number-term h (number-finds h)
term-finds (plus h k) ends = term-plus h (number-finds k)
term-finds (minus h k) ends = term-minus h (number-finds k)
term-finds (boolean h) ends = term-boolean h

-- how a term begins
abbrev pub begins_term : Option Shape → Bool
begins_term (Some s.Iri) = true
begins_term (Some s.Quoted) = true
begins_term (Some s.Integer) = true
begins_term (Some s.Decimal) = true
begins_term (Some s.Boolean) = true
begins_term (Some s.Plus) = true
begins_term (Some s.Minus) = true
begins_term o = false

number-head : {sign : List ℕ} {ts rest : List Symbol} {a : Term} → IsNumber sign ts a rest → begins_term (head ts) ≡ true
number-head (integer h) = ap begins_term (holds-head h)
number-head (decimal h) = ap begins_term (holds-head h)

pub term-head : {ts rest : List Symbol} {a : Term} → IsTerm ts a rest → begins_term (head ts) ≡ true
term-head (iri h) = ap begins_term (holds-head h)
term-head (plain h) = ap begins_term (holds-head h)
term-head (tagged h k) = ap begins_term (holds-head h)
term-head (typed h k m other) = ap begins_term (holds-head h)
term-head (number h) = number-head h
term-head (plus i h) = ap begins_term (is-head i)
term-head (minus i h) = ap begins_term (is-head i)
term-head (boolean h) = ap begins_term (holds-head h)
