-- The parts of a prefixed name.
use Rattle.std.proofs.Common.{◌≡◌, ◌∙◌, ◌<◌, ℕ, suc, Bool, true, false, eqb, inl, inr, List, [], ◌∷◌, ◌++◌, length, get_or, chars, IsUtf8, encode_utf8_all, refl, sym, ap, arith, append_assoc, append-nil}
use Rattle.std.specs.Prelude.{◌==◌, ◌||◌}
use Rattle.std.specs.Str.{all_scalars}
use Rattle.std.proofs.Math.Utf8.{encode}
use Rattle.std.proofs.lemmas.Str.{encodes-append, encodes-chars, scalars-chars, chars-encodes, inside_one}
use Rattle.term_core.specs.Characters.{is_pn, is_pn_base}
use Rattle.term_core.specs.Names.{IsDotted}
use Rattle.term_core.specs.Terminals.{IsPrefixedName, IsPrefix}
use Rattle.sparql_lex.proofs.Bools.{either, same, false_of, pn-colon}
use Rattle.sparql_symbol.specs.declared.undoing.Place.TheVariants as places
use Rattle.sparql_tree.specs.Symbols.{unescaped}
use Rattle.sparql_symbol.specs.Reading.{before_colon, behind_colon, local_at}
use Rattle.sparql_symbol.specs.Undoing.{undone}
use Rattle.sparql_symbol.proofs.Frames.{scalars-behind}

-- ---- no colon in a prefix

abbrev NoColon : List ℕ → Type 0
NoColon [] = Unit {0}
NoColon (c ∷ text) = (c ≡ 58 → ⊥) × NoColon text

other-than : (p : ℕ → Bool) (c : ℕ) → p c ≡ true → p 58 ≡ false → c ≡ 58 → ⊥
other-than p c h out e = let no : true ≡ false = sym h ∙ (ap p e ∙ out) in absurd cc

base-colon : is_pn_base 58 ≡ false
unfolding is_pn_base
base-colon = refl

part-colon : (c : ℕ) → (is_pn c || (c == 46)) ≡ true → c ≡ 58 → ⊥
part-colon c h e = elim (either (is_pn c) (c == 46) h) [
  | inl p ↦ other-than is_pn c p pn-colon e
  | inr dot ↦ let d = same c 46 dot in absurd (omega (arith, d, e))
]

dotted-colon : (text : List ℕ) → IsDotted is_pn text → NoColon text
dotted-colon [] h = tt
dotted-colon (c ∷ []) h = (other-than is_pn c h pn-colon, tt)
dotted-colon (c ∷ d ∷ text) h = (part-colon c h.0, dotted-colon (d ∷ text) h.1)

prefix-colon : (prefix : List ℕ) → IsPrefix prefix → NoColon prefix
prefix-colon [] h = tt
prefix-colon (c ∷ text) h = (other-than is_pn_base c h.0 base-colon, dotted-colon text h.1)

-- ---- where the colon stands

-- no byte of another character is a colon
byte-colon : (c i : ℕ) → (c ≡ 58 → ⊥) → i < length (encode c) → get_or (encode c) i 0 ≡ 58 → ⊥
byte-colon c i h fits e = h (inside_one c [] (encode c) i (sym (append-nil (encode c))) fits (omega (arith, e)) ∙ e)

-- bytes of which none is a colon
over : (xs rest : List ℕ) → ((i : ℕ) → i < length xs → get_or xs i 0 ≡ 58 → ⊥)
    → (before_colon (xs ++ rest) ≡ xs ++ before_colon rest) × (behind_colon (xs ++ rest) ≡ behind_colon rest)
over [] rest h = (refl, refl)
over (b ∷ xs) rest h =
    let first : (b == 58) ≡ false = false_of (b == 58) (λ e. h 0 (omega arith) (same b 58 e)) in
    let more = over xs rest (λ i fits. h (suc i) (omega arith)) in
    (rw first (ap (λ bs. b ∷ bs) more.0), rw first more.1)

at-colon : (prefix rest : List ℕ) → NoColon prefix
    → (before_colon (encode_utf8_all prefix ++ 58 ∷ rest) ≡ encode_utf8_all prefix) × (behind_colon (encode_utf8_all prefix ++ 58 ∷ rest) ≡ rest)
at-colon [] rest h = (refl, refl)
at-colon (c ∷ prefix) rest h =
    let here = over (encode c) (encode_utf8_all prefix ++ 58 ∷ rest) (λ i. byte-colon c i h.0) in
    let more = at-colon prefix rest h.1 in
    let whole = append_assoc (encode c) (encode_utf8_all prefix) (58 ∷ rest) in (
      ap before_colon whole ∙ (here.0 ∙ ap (λ bs. encode c ++ bs) more.0),
      ap behind_colon whole ∙ (here.1 ∙ more.1),
    )

colon-encodes : (local : List ℕ) → encode_utf8_all (58 ∷ local) ≡ 58 ∷ encode_utf8_all local
unfolding encode
colon-encodes local = refl

-- ---- a local name

name-undone : (local : List ℕ) → undone places.Name local ≡ unescaped local
name-undone [] = refl
name-undone (c ∷ local) = go (eqb c 92) refl (name-undone local)
  where
    go : (t : Bool) → eqb c 92 ≡ t → undone places.Name local ≡ unescaped local → undone places.Name (c ∷ local) ≡ unescaped (c ∷ local)
    go true e more = rw e more
    go false e more = rw e (ap (λ cs. c ∷ cs) more)

-- ---- the parts as they are read

pub record NameRead (text : List ℕ) (prefix local : List ℕ) : Type 0 where
  pub before : before_colon text ≡ encode_utf8_all prefix
  pub behind : behind_colon text ≡ encode_utf8_all local
  pub name : local_at (behind_colon text) ≡ encode_utf8_all (unescaped local)

pub name-read : (text : List ℕ) → IsUtf8 text → (h : IsPrefixedName (chars text)) → NameRead text h.prefix h.local
name-read text utf8 h =
    let bytes : text ≡ encode_utf8_all h.prefix ++ 58 ∷ encode_utf8_all h.local =
    sym (encodes-chars text utf8) ∙ (ap encode_utf8_all h.spelled ∙ (encodes-append h.prefix (58 ∷ h.local) ∙ ap (λ bs. encode_utf8_all h.prefix ++ bs) (colon-encodes h.local))) in
    let parts = at-colon h.prefix (encode_utf8_all h.local) (prefix-colon h.prefix h.is_prefix) in
    let scalars : all_scalars (h.prefix ++ 58 ∷ h.local) ≡ true = ap all_scalars (sym h.spelled) ∙ scalars-chars text utf8 in
    let local : all_scalars h.local ≡ true = scalars-behind (58 ∷ []) h.local (scalars-behind h.prefix (58 ∷ h.local) scalars) in
    let behind : behind_colon text ≡ encode_utf8_all h.local = ap behind_colon bytes ∙ parts.1 in
    record {
      before = ap before_colon bytes ∙ parts.0;
      behind = behind;
      name = ap local_at behind ∙ ap (λ cs. encode_utf8_all cs) (ap (undone places.Name) (chars-encodes h.local local) ∙ name-undone h.local);
    }
