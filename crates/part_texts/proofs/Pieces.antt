-- The symbols of the signs, words and labels that stand between braces.
use Rattle.std.proofs.Common.{◌≡◌, ℕ, List, [], ◌∷◌, refl, sym, subst, codes, ap, encode_utf8_all}
use Rattle.std.proofs.lemmas.Str.{chars-encodes}
use Rattle.term_core.specs.Characters.{is_pn, is_pn_u, is_pn_base, IsTextOf}
use Rattle.term_core.specs.Mappings.{Name}
use Rattle.term_core.specs.Terminals.{IsBlank}
use Rattle.term_core.specs.declared.token.Kind.TheVariants as kinds
use Rattle.sparql_lex.specs.Steps.{step}
use Rattle.sparql_tree.specs.declared.symbol.Shape.TheVariants as s
use Rattle.sparql_tree.specs.Symbols.{bare, symbol}
use Rattle.nt_text.proofs.WrittenText.{text_small, text_both}
use Rattle.sparql_print.proofs.Separate.{longest-separate}
use Rattle.sparql_print.proofs.Gives.{IsShown, done, piece}
use Rattle.sparql_print.proofs.Pieces.{sign-shown, word-shown}
use Rattle.part_texts.proofs.Forms.{IsWrittenLabel}

pub opening-shown : IsShown (codes "{") (λ ss. bare s.OpenBrace ∷ ss)
unfolding step is_pn is_pn_u is_pn_base lib.Utf8.encode
opening-shown = sign-shown (codes "{") s.OpenBrace refl refl (λ x. refl) refl refl

pub closing-shown : IsShown (codes "}") (λ ss. bare s.CloseBrace ∷ ss)
unfolding step is_pn is_pn_u is_pn_base lib.Utf8.encode
closing-shown = sign-shown (codes "}") s.CloseBrace refl refl (λ x. refl) refl refl

pub point-shown : IsShown (codes ".") (λ ss. bare s.Point ∷ ss)
unfolding step is_pn is_pn_u is_pn_base lib.Utf8.encode
point-shown = sign-shown (codes ".") s.Point refl refl (λ x. refl) refl refl

pub union-shown : IsShown (codes "UNION") (λ ss. bare s.Union ∷ ss)
unfolding lib.Utf8.encode
union-shown = word-shown (codes "UNION") s.Union refl (refl, refl) refl refl refl

pub filter-shown : IsShown (codes "FILTER") (λ ss. bare s.Filter ∷ ss)
unfolding lib.Utf8.encode
filter-shown = word-shown (codes "FILTER") s.Filter refl (refl, refl) refl refl refl

pub bind-shown : IsShown (codes "BIND") (λ ss. bare s.Bind ∷ ss)
unfolding lib.Utf8.encode
bind-shown = word-shown (codes "BIND") s.Bind refl (refl, refl) refl refl refl

pub as-shown : IsShown (codes "AS") (λ ss. bare s.As ∷ ss)
unfolding lib.Utf8.encode
as-shown = word-shown (codes "AS") s.As refl (refl, refl) refl refl refl

pub values-shown : IsShown (codes "VALUES") (λ ss. bare s.Values ∷ ss)
unfolding lib.Utf8.encode
values-shown = word-shown (codes "VALUES") s.Values refl (refl, refl) refl refl refl

pub undef-shown : IsShown (codes "UNDEF") (λ ss. bare s.Undef ∷ ss)
unfolding lib.Utf8.encode
undef-shown = word-shown (codes "UNDEF") s.Undef refl (refl, refl) refl refl refl

-- a blank node's label
pub label-shown : (label : Name) → IsWrittenLabel label → IsShown (95 ∷ 58 ∷ label) (λ ss. symbol s.Blank label ∷ ss)
label-shown label h =
    let cs : List ℕ = 95 ∷ 58 ∷ h.characters in
    let is : IsTextOf cs (95 ∷ 58 ∷ label) = text_both (95 ∷ 58 ∷ []) h.characters (95 ∷ 58 ∷ []) label (text_small (95 ∷ 58 ∷ []) refl) h.is_text in
    let blank : IsBlank cs = record { label = h.characters; is_label = h.is_label; spelled = refl } in
    record {
      characters = cs;
      is_text = is;
      gives = λ rest ss sep.
          piece {kind = kinds.Blank} (longest-separate kinds.Blank cs rest (λ e. absurd (cc)) (λ e. absurd (cc)) blank sep)
          (λ prefixes. subst (λ t. (b : IsBlank t) × (symbol s.Blank label ≡ symbol s.Blank (encode_utf8_all b.label))) (sym (chars-encodes cs is.scalars)) (blank, ap (symbol s.Blank) (sym h.is_text.encoded)))
          (λ select count. refl) done;
    }
