-- The symbols of each piece of a text.
use Rattle.std.proofs.Common.{◌≡◌, ℕ, Bool, true, false, List, [], ◌∷◌, ◌++◌, Some, None, refl, sym, subst, append_assoc, codes, encode_utf8_all}
use Rattle.std.specs.Prelude.{◌&&◌}
use Rattle.term_core.specs.Characters.{is_pn, is_pn_u, is_pn_base, AreAll}
use Rattle.term_core.specs.Terminals.{IsWord}
use Rattle.term_core.specs.declared.token.Kind.TheVariants as kinds
use Rattle.sparql_tree.specs.declared.words.AggregateKind.{AggregateKind}
use Rattle.sparql_tree.specs.declared.words.AggregateKind.TheVariants as aggregates
use Rattle.sparql_tree.specs.declared.words.CompareOp.{CompareOp}
use Rattle.sparql_tree.specs.declared.words.CompareOp.TheVariants as ops
use Rattle.sparql_tree.specs.declared.words.Function.{Function}
use Rattle.sparql_tree.specs.declared.words.Function.TheVariants as functions
use Rattle.sparql_lex.specs.declared.state.State.TheVariants as states
use Rattle.sparql_lex.specs.Steps.{step}
use Rattle.sparql_lex.proofs.Reading.{reads}
use Rattle.sparql_lex.proofs.KindStates.{read-token}
use Rattle.sparql_tree.specs.declared.symbol.Shape.{Shape}
use Rattle.sparql_tree.specs.declared.symbol.Shape.TheVariants as s
use Rattle.sparql_tree.specs.declared.symbol.Symbol.{Symbol}
use Rattle.sparql_tree.specs.Symbols.{bare, word_symbol}
use Rattle.sparql_tree.specs.Words.{is_word, is_unsupported_word, sign_shape}
use Rattle.sparql_tree.specs.Unsupported.{is_bracket}
use Rattle.nt_text.proofs.TagLaws.{is_small}
use Rattle.nt_text.proofs.WrittenText.{text_small, text_both}
use Rattle.sparql_print.specs.ExprText.{spaced, op_text, function_text, aggregate_text, sum_sign, product_sign}
use Rattle.sparql_print.proofs.ExprSymbols.{op_shape, sum_shape, product_shape}
use Rattle.sparql_print.proofs.Separate.{longest-separate, sign-longest}
use Rattle.sparql_print.proofs.Gives.{IsShown, Gives, done, gap, piece, gives-then}

pub sign-shown : (text : List ℕ) (shape : Shape) → AreAll is_small text → reads text states.Start ≡ Some kinds.Sign → ((x : List ℕ) → reads (text ++ 32 ∷ x) states.Start ≡ None)
    → bare shape ≡ bare (sign_shape (encode_utf8_all text)) → is_bracket (encode_utf8_all text) ≡ false → IsShown text (λ ss. bare shape ∷ ss)
sign-shown text shape small token ends is answered = record {
  characters = text;
  is_text = text_small text small;
  gives = λ rest ss sep. piece (sign-longest text rest (read-token text kinds.Sign token) ends sep) (λ prefixes. is) (λ select count. answered) done;
}

and_false : (select b : Bool) → b ≡ false → (select && b) ≡ false
and_false true b e = e
and_false false b e = refl

pub word-shown : (text : List ℕ) (shape : Shape) → AreAll is_small text → IsWord text → bare shape ≡ word_symbol (encode_utf8_all text)
    → is_unsupported_word (encode_utf8_all text) ≡ false → is_word (encode_utf8_all text) (codes "SELECT") ≡ false → IsShown text (λ ss. bare shape ∷ ss)
word-shown text shape small token is answered other = record {
  characters = text;
  is_text = text_small text small;
  gives = λ rest ss sep. piece {kind = kinds.Word} (longest-separate kinds.Word text rest (λ e. absurd (cc)) (λ e. absurd (cc)) token sep) (λ prefixes. is) (λ select count. rw answered (and_false select _ other)) done;
}

-- two texts with a space between
pub spaced-shown : {a b : List ℕ} {f g : List Symbol → List Symbol} → IsShown a f → IsShown b g → IsShown (spaced a b) (λ ss. f (g ss))
spaced-shown {a} {b} {f} {g} h k = record {
  characters = h.characters ++ 32 ∷ k.characters;
  is_text = text_both h.characters (32 ∷ k.characters) a (32 ∷ b) h.is_text (text_both (32 ∷ []) k.characters (32 ∷ []) b (text_small (32 ∷ []) refl) k.is_text);
  gives = λ rest ss sep.
      subst (λ t. Gives t (f (g ss)) rest ss) (sym (append_assoc h.characters (32 ∷ k.characters) rest))
      (gives-then (h.gives (32 ∷ (k.characters ++ rest)) (g ss) refl) (gap (k.gives rest ss sep)));
}

pub open-shown : IsShown (codes "(") (λ ss. bare s.Open ∷ ss)
unfolding step is_pn is_pn_u is_pn_base lib.Utf8.encode
open-shown = sign-shown (codes "(") s.Open refl refl (λ x. refl) refl refl

pub close-shown : IsShown (codes ")") (λ ss. bare s.Close ∷ ss)
unfolding step is_pn is_pn_u is_pn_base lib.Utf8.encode
close-shown = sign-shown (codes ")") s.Close refl refl (λ x. refl) refl refl

pub comma-shown : IsShown (codes ",") (λ ss. bare s.Comma ∷ ss)
unfolding step is_pn is_pn_u is_pn_base lib.Utf8.encode
comma-shown = sign-shown (codes ",") s.Comma refl refl (λ x. refl) refl refl

pub or-shown : IsShown (codes "||") (λ ss. bare s.Or ∷ ss)
unfolding step is_pn is_pn_u is_pn_base lib.Utf8.encode
or-shown = sign-shown (codes "||") s.Or refl refl (λ x. refl) refl refl

pub and-shown : IsShown (codes "&&") (λ ss. bare s.And ∷ ss)
unfolding step is_pn is_pn_u is_pn_base lib.Utf8.encode
and-shown = sign-shown (codes "&&") s.And refl refl (λ x. refl) refl refl

pub bang-shown : IsShown (codes "!") (λ ss. bare s.Bang ∷ ss)
unfolding step is_pn is_pn_u is_pn_base lib.Utf8.encode
bang-shown = sign-shown (codes "!") s.Bang refl refl (λ x. refl) refl refl

pub plus-shown : IsShown (codes "+") (λ ss. bare s.Plus ∷ ss)
unfolding step is_pn is_pn_u is_pn_base lib.Utf8.encode
plus-shown = sign-shown (codes "+") s.Plus refl refl (λ x. refl) refl refl

pub minus-shown : IsShown (codes "-") (λ ss. bare s.Minus ∷ ss)
unfolding step is_pn is_pn_u is_pn_base lib.Utf8.encode
minus-shown = sign-shown (codes "-") s.Minus refl refl (λ x. refl) refl refl

pub star-shown : IsShown (codes "*") (λ ss. bare s.Star ∷ ss)
unfolding step is_pn is_pn_u is_pn_base lib.Utf8.encode
star-shown = sign-shown (codes "*") s.Star refl refl (λ x. refl) refl refl

pub slash-shown : IsShown (codes "/") (λ ss. bare s.Slash ∷ ss)
unfolding step is_pn is_pn_u is_pn_base lib.Utf8.encode
slash-shown = sign-shown (codes "/") s.Slash refl refl (λ x. refl) refl refl

pub equal-shown : IsShown (codes "=") (λ ss. bare s.Equal ∷ ss)
unfolding step is_pn is_pn_u is_pn_base lib.Utf8.encode
equal-shown = sign-shown (codes "=") s.Equal refl refl (λ x. refl) refl refl

pub unequal-shown : IsShown (codes "!=") (λ ss. bare s.Unequal ∷ ss)
unfolding step is_pn is_pn_u is_pn_base lib.Utf8.encode
unequal-shown = sign-shown (codes "!=") s.Unequal refl refl (λ x. refl) refl refl

pub less-shown : IsShown (codes "<") (λ ss. bare s.Less ∷ ss)
unfolding step is_pn is_pn_u is_pn_base lib.Utf8.encode
less-shown = sign-shown (codes "<") s.Less refl refl (λ x. refl) refl refl

pub greater-shown : IsShown (codes ">") (λ ss. bare s.Greater ∷ ss)
unfolding step is_pn is_pn_u is_pn_base lib.Utf8.encode
greater-shown = sign-shown (codes ">") s.Greater refl refl (λ x. refl) refl refl

pub at_most-shown : IsShown (codes "<=") (λ ss. bare s.AtMost ∷ ss)
unfolding step is_pn is_pn_u is_pn_base lib.Utf8.encode
at_most-shown = sign-shown (codes "<=") s.AtMost refl refl (λ x. refl) refl refl

pub at_least-shown : IsShown (codes ">=") (λ ss. bare s.AtLeast ∷ ss)
unfolding step is_pn is_pn_u is_pn_base lib.Utf8.encode
at_least-shown = sign-shown (codes ">=") s.AtLeast refl refl (λ x. refl) refl refl

pub op-shown : (op : CompareOp) → IsShown (op_text op) (λ ss. bare (op_shape op) ∷ ss)
op-shown ops.Eq = equal-shown
op-shown ops.Ne = unequal-shown
op-shown ops.Lt = less-shown
op-shown ops.Gt = greater-shown
op-shown ops.Le = at_most-shown
op-shown ops.Ge = at_least-shown

pub sum_sign-shown : (inverse : Bool) → IsShown (sum_sign inverse) (λ ss. bare (sum_shape inverse) ∷ ss)
sum_sign-shown true = minus-shown
sum_sign-shown false = plus-shown

pub product_sign-shown : (inverse : Bool) → IsShown (product_sign inverse) (λ ss. bare (product_shape inverse) ∷ ss)
product_sign-shown true = slash-shown
product_sign-shown false = star-shown

pub in-shown : IsShown (codes "IN") (λ ss. bare s.In ∷ ss)
unfolding lib.Utf8.encode
in-shown = word-shown (codes "IN") s.In refl (refl, refl) refl refl refl

pub not-shown : IsShown (codes "NOT") (λ ss. bare s.Not ∷ ss)
unfolding lib.Utf8.encode
not-shown = word-shown (codes "NOT") s.Not refl (refl, refl) refl refl refl

pub distinct-shown : IsShown (codes "DISTINCT") (λ ss. bare s.Distinct ∷ ss)
unfolding lib.Utf8.encode
distinct-shown = word-shown (codes "DISTINCT") s.Distinct refl (refl, refl) refl refl refl

pub function-shown : (f : Function) → IsShown (function_text f) (λ ss. bare (s.Function f) ∷ ss)
unfolding lib.Utf8.encode
function-shown functions.Bound = word-shown (function_text functions.Bound) (s.Function functions.Bound) refl (refl, refl) refl refl refl
function-shown functions.SameTerm = word-shown (function_text functions.SameTerm) (s.Function functions.SameTerm) refl (refl, refl) refl refl refl
function-shown functions.IsIri = word-shown (function_text functions.IsIri) (s.Function functions.IsIri) refl (refl, refl) refl refl refl
function-shown functions.IsBlank = word-shown (function_text functions.IsBlank) (s.Function functions.IsBlank) refl (refl, refl) refl refl refl
function-shown functions.IsLiteral = word-shown (function_text functions.IsLiteral) (s.Function functions.IsLiteral) refl (refl, refl) refl refl refl
function-shown functions.IsNumeric = word-shown (function_text functions.IsNumeric) (s.Function functions.IsNumeric) refl (refl, refl) refl refl refl
function-shown functions.If = word-shown (function_text functions.If) (s.Function functions.If) refl (refl, refl) refl refl refl
function-shown functions.Coalesce = word-shown (function_text functions.Coalesce) (s.Function functions.Coalesce) refl (refl, refl) refl refl refl
function-shown functions.Str = word-shown (function_text functions.Str) (s.Function functions.Str) refl (refl, refl) refl refl refl
function-shown functions.Lang = word-shown (function_text functions.Lang) (s.Function functions.Lang) refl (refl, refl) refl refl refl
function-shown functions.Datatype = word-shown (function_text functions.Datatype) (s.Function functions.Datatype) refl (refl, refl) refl refl refl
function-shown functions.StrLen = word-shown (function_text functions.StrLen) (s.Function functions.StrLen) refl (refl, refl) refl refl refl
function-shown functions.StrStarts = word-shown (function_text functions.StrStarts) (s.Function functions.StrStarts) refl (refl, refl) refl refl refl
function-shown functions.StrEnds = word-shown (function_text functions.StrEnds) (s.Function functions.StrEnds) refl (refl, refl) refl refl refl
function-shown functions.Contains = word-shown (function_text functions.Contains) (s.Function functions.Contains) refl (refl, refl) refl refl refl
function-shown functions.Concat = word-shown (function_text functions.Concat) (s.Function functions.Concat) refl (refl, refl) refl refl refl
function-shown functions.Abs = word-shown (function_text functions.Abs) (s.Function functions.Abs) refl (refl, refl) refl refl refl

pub aggregate-shown : (k : AggregateKind) → IsShown (aggregate_text k) (λ ss. bare (s.Aggregate k) ∷ ss)
unfolding lib.Utf8.encode
aggregate-shown aggregates.Count = word-shown (aggregate_text aggregates.Count) (s.Aggregate aggregates.Count) refl (refl, refl) refl refl refl
aggregate-shown aggregates.Sum = word-shown (aggregate_text aggregates.Sum) (s.Aggregate aggregates.Sum) refl (refl, refl) refl refl refl
aggregate-shown aggregates.Avg = word-shown (aggregate_text aggregates.Avg) (s.Aggregate aggregates.Avg) refl (refl, refl) refl refl refl
aggregate-shown aggregates.Min = word-shown (aggregate_text aggregates.Min) (s.Aggregate aggregates.Min) refl (refl, refl) refl refl refl
aggregate-shown aggregates.Max = word-shown (aggregate_text aggregates.Max) (s.Aggregate aggregates.Max) refl (refl, refl) refl refl refl
