-- A text has tokens or a place where none begins, and one of them.
use Rattle.std.proofs.Common.{◌≡◌, ◌⊎◌, inl, inr, ℕ, suc, Bool, true, false, List, [], length, refl, sym, ap, ◌∙◌, arith}
use Rattle.std.specs.Prelude.{IsUtf8}
use Rattle.std.specs.Str.{chars, is_utf8}
use Rattle.std.specs.Str.Lossy.{utf8_valid_len}
use Rattle.std.proofs.lemmas.Str.{IsUtf8-from_is_utf8, is_utf8-from_IsUtf8}
use Rattle.term_core.specs.declared.token.Kind.{Kind}
use Rattle.term_core.specs.declared.token.Token.{Token}
use Rattle.term_core.specs.Terminals.{IsToken}
use Rattle.term_core.specs.Tokens.{Tokens, FaultAt, StopsAt, Lexes}
use Rattle.sparql_lex.proofs.Cutting.{Cutting, Outcome, Ended, one-outcome, cut-always}
use Rattle.sparql_lex.proofs.KindStates.{token-read}

abbrev whole : (text : List ℕ) (ts : List Token) → Tokens text ts → Cutting 0 (chars text)
whole text ts t = record { ts = ts; end = t.end; rest = []; whole = true; lexed = t.lexed; ended = refl }

abbrev part : (text : List ℕ) (at : ℕ) → StopsAt text at → Cutting 0 (chars text)
part text at s = record { ts = s.ts; end = at; rest = s.rest; whole = false; lexed = s.lexed; ended = s.stuck }

pub one-tokens : (text : List ℕ) (a b : List Token) → Tokens text a → Tokens text b → a ≡ b
one-tokens text a b h k = ap (λ (o : Outcome). o.ts) (one-outcome 0 (chars text) (whole text a h) (whole text b k))

pub one-fault : (text : List ℕ) (a b : ℕ) → FaultAt text a → FaultAt text b → a ≡ b
one-fault text a b (inl h) (inl k) = h.1 ∙ sym k.1
one-fault text a b (inl h) (inr k) = absurd (h.0 k.utf8)
one-fault text a b (inr h) (inl k) = absurd (k.0 h.utf8)
one-fault text a b (inr h) (inr k) = ap (λ (o : Outcome). o.end) (one-outcome 0 (chars text) (part text a h) (part text b k))

pub not-both : (text : List ℕ) (ts : List Token) (at : ℕ) → Tokens text ts → FaultAt text at → ⊥
not-both text ts at t (inl h) = h.0 t.utf8
not-both text ts at t (inr s) =
    let e : true ≡ false = ap (λ (o : Outcome). o.whole) (one-outcome 0 (chars text) (whole text ts t) (part text at s)) in absurd (cc)

pub always : (text : List ℕ) → ((ts : List Token) × Tokens text ts) ⊎ ((at : ℕ) × FaultAt text at)
always text = go (is_utf8 text) refl
  where
    cut : (utf8 : IsUtf8 text) (c : Cutting 0 (chars text)) (b : Bool) → Ended b c.rest → ((ts : List Token) × Tokens text ts) ⊎ ((at : ℕ) × FaultAt text at)
    cut utf8 c true e = inl (c.ts, record { utf8 = utf8; end = c.end; lexed = ended c e })
      where
        ended : (c : Cutting 0 (chars text)) → c.rest ≡ [] → Lexes 0 (chars text) c.ts c.end []
        ended c e = rw (← e) c.lexed
    cut utf8 c false e = inr (c.end, inr (record { utf8 = utf8; ts = c.ts; rest = c.rest; lexed = c.lexed; stuck = e }))

    go : (t : Bool) → is_utf8 text ≡ t → ((ts : List Token) × Tokens text ts) ⊎ ((at : ℕ) × FaultAt text at)
    go true e = let utf8 = IsUtf8-from_is_utf8 text e in let c = cut-always (suc (length (chars text))) 0 (chars text) (omega arith) in cut utf8 c c.whole c.ended
    go false e = inr (utf8_valid_len text, inl ((λ h. let yes = is_utf8-from_IsUtf8 text h in absurd (cc)), refl))

pub one-kind : (text : List ℕ) (a b : Kind) → IsToken a text → IsToken b text → a ≡ b
one-kind text a b h k = let e = sym (token-read a text h) ∙ token-read b text k in cc
