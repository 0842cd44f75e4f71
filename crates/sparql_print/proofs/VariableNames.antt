-- A variable's name has no colon, so it is no label of a blank node.
use Rattle.std.proofs.Common.{◌≡◌, ◌≤◌, ℕ, Bool, true, false, not, List, [], ◌∷◌, inl, inr, refl, subst, arith, encode_utf8_all}
use Rattle.std.proofs.Math.Utf8.{encode}
use Rattle.std.proofs.lemmas.Bool.{cases_lt}
use Rattle.std.proofs.lemmas.Bool.Decides.{nat_tests}
use Rattle.std.proofs.lemmas.Str.{encode_ascii}
use Rattle.std.specs.Prelude.{◌==◌}
use Rattle.term_core.specs.Bags.{In}
use Rattle.term_core.specs.Characters.{AreAll, is_pn_u, is_pn_base}
use Rattle.term_core.specs.Mappings.{Name}
use Rattle.term_core.specs.Terminals.{is_query_label_first, is_variable_part}
use Rattle.sparql_lex.proofs.Bools.{other_than, all-first, all-append}
use Rattle.nt_text.proofs.Cut.{wide_bytes}
use Rattle.sparql_tree.specs.Bgp.{is_variable}
use Rattle.sparql_tree.proofs.Visible.{apart}
use Rattle.sparql_print.specs.Spelled.{IsSpelledName}

-- no colon
abbrev is_other : ℕ → Bool
is_other c = not (c == 58)

first-colon : is_query_label_first 58 ≡ false
unfolding is_pn_u is_pn_base
first-colon = refl

part-colon : is_variable_part 58 ≡ false
unfolding is_pn_u is_pn_base
part-colon = refl

-- what is of a class without the colon is no colon
is_other-of : (p : ℕ → Bool) (c : ℕ) → p c ≡ true → p 58 ≡ false → is_other c ≡ true
is_other-of p c h out = rw (other_than p c 58 h out) refl

-- its bytes are none either
byte-other : (c : ℕ) → is_other c ≡ true → AreAll is_other (encode c)
byte-other c h = elim (cases_lt c 128) [
  | inl small ↦ rw (encode_ascii c small) (rw h refl)
  | inr large ↦ wide_bytes is_other large-other c large
]
  where
    large-other : (b : ℕ) → 128 ≤ b → is_other b ≡ true
    large-other b high = grind (arith, nat_tests)

bytes-other : (p : ℕ → Bool) (cs : List ℕ) → p 58 ≡ false → AreAll p cs → AreAll is_other (encode_utf8_all cs)
bytes-other p [] out h = refl
bytes-other p (c ∷ cs) out h =
    let all = all-first p c cs h in all-append is_other (encode c) (encode_utf8_all cs) (byte-other c (is_other-of p c all.0 out)) (bytes-other p cs out all.1)

no_colon : (bytes : List ℕ) → AreAll is_other bytes → In bytes 58 → ⊥
no_colon [] h i = absurd i
no_colon (b ∷ bytes) h (inl e) = let colon : false ≡ true = subst (λ c. is_other c ≡ true) e (all-first is_other b bytes h).0 in absurd (cc)
no_colon (b ∷ bytes) h (inr i) = no_colon bytes (all-first is_other b bytes h).1 i

pub spelled-variable : (name : Name) → IsSpelledName name → is_variable name ≡ true
spelled-variable name h =
    let first : AreAll is_other (encode h.first) = byte-other h.first (is_other-of is_query_label_first h.first h.is_first first-colon) in
    let more : AreAll is_other (encode_utf8_all h.more) = bytes-other is_variable_part h.more part-colon h.are_parts in
    apart.variable name (no_colon name (subst (AreAll is_other) h.is_text.encoded (all-append is_other (encode h.first) (encode_utf8_all h.more) first more)))
