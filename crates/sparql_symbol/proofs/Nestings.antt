-- How deep the tokens nest.
use Rattle.std.proofs.Common.{◌≡◌, ◌≤◌, ◌<◌, ℕ, suc, max, true, nat_lt, List, [], ◌∷◌, length, drop, get_or, drop-cons, subst, ap, ◌∙◌, arith}
use Rattle.std.specs.List.{slice_range}
use Rattle.term_core.specs.declared.token.Token.{Token}
use Rattle.std.proofs.lemmas.Bool.Decides.{nat_tests}
use Rattle.sparql_tree.specs.Symbols.{Lexeme, lexeme, lexemes}
use Rattle.sparql_tree.specs.Unsupported.{open_behind, deepest_from}

-- no fewer than are open at first
pub deepest-least : (n : ℕ) (ls : List Lexeme) → n ≤ deepest_from n ls
deepest-least n [] = omega arith
deepest-least n (l ∷ ls) = omega arith

-- too many are open behind the first token
pub too-deep : (n : ℕ) (l : Lexeme) (ls : List Lexeme) → 256 < open_behind n l.kind l.text → nat_lt 256 (deepest_from n (l ∷ ls)) ≡ true
too-deep n l ls h =
    let least = deepest-least (open_behind n l.kind l.text) ls in
    let deep : 256 < max n (deepest_from (open_behind n l.kind l.text) ls) = omega (arith, least, h) in
    grind (arith, nat_tests)

-- too many are open behind the token at this place
pub too-deep-at : (text : List ℕ) (ts : List Token) (i n m : ℕ) (d : Token) (written : List ℕ) → i < length ts → 256 < m
    → m ≡ open_behind n (get_or ts i d).kind written → written ≡ slice_range text (get_or ts i d).from (get_or ts i d).to
    → nat_lt 256 (deepest_from n (lexemes text (drop i ts))) ≡ true
too-deep-at text ts i n m d written fits deep is same =
    let open' : m ≡ open_behind n (get_or ts i d).kind (slice_range text (get_or ts i d).from (get_or ts i d).to) = is ∙ ap (open_behind n (get_or ts i d).kind) same in
    rw (drop-cons ts i d) (too-deep n (lexeme text (get_or ts i d)) (lexemes text (drop (suc i) ts)) (subst (λ k. 256 < k) open' deep))
