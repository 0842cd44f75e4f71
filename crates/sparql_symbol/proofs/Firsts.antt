-- The first token that is not answered, and the deepest nesting.
use Rattle.std.proofs.Common.{◌≡◌, ◌∙◌, inl, inr, ◌≤◌, ◌<◌, ℕ, max, Bool, true, false, cond, List, [], ◌∷◌, ◌++◌, Option, Some, None, get_or, drop, refl, sym, ap, arith}
use Rattle.std.specs.Prelude.{◌||◌}
use Rattle.std.proofs.lemmas.Bool.{cases_lt}
use Rattle.term_core.specs.declared.token.Kind.{Kind}
use Rattle.term_core.specs.declared.token.Kind.TheVariants as kinds
use Rattle.sparql_tree.specs.Unsupported.{Before}
use Rattle.sparql_tree.specs.Symbols.{Lexeme}
use Rattle.sparql_tree.specs.Unsupported.{before, before_next, is_unsupported_of, first_unsupported, first_unsupported_from, open_behind, deepest, deepest_from}
use Rattle.sparql_symbol.proofs.Nestings.{deepest-least}
use Rattle.sparql_symbol.specs.Firsts.{is_select, has_select, is_count, ends_in_count, is_unsupported_behind, AreAnswered, FindsFirst, open_after, IsDeepest}

-- ---- what has come before, token by token

after : Before → List Lexeme → Before
after b [] = b
after b (l ∷ ls) = after (before_next b l.kind l.text) ls

or-none : (t : Bool) → (t || false) ≡ t
or-none true = refl
or-none false = refl

or-assoc : (t u v : Bool) → ((t || u) || v) ≡ (t || (u || v))
or-assoc true u v = refl
or-assoc false u v = refl

next-is : (b : Before) (kind : Kind) (text : List ℕ) → before_next b kind text ≡ before (b.select || is_select kind text) (is_count kind text)
next-is b kinds.Word text = refl
next-is b _ text = ap (λ t. before t false) (sym (or-none b.select))

after-is : (b : Before) (front : List Lexeme) → after b front ≡ before (b.select || has_select front) (ends_in_count b.count front)
unfolding after
after-is b [] = ap (λ t. before t b.count) (sym (or-none b.select))
after-is b (l ∷ ls) =
    ap (λ c. after c ls) (next-is b l.kind l.text)
    ∙ (after-is (before (b.select || is_select l.kind l.text) (is_count l.kind l.text)) ls
    ∙ ap (λ t. before t (ends_in_count (is_count l.kind l.text) ls)) (or-assoc b.select (is_select l.kind l.text) (has_select ls)))

abbrev test : Before → Lexeme → Bool
test b l = is_unsupported_of b l.kind l.text

behind-is : (front : List Lexeme) (l : Lexeme) → test (after (before false false) front) l ≡ is_unsupported_behind front l
behind-is front l = ap (λ b. test b l) (after-is (before false false) front)

-- ---- lists that are cut

none-cut : {A : Type 0} (front : List Lexeme) (l : Lexeme) (rest : List Lexeme) → [] ≡ front ++ l ∷ rest → A
none-cut [] l rest e = absurd cc
none-cut (k ∷ front) l rest e = absurd cc

-- each token is answered, from here on
Answered : Before → List Lexeme → Type 0
Answered b ls = (front : List Lexeme) (l : Lexeme) (rest : List Lexeme) → ls ≡ front ++ l ∷ rest → test (after b front) l ≡ false

answered-nil : (b : Before) → Answered b []
unfolding Answered
answered-nil b front l rest e = none-cut front l rest e

answered-cons : (b : Before) (k : Lexeme) (ls : List Lexeme) → test b k ≡ false → Answered (before_next b k.kind k.text) ls → Answered b (k ∷ ls)
unfolding Answered after
answered-cons b k ls h more [] l rest e = let same : k ≡ l = ap (λ all. get_or all 0 k) e in ap (test b) (sym same) ∙ h
answered-cons b k ls h more (m ∷ front) l rest e =
    let same : k ≡ m = ap (λ all. get_or all 0 k) e in
    let left : ls ≡ front ++ l ∷ rest = ap (drop 1) e in
    ap (λ (n : Lexeme). test (after (before_next b n.kind n.text) front) l) (sym same) ∙ more front l rest left

record First (b : Before) (ls : List Lexeme) (what : List ℕ) : Type 0 where
  front : List Lexeme
  token : Lexeme
  rest : List Lexeme
  spelled : ls ≡ front ++ token ∷ rest
  text : token.text ≡ what
  unsupported : test (after b front) token ≡ true
  first : Answered b front

abbrev Finds : Before → List Lexeme → Option (List ℕ) → Type 0
Finds b ls None = Answered b ls
Finds b ls (Some what) = First b ls what

finds-here : (b : Before) (l : Lexeme) (ls : List Lexeme) → test b l ≡ true → First b (l ∷ ls) l.text
unfolding after
finds-here b l ls h = record { front = []; token = l; rest = ls; spelled = refl; text = refl; unsupported = h; first = answered-nil b }

finds-later : (b : Before) (l : Lexeme) (ls : List Lexeme) (o : Option (List ℕ)) → test b l ≡ false → Finds (before_next b l.kind l.text) ls o → Finds b (l ∷ ls) o
unfolding after
finds-later b l ls None h more = answered-cons b l ls h more
finds-later b l ls (Some what) h more = record {
  front = l ∷ more.front;
  token = more.token;
  rest = more.rest;
  spelled = ap (λ all. l ∷ all) more.spelled;
  text = more.text;
  unsupported = more.unsupported;
  first = answered-cons b l more.front h more.first;
}

finds-from : (b : Before) (ls : List Lexeme) → Finds b ls (first_unsupported_from b ls)
finds-from b [] = answered-nil b
finds-from b (l ∷ ls) = go (test b l) refl (finds-from (before_next b l.kind l.text) ls)
  where
    go : (t : Bool) → test b l ≡ t → Finds (before_next b l.kind l.text) ls (first_unsupported_from (before_next b l.kind l.text) ls)
        → Finds b (l ∷ ls) (cond t (Some l.text) (first_unsupported_from (before_next b l.kind l.text) ls))
    go true e more = finds-here b l ls e
    go false e more = finds-later b l ls (first_unsupported_from (before_next b l.kind l.text) ls) e more

answered-is : (ls : List Lexeme) → Answered (before false false) ls → AreAnswered ls
unfolding Answered
answered-is ls h front l rest e = sym (behind-is front l) ∙ h front l rest e

finds-is : (ls : List Lexeme) (o : Option (List ℕ)) → Finds (before false false) ls o → FindsFirst ls o
finds-is ls None h = answered-is ls h
finds-is ls (Some what) h = record {
  front = h.front;
  token = h.token;
  rest = h.rest;
  spelled = h.spelled;
  text = h.text;
  unsupported = sym (behind-is h.front h.token) ∙ h.unsupported;
  first = answered-is h.front h.first;
}

-- the token that is found is the first that is not answered
pub finds-first : (ls : List Lexeme) → FindsFirst ls (first_unsupported ls)
finds-first ls = finds-is ls (first_unsupported ls) (finds-from (before false false) ls)

-- ---- nesting

record Reached (n : ℕ) (ls : List Lexeme) : Type 0 where
  front : List Lexeme
  rest : List Lexeme
  spelled : ls ≡ front ++ rest
  there : open_after n front ≡ deepest_from n ls

reached-by : (n : ℕ) (l : Lexeme) (ls : List Lexeme) → Reached (open_behind n l.kind l.text) ls → Reached n (l ∷ ls)
reached-by n l ls r = elim (cases_lt (deepest_from (open_behind n l.kind l.text) ls) n) [
  | inl less ↦ record { front = []; rest = l ∷ ls; spelled = refl; there = here less }
  | inr more ↦ record { front = l ∷ r.front; rest = r.rest; spelled = ap (λ all. l ∷ all) r.spelled; there = r.there ∙ later more }
]
  where
    here : deepest_from (open_behind n l.kind l.text) ls < n → n ≡ max n (deepest_from (open_behind n l.kind l.text) ls)
    here less = omega arith

    later : n ≤ deepest_from (open_behind n l.kind l.text) ls
        → deepest_from (open_behind n l.kind l.text) ls ≡ max n (deepest_from (open_behind n l.kind l.text) ls)
    later more = omega arith

reached : (n : ℕ) (ls : List Lexeme) → Reached n ls
reached n [] = record { front = []; rest = []; spelled = refl; there = refl }
reached n (l ∷ ls) = reached-by n l ls (reached (open_behind n l.kind l.text) ls)

most-next : (n : ℕ) (l k : Lexeme) (ls some : List Lexeme) → l ≡ k
    → open_after (open_behind n l.kind l.text) some ≤ deepest_from (open_behind n l.kind l.text) ls
    → open_after (open_behind n k.kind k.text) some ≤ max n (deepest_from (open_behind n l.kind l.text) ls)
most-next n l k ls some e h =
    let same : open_after (open_behind n l.kind l.text) some ≡ open_after (open_behind n k.kind k.text) some = ap (λ (m : Lexeme). open_after (open_behind n m.kind m.text) some) e in
    omega (arith, same, h)

most-from : (n : ℕ) (ls some others : List Lexeme) → ls ≡ some ++ others → open_after n some ≤ deepest_from n ls
most-from n ls [] others e = deepest-least n ls
most-from n [] (k ∷ some) others e = absurd cc
most-from n (l ∷ ls) (k ∷ some) others e =
    most-next n l k ls some (ap (λ all. get_or all 0 l) e) (most-from (open_behind n l.kind l.text) ls some others (ap (drop 1) e))

-- the deepest is reached, and is the most
pub deepest-is : (ls : List Lexeme) → IsDeepest ls (deepest ls)
deepest-is ls =
    let r = reached 0 ls in
    record { front = r.front; rest = r.rest; spelled = r.spelled; open_there = r.there; most = most-from 0 ls }
