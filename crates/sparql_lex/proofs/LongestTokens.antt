-- What is found at the front of a text is its longest token.
use Rattle.std.proofs.Common.{◌≡◌, ℕ, ◌≤◌, ◌<◌, true, false, List, [], ◌∷◌, ◌++◌, length, None, refl, sym, ap, ◌∙◌, arith}
use Rattle.std.specs.Prelude.{codes}
use Rattle.term_core.specs.Characters.{is_pn_base}
use Rattle.term_core.specs.Terminals.{IsToken}
use Rattle.term_core.specs.Tokens.{IsLongest, is_space}
use Rattle.term_core.specs.declared.token.Kind.{Kind}
use Rattle.sparql_lex.specs.declared.state.State.TheVariants.{Start}
use Rattle.sparql_lex.specs.Steps.{step}
use Rattle.sparql_lex.specs.Scan.{longest}
use Rattle.sparql_lex.proofs.Bools.{among, false_of}
use Rattle.sparql_lex.proofs.Reading.{reads, longest-covers, longest-begins, found_at, same-kind}
use Rattle.sparql_lex.proofs.KindStates.{token-read, read-token}

-- the text begins with this kind of token, of so many characters, as its longest
pub record BeginsLongest (text : List ℕ) (kind : Kind) (n : ℕ) : Type 0 where
  pub front : List ℕ
  pub rest : List ℕ
  pub is : text ≡ front ++ rest
  pub len : length front ≡ n
  pub longest : IsLongest kind front rest

pub longest-found : (text : List ℕ) (kind : Kind) (n : ℕ) → longest text ≡ found_at kind n → BeginsLongest text kind n
longest-found text kind n h =
    let b = longest-begins text kind n h in
    record {
      front = b.front;
      rest = b.rest;
      is = b.is;
      len = omega (arith, b.place);
      longest = record {
        token = read-token b.front kind b.read;
        longest = λ other longer behind t e.
            let k = longest-covers longer behind other (token-read other longer t) in
            let s = same-kind k.kind_found kind k.length_found n (sym k.is ∙ (ap longest (e ∙ sym b.is) ∙ h)) in
            omega (arith, k.long, s.1, b.place);
      };
    }

pub longest-none : (text : List ℕ) → longest text ≡ None → (kind : Kind) (front rest : List ℕ) → IsToken kind front → front ++ rest ≡ text → ⊥
longest-none text h kind front rest t e =
    let k = longest-covers front rest kind (token-read kind front t) in
    let one = sym k.is ∙ (ap longest e ∙ h) in
    absurd (cc)

pub longest-is : (kind : Kind) (front rest : List ℕ) → IsLongest kind front rest → longest (front ++ rest) ≡ found_at kind (length front)
longest-is kind front rest h =
    let k = longest-covers front rest kind (token-read kind front h.token) in
    let b = longest-begins (front ++ rest) k.kind_found k.length_found k.is in
    let low : length b.front ≤ length front = h.longest k.kind_found b.front b.rest (read-token b.front k.kind_found b.read) (sym b.is) in
    let place : k.length_found ≡ length front = omega (arith, k.long, b.place) in
    let kinds : k.kind_found ≡ kind = k.same place in
    k.is ∙ (ap (λ v. found_at v k.length_found) kinds ∙ ap (λ v. found_at kind v) place)

-- a token is of one character at least
pub some-token : (kind : Kind) (front : List ℕ) → IsToken kind front → 0 < length front
some-token kind [] h = let r = token-read kind [] h in absurd (cc)
some-token kind (c ∷ front) h = omega arith

space-none : (c : ℕ) (text : List ℕ) → is_space c ≡ true → reads (c ∷ text) Start ≡ None
unfolding step is_pn_base
space-none c text h = among (λ v. reads (v ∷ text) Start ≡ None) (codes " \t\n\r") c (refl, (refl, (refl, (refl, tt)))) h

comment-none : (text : List ℕ) → reads (35 ∷ text) Start ≡ None
unfolding step is_pn_base
comment-none text = refl

-- and begins with no space and no comment
pub token-no_space : (kind : Kind) (c : ℕ) (text : List ℕ) → IsToken kind (c ∷ text) → is_space c ≡ false
token-no_space kind c text h = false_of (is_space c) (λ e. let r = sym (space-none c text e) ∙ token-read kind (c ∷ text) h in absurd (cc))

pub token-no_comment : (kind : Kind) (c : ℕ) (text : List ℕ) → IsToken kind (c ∷ text) → c ≡ 35 → ⊥
token-no_comment kind c text h e =
    let r = sym (comment-none text) ∙ (ap (λ v. reads (v ∷ text) Start) (sym e) ∙ token-read kind (c ∷ text) h) in absurd (cc)
