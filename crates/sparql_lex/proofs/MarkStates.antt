-- What the states of signs read.
use Rattle.std.proofs.Common.{◌≡◌, ◌⊎◌, inl, inr, ℕ, Bool, true, false, List, [], ◌∷◌, Some, refl, sym, subst}
use Rattle.std.specs.Prelude.{◌==◌, ◌&&◌}
use Rattle.term_core.specs.declared.token.Kind.{Kind}
use Rattle.term_core.specs.declared.token.Kind.TheVariants as kinds
use Rattle.sparql_lex.specs.declared.state.State.TheVariants as states
use Rattle.std.specs.List.{list_any}
use Rattle.term_core.specs.Bags.{In}
use Rattle.term_core.specs.Characters.{is_pn_base}
use Rattle.term_core.specs.Terminals.{signs}
use Rattle.sparql_lex.specs.declared.state.Mark.{Mark}
use Rattle.sparql_lex.specs.declared.state.Mark.TheVariants as marks
use Rattle.sparql_lex.specs.Steps.{step, mark_rows}
use Rattle.sparql_lex.proofs.Bools.{both, either, same}
use Rattle.sparql_lex.proofs.NameStates.{some_kind}
use Rattle.sparql_lex.proofs.Reading.{reads, read-cases}

-- equal lists, as a test
abbrev pub same_text : List ℕ → List ℕ → Bool
same_text [] [] = true
same_text [] (d ∷ b) = false
same_text (c ∷ a) [] = false
same_text (c ∷ a) (d ∷ b) = (c == d) && same_text a b

texts-same : (a b : List ℕ) → same_text a b ≡ true → a ≡ b
texts-same [] [] h = refl
texts-same [] (d ∷ b) h = absurd (cc)
texts-same (c ∷ a) [] h = absurd (cc)
texts-same (c ∷ a) (d ∷ b) h = let e = both (c == d) (same_text a b) h in let head : c ≡ d = same c d e.0 in let tail = texts-same a b e.1 in cc

is_in : (all : List (List ℕ)) (text : List ℕ) → list_any (λ sign. same_text sign text) all ≡ true → In all text
is_in [] text h = absurd (cc)
is_in (sign ∷ all) text h = elim (either (same_text sign text) (list_any (λ s. same_text s text) all) h) as (λ _. In (sign ∷ all) text)
    [ inl e ↦ inl (texts-same sign text e) | inr e ↦ inr (is_in all text e) ]

-- one of the signs, by a test that computes
pub is_sign : (text : List ℕ) → list_any (λ sign. same_text sign text) signs ≡ true → In signs text
is_sign text h = is_in signs text h

abbrev EachSign : (List ℕ → Type 0) → List (List ℕ) → Type 0
EachSign P [] = Unit {0}
EachSign P (text ∷ all) = P text × EachSign P all

in-each : (P : List ℕ → Type 0) (all : List (List ℕ)) (text : List ℕ) → EachSign P all → In all text → P text
in-each P [] text each h = elim h [ ]
in-each P (sign ∷ all) text each (inl e) = subst P e each.0
in-each P (sign ∷ all) text each (inr h) = in-each P all text each.1 h

pub sign-read : (text : List ℕ) → In signs text → reads text states.Start ≡ Some kinds.Sign
unfolding step is_pn_base
sign-read text h = in-each (λ v. reads v states.Start ≡ Some kinds.Sign) signs text
    ((refl, (refl, (refl, (refl, (refl, (refl, (refl, (refl, (refl, (refl, (refl, (refl, (refl, (refl, (refl, (refl, (refl, (refl, (refl, (refl, (refl, (refl, (refl, (refl, (refl, (refl, tt))))))))))))))))))))))))))) h

-- what may follow in each state
abbrev pub MarkTail : Mark → Kind → List ℕ → Type 0
MarkTail (marks.First alone second) kind text = (kind ≡ kinds.Sign) × (((alone ≡ true) × (text ≡ [])) ⊎ (text ≡ second ∷ []))
MarkTail marks.End kind text = (kind ≡ kinds.Sign) × (text ≡ [])

second-mark : (c second : ℕ) (text : List ℕ) (alone : Bool) (kind : Kind) → (c == second) ≡ true → MarkTail marks.End kind text → MarkTail (marks.First alone second) kind (c ∷ text)
second-mark c second text alone kind h t =
    let head : c ≡ second = same c second h in
    let tail : text ≡ [] = t.1 in
    (t.0, inr (cc))

pub mark-sound : (text : List ℕ) (mark : Mark) (kind : Kind) → reads text (states.Mark mark) ≡ Some kind → MarkTail mark kind text
unfolding step
mark-sound [] (marks.First true second) kind h = (some_kind kinds.Sign kind h, inl (refl, refl))
mark-sound [] (marks.First false second) kind h = absurd (cc)
mark-sound [] marks.End kind h = (some_kind kinds.Sign kind h, refl)
mark-sound (c ∷ text) (marks.First alone second) kind h =
    read-cases (mark_rows (marks.First alone second) c) text kind (MarkTail (marks.First alone second) kind (c ∷ text))
    (λ t r. second-mark c second text alone kind t (mark-sound text marks.End kind r), tt) h
mark-sound (c ∷ text) marks.End kind h = absurd (cc)

-- a mark that stands alone, and two of them
pub mark-token : (c second : ℕ) (alone : Bool) (text : List ℕ) → (alone ≡ true → In signs (c ∷ [])) → In signs (c ∷ second ∷ [])
    → ((alone ≡ true) × (text ≡ [])) ⊎ (text ≡ second ∷ []) → In signs (c ∷ text)
mark-token c second alone text one two (inl h) = subst (λ v. In signs (c ∷ v)) (sym h.1) (one h.0)
mark-token c second alone text one two (inr h) = subst (λ v. In signs (c ∷ v)) (sym h) two
