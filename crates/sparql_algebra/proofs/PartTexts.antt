-- What the reader of symbols says of the size of a text, and parts that were looked at.
use Rattle.std.proofs.Common.{◌≡◌, ◌≤◌, ◌<◌, ◌+◌, ℕ, Bool, true, false, Option, Some, None, List, [], ◌∷◌, ◌⊎◌, inl, inr, ◌++◌, length, take, drop, refl, subst, sym, ap, arith}
use Rattle.std.specs.Prelude.{Result, Ok, Err, IfOk, map}
use Rattle.std.specs.Result.{result_ok}
use Rattle.std.proofs.lemmas.List.{map-append}
use Rattle.term_core.specs.declared.text.Memory.{Memory}
use Rattle.term_core.specs.Bags.{In}
use Rattle.term_core.proofs.Bags.{In-append_left, In-append_right, In-append_cases, In-map}
use Rattle.sparql_algebra.specs.Cuts.{PartOf}
use Rattle.sparql_tree.specs.declared.symbol.Symbol.{Symbol}
use Rattle.sparql_tree.specs.Refusals.{AreSymbols, WhyNoSymbols}
use Rattle.sparql_tree.specs.declared.fault.QueryFault.{QueryFault}
use Rattle.sparql_tree.specs.declared.fault.QueryFault.TheVariants as faults
use Rattle.sparql_tree.specs.declared.fault.Size.TheVariants as sizes
use Rattle.sparql_read.proofs.Laws.{not-both-answers}
use Rattle.sparql_algebra.specs.Prepared.{IsTooLarge, TellsLarge, PartsFit, HasLarge, is_size}
use Rattle.sparql_algebra.proofs.Accepting.{not_large}

pub symbols_fit : (text : List ℕ) (symbols : List Symbol) → AreSymbols text symbols → TellsLarge text false
symbols_fit text symbols h large = elim large [
  | inl long ↦ omega (arith, h.tokens.small, long)
  | inr deep ↦ not-both-answers text symbols (faults.TooLarge sizes.Nesting) h deep
]

yes : (text : List ℕ) (large : Bool) → IsTooLarge text → Some true ≡ Some large → TellsLarge text large
yes text true h e = h
yes text false h e = absurd cc

no : (text : List ℕ) (large : Bool) → (IsTooLarge text → ⊥) → Some false ≡ Some large → TellsLarge text large
no text true h e = absurd cc
no text false h e = h

pub refusal_tells : (text : List ℕ) (fault : QueryFault) (large : Bool) → WhyNoSymbols text fault → is_size fault ≡ Some large → TellsLarge text large
refusal_tells text (faults.TooLarge sizes.Text) large h e = yes text large (inl h) e
refusal_tells text (faults.TooLarge sizes.Nesting) large h e = yes text large (inr h) e
refusal_tells text (faults.TooLarge sizes.Depth) large h e = absurd h
refusal_tells text (faults.TooLarge sizes.Weight) large h e = absurd h
refusal_tells text (faults.TooLarge sizes.Part) large h e = absurd h
refusal_tells text (faults.Lex place) large h e = no text large (not_large text (faults.Lex place) h.0 h (λ k. cc)) e
refusal_tells text (faults.Unsupported what) large h e = no text large (not_large text (faults.Unsupported what) h.tokens.small h (λ k. cc)) e
refusal_tells text faults.NotAQuery large h e = absurd h
refusal_tells text (faults.Scope name) large h e = absurd h
refusal_tells text faults.Memory large h e = absurd cc

pub size_told : (text : List ℕ) (fault : QueryFault) (result : Result Bool Memory) → WhyNoSymbols text fault → result_ok result ≡ is_size fault → IfOk result (TellsLarge text)
size_told text fault (Ok large) why is = refusal_tells text fault large why (sym is)
size_told text fault (Err e) why is = tt

-- ---- parts

-- a part that is read stands among all
pub among_all : {X : Type 0} (f : X → PartOf) (xs : List X) (i : ℕ) (x : X) → i < length xs → take i xs ++ x ∷ [] ≡ take (i + 1) xs → take (i + 1) xs ++ drop (i + 1) xs ≡ xs → In (map f xs) (f x)
among_all f xs i x small next whole =
    let here : In (take i xs ++ x ∷ []) x = In-append_right (take i xs) (x ∷ []) x (inl refl) in
    In-map f xs x (subst (λ ys. In ys x) whole (In-append_left (take (i + 1) xs) (drop (i + 1) xs) x (subst (λ ys. In ys x) next here)))

pub large_there : {X : Type 0} (f : X → PartOf) (xs : List X) (i : ℕ) (x : X) → i < length xs → take i xs ++ x ∷ [] ≡ take (i + 1) xs → take (i + 1) xs ++ drop (i + 1) xs ≡ xs → IsTooLarge (f x).text → HasLarge (map f xs)
large_there f xs i x small next whole large = record { part = f x; among = among_all f xs i x small next whole; large = large }

-- one part more that fits
pub fit_more : {X : Type 0} (f : X → PartOf) (xs : List X) (i : ℕ) (x : X) → take i xs ++ x ∷ [] ≡ take (i + 1) xs → PartsFit (map f (take i xs)) → (IsTooLarge (f x).text → ⊥) → PartsFit (map f (take (i + 1) xs))
fit_more f xs i x next fit small = subst (λ ys. PartsFit (map f ys)) next both
  where
    both : PartsFit (map f (take i xs ++ x ∷ []))
    both part among large = elim (In-append_cases (map f (take i xs)) (f x ∷ []) part (subst (λ ps. In ps part) (map-append f (take i xs) (x ∷ [])) among)) [
      | inl front ↦ fit part front large
      | inr last ↦ elim last [
        | inl is ↦ small (subst (λ (p : PartOf). IsTooLarge p.text) (sym is) large)
        | inr none ↦ absurd none
      ]
    ]
