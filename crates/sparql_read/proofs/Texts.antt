-- A text has one tree or one refusal.
use Rattle.std.proofs.Common.{◌≡◌, ◌⊎◌, inl, inr, ◌+◌, ℕ, List, Option, Some, None, Result, Ok, Err, IfErr, length, refl, subst}
use Rattle.sparql_tree.specs.Groups.{Query}
use Rattle.sparql_tree.specs.declared.fault.QueryFault.{QueryFault}
use Rattle.sparql_tree.specs.declared.fault.QueryFault.TheVariants as faults
use Rattle.sparql_tree.specs.declared.symbol.Shape.{Shape}
use Rattle.sparql_tree.specs.declared.symbol.Symbol.{Symbol}
use Rattle.sparql_tree.specs.Refusals.{AreSymbols, HasNoSymbols}
use Rattle.sparql_read.proofs.Laws as symbols
use Rattle.sparql_tree.specs.Heads.{head}
use Rattle.sparql_tree.specs.Queries.{IsQuery, without_repeats}
use Rattle.sparql_grammar.specs.QueryReading as r
use Rattle.sparql_grammar.specs.Refusals.{WhyNoQuery}
use Rattle.sparql_tree.specs.Trees.{IsTree, SpellsNone, HasNoTree, WhyNoTree}
use Rattle.sparql_grammar.proofs.Spelled.{query-spelled, none-spelled, more-left, one_query}

pub one-tree : (text : List ℕ) (a b : Query) → IsTree text a → IsTree text b → a ≡ b
one-tree text a b h k =
    one_query k.symbols a b (subst (λ ss. IsQuery ss a) (symbols.one-symbols text h.symbols k.symbols h.are_symbols k.are_symbols) h.spelled) k.spelled

pub not-both : (text : List ℕ) (query : Query) (fault : QueryFault) → IsTree text query → HasNoTree text fault → ⊥
not-both text query faults.NotAQuery h k =
    k.none query (subst (λ ss. IsQuery ss query) (symbols.one-symbols text h.symbols k.symbols h.are_symbols k.are_symbols) h.spelled)
not-both text query fault h k = symbols.not-both-answers text h.symbols fault h.are_symbols k

-- nor has one whose symbols spell no query another refusal
apart : (text : List ℕ) (fault : QueryFault) → SpellsNone text → HasNoSymbols text fault → ⊥
apart text fault h k = symbols.not-both-answers text h.symbols fault h.are_symbols k

pub one-refusal : (text : List ℕ) (a b : QueryFault) → HasNoTree text a → HasNoTree text b → a ≡ b
one-refusal text faults.NotAQuery faults.NotAQuery h k = refl
one-refusal text faults.NotAQuery b h k = absurd (apart text b h k)
one-refusal text a faults.NotAQuery h k = absurd (apart text a k h)
one-refusal text a b h k = symbols.one-refusal text a b h k

-- symbols spell a query or none
abbrev Reading : List Symbol → Type 0
Reading ss = ((query : Query) × IsQuery ss query) ⊎ ((query : Query) → IsQuery ss query → ⊥)

by-rest : (ss : List Symbol) (q : Query) (rest : List Symbol) → r.query (length ss + 1) ss ≡ Some (q, rest) → (o : Option Shape) → head rest ≡ o → Reading ss
by-rest ss q rest h None e = inl (without_repeats q, record { written = q; spelled = query-spelled _ ss ss q rest refl h e; kept_once = refl })
by-rest ss q rest h (Some x) e = inr (more-left ss ss q rest x refl h e)

by-read : (ss : List Symbol) (o : Option (Query × List Symbol)) → r.query (length ss + 1) ss ≡ o → Reading ss
by-read ss None h = inr (none-spelled ss ss refl h)
by-read ss (Some p) h = by-rest ss p.0 p.1 h (head p.1) refl

-- a tree or a refusal
abbrev Answer : List ℕ → Type 0
Answer text = ((query : Query) × IsTree text query) ⊎ ((fault : QueryFault) × HasNoTree text fault)

by-reading : (text : List ℕ) (ss : List Symbol) → AreSymbols text ss → Reading ss → Answer text
by-reading text ss h (inl q) = inl (q.0, record { symbols = ss; are_symbols = h; spelled = q.1 })
by-reading text ss h (inr none) = inr (faults.NotAQuery, record { symbols = ss; are_symbols = h; none = none })

refused : (text : List ℕ) (fault : QueryFault) → HasNoSymbols text fault → HasNoTree text fault
refused text faults.NotAQuery h = absurd h
refused text fault h = h

pub always : (text : List ℕ) → Answer text
always text = by_answer (symbols.some-answer text)
  where
    by_answer : ((ss : List Symbol) × AreSymbols text ss) ⊎ ((fault : QueryFault) × HasNoSymbols text fault) → Answer text
    by_answer (inl s) = by-reading text s.0 s.1 (by-read s.0 (r.query (length s.0 + 1) s.0) refl)
    by_answer (inr f) = inr (f.0, refused text f.0 f.1)

-- ---- the code's refusals

why-fault : (text : List ℕ) (ss : List Symbol) (fault : QueryFault) → AreSymbols text ss → WhyNoQuery ss fault → WhyNoTree text fault
why-fault text ss faults.Memory h k = tt
why-fault text ss faults.NotAQuery h k = record { symbols = ss; are_symbols = h; none = k }
why-fault text ss fault h k = absurd k

-- what refuses the symbols refuses their text
pub why-refused : {A : Type 0} (text : List ℕ) (ss : List Symbol) (result : Result A QueryFault) → AreSymbols text ss → IfErr result (WhyNoQuery ss) → IfErr result (WhyNoTree text)
why-refused text ss (Ok a) h k = tt
why-refused text ss (Err fault) h k = why-fault text ss fault h k
