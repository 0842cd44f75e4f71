-- A text is accepted, or has one first cause of a refusal.
use Rattle.std.proofs.Common.{◌≡◌, ◌⊎◌, inl, inr, ℕ, List, Option, Some, None, refl, sym, ap, ◌∙◌}
use Rattle.term_core.specs.Mappings.{Name}
use Rattle.sparql_tree.specs.Groups.{Query}
use Rattle.sparql_tree.specs.declared.fault.QueryFault.{QueryFault}
use Rattle.sparql_tree.specs.declared.fault.QueryFault.TheVariants as faults
use Rattle.sparql_tree.specs.Trees.{IsTree, HasNoTree, WhyNoTree}
use Rattle.sparql_read.proofs.Texts as grammar
use Rattle.sparql_tree.specs.Accepted.{IsAccepted, IsBroken, IsRefused, WhyQueryRefused}
use Rattle.sparql_tree.specs.Breaches.{breaches, first_name}
use Rattle.sparql_scope.proofs.Firsts.{first_none}

pub one_query : (text : List ℕ) (a b : Query) → IsAccepted text a → IsAccepted text b → a ≡ b
one_query text a b h k = grammar.one-tree text a b h.tree k.tree

-- a refusal is a breach or comes before
abbrev Cause : List ℕ → QueryFault → Type 0
Cause text fault = ((name : Name) × (fault ≡ faults.Scope name) × IsBroken text name) ⊎ HasNoTree text fault

cause : (text : List ℕ) (fault : QueryFault) → IsRefused text fault → Cause text fault
cause text (faults.Scope name) h = inl (name, refl, h)
cause text fault h = inr h

some_same : {A : Type 0} (a b : A) → Some a ≡ Some b → a ≡ b
some_same a b e = cc

one_name : (text : List ℕ) (a b : Name) → IsBroken text a → IsBroken text b → a ≡ b
one_name text a b h k =
    some_same a b (sym h.first ∙ (ap (λ q. first_name (breaches q)) (grammar.one-tree text h.query k.query h.tree k.tree) ∙ k.first))

by_causes : (text : List ℕ) (a b : QueryFault) → Cause text a → Cause text b → a ≡ b
by_causes text a b (inl h) (inl k) = h.1 ∙ (ap faults.Scope (one_name text h.0 k.0 h.2 k.2) ∙ sym k.1)
by_causes text a b (inl h) (inr k) = absurd (grammar.not-both text h.2.query b h.2.tree k)
by_causes text a b (inr h) (inl k) = absurd (grammar.not-both text k.2.query a k.2.tree h)
by_causes text a b (inr h) (inr k) = grammar.one-refusal text a b h k

pub one_cause : (text : List ℕ) (a b : QueryFault) → IsRefused text a → IsRefused text b → a ≡ b
one_cause text a b h k = by_causes text a b (cause text a h) (cause text b k)

apart : (text : List ℕ) (query : Query) (fault : QueryFault) → IsAccepted text query → Cause text fault → ⊥
apart text query fault h (inl k) =
    let first : first_name (breaches query) ≡ Some k.0 = ap (λ q. first_name (breaches q)) (grammar.one-tree text query k.2.query h.tree k.2.tree) ∙ k.2.first in
    let none : first_name (breaches query) ≡ None = ap first_name h.keeps in
    cc (sym none ∙ first)
apart text query fault h (inr k) = grammar.not-both text query fault h.tree k

pub not_both : (text : List ℕ) (query : Query) (fault : QueryFault) → IsAccepted text query → IsRefused text fault → ⊥
not_both text query fault h k = apart text query fault h (cause text fault k)

-- a cause that comes before is a cause
before : (text : List ℕ) (fault : QueryFault) → HasNoTree text fault → IsRefused text fault
before text (faults.Scope name) h = absurd h
before text fault h = h

abbrev Answer : List ℕ → Type 0
Answer text = ((query : Query) × IsAccepted text query) ⊎ ((fault : QueryFault) × IsRefused text fault)

by_first : (text : List ℕ) (query : Query) → IsTree text query → (first : Option Name) → first_name (breaches query) ≡ first → Answer text
by_first text query h None e = inl (query, record { tree = h; keeps = first_none (breaches query) e })
by_first text query h (Some name) e = inr (faults.Scope name, record { query = query; tree = h; first = e })

by_tree : (text : List ℕ) → (((query : Query) × IsTree text query) ⊎ ((fault : QueryFault) × HasNoTree text fault)) → Answer text
by_tree text (inl h) = by_first text h.0 h.1 _ refl
by_tree text (inr h) = inr (h.0, before text h.0 h.1)

pub always : (text : List ℕ) → Answer text
always text = by_tree text (grammar.always text)

-- why there is no tree, is why a text is refused
pub why_before : (text : List ℕ) (fault : QueryFault) → WhyNoTree text fault → WhyQueryRefused text fault
why_before text (faults.Scope name) h = absurd h
why_before text fault h = h
