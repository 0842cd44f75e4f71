-- The grammar of triple patterns: the symbols from here, what they spell, and the symbols behind them
-- (SPARQL 1.1, 4.2 and 19.8, TriplesBlock to VarOrTerm).
use Rattle.std.specs.Prelude.{ℕ, List, [], ◌∷◌, ◌++◌, codes}
use Rattle.term_core.specs.Mappings.{Name}
use Rattle.term_core.specs.declared.pattern.Pattern.{Pattern}
use Rattle.term_core.specs.declared.pattern.Place.{Place}
use Rattle.term_core.specs.declared.pattern.Place.TheVariants as places
use Rattle.term_core.specs.declared.term.Term.{Term}
use Rattle.term_core.specs.declared.term.Term.TheVariants as terms
use Rattle.sparql_tree.specs.Groups.{Element, Triples}
use Rattle.sparql_tree.specs.declared.symbol.Shape.TheVariants as s
use Rattle.sparql_tree.specs.declared.symbol.Symbol.{Symbol}
use Rattle.sparql_tree.specs.Heads.{Is, IsHead}
use Rattle.sparql_tree.specs.Terms.{IsTerm}

-- what the verb `a` means (SPARQL 1.1 4.2.4)
abbrev pub rdf_type : List ℕ
rdf_type = codes "http://www.w3.org/1999/02/22-rdf-syntax-ns#type"

abbrev pub pattern : Place → Place → Place → Pattern
pattern subject predicate object = record { subject = subject; predicate = predicate; object = object }

-- VAR | BLANK | term (SPARQL 1.1 19.8, VarOrTerm)
pub data IsNode : List Symbol → Place → List Symbol → Type 0 where
  node_variable : {ts rest : List Symbol} {name : Name} → IsHead s.Var name ts rest → IsNode ts (places.Var name) rest
  node_blank : {ts rest : List Symbol} {label : List ℕ} → IsHead s.Blank label ts rest → IsNode ts (places.Blank label) rest
  node_term : {ts rest : List Symbol} {term : Term} → IsTerm ts term rest → IsNode ts (places.Term term) rest

-- VAR | iri | 'a' (SPARQL 1.1 19.8, Verb)
pub data IsVerb : List Symbol → Place → List Symbol → Type 0 where
  verb_variable : {ts rest : List Symbol} {name : Name} → IsHead s.Var name ts rest → IsVerb ts (places.Var name) rest
  verb_iri : {ts rest : List Symbol} {iri : List ℕ} → IsHead s.Iri iri ts rest → IsVerb ts (places.Term (terms.Iri iri)) rest
  verb_a : {ts rest : List Symbol} → Is s.IsA ts rest → IsVerb ts (places.Term (terms.Iri rdf_type)) rest

-- (',' node)*, each with the subject and the verb (SPARQL 1.1 19.8, ObjectList)
pub data ObjectTail (subject verb : Place) : List Symbol → List Pattern → List Symbol → Type 0 where
  object_end : {ts : List Symbol} → ObjectTail subject verb ts [] ts
  object_more : {ts us vs rest : List Symbol} {object : Place} {more : List Pattern} → Is s.Comma ts us → IsNode us object vs → ObjectTail subject verb vs more rest
      → ObjectTail subject verb ts (pattern subject verb object ∷ more) rest

-- node (',' node)*
pub data IsObjects (subject verb : Place) : List Symbol → List Pattern → List Symbol → Type 0 where
  objects : {ts us rest : List Symbol} {object : Place} {more : List Pattern} → IsNode ts object us → ObjectTail subject verb us more rest
      → IsObjects subject verb ts (pattern subject verb object ∷ more) rest

-- (';' (verb objects)?)* (SPARQL 1.1 19.8, PropertyListNotEmpty)
pub data PropertyTail (subject : Place) : List Symbol → List Pattern → List Symbol → Type 0 where
  property_end : {ts : List Symbol} → PropertyTail subject ts [] ts
  property_none : {ts us rest : List Symbol} {more : List Pattern} → Is s.Semicolon ts us → PropertyTail subject us more rest → PropertyTail subject ts more rest
  property_more : {ts us vs ws rest : List Symbol} {verb : Place} {found more : List Pattern} → Is s.Semicolon ts us → IsVerb us verb vs → IsObjects subject verb vs found ws
      → PropertyTail subject ws more rest → PropertyTail subject ts (found ++ more) rest

-- node verb objects (';' (verb objects)?)* (SPARQL 1.1 19.8, TriplesSameSubject)
pub data IsSame : List Symbol → List Pattern → List Symbol → Type 0 where
  same : {ts us vs ws rest : List Symbol} {subject verb : Place} {found more : List Pattern} → IsNode ts subject us → IsVerb us verb vs → IsObjects subject verb vs found ws
      → PropertyTail subject ws more rest → IsSame ts (found ++ more) rest

-- same ('.' block?)? (SPARQL 1.1 19.8, TriplesBlock)
pub data IsBlock : List Symbol → List Pattern → List Symbol → Type 0 where
  block_one : {ts rest : List Symbol} {found : List Pattern} → IsSame ts found rest → IsBlock ts found rest
  block_point : {ts us rest : List Symbol} {found : List Pattern} → IsSame ts found us → Is s.Point us rest → IsBlock ts found rest
  block_more : {ts us vs rest : List Symbol} {found more : List Pattern} → IsSame ts found us → Is s.Point us vs → IsBlock vs more rest → IsBlock ts (found ++ more) rest

-- a block, or nothing
pub data IsTriples : List Symbol → List Element → List Symbol → Type 0 where
  no_triples : {ts : List Symbol} → IsTriples ts [] ts
  triples : {ts rest : List Symbol} {found : List Pattern} → IsBlock ts found rest → IsTriples ts (Triples found ∷ []) rest
