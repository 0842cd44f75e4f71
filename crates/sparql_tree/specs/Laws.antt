-- What is proved of solutions.
use Rattle.std.specs.Prelude.{◌≡◌, ℕ, List, [], ◌∷◌, true, false}
use Rattle.term_core.specs.declared.term.Triple.{Triple}
use Rattle.term_core.specs.Bags.{SameBag, AreDistinct, In, HaveSame}
use Rattle.term_core.specs.Mappings.{Name, Row, joins}
use Rattle.term_core.specs.Patterns.{Pattern, label_name}
use Rattle.sparql_tree.specs.Bgp.{full_solutions, IsFull, is_variable, solutions}

-- the full solutions are the rows that meet `IsFull`, each once (SPARQL 1.1, 18.3.1)
pub record AreExact (D : List Triple) (ps : List Pattern) : Type 0 where
  pub sound : (row : Row) → In (full_solutions D ps) row → IsFull D ps row
  pub complete : (row : Row) → IsFull D ps row → In (full_solutions D ps) row
  pub once : AreDistinct (full_solutions D ps)

-- so it is for all data and all patterns
abbrev pub SolutionsAreExact : Type 0
SolutionsAreExact = (D : List Triple) (ps : List Pattern) → AreExact D ps

-- neither the order of the patterns counts, nor how often one stands (SPARQL 1.1, 18.1.6: they are a set)
abbrev pub AnyOrder : Type 0
AnyOrder = (D : List Triple) (ps qs : List Pattern) → HaveSame ps qs → SameBag (full_solutions D ps) (full_solutions D qs)

-- one more pattern joins its solutions to those of the others (SPARQL 1.1, 18.5, Join)
abbrev pub OnePattern : Type 0
OnePattern = (D : List Triple) (ps : List Pattern) (p : Pattern) →
    SameBag (full_solutions D (p ∷ ps)) (joins (full_solutions D ps) (full_solutions D (p ∷ [])))

-- a list of triples stands for the set of them: an RDF graph is a set (RDF 1.1 Concepts, 3)
abbrev pub DataAsSet : Type 0
DataAsSet = (D E : List Triple) (ps : List Pattern) → HaveSame D E → SameBag (solutions D ps) (solutions E ps)

-- a name without a colon is a variable's, and that of a blank node is not (SPARQL 1.1, 19.8, VARNAME)
pub record AreApart : Type 0 where
  pub variable : (name : Name) → (In name 58 → ⊥) → is_variable name ≡ true
  pub label : (label : List ℕ) → is_variable (label_name label) ≡ false
