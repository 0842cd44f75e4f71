-- Triple patterns, apart from how the code holds them, and which triples agree with one (SPARQL 1.1, sections 18.1.5 and 18.3).
use Rattle.std.specs.Prelude.{List, [], ◌∷◌, ◌++◌, Option, Some, None, Bool, true, ◌&&◌, ℕ}
use Rattle.term_core.specs.declared.term.Term.{Term}
use Rattle.term_core.specs.declared.term.Triple.{Triple}
use Rattle.term_core.specs.declared.pattern.Place as code_place
use Rattle.term_core.specs.declared.pattern.Place.TheVariants as place
use Rattle.term_core.specs.declared.pattern.Pattern as code
use Rattle.term_core.specs.Mappings.{Name, Row, value, same_term}

-- a position of a triple pattern: a term, or the name of a variable or of a blank node (SPARQL 1.1, 18.1.5)
pub data Position : Type 0 where
  Known : (term : Term) → Position
  Named : (name : Name) → Position

-- a triple pattern (SPARQL 1.1, 18.1.5); a basic graph pattern is a list of them (18.1.6)
pub record Pattern : Type 0 where
  pub subject : Position
  pub predicate : Position
  pub object : Position

-- the name of a blank node: `_:` before its label (SPARQL 1.1, 4.1.4)
abbrev pub label_name : List ℕ → Name
label_name label = 95 ∷ 58 ∷ label

-- a position, as the code holds it
abbrev pub position_of : code_place.Place → Position
position_of (place.Var name) = Named name
position_of (place.Blank label) = Named (label_name label)
position_of (place.Term term) = Known term

-- a triple pattern, as the code holds it
abbrev pub pattern_of : code.Pattern → Pattern
pattern_of p = record { subject = position_of p.subject; predicate = position_of p.predicate; object = position_of p.object }

-- the name at a position, if any
abbrev pub names_at : Position → List Name
names_at (Known term) = []
names_at (Named name) = name ∷ []

-- the names in a triple pattern, in order, with repeats
abbrev pub names_in : Pattern → List Name
names_in p = names_at p.subject ++ (names_at p.predicate ++ names_at p.object)

-- what a position becomes under a row: a term, or nothing where the name has no value
abbrev pub filled : Row → Position → Option Term
filled row (Known term) = Some term
filled row (Named name) = value row name

-- whether a term may stand at a position: it is free, or has this term
abbrev pub fits : Option Term → Term → Bool
fits None term = true
fits (Some other) term = same_term other term

-- whether a triple agrees with a pattern's terms and with a row's values, each position by itself
abbrev pub agrees : Pattern → Row → Triple → Bool
agrees p row t = fits (filled row p.subject) t.subject && (fits (filled row p.predicate) t.predicate && fits (filled row p.object) t.object)
