-- The text of a part reads back as the part (SPARQL 1.1, 18.2 and 19.8).
use Rattle.std.specs.Prelude.{◌≡◌, ℕ, true, List, [], ◌∷◌}
use Rattle.term_core.specs.Bags.{In}
use Rattle.sparql_tree.specs.Accepted.{IsAccepted}
use Rattle.sparql_tree.specs.Algebra.{Algebra}
use Rattle.sparql_tree.specs.Groups.{Query}
use Rattle.sparql_tree.specs.Translation.{translation}
use Rattle.sparql_translation.specs.Modifiers.{is_plain}
use Rattle.sparql_translation.specs.Splits.{Part, parts_of}
use Rattle.sparql_print.specs.PartText.{part_text}
use Rattle.sparql_algebra.specs.Cuts.{PartOf, Split}
use Rattle.sparql_algebra.specs.Prepared.{Accepted, IsTooLarge}

-- the text is accepted, as a query for all variables and without modifiers, and the query means these operators
pub record SpellsOperators (text : List ℕ) (a : Algebra) : Type 0 where
  pub query : Query
  pub accepted : IsAccepted text query
  pub star : query.star ≡ true
  pub plain : is_plain query ≡ true
  pub means : translation query ≡ a

-- the operators of each part of a query that is accepted are what the part's text means, where the text is within the limits
abbrev pub PartTextsReadBack : Type 0
PartTextsReadBack = (text : List ℕ) (query : Query) → IsAccepted text query
    → (a : Algebra) → In (parts_of (translation query)) a → (IsTooLarge (part_text a) → ⊥) → SpellsOperators (part_text a) a

-- a part is read back: its text is accepted, as a query without modifiers that means its operators and is cut into this one part,
-- and the part's variables are those of the query's answer
pub record IsReadBack (part : PartOf) : Type 0 where
  pub split : Split
  pub accepted : Accepted part.text split
  pub plain : is_plain split.query ≡ true
  pub means : translation split.query ≡ part.operators
  pub only : split.parts ≡ part ∷ []
  pub whole : split.tree ≡ Part 0
  pub answer : split.answer ≡ part.names

-- so is each part of a text that is accepted
abbrev pub PartsReadBack : Type 0
PartsReadBack = (text : List ℕ) (split : Split) → Accepted text split → (part : PartOf) → In split.parts part → IsReadBack part
