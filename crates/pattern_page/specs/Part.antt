-- The part of a query that a server answers: its text and its plan.
use Rattle.std.specs.Prelude.{ℕ, List, ◌∷◌, ◌++◌, codes}
use Rattle.term_core.specs.declared.pattern.Place.{Place}
use Rattle.term_core.specs.declared.pattern.Place.TheVariants as place
use Rattle.term_core.specs.declared.pattern.Pattern.{Pattern}
use Rattle.term_core.specs.Texts.{term_text}
use Rattle.term_core.specs.Patterns.{pattern_of, names_in}
use Rattle.plan_tree.specs.Trace.{Plan}
use Rattle.plan_tree.specs.OnePattern.{pattern_plan}

-- a place of a pattern as text (SPARQL 1.1, 19.8, VarOrTerm)
abbrev pub pattern_place_text : Place → List ℕ
pattern_place_text (place.Var name) = 63 ∷ name
pattern_place_text (place.Blank label) = 95 ∷ 58 ∷ label
pattern_place_text (place.Term term) = term_text term

-- the text of the part: all variables of the pattern are selected
abbrev pub select_all_text : Pattern → List ℕ
select_all_text p = codes "SELECT * { " ++ (pattern_place_text p.subject ++ 32 ∷ (pattern_place_text p.predicate ++ 32 ∷ (pattern_place_text p.object ++ codes " . }")))

-- the plan of the part: the pattern joined to the table of one empty row, restricted to the pattern's variables
abbrev pub part_plan : Pattern → Plan
part_plan p = pattern_plan (pattern_of p) (names_in (pattern_of p))
