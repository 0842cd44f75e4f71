-- Reading triple patterns, behind those that were found.
use Rattle.std.specs.Prelude.{ℕ, zero, suc, Bool, true, false, List, [], ◌∷◌, ◌++◌, length, Option, Some, None}
use Rattle.term_core.specs.declared.pattern.Pattern.{Pattern}
use Rattle.term_core.specs.declared.pattern.Place.{Place}
use Rattle.term_core.specs.declared.pattern.Place.TheVariants as places
use Rattle.term_core.specs.declared.term.Term.TheVariants as terms
use Rattle.sparql_tree.specs.Groups.{Element, Triples}
use Rattle.sparql_tree.specs.declared.symbol.Shape.{Shape}
use Rattle.sparql_tree.specs.declared.symbol.Shape.TheVariants as s
use Rattle.sparql_grammar.specs.Parser.{Parser, ◌>>=◌, ◌>>◌, ◌<$>◌, pure, refuse, peek, take, spelled_value, all_more, all_steps}
use Rattle.sparql_grammar.specs.TermReading.{term}
use Rattle.sparql_tree.specs.Triples.{pattern, rdf_type}

abbrev pub node_by : Option Shape → Parser Place
node_by (Some s.Var) = places.Var <$> spelled_value
node_by (Some s.Blank) = places.Blank <$> spelled_value
node_by o = places.Term <$> term

unfoldable pub node : Parser Place
node = peek >>= node_by

abbrev pub verb_by : Option Shape → Parser Place
verb_by (Some s.Var) = places.Var <$> spelled_value
verb_by (Some s.Iri) = (λ iri. places.Term (terms.Iri iri)) <$> spelled_value
verb_by (Some s.IsA) = take >> pure (places.Term (terms.Iri rdf_type))
verb_by o = refuse

unfoldable pub verb : Parser Place
verb = peek >>= verb_by

abbrev pub begins_verb : Option Shape → Bool
begins_verb (Some s.Var) = true
begins_verb (Some s.Iri) = true
begins_verb (Some s.IsA) = true
begins_verb o = false

abbrev pub begins_node : Option Shape → Bool
begins_node (Some s.Var) = true
begins_node (Some s.Blank) = true
begins_node (Some s.Iri) = true
begins_node (Some s.Quoted) = true
begins_node (Some s.Integer) = true
begins_node (Some s.Decimal) = true
begins_node (Some s.Boolean) = true
begins_node (Some s.Plus) = true
begins_node (Some s.Minus) = true
begins_node o = false

abbrev pub object_turn : Place → Place → Option Shape → Option (Parser Pattern)
object_turn subject predicate (Some s.Comma) = Some (take >> (pattern subject predicate <$> node))
object_turn subject predicate o = None

unfoldable pub object_rest : Place → Place → List Pattern → Parser (List Pattern)
object_rest subject predicate found = all_more (object_turn subject predicate) found

unfoldable pub objects : Place → Place → List Pattern → Parser (List Pattern)
objects subject predicate found = node >>= (λ object. object_rest subject predicate (found ++ pattern subject predicate object ∷ []))

abbrev pub property_if : Place → List Pattern → Bool → Parser (List Pattern)
property_if subject found true = verb >>= (λ p. objects subject p found)
property_if subject found false = pure found

-- behind a semicolon
unfoldable pub property : Place → List Pattern → Parser (List Pattern)
property subject found = peek >>= (λ o. property_if subject found (begins_verb o))

abbrev pub property_turn : Place → Option Shape → Option (List Pattern → Parser (List Pattern))
property_turn subject (Some s.Semicolon) = Some (λ found. take >> property subject found)
property_turn subject o = None

unfoldable pub property_rest : Place → List Pattern → Parser (List Pattern)
property_rest subject found = all_steps (property_turn subject) found

unfoldable pub same : List Pattern → Parser (List Pattern)
same found = node >>= (λ subject. verb >>= (λ p. objects subject p found >>= (λ all. property_rest subject all)))

abbrev pub further : (List Pattern → Parser (List Pattern)) → List Pattern → Bool → Parser (List Pattern)
further go found true = go found
further go found false = pure found

abbrev pub pointed : (List Pattern → Parser (List Pattern)) → List Pattern → Option Shape → Parser (List Pattern)
pointed go found (Some s.Point) = take >> (peek >>= (λ o. further go found (begins_node o)))
pointed go found o = pure found

unfoldable pub block_within : ℕ → List Pattern → Parser (List Pattern)
block_within zero found = refuse
block_within (suc n) found = same found >>= (λ all. peek >>= pointed (block_within n) all)

unfoldable pub block : Parser (List Pattern)
block = λ ts. block_within (length ts) [] ts

abbrev pub triples_if : Bool → Parser (List Element)
triples_if true = (λ found. Triples found ∷ []) <$> block
triples_if false = pure []

unfoldable pub triples : Parser (List Element)
triples = peek >>= (λ o. triples_if (begins_node o))
