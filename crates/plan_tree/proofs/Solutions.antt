-- The rows of a plan are the solutions of its patterns.
use Rattle.std.proofs.Common.{◌≡◌, List, [], ◌∷◌, map, sym, ◌∙◌}
use Rattle.std.specs.List.{filter_map}
use Rattle.std.specs.FinMap as finmap
use Rattle.term_core.specs.declared.term.Triple.{Triple}
use Rattle.term_core.specs.Bags.{SameBag, HaveSame}
use Rattle.term_core.specs.Mappings.{Name, joined, joins, restricted}
use Rattle.term_core.proofs.Joined.{bag_same, bag_is, bag_back, bag_then, bag_map, bag_each, joins_same, joins_turned, joins_moved, joins_unit}
use Rattle.term_core.specs.Patterns.{Pattern}
use Rattle.sparql_tree.specs.Bgp.{full_solutions, visible, solutions}
use Rattle.sparql_tree.specs.Answer.{IsAnswer}
use Rattle.sparql_tree.proofs.Full.{any_order, one_more}
use Rattle.sparql_tree.proofs.Visible.{map_shown}
use Rattle.term_core.proofs.Permuted.{rows_permuted}
use Rattle.term_core.proofs.Sets.{same_back}
use Rattle.sparql_tree.proofs.Data.{solutions_same}
use Rattle.plan_tree.specs.Trace.{Plan, join_plan, project_plan, made_of, trace}
use Rattle.plan_tree.specs.Plans.{joined_onto, one_row}
use Rattle.plan_tree.specs.Laws.{AreVariables}
use Rattle.plan_tree.proofs.Made.{made_is}
use Rattle.plan_tree.proofs.Traces.{rows_in, rows_of-join, rows_of-changed}

-- patterns joined to a plan, one by one, join their solutions to the plan's rows
pub onto_bag : (D : List Triple) (plan : Plan) (ps : List Pattern) → SameBag (rows_in D (joined_onto plan ps)) (joins (rows_in D plan) (full_solutions D ps))
onto_bag D plan [] = bag_is _ _ (sym (joins_unit (rows_in D plan)))
onto_bag D plan (p ∷ ps) =
    let xs = rows_in D plan in
    let one : SameBag (rows_in D (join_plan plan p)) (joins xs (full_solutions D (p ∷ []))) =
    bag_then (bag_is _ _ (rows_of-join D p (trace D plan)))
    (bag_each (made_of D p) (λ row. filter_map (joined row) (full_solutions D (p ∷ []))) xs (λ row. made_is D p row)) in
    bag_then (onto_bag D (join_plan plan p) ps)
    (bag_then (joins_same (rows_in D (join_plan plan p)) (full_solutions D ps) (joins xs (full_solutions D (p ∷ []))) (full_solutions D ps) one (bag_same (full_solutions D ps)))
    (bag_then (joins_moved xs (full_solutions D (p ∷ [])) (full_solutions D ps))
    (joins_same xs (joins (full_solutions D (p ∷ [])) (full_solutions D ps)) xs (full_solutions D (p ∷ ps)) (bag_same xs)
    (bag_then (joins_turned (full_solutions D (p ∷ [])) (full_solutions D ps)) (bag_back (one_more D ps p))))))

-- patterns joined to the table of one empty row give their solutions
pub alone_bag : (D : List Triple) (ps qs : List Pattern) → HaveSame ps qs → SameBag (rows_in D (joined_onto one_row qs)) (full_solutions D ps)
alone_bag D ps qs s =
    bag_then (onto_bag D one_row qs)
    (bag_then (joins_turned (finmap.empty ∷ []) (full_solutions D qs))
    (bag_then (bag_is _ _ (joins_unit (full_solutions D qs))) (bag_back (any_order D ps qs s))))

-- the rows of a projected plan
pub projected : (D : List Triple) (plan : Plan) (names : List Name) → AreVariables names → rows_in D (project_plan plan names) ≡ map (restricted names) (map visible (rows_in D plan))
projected D plan names v = rows_of-changed (restricted names) (trace D plan) ∙ map_shown names (rows_in D plan) v

-- the rows of one pattern's plan answer the query, over any list of the same triples
pub pattern_answers : (L D : List Triple) (p : Pattern) (names : List Name) → HaveSame L D → AreVariables names
    → IsAnswer (solutions L (p ∷ [])) names (rows_in D (project_plan (join_plan one_row p) names))
pattern_answers L D p names s v = record {
  order = map visible (rows_in D (join_plan one_row p));
  rearranged = rows_permuted _ _ (bag_back (bag_then
      (bag_map visible (rows_in D (join_plan one_row p)) (full_solutions D (p ∷ [])) (alone_bag D (p ∷ []) (p ∷ []) (record { to = λ q i. i; from = λ q i. i })))
      (solutions_same D L (p ∷ []) (same_back s))));
  projected = projected D (join_plan one_row p) names v;
}
