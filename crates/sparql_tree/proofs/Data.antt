-- Data with the same triples have the same solutions.
use Rattle.std.proofs.Common.{List}
use Rattle.term_core.specs.declared.term.Triple.{Triple}
use Rattle.term_core.specs.Bags.{SameBag, In, HaveSame}
use Rattle.term_core.specs.Mappings.{Row}
use Rattle.term_core.proofs.Bags.{same_members}
use Rattle.term_core.proofs.Joined.{bag_map}
use Rattle.term_core.specs.Patterns.{Pattern}
use Rattle.sparql_tree.specs.Bgp.{full_solutions, IsFull, visible, solutions}
use Rattle.sparql_tree.proofs.Full.{full_to, full_from, full_distinct}

-- a full solution over some triples is one over more
full_data : (D E : List Triple) (ps : List Pattern) (row : Row) → ((t : Triple) → In D t → In E t) → IsFull D ps row → IsFull E ps row
full_data D E ps row to f = record { within = f.within; made = λ p i. let m = f.made p i in (m.0, to m.0 m.1, m.2) }

-- the full solutions depend on the data's members alone
pub full_same : (D E : List Triple) (ps : List Pattern) → HaveSame D E → SameBag (full_solutions D ps) (full_solutions E ps)
full_same D E ps h =
    same_members _ _ (full_distinct D ps) (full_distinct E ps)
    (λ row i. full_from E ps row (full_data D E ps row h.to (full_to D ps row i)))
    (λ row i. full_from D ps row (full_data E D ps row h.from (full_to E ps row i)))

-- a list of triples stands for the set of them
pub solutions_same : (D E : List Triple) (ps : List Pattern) → HaveSame D E → SameBag (solutions D ps) (solutions E ps)
solutions_same D E ps h = bag_map visible (full_solutions D ps) (full_solutions E ps) (full_same D E ps h)
