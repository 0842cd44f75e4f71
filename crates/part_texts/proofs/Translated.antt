-- The operators that a group means can be written, where all that stands in the group can.
use Rattle.std.proofs.Common.{false, List, [], ◌∷◌, ◌++◌, refl}
use Rattle.term_core.specs.declared.pattern.Pattern.{Pattern}
use Rattle.sparql_tree.specs.Algebra as algebra
use Rattle.sparql_tree.specs.Algebra.{Algebra, Bgp}
use Rattle.sparql_tree.specs.Exprs.{Expr, And, exprs}
use Rattle.sparql_tree.specs.Groups.{Group, GroupOf, Elements, EndOfElements, ThenElement, Groups, EndOfGroups, ThenGroup, Triples, Union, Optional, Filter, Bind, Values}
use Rattle.sparql_tree.specs.Groups as tree
use Rattle.sparql_tree.specs.Heads.{is}
use Rattle.sparql_tree.specs.Symbols.{bare}
use Rattle.sparql_tree.specs.declared.symbol.Shape.TheVariants as s
use Rattle.sparql_tree.specs.declared.symbol.Symbol.{Symbol}
use Rattle.sparql_tree.specs.Expressions as expressions
use Rattle.sparql_tree.specs.Expressions.{IsAtom, IsRel, rel_one, sum, sum_end, product, product_end, AndTail, and_end, and_more, and, or, or_end}
use Rattle.sparql_tree.specs.Translation.{unit, joined, filters_in, conjunction, filtered, of_group, of_elements, of_groups, union_from}
use Rattle.sparql_print.specs.Spelled.{AreSpelledIn, AreSpelledInAll}
use Rattle.sparql_print.proofs.ExprSymbols.{expr_symbols}
use Rattle.sparql_print.proofs.ReadsBack.{reads_back}
use Rattle.part_texts.proofs.Forms.{IsWritten, IsWrittenExpr, AreWrittenPatterns, IsWrittenGroup, AreWrittenElements, AreWrittenGroups}
use Rattle.part_texts.proofs.ReadGroups.{patterns-append}

-- ---- conditions

abbrev AreWrittenExprs : List Expr → Type 0
AreWrittenExprs [] = Unit {0}
AreWrittenExprs (first ∷ rest) = IsWrittenExpr first × AreWrittenExprs rest

-- expressions with && before each
abbrev and_symbols : List Expr → List Symbol
and_symbols [] = []
and_symbols (first ∷ rest) = bare s.And ∷ expr_symbols first (and_symbols rest)

rel-back : (e : Expr) (rest : List Symbol) → IsWrittenExpr e → IsRel false (expr_symbols e rest) e rest
rel-back e rest h = rel_one (sum (product (expressions.bare (reads_back e rest h.of_tree h.spelled)) product_end) sum_end)

ands-back : (es : List Expr) → AreWrittenExprs es → AndTail false (and_symbols es) es []
ands-back [] h = and_end
ands-back (e ∷ es) h = and_more is (rel-back e _ h.0) (ands-back es h.1)

all-spelled : (es : List Expr) → AreWrittenExprs es → AreSpelledInAll (exprs es)
unfolding AreSpelledIn
all-spelled [] h = tt
all-spelled (e ∷ es) h = (h.0.spelled, all-spelled es h.1)

and-written : (first second : Expr) (rest : List Expr) → AreWrittenExprs (first ∷ second ∷ rest) → IsWrittenExpr (And (exprs (first ∷ second ∷ rest)))
unfolding AreSpelledIn
and-written first second rest h = record {
  of_tree = record { tokens = _; rest = []; spelled = or (and (rel-back first (and_symbols (second ∷ rest)) h.0) (ands-back (second ∷ rest) h.1)) or_end };
  spelled = all-spelled (first ∷ second ∷ rest) h;
}

filters-written : (elements : Elements) → AreWrittenElements elements → AreWrittenExprs (filters_in elements)
filters-written EndOfElements h = tt
filters-written (ThenElement (Filter value) rest) h = (h.0, filters-written rest h.1)
filters-written (ThenElement other rest) h = filters-written rest h.1

filtered-written : (conditions : List Expr) (a : Algebra) → AreWrittenExprs conditions → IsWritten a → IsWritten (filtered (conjunction conditions) a)
filtered-written [] a h w = w
filtered-written (only ∷ []) a h w = (w, h.0)
filtered-written (first ∷ second ∷ rest) a h w = (w, and-written first second rest h)

-- ---- operators

joined-written : (left right : Algebra) → IsWritten left → IsWritten right → IsWritten (joined left right)
joined-written (Bgp []) right h k = k
joined-written left (Bgp []) h k = h
joined-written left right h k = (h, k, refl, refl)

mutual
  pub means-written : (group : Group) → IsWrittenGroup group → IsWritten (of_group group)
  means-written (GroupOf elements) h = filtered-written (filters_in elements) (of_elements unit [] elements) (filters-written elements h) (elements-written elements unit [] tt tt h)

  elements-written : (elements : Elements) (a : Algebra) (ps : List Pattern) → IsWritten a → AreWrittenPatterns ps → AreWrittenElements elements → IsWritten (of_elements a ps elements)
  elements-written EndOfElements a ps w k h = joined-written a (Bgp ps) w k
  elements-written (ThenElement (Triples more) rest) a ps w k h = elements-written rest a (ps ++ more) w (patterns-append ps more k h.0) h.1
  elements-written (ThenElement (Filter value) rest) a ps w k h = elements-written rest a ps w k h.1
  elements-written (ThenElement (Union groups) rest) a ps w k h =
      elements-written rest (joined (joined a (Bgp ps)) (of_groups groups)) [] (joined-written (joined a (Bgp ps)) (of_groups groups) (joined-written a (Bgp ps) w k) (groups-written groups h.0)) tt h.1
  elements-written (ThenElement (Optional (GroupOf elements)) rest) a ps w k h =
      elements-written rest (algebra.LeftJoin (joined a (Bgp ps)) (of_elements unit [] elements) (conjunction (filters_in elements))) []
      (joined-written a (Bgp ps) w k, elements-written elements unit [] tt tt h.0) tt h.1
  elements-written (ThenElement (tree.Minus group) rest) a ps w k h =
      elements-written rest (algebra.Minus (joined a (Bgp ps)) (of_group group)) [] (joined-written a (Bgp ps) w k, means-written group h.0) tt h.1
  elements-written (ThenElement (Bind value variable) rest) a ps w k h =
      elements-written rest (algebra.Extend (joined a (Bgp ps)) variable value) [] (joined-written a (Bgp ps) w k, h.0.0, h.0.1) tt h.1
  elements-written (ThenElement (Values variables rows) rest) a ps w k h =
      elements-written rest (joined (joined a (Bgp ps)) (algebra.Table variables rows)) [] (joined-written (joined a (Bgp ps)) (algebra.Table variables rows) (joined-written a (Bgp ps) w k) h.0) tt h.1

  groups-written : (groups : Groups) → AreWrittenGroups groups → IsWritten (of_groups groups)
  groups-written EndOfGroups h = tt
  groups-written (ThenGroup first rest) h = union-written rest (of_group first) (means-written first h.0) h.1

  union-written : (groups : Groups) (a : Algebra) → IsWritten a → AreWrittenGroups groups → IsWritten (union_from a groups)
  union-written EndOfGroups a w h = w
  union-written (ThenGroup next rest) a w h = union-written rest (algebra.Union a (of_group next)) (w, means-written next h.0) h.1
