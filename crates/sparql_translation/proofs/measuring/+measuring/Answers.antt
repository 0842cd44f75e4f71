use Rattle.std.proofs.Common.{◌≡◌, ◌∙◌, ◌+◌, List, [], Some, drop, subst, sym, ap}
use Rattle.term_core.specs.declared.pattern.Pattern.{Pattern}
use Rattle.sparql_tree.specs.Algebra.{Algebra}
use Rattle.sparql_tree.specs.Groups as tree
use Rattle.sparql_tree.specs.GroupTrees.{element_of, elements_of, group_of, groups_of}
use Rattle.sparql_tree.specs.Translation.{unit, conjunction, filters_in, of_elements, of_group, of_groups}
use Rattle.sparql_tree.proofs.GroupViews.{union_view, optional_view, minus_view}
use Rattle.sparql_translation.specs.Measures.{IsCondition, IsFront, IsMeasure, behind_part, open_patterns, union_with, united}
use Rattle.sparql_translation.specs.declared.measure.Front.{Front}
use Rattle.sparql_translation.proofs.Elements.{triples_view, filter_view, bind_view, values_view}
use Rattle.sparql_translation.proofs.Fronts.{part_further, group_further}
use Rattle.sparql_translation.proofs.Steps.{left}
use Rattle.sparql_translation.proofs.measuring.+measuring.Goals as goal

-- at a part that is known
at : (f : Front) (a : Algebra) (ps : List Pattern) (e d : tree.Element) → e ≡ d → IsFront f (behind_part a ps d) (open_patterns ps d) → IsFront f (behind_part a ps e) (open_patterns ps e)
at f a ps e d same h = subst (λ x. IsFront f (behind_part a ps x) (open_patterns ps x)) (sym same) h

pub measure_behind-returns-in-Triples : goal.measure_behind-returns-in-Triples
measure_behind-returns-in-Triples t c = λ a ps h. at _ a ps _ _ (ap element_of c.in-Triples.is ∙ triples_view c.in-Triples.patterns) (c.with_patterns.ensures a ps c.in-Triples.patterns h c.len.ensures)

pub measure_behind-returns-in-Filter : goal.measure_behind-returns-in-Filter
measure_behind-returns-in-Filter t c = λ a ps h. at _ a ps _ _ (ap element_of c.in-Filter.is ∙ filter_view c.in-Filter.field-0) h

pub measure_behind-returns-in-Groups : goal.measure_behind-returns-in-Groups
measure_behind-returns-in-Groups t c = λ a ps h. at _ a ps _ _ (ap element_of c.in-Groups.is ∙ union_view c.in-Groups.groups)
    (c.front_of.ensures _ (c.of_joined.ensures _ _ (c.closed.ensures a ps h)
    (subst (λ gs. IsMeasure c.measure_groups.result (of_groups (tree.groups (groups_of gs)))) c.deref.ensures.value c.measure_groups.ensures)))

pub measure_behind-returns-in-Optional : goal.measure_behind-returns-in-Optional
measure_behind-returns-in-Optional t c = λ a ps h. at _ a ps _ _ (ap element_of c.in-Optional.is ∙ optional_view c.in-Optional.group)
    (c.front_of-in-Optional.ensures _ (c.of_left_join.ensures _ _ _ (c.closed-in-Optional.ensures a ps h)
    (subst (λ es. IsMeasure c.measure_elements.result (of_elements unit [] (tree.elements (elements_of es)))) c.deref-in-Optional.ensures.value c.measure_elements.ensures)
    (subst (λ es. IsCondition c.condition_of.result (conjunction (filters_in (tree.elements (elements_of es))))) c.deref-in-Optional-2.ensures.value c.condition_of.ensures)))

pub measure_behind-returns-in-Minus : goal.measure_behind-returns-in-Minus
measure_behind-returns-in-Minus t c = λ a ps h. at _ a ps _ _ (ap element_of c.in-Minus.is ∙ minus_view c.in-Minus.group)
    (c.front_of-in-Minus.ensures _ (c.of_minus.ensures _ _ (c.closed-in-Minus.ensures a ps h) c.measure_group.ensures))

pub measure_behind-returns-in-Bind : goal.measure_behind-returns-in-Bind
measure_behind-returns-in-Bind t c = λ a ps h. at _ a ps _ _ (ap element_of c.in-Bind.is ∙ bind_view c.in-Bind.value c.in-Bind.variable)
    (c.front_of-in-Bind.ensures _ (c.of_extended.ensures _ c.in-Bind.variable (c.closed-in-Bind.ensures a ps h)))

pub measure_behind-returns-in-Values : goal.measure_behind-returns-in-Values
measure_behind-returns-in-Values t c = λ a ps h. at _ a ps _ _ (ap element_of c.in-Values.is ∙ values_view c.in-Values.variables c.in-Values.rows)
    (c.front_of-in-Values.ensures _ (c.of_joined-in-Values.ensures _ _ (c.closed-in-Values.ensures a ps h)
    (c.of_table.ensures c.in-Values.variables c.in-Values.rows c.len-in-Values.ensures c.len-in-Values-2.ensures)))

pub measure_elements-loop-element-preserved : goal.measure_elements-loop-element-preserved
measure_elements-loop-element-preserved t c =
    let xs = c.args.elements.now in
    let i = c.loop-element.element-index in
    let x = c.element-item.result in
    let so_far = c.loop-element.invariant in
    record {
      operator = behind_part so_far.operator so_far.patterns (element_of x);
      patterns = open_patterns so_far.patterns (element_of x);
      is = c.measure_behind-front.ensures so_far.operator so_far.patterns so_far.is;
      whole = sym (part_further so_far.operator so_far.patterns (element_of x) (tree.elements (elements_of (drop (i + 1) xs))))
          ∙ (ap (λ ys. of_elements so_far.operator so_far.patterns (tree.elements (elements_of ys))) (sym (left xs i x c.loop-element-test.true c.element-item.is)) ∙ so_far.whole);
    }

pub measure_groups-loop-group-preserved : goal.measure_groups-loop-group-preserved
measure_groups-loop-group-preserved t c =
    let xs = c.args.groups.now in
    let i = c.loop-group.group-index in
    let x = c.group-item.result in
    let so_far = c.loop-group.invariant in
    record {
      before = Some (union_with so_far.before (of_group (group_of x)));
      is = c.also.ensures so_far.before (of_group (group_of x)) so_far.is c.measure_group.ensures;
      whole = sym (group_further so_far.before (group_of x) (tree.groups (groups_of (drop (i + 1) xs))))
          ∙ (ap (λ ys. united so_far.before (tree.groups (groups_of ys))) (sym (left xs i x c.loop-group-test.true c.group-item.is)) ∙ so_far.whole);
    }
