use Rattle.xsd_num.proofs.Places.{magnitudes_by_parts}
use Rattle.xsd_num.proofs.order.cmp_magnitudes.Goals as goal

pub returns : goal.returns
returns c =
    rw (c.then.ensures, c.cmp.ensures, c.cmp-2.ensures, ← c.magnitude.ensures.exact, ← c.magnitude-2.ensures.exact, ← c.scale.ensures, ← c.scale-2.ensures)
    (magnitudes_by_parts c.magnitude.result c.magnitude-2.result c.scale.result c.scale-2.result _ _ _ _
    c.parts-a_whole.ensures.value c.parts-b_whole.ensures.value c.parts-a_whole.ensures.fraction c.parts-b_whole.ensures.fraction)
