-- The image depends on the set of the triples alone.
use Rattle.std.proofs.Common.{◌≡◌, ℕ, List, sym, ap, ◌∙◌}
use Rattle.term_core.specs.declared.term.Triple.{Triple}
use Rattle.term_core.specs.Bags.{HaveSame}
use Rattle.term_core.specs.Data.{data_id}
use Rattle.term_core.proofs.Sets.{data_id_same}
use Rattle.store_image.proofs.Sets.{terms_same, numbers_same}
use Rattle.store_image.specs.Image.{store_bytes, IsImage}

pub images_same : (D E : List Triple) (format : ℕ) (x y : List ℕ) → HaveSame D E → IsImage D format x → IsImage E format y → x ≡ y
images_same D E format x y same d e =
    let terms = terms_same D E d.terms e.terms d.ids e.ids same d.table e.table in
    let ids = numbers_same D E d.terms e.terms d.ids e.ids same d.table e.table in
    d.bytes ∙ ap (λ ts. store_bytes format ts d.ids (data_id D)) terms ∙ ap (λ is. store_bytes format e.terms is (data_id D)) ids ∙ ap (store_bytes format e.terms e.ids) (data_id_same D E same) ∙ sym e.bytes
