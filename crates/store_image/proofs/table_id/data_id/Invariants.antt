use Rattle.std.proofs.Common.{◌≡◌, take}
use Rattle.std.specs.Prelude.{flat_map}
use Rattle.sha2.specs.Hashers.{Holds256}
use Rattle.term_core.specs.Texts.{triple_text}
use Rattle.store_image.specs.Table.{terms_in, ids_in, decode}
use Rattle.store_image.proofs.table_id.data_id.Given as goal

abbrev pub invariant-loop-ids : goal.invariant-loop-ids
invariant-loop-ids l =
    Holds256 l.hasher (flat_map (λ ids. triple_text (decode (terms_in l.table) ids)) (take l.ids-index l.ids-items))
    × (l.ids-items ≡ ids_in l.table)
