use Rattle.std.proofs.Common.{◌≡◌, ◌*◌, ◌∙◌, ℕ, List, length, Result, Ok, Err, IfOk, OnOk, sym, ap, subst, arith}
use Rattle.term_dict.specs.Built.{AreTexts}
use Rattle.term_core.specs.Data.{data_id}
use Rattle.store_image.specs.Table.{terms_in, ids_in}
use Rattle.store_image.specs.Holds.{Holds}
use Rattle.store_image.specs.Image.{areas, file_bytes, header_of}
use Rattle.store_image.proofs.Sizes.{no_more, short_places}
use Rattle.store_image.proofs.Images.{whole, image_holds}
use Rattle.store_image.proofs.building.image_of.Goals as goal

pub header_of-header-requires-clause-few_triples : goal.header_of-header-requires-clause-few_triples
header_of-header-requires-clause-few_triples c = omega (arith, no_more c.args.triples.now (terms_in c.in_ok-table.table) (ids_in c.in_ok-table.table) c.in_ok-table.ensures)

pub header_of-header-requires-clause-short : goal.header_of-header-requires-clause-short
header_of-header-requires-clause-short c = short_places (terms_in c.in_ok-table.table) (λ t i. c.requires.short t (c.in_ok-table.ensures.to t i))

pub written-requires-clause-few_triples : goal.written-requires-clause-few_triples
written-requires-clause-few_triples c = omega (arith, no_more c.args.triples.now (terms_in c.in_ok-table.table) (ids_in c.in_ok-table.table) c.in_ok-table.ensures)

pub written-requires-clause-short : goal.written-requires-clause-short
written-requires-clause-short c = short_places (terms_in c.in_ok-table.table) (λ t i. c.requires.short t (c.in_ok-table.ensures.to t i))

pub written-requires-clause-whole : goal.written-requires-clause-whole
written-requires-clause-whole c =
    let L = c.args.triples.now in
    let terms = terms_in c.in_ok-table.table in
    let ids = ids_in c.in_ok-table.table in
    let header : c.header_of-header.result ≡ header_of c.args.format terms ids (data_id L) =
    c.header_of-header.ensures ∙ ap (header_of c.args.format terms ids) (c.in_ok-name.ensures L c.in_ok-table.ensures) in
    subst (λ h. length (areas h terms ids) ≡ 4096 * h.blocks) (sym header)
    (whole L c.args.format c.requires.format terms ids c.in_ok-table.ensures c.requires.few c.requires.allowed c.requires.spelled c.requires.short)

-- what holds of the bytes of a list holds where a call answers it
bytes_hold : {X E : Type 0} (view : X → List ℕ) (r : Result X E) (bytes : List ℕ) (P : List ℕ → Type 0) (Q : Type 0) → IfOk r (λ x. view x ≡ bytes) → OnOk r Q → (Q → P bytes) → IfOk r (λ x. P (view x))
bytes_hold view (Ok x) bytes P Q is q h = subst P (sym is) (h q)
bytes_hold view (Err e) bytes P Q is q h = tt

pub returns-clause-holds : goal.returns-clause-holds
returns-clause-holds c =
    let L = c.args.triples.now in
    let terms = terms_in c.in_ok-table.table in
    let ids = ids_in c.in_ok-table.table in
    let header : c.header_of-header.result ≡ header_of c.args.format terms ids (data_id L) =
    c.header_of-header.ensures ∙ ap (header_of c.args.format terms ids) (c.in_ok-name.ensures L c.in_ok-table.ensures) in
    bytes_hold (λ image. image.items) c.written.result (file_bytes c.header_of-header.result terms ids) (Holds L c.args.format) (AreTexts terms) c.written.ensures.image c.written.ensures.texts
    (λ texts. subst (λ h. Holds L c.args.format (file_bytes h terms ids)) (sym header)
    (image_holds L c.args.format c.requires.format terms ids c.in_ok-table.ensures c.requires.few c.requires.allowed c.requires.spelled c.requires.short texts))
