use Rattle.std.proofs.Common.{IfOk, refl, subst}
use Rattle.sage_outside.specs.Blocks.{block_at, image_of}
use Rattle.triple_store.specs.Stores.{IsNoStore}
use Rattle.sage.specs.StoreFiles.{TellHeader}
use Rattle.sage.proofs.Prefixes.{finds_told}
use Rattle.sage.proofs.StoreFiles.{count_of_file, tells_bytes}
use Rattle.sage.proofs.info.opened_lines.Goals as goal

pub returns-in-Ok-clause-told : goal.returns-in-Ok-clause-told
returns-in-Ok-clause-told g c = λ file tells.
    let told = tells_bytes _ (image_of file) (finds_told _ _ _ _ _ tells c.in-Ok.ensures.found) in
    subst (λ n. IfOk c.header_lines-lines.result.0 (λ lines. TellHeader (block_at 0 (image_of file)) n lines.items))
    (count_of_file file _ (g.met.S.File.Blocks.whole c.in-Ok.file (image_of file) told)) (c.header_lines-lines.ensures.told (image_of file) told)

pub returns-in-Ok-clause-not_a_store : goal.returns-in-Ok-clause-not_a_store
returns-in-Ok-clause-not_a_store g c = λ file tells is.
    let told = tells_bytes _ (image_of file) (finds_told _ _ _ _ _ tells c.in-Ok.ensures.found) in
    subst (IsNoStore (block_at 0 (image_of file))) (count_of_file file _ (g.met.S.File.Blocks.whole c.in-Ok.file (image_of file) told))
    (c.header_lines-lines.ensures.not_a_store (image_of file) told is)

pub returns-in-Ok-clause-damaged : goal.returns-in-Ok-clause-damaged
returns-in-Ok-clause-damaged g c = λ file tells is.
    let told = tells_bytes _ (image_of file) (finds_told _ _ _ _ _ tells c.in-Ok.ensures.found) in
    (refl, c.header_lines-lines.ensures.damaged (image_of file) told is)
