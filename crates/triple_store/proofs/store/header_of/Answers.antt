use Rattle.std.proofs.Common.{◌≡◌, ◌*◌, sym, ap, subst, ◌∙◌, IfOk}
use Rattle.std.specs.Prelude.{IfErr}
use Rattle.sage_outside.specs.Blocks.{block_at}
use Rattle.store_image.specs.Header.{IsHeader}
use Rattle.triple_store.specs.Stores.{IsNoStore, IsCause}
use Rattle.triple_store.proofs.Opened.{block_read, no_blocks}
use Rattle.triple_store.proofs.store.header_of.Goals as goal

pub returns-in-Ok-clause-header : goal.returns-in-Ok-clause-header
returns-in-Ok-clause-header g c = λ image told. subst (λ n. IfOk c.header_in.result (λ h. IsHeader (block_at 0 image) n h)) c.blocks-count.ensures
    (subst (λ b. IfOk c.header_in.result (λ h. IsHeader b c.blocks-count.result h)) (block_read _ image _ _ _ told c.read_block.ensures.found c.in-Ok.is) c.header_in.ensures.header)

pub returns-in-Ok-clause-cause : goal.returns-in-Ok-clause-cause
returns-in-Ok-clause-cause g c = λ image told. subst (λ n. IfErr c.header_in.result (λ f. IsCause (block_at 0 image) n f)) c.blocks-count.ensures
    (subst (λ b. IfErr c.header_in.result (λ f. IsCause b c.blocks-count.result f)) (block_read _ image _ _ _ told c.read_block.ensures.found c.in-Ok.is) c.header_in.ensures.cause)

pub returns-then-count-eq0-clause-cause : goal.returns-then-count-eq0-clause-cause
returns-then-count-eq0-clause-cause g c = λ image told.
    let none : 0 ≡ (g.B.Blocks.device c.args.blocks.now).count = sym c.if-count-eq0.true ∙ c.blocks-count.ensures in
    subst (IsNoStore (block_at 0 image)) none (no_blocks image (g.met.B.Blocks.whole c.args.blocks.now image told ∙ ap (λ n. 4096 * n) (sym none)))
