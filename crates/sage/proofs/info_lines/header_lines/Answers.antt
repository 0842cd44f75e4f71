use Rattle.std.proofs.Common.{subst}
use Rattle.sage_outside.specs.Blocks.{block_at}
use Rattle.triple_store.specs.Stores.{IsCause}
use Rattle.sage.proofs.info_lines.header_lines.Goals as goal

pub returns-in-Ok-store_lines-clause-told : goal.returns-in-Ok-store_lines-clause-told
returns-in-Ok-store_lines-clause-told g c = λ image told. record {
  header = c.in-Ok.store.header;
  is_header = c.in-Ok.ensures.header image told;
  tell = c.in-Ok-store_lines.ensures;
}

pub returns-in-NotAStore-clause-not_a_store : goal.returns-in-NotAStore-clause-not_a_store
returns-in-NotAStore-clause-not_a_store g c = λ image told _.
    subst (IsCause (block_at 0 image) (g.B.Blocks.device c.args.blocks).count) c.in-NotAStore.is (c.in-Err.ensures.cause image told)

pub returns-in-Damaged-clause-damaged : goal.returns-in-Damaged-clause-damaged
returns-in-Damaged-clause-damaged g c = λ image told _.
    (subst (IsCause (block_at 0 image) (g.B.Blocks.device c.args.blocks).count) c.in-Damaged.is (c.in-Err.ensures.cause image told)).1
