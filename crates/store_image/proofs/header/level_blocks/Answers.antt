use Rattle.std.proofs.Common.{◌≡◌, ◌≤◌, sym, subst}
use Rattle.store_image.proofs.Padding.{level_few}
use Rattle.store_image.proofs.header.level_blocks.Goals as goal

pub returns-clause-few : goal.returns-clause-few
returns-clause-few c = subst (λ n. n ≤ c.args.entries) (sym c.blocks_for.ensures) (level_few c.args.payload c.args.entries c.requires.payload)
