use Rattle.triple_store.proofs.Opened.{told_here, lists_here, tells_here, tree_there, wrong_tag, tree_here, opened_here, none_named}
use Rattle.store_image.specs.Keys.{index_numbered, keys_by}
use Rattle.triple_store.proofs.store.Store.lower_bound.Goals as goal

pub returns-clause-found : goal.returns-clause-found
returns-clause-found g c = λ terms ids shown. rw (← c.key_in.ensures)
    (c.lower_bound.ensures.found (keys_by (index_numbered c.args.order) ids) shown.image (told_here _ _ terms ids shown c.self.view_is)
    (lists_here _ _ terms ids c.args.order _ shown c.self.view_is c.requires.order c.tree-list.ensures))

pub lower_bound-requires : goal.lower_bound-requires
lower_bound-requires g c = record { lies = tree_there c.self.inside.header (g.B.Blocks.device c.self.inside.blocks.0).count c.args.order c.tree-list.result c.self.invariant c.requires.order c.tree-list.ensures }

pub returns-clause-damaged : goal.returns-clause-damaged
returns-clause-damaged g c = λ image block told e.
    wrong_tag c.args.self.now.header (g.B.Blocks.device c.self.inside.blocks.0).count c.args.order block c.tree-list.result image (opened_here c.args.self.now _ _ c.self.view_is c.self.invariant)
    (tree_here c.args.self.now _ c.args.order c.tree-list.result c.self.view_is c.tree-list.ensures)
    (c.lower_bound.ensures.inside image block (tells_here _ _ image c.self.view_is told) e) (c.lower_bound.ensures.damaged image block (tells_here _ _ image c.self.view_is told) e)

pub returns-clause-whole : goal.returns-clause-whole
returns-clause-whole g c = λ terms ids block shown e. none_named c.args.self.now terms ids block _ shown (λ image told f. returns-clause-damaged g c image block told f) e
