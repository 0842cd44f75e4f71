use Rattle.std.proofs.Common.{◌≡◌, ap, subst, arith, Err}
use Rattle.btree_scan.specs.Levels.{key_at}
use Rattle.store_image.specs.Header.{tree_of}
use Rattle.store_image.specs.Keys.{index_numbered, keys_by}
use Rattle.triple_store.specs.Entries.{named_from}
use Rattle.triple_store.proofs.Opened.{tells_here, lists_here, key_there, tree_there, tree_here, named_block, bad_entry, none_named}
use Rattle.triple_store.proofs.store.Store.key_at.Goals as goal

pub entry-requires-clause-lies : goal.entry-requires-clause-lies
entry-requires-clause-lies g c = tree_there c.self.inside.header (g.B.Blocks.device c.self.inside.blocks.0).count c.args.order c.tree-list.result c.self.invariant c.requires.order c.tree-list.ensures

pub returns-clause-damaged : goal.returns-clause-damaged
returns-clause-damaged g c = λ image block told e.
    let h = c.args.self.now.header in
    let order = c.args.order in
    let place = c.args.place in
    let tree : c.tree-list.result ≡ tree_of h order = tree_here c.args.self.now _ order c.tree-list.result c.self.view_is c.tree-list.ensures in
    let read : key_at c.tree-list.result 0 place image ≡ Err block =
    named_block c.entry.result (key_at c.tree-list.result 0 place image) block (c.entry.ensures.found image (tells_here _ _ image c.self.view_is told)) e in
    bad_entry h order place block image c.requires.order c.requires.within
    (ap (named_from order h.terms (tree_of h order) place) (subst (λ t. key_at t 0 place image ≡ Err block) tree read))

pub returns-clause-whole : goal.returns-clause-whole
returns-clause-whole g c = λ terms ids block shown e. none_named c.args.self.now terms ids block _ shown (λ image told f. returns-clause-damaged g c image block told f) e

pub returns-clause-found : goal.returns-clause-found
returns-clause-found g c = λ terms ids shown.
    let lists = lists_here _ _ terms ids c.args.order _ shown c.self.view_is c.requires.order c.tree-list.ensures in
    key_there c.entry.result _ (keys_by (index_numbered c.args.order) ids) c.args.place shown.image lists
    (omega (arith, c.requires.within, (shown.shows.lists c.args.order c.requires.order).entries))
    (c.entry.ensures.found shown.image (tells_here _ _ shown.image c.self.view_is shown.told))
