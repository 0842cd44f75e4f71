use Rattle.std.proofs.Common.{◌≡◌, ap, sym, subst, ◌∙◌, refl, rules, Err}
use Rattle.btree_scan.specs.Levels.{key_at}
use Rattle.store_image.specs.Header.{tree_of}
use Rattle.triple_store.specs.Entries.{named_from, stored_triple}
use Rattle.triple_store.proofs.Opened.{read_here, entry_found, tree_there, leaf_there, tree_here, tells_here, handed_read, named_block, bad_entry, none_named}
use Rattle.triple_store.proofs.store.Store.entry.Goals as goal

pub entry-requires-clause-lies : goal.entry-requires-clause-lies
entry-requires-clause-lies g c = tree_there c.self.inside.header (g.B.Blocks.device c.self.inside.blocks.0).count c.args.order c.tree-list.result c.self.invariant c.requires.order c.tree-list.ensures

pub named-requires-clause-within : goal.named-requires-clause-within
named-requires-clause-within g c = leaf_there c.self.inside.header (g.B.Blocks.device c.self.inside.blocks.0).count c.args.order c.args.place c.tree-list.result c.args.self.now _ c.self.invariant c.requires.order
    c.self.view_is refl c.requires.within c.tree-list.ensures

pub returns-in_err-key-clause-damaged : goal.returns-in_err-key-clause-damaged
returns-in_err-key-clause-damaged g c = λ image block told e.
    let h = c.args.self.now.header in
    let order = c.args.order in
    let place = c.args.place in
    let tree : c.tree-list.result ≡ tree_of h order = tree_here c.args.self.now _ order c.tree-list.result c.self.view_is c.tree-list.ensures in
    let fault = handed_read _ _ block c.from_residual.ensures e in
    let read : key_at c.tree-list.result 0 place image ≡ Err block =
    named_block c.entry.result (key_at c.tree-list.result 0 place image) block (c.entry.ensures.found image (tells_here _ _ image c.self.view_is told)) (c.in_err-key.was ∙ ap Err fault) in
    bad_entry h order place block image c.requires.order c.requires.within
    (ap (named_from order h.terms (tree_of h order) place) (subst (λ t. key_at t 0 place image ≡ Err block) tree read))

pub returns-in_err-key-clause-whole : goal.returns-in_err-key-clause-whole
returns-in_err-key-clause-whole g c = λ terms ids block shown e.
    none_named c.args.self.now terms ids block _ shown (λ image told f. returns-in_err-key-clause-damaged g c image block told f) e

pub returns-clause-read : goal.returns-clause-read
returns-clause-read g c = search rules

pub returns-clause-damaged : goal.returns-clause-damaged
returns-clause-damaged g c = λ image block told e.
    bad_entry c.args.self.now.header c.args.order c.args.place block image c.requires.order c.requires.within
    (named_block c.named.result (stored_triple c.args.self.now.header c.args.order c.args.place image) block (returns-clause-read g c image told) e)

pub returns-clause-found : goal.returns-clause-found
returns-clause-found g c = λ terms ids shown.
    let is = read_here c.args.self.now.header terms ids shown.image c.args.order c.args.place shown.shows c.requires.order c.requires.within in
    entry_found c.named.result c.args.self.now.header ids c.args.order c.args.place shown.image is (returns-clause-read g c shown.image shown.told)

pub returns-clause-whole : goal.returns-clause-whole
returns-clause-whole g c = λ terms ids block shown e. none_named c.args.self.now terms ids block _ shown (λ image told f. returns-clause-damaged g c image block told f) e
