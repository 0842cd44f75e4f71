use Rattle.std.proofs.Common.{◌≡◌, subst}
use Rattle.term_dict.specs.Layout.{ReadsImage, stored_term}
use Rattle.term_dict.specs.Ranks.{HoldsTerms}
use Rattle.store_image.specs.Header.{dict_of}
use Rattle.std.proofs.Common.{sym}
use Rattle.triple_store.proofs.Opened.{tells_here, dict_here, dict_there, bad_record, named_record, none_named}
use Rattle.triple_store.proofs.store.Store.term.Goals as goal

pub term-requires-clause-lies : goal.term-requires-clause-lies
term-requires-clause-lies g c = dict_there c.self.inside.header (g.B.Blocks.device c.self.inside.blocks.0).count c.dict-dict.result c.self.invariant c.dict-dict.ensures

pub returns-clause-damaged : goal.returns-clause-damaged
returns-clause-damaged g c = λ image block told e.
    let d : c.dict-dict.result ≡ dict_of c.args.self.now.header = dict_here c.args.self.now _ c.dict-dict.result c.self.view_is c.dict-dict.ensures in
    bad_record c.args.self.now.header c.args.id block image c.requires.within
    (named_record c.term.result (stored_term (dict_of c.args.self.now.header) c.args.id image) block
    (subst (λ t. ReadsImage (λ x. x) c.term.result (stored_term t c.args.id image)) d (c.term.ensures.found image (tells_here _ _ image c.self.view_is told))) e)

pub returns-clause-found : goal.returns-clause-found
returns-clause-found g c = λ terms ids shown.
    let d : c.dict-dict.result ≡ dict_of c.args.self.now.header = dict_here c.args.self.now _ c.dict-dict.result c.self.view_is c.dict-dict.ensures in
    c.term.ensures.held terms shown.image (tells_here _ _ shown.image c.self.view_is shown.told) (subst (λ t. HoldsTerms t terms shown.image) (sym d) shown.shows.dictionary)

pub returns-clause-whole : goal.returns-clause-whole
returns-clause-whole g c = λ terms ids block shown e. none_named c.args.self.now terms ids block _ shown (λ image told f. returns-clause-damaged g c image block told f) e
