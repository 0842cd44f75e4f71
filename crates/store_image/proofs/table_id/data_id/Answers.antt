use Rattle.std.proofs.Common.{◌≡◌, ◌++◌, ◌+◌, [], ◌∷◌, List, ℕ, get_or, take, length, ◌<◌, sym, ap, ◌∙◌, subst}
use Rattle.std.specs.Prelude.{flat_map}
use Rattle.std.proofs.lemmas.Grind.{flat_map-append}
use Rattle.std.proofs.lemmas.List.{take_more, take_all, append-nil}
use Rattle.std.proofs.lemmas.List.Folds.{flat_map-map}
use Rattle.sha2.specs.Sha256.{sha256}
use Rattle.sha2.specs.Hashers.{Holds256}
use Rattle.term_core.specs.declared.pattern.IdTriple.{IdTriple}
use Rattle.term_core.specs.Texts.{triple_text}
use Rattle.term_core.specs.Bags.{In}
use Rattle.term_core.specs.Index.{by_subject, triple_cmp, in_order}
use Rattle.store_image.specs.Table.{terms_in, ids_in, decode}
use Rattle.store_image.proofs.TableLists.{In-get_or}
use Rattle.store_image.proofs.table_id.data_id.Goals as goal

-- the lines of a list's front, one more of them
one_more : (f : IdTriple → List ℕ) (items : List IdTriple) (i : ℕ) (d : IdTriple) (line : List ℕ) → i < length items → line ≡ f (get_or items i d)
    → flat_map f (take i items) ++ line ≡ flat_map f (take (i + 1) items)
one_more f items i d line h e =
    let item = get_or items i d in
    let last : flat_map f (item ∷ []) ≡ line = append-nil (f item) ∙ sym e in
    sym (ap (flat_map f) (take_more items i d h) ∙ flat_map-append f (take i items) (item ∷ []) ∙ ap (λ w. flat_map f (take i items) ++ w) last)

pub push_ids-requires : goal.push_ids-requires
push_ids-requires c =
    let none : IdTriple = record { s = 0; p = 0; o = 0 } in
    let items = c.triples-ids-items.result.now in
    let item = get_or items c.loop-ids.ids-index none in
    c.requires item (subst (λ xs. In xs item) c.loop-ids.invariant.1 (In-get_or items c.loop-ids.ids-index none c.loop-ids-test.true))

pub loop-ids-preserved : goal.loop-ids-preserved
loop-ids-preserved c =
    let none : IdTriple = record { s = 0; p = 0; o = 0 } in
    let items = c.triples-ids-items.result.now in
    let f : IdTriple → List ℕ = λ ids. triple_text (decode (terms_in c.args.table.now) ids) in
    let line : c.as_slice.result.now ≡ f (get_or items c.loop-ids.ids-index none) =
    c.as_slice.ensures.value ∙ c.in_ok-push_ids.ensures ∙ ap (λ w. w ++ f (get_or items c.loop-ids.ids-index none)) c.clear.ensures.items in (
      subst (Holds256 c.update.new.self) (one_more f items c.loop-ids.ids-index none c.as_slice.result.now c.loop-ids-test.true line) (c.update.ensures _ c.loop-ids.invariant.0),
      c.loop-ids.invariant.1,
    )

pub returns : goal.returns
returns c = λ L t.
    let items = c.triples-ids-items.result.now in
    let terms = terms_in c.args.table.now in
    let f : IdTriple → List ℕ = λ ids. triple_text (decode terms ids) in
    let all : flat_map f (take c.loop-ids.ids-index items) ≡ flat_map triple_text (in_order (triple_cmp by_subject) L) =
    ap (flat_map f) (take_all c.loop-ids.ids-index items c.loop-ids-test.false ∙ c.loop-ids.invariant.1)
    ∙ sym (flat_map-map triple_text (decode terms) (ids_in c.args.table.now)) ∙ ap (flat_map triple_text) t.listing in
    c.finalize.ensures _ c.loop-ids.invariant.0 ∙ ap sha256 all
