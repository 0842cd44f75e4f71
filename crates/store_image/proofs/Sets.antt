-- The tables of data with the same triples are the same.
use Rattle.std.proofs.Common.{◌≡◌, List, length, sym, ap, ◌∙◌, subst}
use Rattle.std.specs.Prelude.{flat_map}
use Rattle.std.proofs.lemmas.Cmp.{tied_itself}
use Rattle.term_core.specs.declared.term.Term.{Term}
use Rattle.term_core.specs.declared.term.Triple.{Triple}
use Rattle.term_core.specs.declared.pattern.IdTriple.{IdTriple}
use Rattle.term_core.specs.Order.{term_cmp}
use Rattle.term_core.specs.OrderLaws.{terms_total}
use Rattle.term_core.specs.Ids.{id_cmp}
use Rattle.term_core.specs.Bags.{In, HaveSame}
use Rattle.term_core.proofs.Bags.{In-map, from_In-map, In-flat_map, from_In-flat_map}
use Rattle.term_core.proofs.IdOrder.{ids_total, same_ids}
use Rattle.term_core.specs.Data.{parts}
use Rattle.term_core.specs.Index.{by_subject, triple_cmp, in_order}
use Rattle.term_core.proofs.Orders.{same_ordered}
use Rattle.term_core.proofs.Ranges.{listing_is}
use Rattle.store_image.specs.Table.{decode, IsBelow, IsTable}
use Rattle.store_image.proofs.TableOrder.{same_triple_order}

-- triples of numbers are told apart by their terms
pub decode_apart : (terms : List Term) (L : List Triple) (ids : List IdTriple) → IsTable L terms ids → (a b : IdTriple) → IsBelow (length terms) a → IsBelow (length terms) b
    → decode terms a ≡ decode terms b → a ≡ b
decode_apart terms L ids table a b p q e = same_ids a b (
    same_triple_order terms a b table.rising p q
    ∙ ap (λ t. triple_cmp by_subject (decode terms a) t) (sym e)
    ∙ sym (same_triple_order terms a a table.rising p p)
    ∙ tied_itself ids_total a
    )

parts_move : (D E : List Triple) → ((t : Triple) → In D t → In E t) → (u : Term) → In (flat_map parts D) u → In (flat_map parts E) u
parts_move D E to u i = let r = from_In-flat_map parts D u i in In-flat_map parts E r.0 u (to r.0 r.1) r.2

ids_move : (D E : List Triple) (ts us : List Term) (is js : List IdTriple) → HaveSame D E → IsTable D ts is → IsTable E us js → ts ≡ us → (i : IdTriple) → In is i → In js i
ids_move D E ts us is js same d e terms i m =
    let among : In (in_order (triple_cmp by_subject) D) (decode ts i) = subst (λ l. In l (decode ts i)) d.listing (In-map (decode ts) is i m) in
    let there : In (in_order (triple_cmp by_subject) E) (decode ts i) = (listing_is by_subject E).is.same.from (decode ts i) (same.to (decode ts i) ((listing_is by_subject D).is.same.to (decode ts i) among)) in
    let w = from_In-map (decode us) js (decode ts i) (subst (λ l. In l (decode ts i)) (sym e.listing) there) in
    let below : IsBelow (length us) i = subst (λ l. IsBelow (length l) i) terms (d.below i m) in
    subst (In js) (decode_apart us E js e w.0 i (e.below w.0 w.1) below (w.2 ∙ ap (λ l. decode l i) terms)) w.1

module _ (D E : List Triple) (ts us : List Term) (is js : List IdTriple) (same : HaveSame D E) (d : IsTable D ts is) (e : IsTable E us js) where
  pub terms_same : ts ≡ us
  terms_same = same_ordered term_cmp terms_total ts us d.rising e.rising
      (λ t i. e.from t (parts_move D E same.to t (d.to t i)))
      (λ t i. d.from t (parts_move E D same.from t (e.to t i)))

  pub numbers_same : is ≡ js
  numbers_same = same_ordered id_cmp ids_total is js d.ordered e.ordered
      (λ i m. ids_move D E ts us is js same d e terms_same i m)
      (λ i m. ids_move E D us ts js is (record { to = same.from; from = same.to }) e d (sym terms_same) i m)
