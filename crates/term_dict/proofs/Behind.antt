-- A record that is compared by its bytes, or by a front of them.
use Rattle.std.proofs.Common.{◌≡◌, ℕ, ◌-◌, ◌++◌, List, Option, Some, None, Ok, Err, Result, refl, sym, ap, subst, ◌∙◌, Equal}
use Rattle.std.specs.declared.cmp.Ordering.{Ordering}
use Rattle.sage_outside.specs.declared.fault.StoreFault.{StoreFault}
use Rattle.term_core.specs.declared.term.Term.{Term}
use Rattle.term_core.specs.Order.{term_cmp}
use Rattle.term_dict.specs.declared.dict.Dict.{Dict}
use Rattle.sage_outside.specs.Areas.{part_of, part_at, block_of}
use Rattle.sage_outside.proofs.Joins.{part_ok}
use Rattle.term_dict.specs.Fronts.{IsDecided}
use Rattle.term_dict.specs.Layout.{record_area, or_blame, term_from, record_in, raw_record_in}
use Rattle.term_dict.specs.Ranks.{Compares}
use Rattle.term_dict.specs.Records.{term_in, raw_in, raw_order}
use Rattle.term_dict.proofs.Raw.{raw_of}

-- the texts of which an order was told
pub ordered : (t : Term) (o : Option Term) (order : Ordering) → Some order ≡ raw_order t o → (u : Term) × (o ≡ Some u) × (term_cmp u t ≡ order)
ordered t None order e = cc
ordered t (Some u) order e = (u, refl, cc)

-- texts that were compared
pub compares_raw : (block : ℕ) (bytes : List ℕ) (t : Term) (order : Ordering) → Some order ≡ raw_order t (raw_in bytes) → (order ≡ Equal → term_in bytes ≡ Some t)
    → Compares t (Ok order) (or_blame block (raw_in bytes)) (or_blame block (term_in bytes))
compares_raw block bytes t order is tie =
    let u = ordered t (raw_in bytes) order is in
    ((u.0, ap (or_blame block) u.1, u.2), λ e. ap (or_blame block) (tie e))

none_of : (o p : Option Term) → ((u : Term) → o ≡ Some u → p ≡ Some u) → p ≡ None → o ≡ None
none_of None p more e = refl
none_of (Some u) p more e = let f = more u refl in cc

no_order : (t : Term) (o : Option Term) → None ≡ raw_order t o → o ≡ None
no_order t None e = refl
no_order t (Some u) e = cc

-- bytes that spell no texts
pub compares_none : (block : ℕ) (bytes : List ℕ) (t : Term) → None ≡ raw_order t (raw_in bytes) → or_blame block (term_in bytes) ≡ Err block
compares_none block bytes t e = ap (or_blame block) (none_of (term_in bytes) (raw_in bytes) (raw_of bytes) (no_order t (raw_in bytes) e))

-- bytes of a span that were read
pub in_span : (d : Dict) (from end : ℕ) (image bytes : List ℕ) (t : Term) (r : Result Ordering StoreFault) → part_at (record_area d) from (end - from) image ≡ Ok bytes
    → Compares t r (or_blame (block_of (record_area d) from) (raw_in bytes)) (or_blame (block_of (record_area d) from) (term_in bytes))
    → Compares t r (raw_record_in d (Ok (from, end)) image) (record_in d (Ok (from, end)) image)
in_span d from end image bytes t r e h =
    let b = block_of (record_area d) from in
    let is = (part_ok (record_area d) from (end - from) image bytes e).1 in
    let read : term_from b (part_at (record_area d) from (end - from) image) ≡ or_blame b (term_in bytes) = ap (term_from b) e in
    subst (λ xs. Compares t r (or_blame b (raw_in xs)) (record_in d (Ok (from, end)) image)) (sym is)
    (subst (λ x. Compares t r (or_blame b (raw_in bytes)) x) (sym read) h)

-- a front that decides
pub front_compares : (d : Dict) (from end : ℕ) (image front rest : List ℕ) (t : Term) (order : Ordering) → front ++ rest ≡ part_of (record_area d) from (end - from) image → IsDecided front rest t order
    → Compares t (Ok order) (raw_record_in d (Ok (from, end)) image) (record_in d (Ok (from, end)) image)
front_compares d from end image front rest t order whole is =
    let b = block_of (record_area d) from in
    ((is.texts.0, ap (λ xs. or_blame b (raw_in xs)) (sym whole) ∙ ap (or_blame b) is.texts.1, is.texts.2), λ tie. absurd (is.apart tie))

-- a record whose bytes were refused
pub span_broken : (d : Dict) (from end : ℕ) (image : List ℕ) (c : ℕ) → part_at (record_area d) from (end - from) image ≡ Err c → record_in d (Ok (from, end)) image ≡ Err c
span_broken d from end image c e = ap (term_from (block_of (record_area d) from)) e
