-- The order on terms is total, and only equal terms tie.
use Rattle.std.proofs.Common.{◌≡◌, ◌++◌, ℕ, true, List, refl, ap, arith, Equal, Less, Greater}
use Rattle.std.specs.Hash as fed
use Rattle.std.specs.declared.cmp.Ordering.{Ordering}
use Rattle.std.specs.Ordering.{ordering_then, eq_by_cmp, is_eq}
use Rattle.std.specs.Cmp.{IsTotalOrder}
use Rattle.std.specs.FinMap.{slice_cmp-IsAntisymmetric, nat_cmp-IsAntisymmetric}
use Rattle.std.proofs.lemmas.Cmp.{then_total, on_total, nat_cmp_total, nat_list_cmp_total}
use Rattle.term_core.specs.declared.term.Term.{Term}
use Rattle.term_core.specs.declared.term.Term.TheVariants.{Iri, Blank, Literal}
use Rattle.term_core.specs.Order.{rank_of, text_of, datatype_of, lang_of, bytes_cmp, term_cmp}

-- the order on terms is total
pub terms_total : IsTotalOrder term_cmp
terms_total =
    then_total (on_total rank_of nat_cmp_total) (then_total (on_total text_of nat_list_cmp_total)
    (then_total (on_total datatype_of nat_list_cmp_total) (on_total lang_of nat_list_cmp_total)))

-- both parts of a tie tie
pub both_tie : (a b : Ordering) → ordering_then a b ≡ Equal → (a ≡ Equal) × (b ≡ Equal)
both_tie Less b e = cc
both_tie Equal b e = (refl, e)
both_tie Greater b e = cc

-- bytes that tie are equal
pub same_bytes : (a b : List ℕ) → bytes_cmp a b ≡ Equal → a ≡ b
same_bytes = slice_cmp-IsAntisymmetric nat_cmp-IsAntisymmetric

-- the rank and the three texts make the term
same_parts : (a b : Term) → rank_of a ≡ rank_of b → text_of a ≡ text_of b → datatype_of a ≡ datatype_of b → lang_of a ≡ lang_of b → a ≡ b
same_parts (Iri a) (Iri b) r t d l = ap Iri t
same_parts (Iri a) (Blank b) r t d l = absurd (omega arith)
same_parts (Iri a) (Literal x y z) r t d l = absurd (omega arith)
same_parts (Blank a) (Iri b) r t d l = absurd (omega arith)
same_parts (Blank a) (Blank b) r t d l = ap Blank t
same_parts (Blank a) (Literal x y z) r t d l = absurd (omega arith)
same_parts (Literal x y z) (Iri b) r t d l = absurd (omega arith)
same_parts (Literal x y z) (Blank b) r t d l = absurd (omega arith)
same_parts (Literal x y z) (Literal u v w) r t d l = cc

-- terms that tie are equal
pub same_terms : (a b : Term) → term_cmp a b ≡ Equal → a ≡ b
same_terms a b e =
    let first = both_tie _ _ e in
    let second = both_tie _ _ first.1 in
    let third = both_tie _ _ second.1 in
    same_parts a b (nat_cmp-IsAntisymmetric _ _ first.0) (same_bytes _ _ second.0) (same_bytes _ _ third.0) (same_bytes _ _ third.1)

-- what a hasher is given of a term: its kind, and its texts
abbrev pub hash_writes : Term → fed.HashWrites
hash_writes (Blank label) = fed.u8 0 ++ fed.str label
hash_writes (Iri iri) = fed.u8 1 ++ fed.str iri
hash_writes (Literal lexical datatype lang) = fed.u8 2 ++ (fed.str lexical ++ (fed.str datatype ++ fed.str lang))

-- equal terms hash alike
pub hash_alike : (a b : Term) → eq_by_cmp term_cmp a b ≡ true → hash_writes a ≡ hash_writes b
hash_alike a b e = ap hash_writes (same_terms a b (tied (term_cmp a b) e))
  where
    tied : (o : Ordering) → is_eq o ≡ true → o ≡ Equal
    tied Less h = cc
    tied Equal h = refl
    tied Greater h = cc
