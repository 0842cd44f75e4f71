-- Terms of one kind and one text tie, unless they are literals.
use Rattle.std.proofs.Common.{◌≡◌, ◌≢◌, refl, sym, ◌∙◌, ap, arith, Equal}
use Rattle.term_core.specs.declared.term.Term.{Term}
use Rattle.term_core.specs.declared.term.Term.TheVariants.{Iri, Blank, Literal}
use Rattle.term_core.specs.Order.{rank_of, text_of, term_cmp}
use Rattle.std.proofs.lemmas.Cmp.{tied_itself}
use Rattle.term_core.specs.OrderLaws.{terms_total}

same_term : (a b : Term) → rank_of a ≡ rank_of b → rank_of a ≢ 2 → text_of a ≡ text_of b → a ≡ b
same_term (Iri a) (Iri b) r n t = ap Iri t
same_term (Iri a) (Blank b) r n t = absurd (omega arith)
same_term (Iri a) (Literal x y z) r n t = absurd (omega arith)
same_term (Blank a) (Iri b) r n t = absurd (omega arith)
same_term (Blank a) (Blank b) r n t = ap Blank t
same_term (Blank a) (Literal x y z) r n t = absurd (omega arith)
same_term (Literal x y z) b r n t = absurd (n refl)

pub ties : (a b : Term) → rank_of a ≡ rank_of b → rank_of a ≢ 2 → text_of a ≡ text_of b → term_cmp a b ≡ Equal
ties a b r n t = ap (term_cmp a) (sym (same_term a b r n t)) ∙ tied_itself terms_total a
