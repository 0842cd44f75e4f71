use Rattle.std.proofs.Common.{subst}
use Rattle.std.specs.Prelude.{flat_map}
use Rattle.term_core.specs.Bags.{In}
use Rattle.term_core.specs.Data.{parts}
use Rattle.sage.proofs.Opened.{short_terms}
use Rattle.sage.proofs.document.image_of.Goals as goal

pub image-requires-clause-short : goal.image-requires-clause-short
image-requires-clause-short c = λ t i. short_terms c.args.triples c.requires.limits.terms t (subst (λ triples. In (flat_map parts triples) t) c.as_slice.ensures i)
