use Rattle.std.proofs.Common.{sym, subst}
use Rattle.std.specs.Str.{IsUtf8}
use Rattle.term_core.specs.Texts.{term_text}
use Rattle.nt_text.proofs.WrittenText.{iri_utf8, blank_utf8, literal_utf8}
use Rattle.nt_text.proofs.writing.term_is_text.Goals as goal

pub returns-in-Iri : goal.returns-in-Iri
returns-in-Iri c = subst (λ t. IsUtf8 (term_text t)) (sym c.in-Iri.is) (iri_utf8 c.in-Iri.iri c.bytes-iri.ensures.utf8)

pub returns-in-Blank : goal.returns-in-Blank
returns-in-Blank c = subst (λ t. IsUtf8 (term_text t)) (sym c.in-Blank.is) (blank_utf8 c.in-Blank.label c.bytes-label.ensures.utf8)

pub returns-in-Literal : goal.returns-in-Literal
returns-in-Literal c =
    let l = c.in-Literal in
    subst (λ t. IsUtf8 (term_text t)) (sym l.is) (literal_utf8 l.lexical l.datatype l.lang c.bytes-lexical.ensures.utf8 c.bytes-datatype.ensures.utf8 c.bytes-lang.ensures.utf8)
