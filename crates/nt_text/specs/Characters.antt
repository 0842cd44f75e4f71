-- The classes by which a text is cut. Each holds all or none of the characters from U+0080 on, so it is a class of
-- bytes in UTF-8 too.
use Rattle.std.specs.Prelude.{ℕ, Bool, not, codes}
use Rattle.term_core.specs.Characters.{is_among, is_letter, is_iri, is_plain}
use Rattle.nt_text.specs.declared.classes.Class.{Class}
use Rattle.nt_text.specs.declared.classes.Class.TheVariants.{Blank, Iri, Plain, Letter, Line}

-- a space or a tab (RDF 1.1 N-Triples 7)
abbrev pub is_blank : ℕ → Bool
is_blank c = is_among (codes " \t") c

-- no LF or CR (RDF 1.1 N-Triples 7, EOL)
abbrev pub is_line : ℕ → Bool
is_line c = not (is_among (codes "\n\r") c)

-- the characters of each class
abbrev pub is_in : Class → ℕ → Bool
is_in Blank c = is_blank c
is_in Iri c = is_iri c
is_in Plain c = is_plain c
is_in Letter c = is_letter c
is_in Line c = is_line c
