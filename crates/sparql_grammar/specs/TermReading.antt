-- Reading a term.
use Rattle.std.specs.Prelude.{◌++◌, List, [], ℕ, codes, Option, Some, if◌then◌else◌}
use Rattle.std.specs.Str.{bytes_eq}
use Rattle.term_core.specs.Numbers.{xsd_integer, xsd_decimal}
use Rattle.term_core.specs.Spelling.{lang_string}
use Rattle.term_core.specs.Texts.{xsd_string, xsd_boolean}
use Rattle.term_core.specs.declared.term.Term.{Term}
use Rattle.term_core.specs.declared.term.Term.TheVariants as terms
use Rattle.sparql_tree.specs.declared.symbol.Shape.{Shape}
use Rattle.sparql_tree.specs.declared.symbol.Shape.TheVariants as s
use Rattle.sparql_grammar.specs.Parser.{Parser, ◌>>=◌, ◌>>◌, ◌<$>◌, pure, refuse, peek, take, spelled_value}
use Rattle.sparql_tree.specs.Terms.{literal}

abbrev pub number_by : List ℕ → Option Shape → Parser Term
number_by sign (Some s.Integer) = (λ digits. literal (sign ++ digits) xsd_integer) <$> spelled_value
number_by sign (Some s.Decimal) = (λ digits. literal (sign ++ digits) xsd_decimal) <$> spelled_value
number_by sign o = refuse

-- a number behind this sign
unfoldable pub number : List ℕ → Parser Term
number sign = peek >>= number_by sign

abbrev pub datatyped : List ℕ → List ℕ → Parser Term
datatyped lexical datatype = if bytes_eq datatype lang_string then refuse else pure (literal lexical datatype)

abbrev pub typed_by : List ℕ → Option Shape → Parser Term
typed_by lexical (Some s.Iri) = spelled_value >>= (λ datatype. datatyped lexical datatype)
typed_by lexical o = refuse

-- what follows a string and ^^
unfoldable pub typed : List ℕ → Parser Term
typed lexical = peek >>= typed_by lexical

abbrev pub quoted_by : List ℕ → Option Shape → Parser Term
quoted_by lexical (Some s.Tag) = (λ tag. terms.Literal lexical lang_string tag) <$> spelled_value
quoted_by lexical (Some s.Typed) = take >> typed lexical
quoted_by lexical o = pure (literal lexical xsd_string)

-- what follows a string
unfoldable pub quoted : List ℕ → Parser Term
quoted lexical = peek >>= quoted_by lexical

abbrev pub term_by : Option Shape → Parser Term
term_by (Some s.Iri) = terms.Iri <$> spelled_value
term_by (Some s.Quoted) = spelled_value >>= (λ lexical. quoted lexical)
term_by (Some s.Boolean) = (λ word. literal word xsd_boolean) <$> spelled_value
term_by (Some s.Plus) = take >> number (codes "+")
term_by (Some s.Minus) = take >> number (codes "-")
term_by o = number []

-- a term
unfoldable pub term : Parser Term
term = peek >>= term_by
