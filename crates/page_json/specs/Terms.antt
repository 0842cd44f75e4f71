-- Terms and rows as JSON values, after the terms and solutions of SPARQL 1.1 Query Results JSON Format (sections 3.2.1 and 3.2.2).
-- The members of an object stand in the byte order of their names.
use Rattle.std.specs.Prelude.{◌≡◌, ℕ, List, [], ◌∷◌, if◌then◌else◌, false, codes, ⊤}
use Rattle.std.specs.Str.{bytes_eq}
use Rattle.std.specs.FinMap.{FinMap, entries}
use Rattle.term_core.specs.declared.term.Term.{Term}
use Rattle.term_core.specs.declared.term.Term.TheVariants.{Iri, Blank, Literal}
use Rattle.term_core.specs.Order.{bytes_cmp}
use Rattle.term_core.specs.Rows.{RowEntries}
use Rattle.term_core.specs.Spelling.{lang_string}
use Rattle.term_core.specs.Texts.{xsd_string}
use Rattle.serde_json.specs.Data.{Data, string, object, Items, no_items, item, Members, no_members, member}

-- "type" and "value", and what stands behind them
abbrev pub kind_and_value : List ℕ → List ℕ → Members → Members
kind_and_value kind value ms = member (codes "type") (string kind) (member (codes "value") (string value) ms)

-- a literal with its datatype
abbrev pub typed_members : List ℕ → List ℕ → Members
typed_members lexical datatype = member (codes "datatype") (string datatype) (kind_and_value (codes "literal") lexical no_members)

-- a literal without a tag: its datatype is left out where it is that of plain strings (SPARQL 1.1 Query Results JSON Format, 3.2.2)
abbrev pub untagged_members : List ℕ → List ℕ → Members
untagged_members lexical datatype =
    if bytes_eq datatype xsd_string then kind_and_value (codes "literal") lexical no_members else typed_members lexical datatype

-- a literal with its tag
abbrev pub tagged_members : List ℕ → List ℕ → Members
tagged_members lexical tag = kind_and_value (codes "literal") lexical (member (codes "xml:lang") (string tag) no_members)

-- a literal by its tag, which is empty where there is none
abbrev pub literal_members : List ℕ → List ℕ → List ℕ → Members
literal_members lexical datatype [] = untagged_members lexical datatype
literal_members lexical datatype (b ∷ tag) = tagged_members lexical (b ∷ tag)

-- a term as an object (SPARQL 1.1 Query Results JSON Format, 3.2.2)
abbrev pub term_json : Term → Data
term_json (Iri iri) = object (kind_and_value (codes "uri") iri no_members)
term_json (Blank label) = object (kind_and_value (codes "bnode") label no_members)
term_json (Literal lexical datatype lang) = object (literal_members lexical datatype lang)

-- a row's members: its bound variables, each with its term (SPARQL 1.1 Query Results JSON Format, 3.2.1)
abbrev pub row_members : RowEntries → Members
row_members [] = no_members
row_members (e ∷ es) = member e.0 (term_json e.1) (row_members es)

-- rows as the items of an array, each an object
abbrev pub row_items : List (FinMap bytes_cmp Term) → Items
row_items [] = no_items
row_items (row ∷ rows) = item (object (row_members (entries row))) (row_items rows)

-- a literal has the datatype of strings with a tag exactly where it has a tag (RDF 1.1 Concepts, section 3.3)
abbrev pub IsTaggedAsTyped : Term → Type 0
IsTaggedAsTyped (Iri iri) = ⊤
IsTaggedAsTyped (Blank label) = ⊤
IsTaggedAsTyped (Literal lexical datatype []) = bytes_eq datatype lang_string ≡ false
IsTaggedAsTyped (Literal lexical datatype (b ∷ tag)) = datatype ≡ lang_string

-- so are all terms of a row
abbrev pub EntriesAreTagged : RowEntries → Type 0
EntriesAreTagged [] = ⊤
EntriesAreTagged (e ∷ es) = IsTaggedAsTyped e.1 × EntriesAreTagged es

-- and those of all rows
abbrev pub RowsAreTagged : List (FinMap bytes_cmp Term) → Type 0
RowsAreTagged [] = ⊤
RowsAreTagged (row ∷ rows) = EntriesAreTagged (entries row) × RowsAreTagged rows
