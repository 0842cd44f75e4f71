-- The data that a store tells.
use Rattle.std.specs.Prelude.{ℕ, ◌+◌, ◌/◌, List, Option}
use Rattle.term_core.specs.declared.term.Term.{Term}
use Rattle.term_core.specs.declared.term.Triple.{Triple}
use Rattle.term_core.specs.declared.pattern.IdTriple.{IdTriple}
use Rattle.sage_outside.specs.Blocks.{Tells}
use Rattle.term_dict.specs.Layout.{longest_record}
use Rattle.store_image.specs.Table.{IsTable}
use Rattle.store_image.specs.Holds.{Shows}
use Rattle.store_image.specs.declared.header.Header.{Header}
use Rattle.store_image.specs.Header.{dict_of}

-- triples with their terms by rank and themselves by ranks
pub record Data : Type 0 where
  pub triples : List Triple
  pub terms : List Term
  pub ids : List IdTriple
  pub table : IsTable triples terms ids

-- an image that is told shows the data behind such a header
pub record ShowsData (header : Header) (image : Option (List ℕ)) (D : Data) : Type 0 where
  pub bytes : List ℕ
  pub told : Tells image bytes
  pub shows : Shows header D.terms D.ids bytes

-- at most how many blocks are read for a term
abbrev pub record_reads : Header → List ℕ → ℕ
record_reads header image = 4 + longest_record (dict_of header) image / 4080
