-- What the values of the reader stand for.
use Rattle.std.specs.Prelude.{List, map}
use Rattle.std.specs.FinMap.{FinMap, entries}
use Rattle.term_core.specs.declared.term.Term.{Term}
use Rattle.term_core.specs.Order.{bytes_cmp}
use Rattle.term_core.specs.Rows.{RowEntries}
use Rattle.serde_json.specs.View.{view, items_view}
use Rattle.page_json.specs.Reading.{Shape, page_shape, refusal_shape, PageMembers}
use Rattle.page_json.specs.declared.reply.PageReply.{PageReply}
use Rattle.page_json.specs.declared.reply.PageReply.TheVariants.{Rows, Refused}
use Rattle.page_json.specs.declared.reply_reading.PageParts.{PageParts}

-- the entries of each row
abbrev pub rows_entries : List (FinMap bytes_cmp Term) → List RowEntries
rows_entries rows = map entries rows

-- a reply by the entries of its rows
abbrev pub reply_shape : PageReply → Shape
reply_shape (Rows variables rows next steps) = page_shape variables (rows_entries rows) next steps
reply_shape (Refused name) = refusal_shape name

-- the members of a page by their values
abbrev pub parts_view : PageParts → PageMembers
parts_view p = record { next = view p.next; rows = items_view p.rows.items; steps = p.steps; variables = items_view p.variables.items }
