-- What has numbers keeps them.
use Rattle.std.proofs.Common.{◌≡◌, ℕ, suc, List, [], ◌∷◌, ◌++◌, length, Some, refl, ap, arith}
use Rattle.std.specs.Prelude.{slice_get}
use Rattle.std.specs.FinMap as finmap
use Rattle.term_core.specs.declared.term.Term.{Term}
use Rattle.term_core.specs.Mappings.{Name, Row}
use Rattle.term_core.specs.Patterns.{Position, Pattern}
use Rattle.plan_tree.specs.Trace.{Plan}
use Rattle.row_cells.specs.declared.cell.Position as code
use Rattle.row_cells.specs.declared.cell.PatternSlots.{PatternSlots}
use Rattle.plan_course.specs.declared.course.Placed.{Placed}
use Rattle.plan_course.specs.declared.numbering.Numbering.{Numbering}
use Rattle.plan_course.specs.Courses.{Course}
use Rattle.plan_course.specs.Meanings.{Tells, Grown, AreNamed, none_named, then_named, AreEntries, no_entries, then_entry, AreRows, no_rows, then_row, IsPosition, known_position, named_position, IsPattern, Means, rows_mean, join_means, union_means, filter_means, bind_means, project_means}

pub grown_itself : {a : Numbering} → Tells a → Grown a a
grown_itself t = record { tells = t; names = λ k name e. e; given = λ k term e. e; made = omega arith }

pub grown_twice : {a b c : Numbering} → Grown a b → Grown b c → Grown a c
grown_twice g h = record {
  tells = h.tells;
  names = λ k name e. h.names k name (g.names k name e);
  given = λ k term e. h.given k term (g.given k term e);
  made = omega (arith, g.made, h.made);
}

pub named_on : {old new : Numbering} {slots : List ℕ} {names : List Name} → Grown old new → AreNamed old.names slots names → AreNamed new.names slots names
named_on g none_named = none_named
named_on g (then_named {slot = slot} {name = name} e h) = then_named (g.names slot name e) (named_on g h)

pub named_push : {all : List Name} {slots : List ℕ} {names : List Name} (slot : ℕ) (name : Name) → AreNamed all slots names → slice_get all slot ≡ Some name
    → AreNamed all (slots ++ slot ∷ []) (names ++ name ∷ [])
named_push slot name none_named e = then_named e none_named
named_push slot name (then_named d h) e = then_named d (named_push slot name h e)

pub entries_on : {old new : Numbering} {row : List Placed} {entries : List (Name × Term)} → Grown old new → AreEntries old row entries → AreEntries new row entries
entries_on g no_entries = no_entries
entries_on g (then_entry {placed = placed} {entry = entry} e d h) = then_entry (g.names placed.slot entry.0 e) (g.given placed.term entry.1 d) (entries_on g h)

pub entries_push : {n : Numbering} {row : List Placed} {entries : List (Name × Term)} (placed : Placed) (entry : Name × Term) → AreEntries n row entries
    → slice_get n.names placed.slot ≡ Some entry.0 → slice_get n.given placed.term ≡ Some entry.1 → AreEntries n (row ++ placed ∷ []) (entries ++ entry ∷ [])
entries_push placed entry no_entries e d = then_entry e d no_entries
entries_push placed entry (then_entry a b h) e d = then_entry a b (entries_push placed entry h e d)

pub rows_on : {old new : Numbering} {placed : List (List Placed)} {rows : List Row} → Grown old new → AreRows old placed rows → AreRows new placed rows
rows_on g no_rows = no_rows
rows_on g (then_row e h) = then_row (entries_on g e) (rows_on g h)

pub rows_push : {n : Numbering} {more : List (List Placed)} {rows : List Row} (placed : List Placed) (row : Row) → AreRows n more rows
    → AreEntries n placed (finmap.entries row) → AreRows n (more ++ placed ∷ []) (rows ++ row ∷ [])
rows_push placed row no_rows e = then_row e no_rows
rows_push placed row (then_row d h) e = then_row d (rows_push placed row h e)

pub rows_count : {n : Numbering} {placed : List (List Placed)} {rows : List Row} → AreRows n placed rows → length placed ≡ length rows
rows_count no_rows = refl
rows_count (then_row e h) = ap suc (rows_count h)

pub position_on : {old new : Numbering} {s : code.Position} {p : Position} → Grown old new → IsPosition old s p → IsPosition new s p
position_on g (known_position {k = k} {term = term} e) = known_position (g.given k term e)
position_on g (named_position {k = k} {name = name} e) = named_position (g.names k name e)

pub pattern_on : {old new : Numbering} {s : PatternSlots} {p : Pattern} → Grown old new → IsPattern old s p → IsPattern new s p
pattern_on g h = record { subject = position_on g h.subject; predicate = position_on g h.predicate; object = position_on g h.object }

pub means_on : {old new : Numbering} {course : Course} {plan : Plan} → Grown old new → Means old course plan → Means new course plan
means_on g (rows_mean few h) = rows_mean few (rows_on g h)
means_on g (join_means h p) = join_means (means_on g h) (pattern_on g p)
means_on g (union_means h k) = union_means (means_on g h) (means_on g k)
means_on g (filter_means h r) = filter_means (means_on g h) (named_on g r)
means_on g (bind_means {slot = slot} {name = name} h e below above r) =
    bind_means (means_on g h) (g.names slot name e) (omega (arith, g.made, below)) above (named_on g r)
means_on g (project_means h v m) = project_means (means_on g h) (named_on g v) m
