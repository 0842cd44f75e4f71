-- The text of an answer (SPARQL 1.1 Query Results CSV and TSV Formats, section 4), and the line of counts.
use Rattle.std.specs.Prelude.{ℕ, List, [], ◌∷◌, ◌++◌, length, flat_map, Option, Some, None, ◌==◌, if◌then◌else◌, codes}
use Rattle.std.specs.Fmt.{decimal}
use Rattle.term_core.specs.declared.term.Term.{Term}
use Rattle.term_core.specs.Texts.{term_text}
use Rattle.term_core.specs.Mappings.{Name, Row, value}
use Rattle.plan_tree.specs.Pages.{Page, steps_in, longest_plan_in}

-- a byte of a term: a tab would end the cell, and is escaped
abbrev pub tab_escaped : ℕ → List ℕ
tab_escaped b = if b == 9 then 92 ∷ 116 ∷ [] else b ∷ []

-- the cell of a term, and an empty one where there is none
abbrev pub tsv_cell : Option Term → List ℕ
tsv_cell None = []
tsv_cell (Some term) = flat_map tab_escaped (term_text term)

-- what is shown of each name, with a tab between each two
abbrev pub tabbed : (Name → List ℕ) → List Name → List ℕ
tabbed shown [] = []
tabbed shown (name ∷ names) = shown name ++ flat_map (λ other. 9 ∷ shown other) names

-- the variables, each after its sign, on the first line
abbrev pub header : List Name → List ℕ
header names = tabbed (λ name. 63 ∷ name) names ++ 10 ∷ []

-- a solution on a line of its own
abbrev pub line : List Name → Row → List ℕ
line names row = tabbed (λ name. tsv_cell (value row name)) names ++ 10 ∷ []

-- the variables, and a line for each solution
abbrev pub tsv_of : List Name → List Row → List ℕ
tsv_of names rows = header names ++ flat_map (line names) rows

-- how many pages and steps there were, and how long the longest suspended plan was in bytes
abbrev pub counts_line : ℕ → ℕ → ℕ → List ℕ
counts_line pages steps longest =
    codes "pages " ++ (decimal pages ++ (codes " steps " ++ (decimal steps ++ (codes " longest " ++ (decimal longest ++ 10 ∷ [])))))

-- the counts of pages
abbrev pub counts_text : List Page → List ℕ
counts_text pages = counts_line (length pages) (steps_in pages) (longest_plan_in pages)
