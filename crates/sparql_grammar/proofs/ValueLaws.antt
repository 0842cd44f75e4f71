-- The grammar of inline data and its reader agree.
use Rattle.std.proofs.Common.{◌≡◌, ℕ, zero, suc, ◌<◌, ◌≤◌, Bool, true, List, [], ◌∷◌, ◌++◌, length, Option, Some, None, refl, sym, subst, ap, ◌∙◌, append_assoc, arith}
use Rattle.std.specs.FinMap as finmap
use Rattle.term_core.specs.Mappings.{Name, Row}
use Rattle.term_core.specs.declared.term.Term.{Term}
use Rattle.sparql_tree.specs.Groups.{Element, Values}
use Rattle.sparql_tree.specs.declared.symbol.Shape.{Shape}
use Rattle.sparql_tree.specs.declared.symbol.Shape.TheVariants as s
use Rattle.sparql_tree.specs.declared.symbol.Symbol.{Symbol}
use Rattle.sparql_tree.specs.Heads.{Is, IsHead}
use Rattle.sparql_grammar.specs.Parser.{next, first_value, ◌>>=◌, ◌>>◌, ◌<<◌, ◌<$>◌, pure, take, spelled_value, more, all_more, open_brace, close_brace, close_paren}
use Rattle.sparql_tree.specs.Heads.{head}
use Rattle.sparql_tree.specs.Terms.{IsTerm}
use Rattle.sparql_grammar.specs.TermReading.{term}
use Rattle.sparql_tree.specs.Values.{with_cell, IsCell, cell_term, cell_undef, IsRow, row_end, row_more, OneRows, one_end, one_more, IsNames, names_end, names_more, FullRows, full_end, full_more, IsValues, values_one, values_full}
use Rattle.sparql_grammar.specs.ValueReading as r
use Rattle.sparql_grammar.proofs.Steps.{is-next, holds-next, is-head, holds-head, holds-behind, holds-value, is-shorter, holds-shorter, Good, then_good, weaken, Adds, none_more, Extends, Turns, all_more-sound, close-sound, open_brace-sound, close_brace-sound, Finds, same_found, more-stop, more-step, then-finds, map-finds, take-finds, at-finds, closed-finds, close-finds, open_brace-finds, close_brace-finds}
use Rattle.sparql_grammar.proofs.ExprSound.{closed-sound}
use Rattle.sparql_grammar.proofs.TermLaws.{term-sound, term-finds, term-shorter, term-head, begins_term, ends_string}

-- a value as an element
pub record HasValues (ts : List Symbol) (e : Element) (rest : List Symbol) : Type 0 where
  pub names : List Name
  pub rows : List Row
  pub is_values : IsValues ts names rows rest
  pub same : Values names rows ≡ e

-- ---- sound

cell_by-sound : (ts : List Symbol) (o : Option Shape) → head ts ≡ o → Good (IsCell ts) (r.cell_by o ts)
cell_by-sound ts (Some s.Undef) h = cell_undef (is-next s.Undef ts h)
cell_by-sound ts o h = then_good (IsTerm ts) (IsCell ts) (term ts) _ (term-sound ts) (λ t rest k. cell_term k)

cell-sound : (ts : List Symbol) → Good (IsCell ts) (r.cell ts)
unfolding r.cell
cell-sound ts = cell_by-sound ts (head ts) refl

row_with-sound : (names : List Name) (row : Row) (ts : List Symbol) → Good (IsRow names row ts) (r.row_with names row ts)
unfolding r.row_with
row_with-sound [] row ts = row_end
row_with-sound (name ∷ names) row ts = then_good (IsCell ts) (IsRow (name ∷ names) row ts) (r.cell ts) _ (cell-sound ts) (λ cell us k.
    weaken (IsRow names (with_cell row name cell) us) (IsRow (name ∷ names) row ts) _ (row_with-sound names (with_cell row name cell) us) (λ all rest m. row_more k m))

row-sound : (names : List Name) (ts : List Symbol) → Good (IsRow names finmap.empty ts) (r.row names ts)
unfolding r.row
row-sound names ts = row_with-sound names finmap.empty ts

one-row-sound : (name : Name) (ts : List Symbol) → Good (Extends (OneRows name) ts) (r.row (name ∷ []) ts)
one-row-sound name ts = weaken (IsRow (name ∷ []) finmap.empty ts) (Extends (OneRows name) ts) _ (row-sound (name ∷ []) ts) (λ row us k xs rest t. one_more k t)

one_turn-sound : (name : Name) (ts : List Symbol) (o : Option Shape) → Turns (OneRows name) ts (r.one_turn (name ∷ []) o)
one_turn-sound name ts (Some s.CloseBrace) = tt
one_turn-sound name ts o = one-row-sound name ts

one_rows-sound : (name : Name) (ts : List Symbol) → Good (Adds (OneRows name ts) []) (r.one_rows (name ∷ []) ts)
unfolding r.one_rows
one_rows-sound name ts = all_more-sound (OneRows name) (r.one_turn (name ∷ [])) (λ us. one_end) (λ us. one_turn-sound name us (head us)) [] ts

names_turn-sound : (ts : List Symbol) (o : Option Shape) → head ts ≡ o → Turns IsNames ts (r.names_turn o)
names_turn-sound ts (Some s.Var) h = λ xs rest t. names_more (holds-next s.Var ts h) t
names_turn-sound ts o h = tt

names-sound : (ts : List Symbol) → Good (Adds (IsNames ts) []) (r.names ts)
unfolding r.names
names-sound ts = all_more-sound IsNames r.names_turn (λ us. names_end) (λ us. names_turn-sound us (head us) refl) [] ts

full_turn-sound : (names : List Name) (ts : List Symbol) (o : Option Shape) → head ts ≡ o → Turns (FullRows names) ts (r.full_turn names o)
full_turn-sound names ts (Some s.Open) h =
    closed-sound (IsRow names finmap.empty (next ts)) (Extends (FullRows names) ts) (r.row names) (next ts) (row-sound names (next ts))
    (λ row us vs k m xs rest t. full_more (is-next s.Open ts h) k m t)
full_turn-sound names ts o h = tt

full_rows-sound : (names : List Name) (ts : List Symbol) → Good (Adds (FullRows names ts) []) (r.full_rows names ts)
unfolding r.full_rows
full_rows-sound names ts = all_more-sound (FullRows names) (r.full_turn names) (λ us. full_end) (λ us. full_turn-sound names us (head us) refl) [] ts

one-sound : (name : Name) (ts us : List Symbol) → IsHead s.Var name ts us → Good (HasValues ts) (r.one name us)
unfolding r.one
one-sound name ts us h = then_good (λ (x : Unit {0}) vs. Is s.OpenBrace us vs) (HasValues ts) (open_brace us) _ (open_brace-sound us) (λ x vs i.
    then_good (Adds (OneRows name vs) []) (HasValues ts) (r.one_rows (name ∷ []) vs) _ (one_rows-sound name vs) (λ rows ws k.
    then_good (λ (y : Unit {0}) rest. Is s.CloseBrace ws rest) (HasValues ts) (close_brace ws) _ (close_brace-sound ws) (λ y rest j.
    record { names = name ∷ []; rows = k.0; is_values = values_one h i k.2 j; same = ap (Values (name ∷ [])) (sym k.1) })))

full-sound : (ts us : List Symbol) → Is s.Open ts us → Good (HasValues ts) (r.full us)
unfolding r.full
full-sound ts us h = then_good (Adds (IsNames us) []) (HasValues ts) (r.names us) _ (names-sound us) (λ names vs k.
    then_good (λ (x : Unit {0}) ws. Is s.Close vs ws) (HasValues ts) (close_paren vs) _ (close-sound vs) (λ x ws i.
    then_good (λ (x : Unit {0}) xs. Is s.OpenBrace ws xs) (HasValues ts) (open_brace ws) _ (open_brace-sound ws) (λ y xs j.
    then_good (Adds (FullRows names xs) []) (HasValues ts) (r.full_rows names xs) _ (full_rows-sound names xs) (λ rows ys m.
    then_good (λ (x : Unit {0}) rest. Is s.CloseBrace ys rest) (HasValues ts) (close_brace ys) _ (close_brace-sound ys) (λ z rest l.
    record { names = names; rows = m.0; is_values = values_full h (subst (λ v. IsNames us v vs) (sym k.1) k.2) i j m.2 l; same = ap (Values names) (sym m.1) })))))

values_by-sound : (ts : List Symbol) (o : Option Shape) → head ts ≡ o → Good (HasValues ts) (r.values_by o ts)
values_by-sound ts (Some s.Var) h = one-sound (first_value ts) ts (next ts) (holds-next s.Var ts h)
values_by-sound ts (Some s.Open) h = full-sound ts (next ts) (is-next s.Open ts h)
values_by-sound ts o h = tt

pub values-sound : (ts : List Symbol) → Good (HasValues ts) (r.values ts)
unfolding r.values
values-sound ts = values_by-sound ts (head ts) refl

-- ---- what they take

cell-shorter : {ts rest : List Symbol} {a : Option Term} → IsCell ts a rest → length rest < length ts
cell-shorter (cell_term h) = term-shorter h
cell-shorter (cell_undef i) = is-shorter i

row-shorter : {names : List Name} {row all : Row} {ts rest : List Symbol} → IsRow names row ts all rest → length rest ≤ length ts
row-shorter row_end = omega arith
row-shorter (row_more h k) = omega (arith, cell-shorter h, row-shorter k)

one-row-shorter : {name : Name} {row all : Row} {ts rest : List Symbol} → IsRow (name ∷ []) row ts all rest → length rest < length ts
one-row-shorter (row_more h k) = omega (arith, cell-shorter h, row-shorter k)

one_rows-shorter : {name : Name} {rows : List Row} {ts rest : List Symbol} → OneRows name ts rows rest → length rest ≤ length ts
one_rows-shorter one_end = omega arith
one_rows-shorter (one_more h k) = omega (arith, row-shorter h, one_rows-shorter k)

names-shorter : {names : List Name} {ts rest : List Symbol} → IsNames ts names rest → length rest ≤ length ts
names-shorter names_end = omega arith
names-shorter (names_more h k) = omega (arith, holds-shorter h, names-shorter k)

full_rows-shorter : {names : List Name} {rows : List Row} {ts rest : List Symbol} → FullRows names ts rows rest → length rest ≤ length ts
full_rows-shorter full_end = omega arith
full_rows-shorter (full_more i h j k) = omega (arith, is-shorter i, row-shorter h, is-shorter j, full_rows-shorter k)

pub values-shorter : {names : List Name} {rows : List Row} {ts rest : List Symbol} → IsValues ts names rows rest → length rest < length ts
values-shorter (values_one h i k j) = omega (arith, holds-shorter h, is-shorter i, one_rows-shorter k, is-shorter j)
values-shorter (values_full i h j k m l) = omega (arith, is-shorter i, names-shorter h, is-shorter j, is-shorter k, full_rows-shorter m, is-shorter l)

-- ---- complete

-- a cell begins here
abbrev begins_cell : Option Shape → Bool
begins_cell (Some s.Undef) = true
begins_cell o = begins_term o

term-cell : (o : Option Shape) → begins_term o ≡ true → begins_cell o ≡ true
term-cell (Some s.Undef) h = refl
term-cell o h = h

cell-begins : {ts rest : List Symbol} {a : Option Term} → IsCell ts a rest → begins_cell (head ts) ≡ true
cell-begins {ts = ts} (cell_term h) = term-cell (head ts) (term-head h)
cell-begins (cell_undef i) = ap begins_cell (is-head i)

cell-ends : (o : Option Shape) → begins_cell o ≡ true → ends_string o ≡ true
cell-ends (Some s.Tag) h = absurd cc
cell-ends (Some s.Typed) h = absurd cc
cell-ends o h = refl

row-ends : {names : List Name} {row all : Row} {ts rest : List Symbol} → IsRow names row ts all rest → ends_string (head rest) ≡ true → ends_string (head ts) ≡ true
row-ends row_end h = h
row-ends {ts = ts} (row_more k m) h = cell-ends (head ts) (cell-begins k)

one_rows-ends : {name : Name} {rows : List Row} {ts rest : List Symbol} → OneRows name ts rows rest → ends_string (head rest) ≡ true → ends_string (head ts) ≡ true
one_rows-ends one_end h = h
one_rows-ends (one_more k m) h = row-ends k (one_rows-ends m h)

cell_by-term : (ts : List Symbol) (o : Option Shape) → begins_term o ≡ true → r.cell_by o ts ≡ (Some <$> term) ts
cell_by-term ts (Some s.Undef) h = absurd cc
cell_by-term ts o h = refl

cell-finds : {ts rest : List Symbol} {a : Option Term} → IsCell ts a rest → ends_string (head rest) ≡ true → Finds r.cell ts a rest
unfolding r.cell
cell-finds {ts = ts} (cell_term h) e = record { found = cell_by-term ts (head ts) (term-head h) ∙ (map-finds Some (term-finds h e)).found }
cell-finds (cell_undef i) e = at-finds r.cell_by (is-head i) (take-finds {q = λ w. Some (None, w)} i (record { found = refl }))

row_with-none : (row : Row) (ts : List Symbol) → Finds (r.row_with [] row) ts row ts
unfolding r.row_with
row_with-none row ts = record { found = refl }

row_with-step : (name : Name) (names : List Name) (row : Row) {ts us rest : List Symbol} {cell : Option Term} {all : Row} → Finds r.cell ts cell us
    → Finds (r.row_with names (with_cell row name cell)) us all rest → Finds (r.row_with (name ∷ names) row) ts all rest
unfolding r.row_with
row_with-step name names row h k = then-finds _ h k

row_with-finds : {names : List Name} {row all : Row} {ts rest : List Symbol} → IsRow names row ts all rest → ends_string (head rest) ≡ true → Finds (r.row_with names row) ts all rest
row_with-finds {row = row} {ts = ts} row_end e = row_with-none row ts
row_with-finds {row = row} (row_more {name = name} {names = names} h k) e = row_with-step name names row (cell-finds h (row-ends k e)) (row_with-finds k e)

row-finds : (names : List Name) {all : Row} {ts rest : List Symbol} → IsRow names finmap.empty ts all rest → ends_string (head rest) ≡ true → Finds (r.row names) ts all rest
unfolding r.row
row-finds names h e = record { found = (row_with-finds h e).found }

one_turn-row : (name : Name) (o : Option Shape) → begins_cell o ≡ true → r.one_turn (name ∷ []) o ≡ Some (r.row (name ∷ []))
one_turn-row name (Some s.CloseBrace) h = absurd cc
one_turn-row name o h = refl

one-row-begins : {name : Name} {row all : Row} {ts rest : List Symbol} → IsRow (name ∷ []) row ts all rest → begins_cell (head ts) ≡ true
one-row-begins (row_more h k) = cell-begins h

one_rows-finds : (name : Name) {rows : List Row} {ts us rest : List Symbol} → OneRows name ts rows us → Is s.CloseBrace us rest → (n : ℕ) (found : List Row) → length ts ≤ n
    → Finds (more (r.one_turn (name ∷ [])) n found) ts (found ++ rows) us
one_rows-finds name (one_end {ts = ts}) i n found le = same_found (more-stop (r.one_turn (name ∷ [])) n found ts (ap (r.one_turn (name ∷ [])) (is-head i))) (none_more found)
one_rows-finds name (one_more h k) i zero found le = absurd (omega (arith, one-row-shorter h))
one_rows-finds name (one_more {ts = ts} {us = us} {row = row} {more = xs} h k) i (suc n) found le =
    more-step (r.one_turn (name ∷ [])) (r.row (name ∷ [])) n found ts us row (one_turn-row name (head ts) (one-row-begins h)) (row-finds (name ∷ []) h (one_rows-ends k (ap ends_string (is-head i))))
    (same_found (one_rows-finds name k i n (found ++ row ∷ []) (omega (arith, one-row-shorter h))) (append_assoc found (row ∷ []) xs))

spelled-name : {name : Name} {ts us : List Symbol} → IsHead s.Var name ts us → Finds spelled_value ts name us
spelled-name h = record { found = λ i. Some (holds-value h i, holds-behind h i) }

names-finds : {names : List Name} {ts us rest : List Symbol} → IsNames ts names us → Is s.Close us rest → (n : ℕ) (found : List Name) → length ts ≤ n
    → Finds (more r.names_turn n found) ts (found ++ names) us
names-finds (names_end {ts = ts}) i n found le = same_found (more-stop r.names_turn n found ts (ap r.names_turn (is-head i))) (none_more found)
names-finds (names_more h k) i zero found le = absurd (omega (arith, holds-shorter h))
names-finds (names_more {ts = ts} {us = us} {name = name} {more = xs} h k) i (suc n) found le =
    more-step r.names_turn spelled_value n found ts us name (ap r.names_turn (holds-head h)) (spelled-name h)
    (same_found (names-finds k i n (found ++ name ∷ []) (omega (arith, holds-shorter h))) (append_assoc found (name ∷ []) xs))

full_rows-finds : (names : List Name) {rows : List Row} {ts us rest : List Symbol} → FullRows names ts rows us → Is s.CloseBrace us rest → (n : ℕ) (found : List Row) → length ts ≤ n
    → Finds (more (r.full_turn names) n found) ts (found ++ rows) us
full_rows-finds names (full_end {ts = ts}) i n found le = same_found (more-stop (r.full_turn names) n found ts (ap (r.full_turn names) (is-head i))) (none_more found)
full_rows-finds names (full_more j h m k) i zero found le = absurd (omega (arith, is-shorter j))
full_rows-finds names (full_more {ts = ts} {ws = ws} {row = row} {more = xs} j h m k) i (suc n) found le =
    more-step (r.full_turn names) (take >> (r.row names << close_paren)) n found ts ws row (ap (r.full_turn names) (is-head j))
    (take-finds j (closed-finds (row-finds names h (ap ends_string (is-head m))) m))
    (same_found (full_rows-finds names k i n (found ++ row ∷ []) (omega (arith, is-shorter j, row-shorter h, is-shorter m))) (append_assoc found (row ∷ []) xs))

one-finds : (name : Name) {us vs ws rest : List Symbol} {rows : List Row} → Is s.OpenBrace us vs → Finds (more (r.one_turn (name ∷ [])) (length vs) []) vs rows ws → Is s.CloseBrace ws rest
    → Finds (r.one name) us (Values (name ∷ []) rows) rest
unfolding r.one r.one_rows all_more
one-finds name {rows = rows} i h j = then-finds _ (open_brace-finds i) (then-finds (λ xs. close_brace >> pure (Values (name ∷ []) xs)) {us = _} (record { found = h.found }) (then-finds _ (close_brace-finds j) (record { found = refl })))

full-finds : {us vs ws xs ys rest : List Symbol} {names : List Name} {rows : List Row} → Finds (more r.names_turn (length us) []) us names vs → Is s.Close vs ws → Is s.OpenBrace ws xs
    → Finds (more (r.full_turn names) (length xs) []) xs rows ys → Is s.CloseBrace ys rest → Finds r.full us (Values names rows) rest
unfolding r.full r.names r.full_rows all_more
full-finds {names = names} h i j k m = then-finds (λ variables. close_paren >> (open_brace >> (r.full_rows variables >>= (λ rows. close_brace >> pure (Values variables rows))))) (record { found = h.found })
    (then-finds _ (close-finds i) (then-finds _ (open_brace-finds j) (then-finds (λ rows. close_brace >> pure (Values names rows)) (record { found = k.found }) (then-finds _ (close_brace-finds m) (record { found = refl })))))

values-one : {name : Name} {ts us rest : List Symbol} {a : Element} → IsHead s.Var name ts us → Finds (r.one name) us a rest → Finds r.values ts a rest
unfolding r.values
values-one {name = name} h k = at-finds r.values_by (holds-head h) (then-finds (λ n. r.one n) (spelled-name h) k)

values-full : {ts us rest : List Symbol} {a : Element} → Is s.Open ts us → Finds r.full us a rest → Finds r.values ts a rest
unfolding r.values
values-full i k = at-finds r.values_by (is-head i) (take-finds i k)

pub values-finds : {names : List Name} {rows : List Row} {ts rest : List Symbol} → IsValues ts names rows rest → Finds r.values ts (Values names rows) rest
values-finds (values_one {vs = vs} {name = name} h i k j) = values-one h (one-finds name i (one_rows-finds name k j (length vs) [] (omega arith)) j)
values-finds (values_full {us = us} {xs = xs} {names = names} i h j k m l) = values-full i (full-finds (names-finds h j (length us) [] (omega arith)) j k (full_rows-finds names m l (length xs) [] (omega arith)) l)
