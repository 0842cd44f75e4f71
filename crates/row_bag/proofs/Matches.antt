-- One more row of a left join.
use Rattle.std.proofs.Common.{◌≡◌, ℕ, ◌+◌, ◌<◌, Bool, true, false, List, [], ◌∷◌, ◌++◌, map, length, take, get_or, Option, refl, sym, ap, ◌∙◌}
use Rattle.std.specs.Prelude.{filter, ◌||◌}
use Rattle.std.specs.List.{filter_map, cons_option}
use Rattle.std.proofs.lemmas.List.{map-append}
use Rattle.std.proofs.lemmas.List.Elements.{filter-append, filter_map-append}
use Rattle.term_core.specs.Mappings.{Name, Row, joined}
use Rattle.sparql_tree.specs.Exprs.{Expr}
use Rattle.sparql_value.specs.Solutions.{holds, or_itself, left_joins}
use Rattle.row_bag.specs.Hashes.{hash_at, of_hash}
use Rattle.row_bag.specs.Rows.{are_bound, has_row}
use Rattle.row_bag.proofs.Near.{near_joined}
use Rattle.row_bag.proofs.Steps.{In-get_or, take_next, flat_map_next}

pub left_step : (condition : Option Expr) (names : List Name) (xs ys : List Row) (i : ℕ) (a : Row) (out found next : List Row)
    → i < length xs → a ≡ get_or xs i a → are_bound names xs ≡ true → are_bound names ys ≡ true
    → out ≡ left_joins condition (take i xs) ys → found ≡ of_hash (hash_at names) (hash_at names a) ys → next ≡ out ++ or_itself a (filter (holds condition) (filter_map (joined a) found))
    → next ≡ left_joins condition (take (i + 1) xs) ys
left_step condition names xs ys i a out found next p q d e h f n =
    n ∙ ap (λ w. w ++ or_itself a (filter (holds condition) (filter_map (joined a) found))) h
    ∙ ap (λ w. left_joins condition (take i xs) ys ++ or_itself a (filter (holds condition) w)) (ap (filter_map (joined a)) f ∙ near_joined names xs ys a d e (In-get_or xs i a p q))
    ∙ sym (flat_map_next (λ a. or_itself a (filter (holds condition) (filter_map (joined a) ys))) xs i a p q)

-- there is a row in two lists where there is one in either
pub some_append : (xs ys : List Row) → has_row (xs ++ ys) ≡ has_row xs || has_row ys
some_append [] ys = refl
some_append (x ∷ xs) ys = refl

-- one more row of the right side
pub matches_next : {R : Type 0} (now : R → Row) (pass : Row → Bool) (a : Row) (rows : List R) (i : ℕ) (b : R) → i < length rows → b ≡ get_or rows i b
    → filter pass (filter_map (joined a) (map now (take (i + 1) rows))) ≡ filter pass (filter_map (joined a) (map now (take i rows))) ++ filter pass (cons_option (joined a (now b)) [])
matches_next now pass a rows i b p e =
    ap (λ w. filter pass (filter_map (joined a) (map now w))) (take_next rows i b p e)
    ∙ ap (λ w. filter pass (filter_map (joined a) w)) (map-append now (take i rows) (b ∷ []))
    ∙ ap (filter pass) (filter_map-append (joined a) (map now (take i rows)) (now b ∷ []))
    ∙ filter-append pass (filter_map (joined a) (map now (take i rows))) (cons_option (joined a (now b)) [])
