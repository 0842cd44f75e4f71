-- The entries of a row.
use Rattle.std.proofs.Common.{◌≡◌, Bool, true, false, cond, List, [], ◌∷◌, map, Some, refl, sym, ap, ◌∙◌, subst, ⊎_elim, inl, inr, Less, Equal, Greater}
use Rattle.std.specs.Prelude.{◌&&◌, T}
use Rattle.std.specs.List.{list_all}
use Rattle.std.specs.declared.cmp.Ordering.{Ordering}
use Rattle.std.specs.Ordering.{is_lt, is_eq}
use Rattle.std.specs.Cmp.{eq_by_cmp_equiv}
use Rattle.std.specs.FinMap as finmap
use Rattle.std.specs.FinMap.Entries.{below_all, is_sorted}
use Rattle.std.proofs.lemmas.Cmp.{nat_list_cmp_total}
use Rattle.term_core.specs.declared.term.Term.{Term}
use Rattle.term_core.specs.Order.{bytes_cmp}
use Rattle.term_core.specs.Bags.{In}
use Rattle.term_core.specs.Mappings.{Name, Row, value, do_agree, are_compatible}
use Rattle.term_core.proofs.Merges.{name_itself}

-- the parts of a true conjunction
pub left_part : (a b : Bool) → T (a && b) → T a
left_part true b h = tt
left_part false b h = absurd h

pub right_part : (a b : Bool) → T (a && b) → T b
right_part true b h = h
right_part false b h = absurd h

-- what is less is not equal
pub not_tied : (o : Ordering) → T (is_lt o) → is_eq o ≡ false
not_tied Less h = refl
not_tied Equal h = absurd h
not_tied Greater h = absurd h

-- what stands after a name in sorted entries is above it
pub above : (name : Name) (es : List (Name × Term)) (e : Name × Term) → T (below_all bytes_cmp name es) → In es e → T (is_lt (bytes_cmp name e.0))
above name [] e h i = absurd i
above name (x ∷ es) e h i = ⊎_elim (λ s. subst (λ w. T (is_lt (bytes_cmp name w.0))) s (left_part _ _ h)) (λ j. above name es e (right_part (is_lt (bytes_cmp name x.0)) _ h) j) i

-- an entry of sorted entries is what its name finds
pub entry_found : (es : List (Name × Term)) (e : Name × Term) → T (is_sorted bytes_cmp es) → In es e → finmap.find bytes_cmp e.0 es ≡ Some e.1
entry_found [] e h i = absurd i
entry_found (x ∷ es) e h i = ⊎_elim
    (λ s. subst (λ w. finmap.find bytes_cmp w.0 (x ∷ es) ≡ Some w.1) s (ap (λ b. cond b (Some x.1) (finmap.find bytes_cmp x.0 es)) (name_itself x.0)))
    (λ j. ap (λ b. cond b (Some x.1) (finmap.find bytes_cmp e.0 es)) ((eq_by_cmp_equiv nat_list_cmp_total).symm e.0 x.0 ∙ not_tied _ (above x.0 es e (left_part _ _ h) j))
    ∙ entry_found es e (right_part (below_all bytes_cmp x.0 es) _ h) j) i

-- a test over entries is the test over their names
pub list_all_entries : (es : List (Name × Term)) (a b : Row) → ((e : Name × Term) → In es e → value a e.0 ≡ Some e.1) → list_all (λ e. do_agree (Some e.1) (value b e.0)) es ≡ list_all (λ name. do_agree (value a name) (value b name)) (map (λ e. e.0) es)
list_all_entries [] a b h = refl
list_all_entries (x ∷ es) a b h =
    ap (λ o. do_agree o (value b x.0) && list_all (λ e. do_agree (Some e.1) (value b e.0)) es) (sym (h x (inl refl)))
    ∙ ap (λ w. do_agree (value a x.0) (value b x.0) && w) (list_all_entries es a b (λ e i. h e (inr i)))

-- compatible by the entries
pub compatible_entries : (a b : Row) → list_all (λ e. do_agree (Some e.1) (value b e.0)) (finmap.entries a) ≡ are_compatible a b
compatible_entries a b = list_all_entries (finmap.entries a) a b (λ e i. finmap.get-entries a e.0 ∙ entry_found (finmap.entries a) e (finmap.entries_sorted a) i)
