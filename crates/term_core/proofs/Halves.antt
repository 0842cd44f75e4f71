-- Where a name stands among sorted entries: in front of an entry, at it, or behind it.
use Rattle.std.proofs.Common.{◌≡◌, ◌++◌, ◌∷◌, ◌∙◌, Bool, true, false, [], None, Some, refl, ap, cond, Less, Equal, Greater}
use Rattle.std.specs.Prelude.{T, ◌&&◌}
use Rattle.std.specs.declared.cmp.Ordering.{Ordering}
use Rattle.std.specs.Ordering.{is_lt, is_eq, ordering_reverse, eq_by_cmp}
use Rattle.std.specs.FinMap.Entries.{find, below_all}
use Rattle.std.proofs.lemmas.Cmp.{nat_list_cmp_total}
use Rattle.term_core.specs.declared.term.Term.{Term}
use Rattle.term_core.specs.Mappings.{Name}
use Rattle.term_core.specs.Order.{bytes_cmp}
use Rattle.term_core.specs.Rows.{RowEntries, AreSorted}
use Rattle.term_core.proofs.Entries.{left_part, right_part}

is_less : (o : Ordering) → T (is_lt o) → o ≡ Less
is_less Less h = refl
is_less Equal h = absurd h
is_less Greater h = absurd h

both_parts : (a b : Bool) → T a → T b → T (a && b)
both_parts true b h k = k
both_parts false b h k = absurd h

-- the comparison the other way round
turned : (a b : Name) (o : Ordering) → bytes_cmp a b ≡ o → bytes_cmp b a ≡ ordering_reverse o
turned a b o e = nat_list_cmp_total.antisymm b a ∙ ap ordering_reverse e

below_front : (x : Name) (es fs : RowEntries) → T (below_all bytes_cmp x (es ++ fs)) → T (below_all bytes_cmp x es)
below_front x [] fs h = tt
below_front x (e ∷ es) fs h = both_parts _ _ (left_part _ _ h) (below_front x es fs (right_part (is_lt (bytes_cmp x e.0)) _ h))

-- a part of sorted entries is sorted
pub sorted_front : (es fs : RowEntries) → AreSorted (es ++ fs) → AreSorted es
sorted_front [] fs h = tt
sorted_front (e ∷ es) fs h = both_parts _ _ (below_front e.0 es fs (left_part _ _ h)) (sorted_front es fs (right_part (below_all bytes_cmp e.0 (es ++ fs)) _ h))

pub sorted_back : (es fs : RowEntries) → AreSorted (es ++ fs) → AreSorted fs
sorted_back [] fs h = h
sorted_back (e ∷ es) fs h = sorted_back es fs (right_part (below_all bytes_cmp e.0 (es ++ fs)) _ h)

-- a name below all names of some entries is not found in them
none_below : (q x : Name) (es : RowEntries) → bytes_cmp q x ≡ Less → T (below_all bytes_cmp x es) → find bytes_cmp q es ≡ None
none_below q x [] p h = refl
none_below q x (e ∷ es) p h =
    ap (λ o. cond (is_eq o) (Some e.1) (find bytes_cmp q es)) (nat_list_cmp_total.trans q x e.0 p (is_less _ (left_part _ _ h)))
    ∙ none_below q x es p (right_part (is_lt (bytes_cmp x e.0)) _ h)

-- a name below all names of some entries is below that of each
below_one : (x : Name) (es fs : RowEntries) (e : Name × Term) → T (below_all bytes_cmp x (es ++ e ∷ fs)) → bytes_cmp x e.0 ≡ Less
below_one x [] fs e h = is_less _ (left_part _ _ h)
below_one x (f ∷ es) fs e h = below_one x es fs e (right_part (is_lt (bytes_cmp x f.0)) _ h)

-- below an entry's name is in front of it
pub found_front : (q : Name) (es fs : RowEntries) (e : Name × Term) → AreSorted (es ++ e ∷ fs) → bytes_cmp q e.0 ≡ Less
    → find bytes_cmp q (es ++ e ∷ fs) ≡ find bytes_cmp q es
found_front q [] fs e h p =
    ap (λ o. cond (is_eq o) (Some e.1) (find bytes_cmp q fs)) p ∙ none_below q e.0 fs p (left_part _ _ h)
found_front q (x ∷ es) fs e h p =
    ap (cond (eq_by_cmp bytes_cmp q x.0) (Some x.1)) (found_front q es fs e (right_part (below_all bytes_cmp x.0 (es ++ e ∷ fs)) _ h) p)

-- the name of an entry is found there
pub found_here : (q : Name) (es fs : RowEntries) (e : Name × Term) → AreSorted (es ++ e ∷ fs) → bytes_cmp q e.0 ≡ Equal
    → find bytes_cmp q (es ++ e ∷ fs) ≡ Some e.1
found_here q [] fs e h p = ap (λ o. cond (is_eq o) (Some e.1) (find bytes_cmp q fs)) p
found_here q (x ∷ es) fs e h p =
    ap (λ o. cond (is_eq o) (Some x.1) (find bytes_cmp q (es ++ e ∷ fs))) (nat_list_cmp_total.congr q e.0 x.0 p ∙ turned x.0 e.0 Less (below_one x.0 es fs e (left_part _ _ h)))
    ∙ found_here q es fs e (right_part (below_all bytes_cmp x.0 (es ++ e ∷ fs)) _ h) p

-- above an entry's name is behind it
pub found_back : (q : Name) (es fs : RowEntries) (e : Name × Term) → AreSorted (es ++ e ∷ fs) → bytes_cmp q e.0 ≡ Greater
    → find bytes_cmp q (es ++ e ∷ fs) ≡ find bytes_cmp q fs
found_back q [] fs e h p = ap (λ o. cond (is_eq o) (Some e.1) (find bytes_cmp q fs)) p
found_back q (x ∷ es) fs e h p =
    ap (λ o. cond (is_eq o) (Some x.1) (find bytes_cmp q (es ++ e ∷ fs)))
    (turned x.0 q Less (nat_list_cmp_total.trans x.0 e.0 q (below_one x.0 es fs e (left_part _ _ h)) (turned q e.0 Greater p)))
    ∙ found_back q es fs e (right_part (below_all bytes_cmp x.0 (es ++ e ∷ fs)) _ h) p

pub ruleset halves = (sorted_front, sorted_back, found_front, found_here, found_back)
