-- Rows that are built in a tree of names.
use Rattle.std.proofs.Common.{◌≡◌, ℕ, Bool, true, false, cond, List, [], ◌∷◌, map, Some, T, refl, sym, subst, ap, ◌∙◌, Less}
use Rattle.std.specs.Prelude.{string_bytes, ◌&&◌}
use Rattle.std.specs.BTreeMap.{BTreeMap, get_by_text, is_at, UpdatesBy}
use Rattle.std.specs.Map.{lookup}
use Rattle.std.specs.Cmp.Lexicographic.{slice_cmp}
use Rattle.std.specs.Ordering.{is_lt, nat_cmp, eq_by_cmp}
use Rattle.std.specs.FinMap as finmap
use Rattle.std.specs.FinMap.Entries.{below_all}
use Rattle.std.specs.Global.{Global}
use Rattle.std.specs.List.{AllByRecursion}
use Rattle.std.specs.List.Sorted.{IsStrictlySortedBy}
use Rattle.std.specs.Str.{bytes_eq}
use Rattle.std.specs.declared.string.String.{String}
use Rattle.std.specs.String.{string_cmp}
use Rattle.std.proofs.lemmas.Cmp.{nat_list_cmp_total}
use Rattle.std.proofs.lemmas.Map.Text.{btree_map_updates_text, is_eq-slice_cmp}
use Rattle.std.proofs.lemmas.Slice.Eq.{bytes_eq-Decides}
use Rattle.term_core.specs.declared.term.Term.{Term}
use Rattle.term_core.specs.Order.{bytes_cmp}
use Rattle.term_core.specs.OrderLaws.{same_bytes}
use Rattle.term_core.specs.Rows.{AreSorted, named_term, row_of}

-- an entry of a tree is found by its name's bytes
find_of : (es : List (String Global × Term)) (name : List ℕ) → finmap.find bytes_cmp name (map named_term es) ≡ lookup (is_at (λ k. slice_cmp nat_cmp name (string_bytes k))) es
find_of [] name = refl
find_of (e ∷ es) name = ap (cond (eq_by_cmp bytes_cmp name (string_bytes e.0)) (Some e.1)) (find_of es name)

-- what the row of a tree has under a name
get_row_of : (m : BTreeMap (String Global) Term) (name : List ℕ) → finmap.get (row_of m) name ≡ get_by_text m name
get_row_of m name = finmap.get-from_entries nat_list_cmp_total (map named_term m.entries) name ∙ find_of m.entries name

same_tests : (a b : Bool) → (a ≡ true → b ≡ true) → (b ≡ true → a ≡ true) → a ≡ b
same_tests true true h k = refl
same_tests true false h k = sym (h refl)
same_tests false true h k = k refl
same_tests false false h k = refl

-- equal bytes, whichever stand first
key_is : (key name : List ℕ) → bytes_eq key name ≡ eq_by_cmp bytes_cmp name key
key_is key name =
    same_tests _ _ (λ h. (bytes_eq-Decides name key).1 (sym ((bytes_eq-Decides key name).0 h))) (λ h. (bytes_eq-Decides key name).1 (sym ((bytes_eq-Decides name key).0 h)))
    ∙ sym (is_eq-slice_cmp name key)

-- a name more in the tree is one more in the row
pub built_insert : (m n : BTreeMap (String Global) Term) (key : String Global) (name : List ℕ) (v : Term) → string_bytes key ≡ name
    → UpdatesBy string_cmp (λ k. slice_cmp nat_cmp (string_bytes key) (string_bytes k)) m n (Some v) → row_of n ≡ finmap.insert (row_of m) name v
built_insert m n key name v same h =
    finmap.same_map nat_list_cmp_total same_bytes _ _ (λ q.
    get_row_of n q
    ∙ (btree_map_updates_text (string_bytes key) m n (Some v) h q
    ∙ (ap (λ b. cond b (Some v) (get_by_text m q)) (key_is (string_bytes key) q ∙ ap (eq_by_cmp bytes_cmp q) same)
    ∙ sym (finmap.get-insert nat_list_cmp_total (row_of m) name v q ∙ ap (cond (eq_by_cmp bytes_cmp q name) (Some v)) (get_row_of m q)))))

both : (a b : Bool) → T a → T b → T (a && b)
both true b h k = k
both false b h k = h

-- the names of a tree stand in order
below : (k : String Global) (es : List (String Global × Term)) → AllByRecursion (λ y. string_cmp k y ≡ Less) (map (λ e. e.0) es) → T (below_all bytes_cmp (string_bytes k) (map named_term es))
below k [] h = tt
below k (e ∷ es) h = both _ _ (subst (λ r. T (is_lt r)) (sym h.0) tt) (below k es h.1)

pub in_order : (es : List (String Global × Term)) → IsStrictlySortedBy string_cmp (map (λ e. e.0) es) → AreSorted (map named_term es)
unfolding IsStrictlySortedBy
in_order [] h = tt
in_order (e ∷ es) h = both _ _ (below e.0 es h.0) (in_order es h.1)

-- entries in order make the same row as in a tree
pub row_of_order : (m : BTreeMap (String Global) Term) → AreSorted (map named_term m.entries) → finmap.from_sorted (map named_term m.entries) ≡ row_of m
row_of_order m h =
    finmap.same_map nat_list_cmp_total same_bytes _ _ (λ q. finmap.get-from_sorted bytes_cmp (map named_term m.entries) q h ∙ sym (finmap.get-from_entries nat_list_cmp_total (map named_term m.entries) q))
