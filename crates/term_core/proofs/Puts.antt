-- What putting a name into sorted entries does, and what the map of no entries is.
use Rattle.std.proofs.Common.{◌≡◌, ℕ, suc, ◌<◌, List, [], ◌∷◌, ◌++◌, take, drop, drop-cons, get_or, set, length, sym, ap, ◌∙◌, Equal}
use Rattle.std.proofs.lemmas.List.{set_split}
use Rattle.std.proofs.lemmas.Cmp.{nat_list_cmp_total}
use Rattle.std.specs.FinMap.{put, insert, empty, from_sorted, entries-from_sorted, entries-insert, same_entries_map, empty_of_len, len-entries}
use Rattle.std.specs.FinMap.Entries.{is_sorted-put}
use Rattle.term_core.specs.declared.term.Term.{Term}
use Rattle.term_core.specs.Order.{bytes_cmp}
use Rattle.term_core.specs.Rows.{RowEntries, AreSorted}
use Rattle.term_core.specs.OrderLaws.{same_bytes}

-- at a name that stands there, put is set
pub put_tied : (es : RowEntries) (e : List ℕ × Term) (at : ℕ) (name : List ℕ) (v : Term) → at < length es → e ≡ get_or es at e → bytes_cmp name e.0 ≡ Equal → take at es ++ put bytes_cmp name v (drop at es) ≡ set es at (name, v)
put_tied es e at name v lt is tie =
    let here : drop at es ≡ e ∷ drop (suc at) es = drop-cons es at e lt ∙ ap (λ x. x ∷ drop (suc at) es) (sym is) in
    let same : name ≡ e.0 = same_bytes name e.0 tie in
    rw here (rw tie (rw (← same) (sym (set_split es at (name, v) lt))))

-- no entries make the row without names
pub empty_row : from_sorted {R = bytes_cmp} [] ≡ empty {X = Term}
empty_row = empty_of_len _ (len-entries _ ∙ ap length (entries-from_sorted bytes_cmp [] tt))

-- putting a name keeps entries sorted
pub sorted_put : (es : RowEntries) (name : List ℕ) (v : Term) → AreSorted es → AreSorted (put bytes_cmp name v es)
sorted_put es name v h = is_sorted-put bytes_cmp nat_list_cmp_total name v es h

-- putting a name into entries inserts it into their map
pub row_set : (es : RowEntries) (name : List ℕ) (v : Term) → AreSorted es → from_sorted {R = bytes_cmp} (put bytes_cmp name v es) ≡ insert (from_sorted es) name v
row_set es name v h = same_entries_map _ _ (entries-from_sorted bytes_cmp _ (sorted_put es name v h)
    ∙ sym (entries-insert nat_list_cmp_total (from_sorted es) name v ∙ ap (put bytes_cmp name v) (entries-from_sorted bytes_cmp es h)))
