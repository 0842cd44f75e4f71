-- What is named before an item, and the first breach there.
use Rattle.std.proofs.Common.{◌≡◌, ◌<◌, ◌+◌, ◌++◌, ◌∷◌, [], ℕ, length, get_or, take, drop, Bool, List, Option, Some, None, Result, Ok, Err, OnOk, sym, ap, ◌∙◌, append_assoc}
use Rattle.std.specs.Prelude.{◌||◌}
use Rattle.std.specs.BTreeSet.{BTreeSet, contains_text}
use Rattle.std.specs.Global.{Global}
use Rattle.std.specs.declared.string.String.{String}
use Rattle.std.proofs.lemmas.Grind.{flat_map-append}
use Rattle.std.proofs.lemmas.List.{map-append, append-nil, take_more, drop_more}
use Rattle.term_core.specs.Mappings.{Name, has_name}
use Rattle.sparql_tree.specs.Groups.{Query, SelectItem}
use Rattle.sparql_tree.specs.Queries.{variables}
use Rattle.sparql_tree.specs.NameSets.{HasNames}
use Rattle.sparql_tree.specs.Breaches.{first_name, loose, named, item_names, key_names, as_names, is_grouped, breaches_at, item_breaches}
use Rattle.sparql_scope.specs.Named.{AreNamed, is_taken}
use Rattle.sparql_tree.specs.Scopes.{scope_of_group}
use Rattle.sparql_scope.specs.declared.breach.Named.{Named}
use Rattle.sparql_scope.proofs.Firsts.{first_front, first_behind}

-- what holds on success gives what follows from it
pub on_ok : {A E P Q : Type 0} (r : Result A E) → (P → Q) → OnOk r P → OnOk r Q
on_ok (Ok a) f p = f p
on_ok (Err e) f p = tt

-- the names of one item more
pub allowed_more : (names : List Name) (before : List SelectItem) (item : SelectItem) → (names ++ item_names before) ++ named item.variable item.value ≡ names ++ item_names (before ++ item ∷ [])
allowed_more names before item =
    append_assoc names (item_names before) (named item.variable item.value)
    ∙ ap (λ ns. names ++ ns) (ap (λ ns. item_names before ++ ns) (sym (append-nil (named item.variable item.value))) ∙ sym (flat_map-append (λ one. named one.variable one.value) before (item ∷ [])))

pub variables_more : (before : List SelectItem) (item : SelectItem) → variables before ++ item.variable ∷ [] ≡ variables (before ++ item ∷ [])
variables_more before item = sym (map-append (λ one. one.variable) before (item ∷ []))

-- a set has the names of a list: both tests tell the same loose variables
pub loose_named : (grouped : Bool) (allowed : BTreeSet (String Global)) (list names : List Name) → HasNames allowed list → loose grouped (contains_text allowed) names ≡ loose grouped (has_name list) names
loose_named grouped allowed list names h = ap (λ test. loose grouped test names) (λ i name. h name i)

-- what is taken, by the sets and by the lists
taken_same : (q : Query) (before : List SelectItem) (sets : Named) (scope : List Name) (name : Name) → AreNamed sets q before → scope ≡ scope_of_group q.body
    → is_taken scope sets name ≡ (has_name (scope_of_group q.body) name || (has_name (as_names q.keys) name || has_name (variables before) name))
taken_same q before sets scope name h s = λ i. has_name (s i) name || (h.keys name i || h.items name i)

-- the breaches at an item, by the sets and by the lists
at_same : (q : Query) (before : List SelectItem) (item : SelectItem) (sets : Named) (scope : List Name) (grouped : Bool) → AreNamed sets q before → scope ≡ scope_of_group q.body → grouped ≡ is_grouped q
    → breaches_at grouped (contains_text sets.allowed) (is_taken scope sets) item
    ≡ breaches_at (is_grouped q) (has_name (key_names q.keys ++ item_names before)) (λ name. has_name (scope_of_group q.body) name || (has_name (as_names q.keys) name || has_name (variables before) name)) item
at_same q before item sets scope grouped h s g = λ i. breaches_at (g i) (λ name. h.allowed name i) (λ name. taken_same q before sets scope name h s i) item

-- a breach at the item is the first
pub breach_there : (q : Query) (before rest : List SelectItem) (item : SelectItem) (sets : Named) (scope : List Name) (grouped : Bool) (found : Option Name) (name : Name)
    → AreNamed sets q before → scope ≡ scope_of_group q.body → grouped ≡ is_grouped q → found ≡ first_name (breaches_at grouped (contains_text sets.allowed) (is_taken scope sets) item)
    → found ≡ Some name → first_name (item_breaches q before (item ∷ rest)) ≡ Some name
breach_there q before rest item sets scope grouped found name h s g e is =
    first_front _ (item_breaches q (before ++ item ∷ []) rest) name (sym (ap first_name (at_same q before item sets scope grouped h s g)) ∙ (sym e ∙ is))

-- without one the items behind decide
pub breach_behind : (q : Query) (before rest : List SelectItem) (item : SelectItem) (sets : Named) (scope : List Name) (grouped : Bool) (found : Option Name)
    → AreNamed sets q before → scope ≡ scope_of_group q.body → grouped ≡ is_grouped q → found ≡ first_name (breaches_at grouped (contains_text sets.allowed) (is_taken scope sets) item)
    → found ≡ None → first_name (item_breaches q before (item ∷ rest)) ≡ first_name (item_breaches q (before ++ item ∷ []) rest)
breach_behind q before rest item sets scope grouped found h s g e is =
    first_behind _ (item_breaches q (before ++ item ∷ []) rest) (sym (ap first_name (at_same q before item sets scope grouped h s g)) ∙ (sym e ∙ is))

-- an item that is read stands before those that are left, and behind those that were read
pub left_is : {X : Type 0} (xs ys : List X) (i : ℕ) (x d : X) → xs ≡ ys → i < length xs → x ≡ get_or xs i d → drop i ys ≡ x ∷ drop (i + 1) ys
left_is xs ys i x d same small is =
    ap (drop i) (sym same) ∙ (drop_more xs i d small ∙ (λ k. sym is k ∷ drop (i + 1) (same k)))

pub read_is : {X : Type 0} (xs ys : List X) (i : ℕ) (x d : X) → xs ≡ ys → i < length xs → x ≡ get_or xs i d → take i ys ++ x ∷ [] ≡ take (i + 1) ys
read_is xs ys i x d same small is =
    (λ k. take i (sym same k) ++ is k ∷ []) ∙ (sym (take_more xs i d small) ∙ ap (take (i + 1)) same)
