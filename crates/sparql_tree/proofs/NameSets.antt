-- Names: the list of those that were seen, and the set of them.
use Rattle.std.proofs.Common.{◌≡◌, ℕ, Bool, true, false, not, cond, List, [], ◌∷◌, ◌++◌, refl, sym, ap, subst, ◌∙◌}
use Rattle.std.specs.Prelude.{◌||◌, ◌&&◌}
use Rattle.std.specs.Str.{bytes_eq}
use Rattle.std.proofs.lemmas.List.Folds.{list_any-append}
use Rattle.std.proofs.lemmas.Map.Text.{is_eq-slice_cmp}
use Rattle.std.proofs.lemmas.Slice.Eq.{bytes_eq-Decides}
use Rattle.term_core.specs.Bags.{distinct, is_new}
use Rattle.term_core.specs.Mappings.{Name, has_name, same_name}
use Rattle.sparql_tree.specs.NameSets.{with_new}
use Rattle.term_core.proofs.Distinct.{distinct-append}
use Rattle.term_core.proofs.Merges.{names_same, name_itself}

or_last : (a b : Bool) → (a || (b || false)) ≡ cond b true a
or_last true true = refl
or_last true false = refl
or_last false true = refl
or_last false false = refl

same_tests : (a b : Bool) → (a ≡ true → b ≡ true) → (b ≡ true → a ≡ true) → a ≡ b
same_tests true true h k = refl
same_tests true false h k = sym (h refl)
same_tests false true h k = k refl
same_tests false false h k = refl

-- equal bytes, whichever stand first
bytes_eq_sym : (xs ys : List ℕ) → bytes_eq xs ys ≡ bytes_eq ys xs
bytes_eq_sym xs ys = same_tests _ _
    (λ h. (bytes_eq-Decides ys xs).1 (sym ((bytes_eq-Decides xs ys).0 h)))
    (λ h. (bytes_eq-Decides xs ys).1 (sym ((bytes_eq-Decides ys xs).0 h)))

-- a set that has a name more still has the names of the list, which has it too
pub seen_push : (before now : Bool) (key : List ℕ) (names pushed : List Name) (name text : Name) →
    key ≡ name → pushed ≡ names ++ name ∷ [] → before ≡ has_name names text → now ≡ cond (bytes_eq key text) true before → now ≡ has_name pushed text
seen_push before now key names pushed name text same push was is =
    is
    ∙ ap (λ k. cond (bytes_eq k text) true before) same
    ∙ ap (λ b. cond b true before) (bytes_eq_sym name text ∙ sym (is_eq-slice_cmp text name))
    ∙ ap (λ b. cond (same_name text name) true b) was
    ∙ sym (or_last (has_name names text) (same_name text name))
    ∙ sym (list_any-append (same_name text) names (name ∷ []))
    ∙ ap (λ l. has_name l text) (sym push)

same_sym : (a b : Name) → same_name a b ≡ same_name b a
same_sym a b = same_tests _ _
    (λ h. subst (λ c. same_name c a ≡ true) (names_same a b h) (name_itself a))
    (λ h. subst (λ c. same_name c b ≡ true) (names_same b a h) (name_itself b))

neither : (a b : Bool) → not (a || b) ≡ (not a && not b)
neither true b = refl
neither false b = refl

new_is : (names : List Name) (name : Name) → is_new same_name names name ≡ not (has_name names name)
new_is [] name = refl
new_is (first ∷ rest) name =
    ap (λ b. not b && is_new same_name rest name) (same_sym first name)
    ∙ ap (λ b. not (same_name name first) && b) (new_is rest name)
    ∙ sym (neither (same_name name first) (has_name rest name))

last_name : (b : Bool) (names : List Name) (name : Name) → names ++ cond (not b) (name ∷ []) [] ≡ cond b (names ++ []) (names ++ name ∷ [])
last_name true names name = refl
last_name false names name = refl

nothing_behind : (names : List Name) → names ++ [] ≡ names
nothing_behind [] = refl
nothing_behind (first ∷ rest) = ap (λ more. first ∷ more) (nothing_behind rest)

-- one name more is kept where it is new
pub once_more : (names : List Name) (name : Name) → distinct same_name (names ++ name ∷ []) ≡ with_new names name (distinct same_name names)
once_more names name =
    distinct-append same_name names (name ∷ [])
    ∙ ap (λ b. distinct same_name names ++ cond b (name ∷ []) []) (new_is names name)
    ∙ last_name (has_name names name) (distinct same_name names) name
    ∙ ap (λ found. cond (has_name names name) found (distinct same_name names ++ name ∷ [])) (nothing_behind (distinct same_name names))
