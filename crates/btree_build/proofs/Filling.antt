-- One more entry in a list's bytes, and one more block of bytes.
use Rattle.std.proofs.Common.{◌≡◌, ℕ, suc, ◌+◌, ◌-◌, ◌<◌, ◌++◌, List, [], ◌∷◌, length, drop, get_or, sym, ap, subst, ◌∙◌, arith, append_assoc, Ok, Err, OnOk, Result, replicate}
use Rattle.std.proofs.lemmas.List.{drop_more}
use Rattle.term_core.specs.declared.pattern.IdTriple.{IdTriple}
use Rattle.btree_build.specs.Trees.{entry_bytes, list_bytes}

pub on_ok : {T E : Type 0} (r : Result T E) (x : T) (P : Type 0) → r ≡ Ok x → OnOk r P → P
on_ok {T = T} {E = E} r x P e h = let Q : Result T E → Type 0 = λ s. OnOk s P in subst Q e h

pub on_ok_then : {T E : Type 0} (r : Result T E) (P Q : Type 0) → (P → Q) → OnOk r P → OnOk r Q
on_ok_then (Ok x) P Q f h = f h
on_ok_then (Err e) P Q f h = tt

-- three pieces behind a list
pub three_behind : (old first second third a b c : List ℕ) → first ≡ old ++ a → second ≡ first ++ b → third ≡ second ++ c → third ≡ old ++ (a ++ (b ++ c))
three_behind old first second third a b c e f g =
    g ∙ ap (λ l. l ++ c) (f ∙ ap (λ l. l ++ b) e ∙ append_assoc old a b) ∙ append_assoc old (a ++ b) c ∙ ap (λ l. old ++ l) (append_assoc a b c)

-- one more zero
pub zeros_more : (old new all : List ℕ) (n i : ℕ) → i < n → new ≡ old ++ 0 ∷ [] → old ++ replicate (n - i) 0 ≡ all → new ++ replicate (n - (i + 1)) 0 ≡ all
zeros_more old new all n i lt e h =
    let more : n - i ≡ suc (n - (i + 1)) = omega arith in
    ap (λ l. l ++ replicate (n - (i + 1)) 0) e ∙ append_assoc old (0 ∷ []) (replicate (n - (i + 1)) 0) ∙ (sym (ap (λ k. old ++ replicate k 0) more) ∙ h)

-- one more entry
pub entries_more : (es : List IdTriple) (i : ℕ) (e : IdTriple) (old new all : List ℕ) → i < length es → e ≡ get_or es i e → new ≡ old ++ entry_bytes e
    → old ++ list_bytes (drop i es) ≡ all → new ++ list_bytes (drop (i + 1) es) ≡ all
entries_more es i e old new all lt is put h =
    let here : drop i es ≡ e ∷ drop (i + 1) es = drop_more es i e lt ∙ ap (λ u. u ∷ drop (i + 1) es) (sym is) in
    ap (λ l. l ++ list_bytes (drop (i + 1) es)) put ∙ append_assoc old (entry_bytes e) (list_bytes (drop (i + 1) es)) ∙ (sym (ap (λ l. old ++ list_bytes l) here) ∙ h)
