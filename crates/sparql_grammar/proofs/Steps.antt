-- Steps of a reader, and what it read of the grammar.
use Rattle.std.proofs.Common.{◌≡◌, ℕ, zero, suc, ◌<◌, Bool, List, [], ◌∷◌, ◌++◌, length, Option, Some, None, refl, sym, subst, ap, ◌∙◌, append_assoc, arith}
use Rattle.std.proofs.lemmas.List.{append-nil}
use Rattle.sparql_tree.specs.declared.symbol.Shape.{Shape}
use Rattle.sparql_tree.specs.declared.symbol.Shape.TheVariants as s
use Rattle.sparql_tree.specs.declared.symbol.Symbol.{Symbol}
use Rattle.sparql_tree.specs.Heads.{Is, is, IsHead, holds}
use Rattle.sparql_grammar.specs.Parser as p
use Rattle.sparql_grammar.specs.Parser.{Parser, and_then, next, first_value, more, all_more, again, repeat, all_steps, onward, ◌>>=◌, ◌>>◌, ◌<<◌, ◌<$>◌, peek, take, spelled_value, pure, close_paren}
use Rattle.sparql_tree.specs.Heads.{head}

-- ---- symbols

pub is-next : (shape : Shape) (ts : List Symbol) → head ts ≡ Some shape → Is shape ts (next ts)
unfolding head next
is-next shape [] h = absurd cc
is-next shape (t ∷ ts) h = let e : t.shape ≡ shape = cc in subst (λ v. Is v (t ∷ ts) ts) e (is {shape = t.shape} {value = t.value} {rest = ts})

pub holds-next : (shape : Shape) (ts : List Symbol) → head ts ≡ Some shape → IsHead shape (first_value ts) ts (next ts)
unfolding head next first_value
holds-next shape [] h = absurd cc
holds-next shape (t ∷ ts) h = let e : t.shape ≡ shape = cc in subst (λ v. IsHead v t.value (t ∷ ts) ts) e (holds {shape = t.shape} {value = t.value} {rest = ts})

pub is-head : {shape : Shape} {ts us : List Symbol} → Is shape ts us → head ts ≡ Some shape
unfolding head
is-head is = refl

pub is-behind : {shape : Shape} {ts us : List Symbol} → Is shape ts us → next ts ≡ us
unfolding next
is-behind is = refl

pub holds-head : {shape : Shape} {word : List ℕ} {ts us : List Symbol} → IsHead shape word ts us → head ts ≡ Some shape
unfolding head
holds-head holds = refl

pub holds-behind : {shape : Shape} {word : List ℕ} {ts us : List Symbol} → IsHead shape word ts us → next ts ≡ us
unfolding next
holds-behind holds = refl

pub holds-value : {shape : Shape} {word : List ℕ} {ts us : List Symbol} → IsHead shape word ts us → first_value ts ≡ word
unfolding first_value
holds-value holds = refl

pub is-shorter : {shape : Shape} {ts us : List Symbol} → Is shape ts us → length us < length ts
is-shorter is = omega arith

pub holds-shorter : {shape : Shape} {word : List ℕ} {ts us : List Symbol} → IsHead shape word ts us → length us < length ts
holds-shorter holds = omega arith

-- ---- sound: what was read, if anything, is as P says

abbrev pub Good : {A : Type 0} → (A → List Symbol → Type 0) → Option (A × List Symbol) → Type 0
Good P None = Unit {0}
Good P (Some found) = P found.0 found.1

pub then_good : {A B : Type 0} (P : A → List Symbol → Type 0) (Q : B → List Symbol → Type 0) (o : Option (A × List Symbol)) (f : A → Parser B)
    → Good P o → ((a : A) (us : List Symbol) → P a us → Good Q (f a us)) → Good Q (and_then o f)
then_good P Q None f h k = tt
then_good P Q (Some found) f h k = k found.0 found.1 h

pub weaken : {A : Type 0} (P Q : A → List Symbol → Type 0) (o : Option (A × List Symbol)) → Good P o → ((a : A) (us : List Symbol) → P a us → Q a us) → Good Q o
weaken P Q None h k = tt
weaken P Q (Some found) h k = k found.0 found.1 h

-- all was found with more at its end
abbrev pub Adds : {A : Type 0} → (List A → List Symbol → Type 0) → List A → List A → List Symbol → Type 0
Adds {A} Tail found all rest = (more : List A) × (all ≡ found ++ more) × Tail more rest

pub none_more : {A : Type 0} (found : List A) → found ≡ found ++ []
none_more found = sym (append-nil found)

pub one_more : {A : Type 0} {all : List A} (found : List A) (x : A) (more : List A) → all ≡ (found ++ x ∷ []) ++ more → all ≡ found ++ x ∷ more
one_more found x more e = e ∙ append_assoc found (x ∷ []) more

-- the item stands before whatever follows it
abbrev pub Extends : {A : Type 0} → (List Symbol → List A → List Symbol → Type 0) → List Symbol → A → List Symbol → Type 0
Extends {A} Tail ts x us = (xs : List A) (rest : List Symbol) → Tail us xs rest → Tail ts (x ∷ xs) rest

-- what a turn reads extends what follows
abbrev pub Turns : {A : Type 0} → (List Symbol → List A → List Symbol → Type 0) → List Symbol → Option (Parser A) → Type 0
Turns Tail ts None = Unit {0}
Turns Tail ts (Some q) = Good (Extends Tail ts) (q ts)

module _ {A : Type 0} (Tail : List Symbol → List A → List Symbol → Type 0) (turn : Option Shape → Option (Parser A))
    (end : (ts : List Symbol) → Tail ts [] ts) (turns : (ts : List Symbol) → Turns Tail ts (turn (head ts))) where
  again-sound : (n : ℕ) (found : List A) (ts : List Symbol) (o : Option (Parser A)) → Turns Tail ts o
      → ((all : List A) (us : List Symbol) → Good (Adds (Tail us) all) (more turn n all us)) → Good (Adds (Tail ts) found) (again o (more turn n) found ts)
  again-sound n found ts None h go = ([], none_more found, end ts)
  again-sound n found ts (Some q) h go =
      then_good (Extends Tail ts) (Adds (Tail ts) found) (q ts) _ h (λ x us k.
      weaken (Adds (Tail us) (found ++ x ∷ [])) (Adds (Tail ts) found) _ (go (found ++ x ∷ []) us)
      (λ all rest m. (x ∷ m.0, one_more found x m.0 m.1, k m.0 rest m.2)))

  pub more-sound : (n : ℕ) (found : List A) (ts : List Symbol) → Good (Adds (Tail ts) found) (more turn n found ts)
  unfolding more
  more-sound zero found ts = ([], none_more found, end ts)
  more-sound (suc n) found ts = again-sound n found ts (turn (head ts)) (turns ts) (λ all us. more-sound n all us)

  pub all_more-sound : (found : List A) (ts : List Symbol) → Good (Adds (Tail ts) found) (all_more turn found ts)
  unfolding all_more
  all_more-sound found ts = more-sound (length ts) found ts

pub open-sound : (ts : List Symbol) → Good (λ (x : Unit {0}) us. Is s.Open ts us) (p.open_paren ts)
unfolding p.open_paren
open-sound ts = by (head ts) refl
  where
    by : (o : Option Shape) → head ts ≡ o → Good (λ (x : Unit {0}) us. Is s.Open ts us) (p.open_by o ts)
    by (Some s.Open) h = is-next s.Open ts h
    by o h = tt

pub close-sound : (ts : List Symbol) → Good (λ (x : Unit {0}) us. Is s.Close ts us) (p.close_paren ts)
unfolding p.close_paren
close-sound ts = by (head ts) refl
  where
    by : (o : Option Shape) → head ts ≡ o → Good (λ (x : Unit {0}) us. Is s.Close ts us) (p.close_by o ts)
    by (Some s.Close) h = is-next s.Close ts h
    by o h = tt

pub name-sound : (ts : List Symbol) → Good (λ word us. IsHead s.Var word ts us) (p.name ts)
unfolding p.name
name-sound ts = by (head ts) refl
  where
    by : (o : Option Shape) → head ts ≡ o → Good (λ word us. IsHead s.Var word ts us) (p.name_by o ts)
    by (Some s.Var) h = holds-next s.Var ts h
    by o h = tt

-- ---- complete: the reader finds this

pub record Finds {A : Type 0} (q : Parser A) (ts : List Symbol) (a : A) (rest : List Symbol) : Type 0 where
  pub found : q ts ≡ Some (a, rest)

pub same_found : {A : Type 0} {q : Parser A} {ts rest : List Symbol} {a b : A} → Finds q ts a rest → a ≡ b → Finds q ts b rest
same_found {q = q} {ts = ts} {rest = rest} h e = subst (λ v. Finds q ts v rest) e h

module _ {A : Type 0} (turn : Option Shape → Option (Parser A)) where
  pub more-stop : (n : ℕ) (found : List A) (ts : List Symbol) → turn (head ts) ≡ None → Finds (more turn n found) ts found ts
  unfolding more
  more-stop zero found ts h = record { found = refl }
  more-stop (suc n) found ts h = record { found = ap (λ o. again o (more turn n) found ts) h }

  pub more-step : (q : Parser A) (n : ℕ) (found : List A) (ts us : List Symbol) (x : A) {all : List A} {rest : List Symbol} → turn (head ts) ≡ Some q → Finds q ts x us
      → Finds (more turn n (found ++ x ∷ [])) us all rest → Finds (more turn (suc n) found) ts all rest
  unfolding more
  more-step q n found ts us x e h k = record { found = ap (λ o. again o (more turn n) found ts) e ∙ ap (λ o. and_then o (λ y. more turn n (found ++ y ∷ []))) h.found ∙ k.found }

pub open-finds : {ts us : List Symbol} → Is s.Open ts us → Finds p.open_paren ts tt us
unfolding p.open_paren head next
open-finds is = record { found = refl }

pub close-finds : {ts us : List Symbol} → Is s.Close ts us → Finds p.close_paren ts tt us
unfolding p.close_paren head next
close-finds is = record { found = refl }

pub name-finds : {ts us : List Symbol} {word : List ℕ} → IsHead s.Var word ts us → Finds p.name ts word us
unfolding p.name head next first_value
name-finds holds = record { found = refl }

-- ---- how finds compose

pub then-finds : {A B : Type 0} {q : Parser A} (f : A → Parser B) {ts us rest : List Symbol} {a : A} {b : B} → Finds q ts a us → Finds (f a) us b rest → Finds (q >>= f) ts b rest
then-finds f h k = record { found = ap (λ o. and_then o f) h.found ∙ k.found }

pub map-finds : {A B : Type 0} {q : Parser A} (f : A → B) {ts rest : List Symbol} {a : A} → Finds q ts a rest → Finds (f <$> q) ts (f a) rest
map-finds f h = record { found = ap (λ o. and_then o (λ x. pure (f x))) h.found }

pub take-finds : {A : Type 0} {q : Parser A} {shape : Shape} {ts us rest : List Symbol} {a : A} → Is shape ts us → Finds q us a rest → Finds (take >> q) ts a rest
take-finds {q = q} i h = record { found = ap q (is-behind i) ∙ h.found }

pub at-finds : {A : Type 0} (by : Option Shape → Parser A) {ts rest : List Symbol} {a : A} {o : Option Shape} → head ts ≡ o → Finds (by o) ts a rest → Finds (peek >>= by) ts a rest
at-finds by {ts = ts} e h = record { found = ap (λ o. by o ts) e ∙ h.found }

pub spelled-finds : {A : Type 0} (f : List ℕ → A) {shape : Shape} {word : List ℕ} {ts rest : List Symbol} → IsHead shape word ts rest → Finds (f <$> spelled_value) ts (f word) rest
spelled-finds f h = record { found = λ i. Some (f (holds-value h i), holds-behind h i) }

pub closed-finds : {A : Type 0} {q : Parser A} {ts us rest : List Symbol} {a : A} → Finds q ts a us → Is s.Close us rest → Finds (q << close_paren) ts a rest
closed-finds h i = then-finds _ h (then-finds _ (close-finds i) (record { found = refl }))

pub tested-finds : {A : Type 0} (test : Option Shape → Bool) (f : Bool → Parser A) {ts rest : List Symbol} {a : A} (v : Bool) → test (head ts) ≡ v → Finds (f v) ts a rest
    → Finds (peek >>= (λ o. f (test o))) ts a rest
tested-finds test f {ts = ts} v e h = record { found = ap (λ w. f w ts) e ∙ h.found }

-- ---- steps on what was found

-- what was found grows, and what is added stands before whatever follows it
abbrev pub Grows : {A : Type 0} → (List Symbol → List A → List Symbol → Type 0) → List Symbol → List A → List A → List Symbol → Type 0
Grows {A} Tail ts found all us = (added : List A) × (all ≡ found ++ added) × ((xs : List A) (rest : List Symbol) → Tail us xs rest → Tail ts (added ++ xs) rest)

abbrev pub GrowsBy : {A : Type 0} → (List Symbol → List A → List Symbol → Type 0) → List Symbol → Option (List A → Parser (List A)) → Type 0
GrowsBy Tail ts None = Unit {0}
GrowsBy {A} Tail ts (Some step) = (found : List A) → Good (Grows Tail ts found) (step found ts)

pub append_more : {A : Type 0} {whole all : List A} (found added more : List A) → whole ≡ all ++ more → all ≡ found ++ added → whole ≡ found ++ (added ++ more)
append_more found added more e d = e ∙ ap (λ v. v ++ more) d ∙ append_assoc found added more

module _ {A : Type 0} (Tail : List Symbol → List A → List Symbol → Type 0) (turn : Option Shape → Option (List A → Parser (List A)))
    (end : (ts : List Symbol) → Tail ts [] ts) (steps : (ts : List Symbol) → GrowsBy Tail ts (turn (head ts))) where
  onward-sound : (n : ℕ) (found : List A) (ts : List Symbol) (o : Option (List A → Parser (List A))) → GrowsBy Tail ts o
      → ((all : List A) (us : List Symbol) → Good (Adds (Tail us) all) (repeat turn n all us)) → Good (Adds (Tail ts) found) (onward o (repeat turn n) found ts)
  onward-sound n found ts None h go = ([], none_more found, end ts)
  onward-sound n found ts (Some step) h go =
      then_good (Grows Tail ts found) (Adds (Tail ts) found) (step found ts) _ (h found) (λ all us k.
      weaken (Adds (Tail us) all) (Adds (Tail ts) found) _ (go all us)
      (λ whole rest m. (k.0 ++ m.0, append_more found k.0 m.0 m.1 k.1, k.2 m.0 rest m.2)))

  pub repeat-sound : (n : ℕ) (found : List A) (ts : List Symbol) → Good (Adds (Tail ts) found) (repeat turn n found ts)
  unfolding repeat
  repeat-sound zero found ts = ([], none_more found, end ts)
  repeat-sound (suc n) found ts = onward-sound n found ts (turn (head ts)) (steps ts) (λ all us. repeat-sound n all us)

  pub all_steps-sound : (found : List A) (ts : List Symbol) → Good (Adds (Tail ts) found) (all_steps turn found ts)
  unfolding all_steps
  all_steps-sound found ts = repeat-sound (length ts) found ts

module _ {A : Type 0} (turn : Option Shape → Option (List A → Parser (List A))) where
  pub repeat-stop : (n : ℕ) (found : List A) (ts : List Symbol) → turn (head ts) ≡ None → Finds (repeat turn n found) ts found ts
  unfolding repeat
  repeat-stop zero found ts h = record { found = refl }
  repeat-stop (suc n) found ts h = record { found = ap (λ o. onward o (repeat turn n) found ts) h }

  pub repeat-step : (step : List A → Parser (List A)) (n : ℕ) (found all : List A) (ts us : List Symbol) {whole : List A} {rest : List Symbol} → turn (head ts) ≡ Some step
      → Finds (step found) ts all us → Finds (repeat turn n all) us whole rest → Finds (repeat turn (suc n) found) ts whole rest
  unfolding repeat
  repeat-step step n found all ts us e h k = record { found = ap (λ o. onward o (repeat turn n) found ts) e ∙ ap (λ o. and_then o (repeat turn n)) h.found ∙ k.found }

-- ---- more single symbols

pub open_brace-sound : (ts : List Symbol) → Good (λ (x : Unit {0}) us. Is s.OpenBrace ts us) (p.open_brace ts)
unfolding p.open_brace
open_brace-sound ts = by (head ts) refl
  where
    by : (o : Option Shape) → head ts ≡ o → Good (λ (x : Unit {0}) us. Is s.OpenBrace ts us) (p.open_brace_by o ts)
    by (Some s.OpenBrace) h = is-next s.OpenBrace ts h
    by o h = tt

pub close_brace-sound : (ts : List Symbol) → Good (λ (x : Unit {0}) us. Is s.CloseBrace ts us) (p.close_brace ts)
unfolding p.close_brace
close_brace-sound ts = by (head ts) refl
  where
    by : (o : Option Shape) → head ts ≡ o → Good (λ (x : Unit {0}) us. Is s.CloseBrace ts us) (p.close_brace_by o ts)
    by (Some s.CloseBrace) h = is-next s.CloseBrace ts h
    by o h = tt

pub as-sound : (ts : List Symbol) → Good (λ (x : Unit {0}) us. Is s.As ts us) (p.as_word ts)
unfolding p.as_word
as-sound ts = by (head ts) refl
  where
    by : (o : Option Shape) → head ts ≡ o → Good (λ (x : Unit {0}) us. Is s.As ts us) (p.as_by o ts)
    by (Some s.As) h = is-next s.As ts h
    by o h = tt

pub open_brace-finds : {ts us : List Symbol} → Is s.OpenBrace ts us → Finds p.open_brace ts tt us
unfolding p.open_brace head next
open_brace-finds is = record { found = refl }

pub close_brace-finds : {ts us : List Symbol} → Is s.CloseBrace ts us → Finds p.close_brace ts tt us
unfolding p.close_brace head next
close_brace-finds is = record { found = refl }

pub as-finds : {ts us : List Symbol} → Is s.As ts us → Finds p.as_word ts tt us
unfolding p.as_word head next
as-finds is = record { found = refl }
