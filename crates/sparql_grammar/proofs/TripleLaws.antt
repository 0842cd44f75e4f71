-- The grammar of triple patterns and its reader agree.
use Rattle.std.proofs.Common.{◌≡◌, ℕ, zero, suc, ◌<◌, ◌≤◌, Bool, true, false, List, [], ◌∷◌, ◌++◌, length, Option, Some, None, refl, sym, subst, ap, ◌∙◌, append_assoc, arith, ◌⊎◌, inl, inr}
use Rattle.term_core.specs.declared.pattern.Pattern.{Pattern}
use Rattle.term_core.specs.declared.pattern.Place.{Place}
use Rattle.term_core.specs.declared.pattern.Place.TheVariants as places
use Rattle.term_core.specs.declared.term.Term.TheVariants as terms
use Rattle.sparql_tree.specs.Groups.{Element, Triples}
use Rattle.sparql_tree.specs.declared.symbol.Shape.{Shape}
use Rattle.sparql_tree.specs.declared.symbol.Shape.TheVariants as s
use Rattle.sparql_tree.specs.declared.symbol.Symbol.{Symbol}
use Rattle.sparql_tree.specs.Heads.{Is}
use Rattle.sparql_grammar.specs.Parser.{Parser, next, ◌>>=◌, ◌>>◌, ◌<$>◌, peek, take, more, all_more, repeat, all_steps}
use Rattle.sparql_tree.specs.Heads.{head}
use Rattle.sparql_tree.specs.Terms.{IsTerm}
use Rattle.sparql_grammar.specs.TermReading.{term}
use Rattle.sparql_tree.specs.Triples.{pattern, rdf_type, IsNode, node_variable, node_blank, node_term, IsVerb, verb_variable, verb_iri, verb_a, ObjectTail, object_end, object_more, IsObjects, objects, PropertyTail, property_end, property_none, property_more, IsSame, same, IsBlock, block_one, block_point, block_more, IsTriples, no_triples, triples}
use Rattle.sparql_grammar.specs.TripleReading as r
use Rattle.sparql_grammar.specs.TripleReading.{begins_node, begins_verb}
use Rattle.sparql_grammar.proofs.Steps.{is-next, holds-next, is-head, holds-head, is-shorter, holds-shorter, Good, then_good, weaken, Adds, none_more, one_more, Extends, Turns, all_more-sound, Grows, GrowsBy, append_more, all_steps-sound, Finds, same_found, more-stop, more-step, repeat-stop, repeat-step, then-finds, map-finds, take-finds, at-finds, spelled-finds, tested-finds}
use Rattle.sparql_grammar.proofs.TermLaws.{term-sound, term-finds, term-shorter, term-head, begins_term, ends_string}

-- ---- sound

node_by-sound : (ts : List Symbol) (o : Option Shape) → head ts ≡ o → Good (IsNode ts) (r.node_by o ts)
node_by-sound ts (Some s.Var) h = node_variable (holds-next s.Var ts h)
node_by-sound ts (Some s.Blank) h = node_blank (holds-next s.Blank ts h)
node_by-sound ts o h = then_good (IsTerm ts) (IsNode ts) (term ts) _ (term-sound ts) (λ t rest k. node_term k)

node-sound : (ts : List Symbol) → Good (IsNode ts) (r.node ts)
unfolding r.node
node-sound ts = node_by-sound ts (head ts) refl

verb_by-sound : (ts : List Symbol) (o : Option Shape) → head ts ≡ o → Good (IsVerb ts) (r.verb_by o ts)
verb_by-sound ts (Some s.Var) h = verb_variable (holds-next s.Var ts h)
verb_by-sound ts (Some s.Iri) h = verb_iri (holds-next s.Iri ts h)
verb_by-sound ts (Some s.IsA) h = verb_a (is-next s.IsA ts h)
verb_by-sound ts o h = tt

verb-sound : (ts : List Symbol) → Good (IsVerb ts) (r.verb ts)
unfolding r.verb
verb-sound ts = verb_by-sound ts (head ts) refl

object_turn-sound : (subject predicate : Place) (ts : List Symbol) (o : Option Shape) → head ts ≡ o → Turns (ObjectTail subject predicate) ts (r.object_turn subject predicate o)
object_turn-sound subject predicate ts (Some s.Comma) h =
    then_good (IsNode (next ts)) (Extends (ObjectTail subject predicate) ts) (r.node (next ts)) _ (node-sound (next ts)) (λ object us k xs rest t. object_more (is-next s.Comma ts h) k t)
object_turn-sound subject predicate ts o h = tt

object_rest-sound : (subject predicate : Place) (found : List Pattern) (ts : List Symbol) → Good (Adds (ObjectTail subject predicate ts) found) (r.object_rest subject predicate found ts)
unfolding r.object_rest
object_rest-sound subject predicate found ts =
    all_more-sound (ObjectTail subject predicate) (r.object_turn subject predicate) (λ us. object_end) (λ us. object_turn-sound subject predicate us (head us) refl) found ts

objects-sound : (subject predicate : Place) (found : List Pattern) (ts : List Symbol) → Good (Adds (IsObjects subject predicate ts) found) (r.objects subject predicate found ts)
unfolding r.objects
objects-sound subject predicate found ts = then_good (IsNode ts) (Adds (IsObjects subject predicate ts) found) (r.node ts) _ (node-sound ts) (λ object us k.
    weaken (Adds (ObjectTail subject predicate us) (found ++ pattern subject predicate object ∷ [])) (Adds (IsObjects subject predicate ts) found) _
    (object_rest-sound subject predicate (found ++ pattern subject predicate object ∷ []) us)
    (λ all rest m. (pattern subject predicate object ∷ m.0, one_more found (pattern subject predicate object) m.0 m.1, objects k m.2)))

property_if-sound : (subject : Place) (found : List Pattern) (ts us : List Symbol) (begins : Bool) → Is s.Semicolon ts us
    → Good (Grows (PropertyTail subject) ts found) (r.property_if subject found begins us)
property_if-sound subject found ts us true i = then_good (IsVerb us) (Grows (PropertyTail subject) ts found) (r.verb us) _ (verb-sound us) (λ predicate vs k.
    weaken (Adds (IsObjects subject predicate vs) found) (Grows (PropertyTail subject) ts found) _ (objects-sound subject predicate found vs)
    (λ all ws m. (m.0, m.1, λ xs rest t. property_more i k m.2 t)))
property_if-sound subject found ts us false i = ([], none_more found, λ xs rest t. property_none i t)

property-sound : (subject : Place) (found : List Pattern) (ts us : List Symbol) → Is s.Semicolon ts us → Good (Grows (PropertyTail subject) ts found) (r.property subject found us)
unfolding r.property
property-sound subject found ts us i = property_if-sound subject found ts us (begins_verb (head us)) i

property_turn-sound : (subject : Place) (ts : List Symbol) (o : Option Shape) → head ts ≡ o → GrowsBy (PropertyTail subject) ts (r.property_turn subject o)
property_turn-sound subject ts (Some s.Semicolon) h = λ found. property-sound subject found ts (next ts) (is-next s.Semicolon ts h)
property_turn-sound subject ts o h = tt

property_rest-sound : (subject : Place) (found : List Pattern) (ts : List Symbol) → Good (Adds (PropertyTail subject ts) found) (r.property_rest subject found ts)
unfolding r.property_rest
property_rest-sound subject found ts = all_steps-sound (PropertyTail subject) (r.property_turn subject) (λ us. property_end) (λ us. property_turn-sound subject us (head us) refl) found ts

same-sound : (found : List Pattern) (ts : List Symbol) → Good (Adds (IsSame ts) found) (r.same found ts)
unfolding r.same
same-sound found ts = then_good (IsNode ts) (Adds (IsSame ts) found) (r.node ts) _ (node-sound ts) (λ subject us i.
    then_good (IsVerb us) (Adds (IsSame ts) found) (r.verb us) _ (verb-sound us) (λ predicate vs j.
    then_good (Adds (IsObjects subject predicate vs) found) (Adds (IsSame ts) found) (r.objects subject predicate found vs) _ (objects-sound subject predicate found vs) (λ all ws k.
    weaken (Adds (PropertyTail subject ws) all) (Adds (IsSame ts) found) _ (property_rest-sound subject all ws)
    (λ whole rest m. (k.0 ++ m.0, append_more found k.0 m.0 m.1 k.1, same i j k.2 m.2)))))

further-sound : (n : ℕ) (found : List Pattern) (ts : List Symbol) (all : List Pattern) (us vs : List Symbol) (begins : Bool) → Adds (IsSame ts) found all us → Is s.Point us vs
    → ((xs : List Pattern) (ws : List Symbol) → Good (Adds (IsBlock ws) xs) (r.block_within n xs ws)) → Good (Adds (IsBlock ts) found) (r.further (r.block_within n) all begins vs)
further-sound n found ts all us vs true k i go = weaken (Adds (IsBlock vs) all) (Adds (IsBlock ts) found) _ (go all vs)
    (λ whole rest m. (k.0 ++ m.0, append_more found k.0 m.0 m.1 k.1, block_more k.2 i m.2))
further-sound n found ts all us vs false k i go = (k.0, k.1, block_point k.2 i)

pointed-sound : (n : ℕ) (found : List Pattern) (ts : List Symbol) (all : List Pattern) (us : List Symbol) (o : Option Shape) → head us ≡ o → Adds (IsSame ts) found all us
    → ((xs : List Pattern) (ws : List Symbol) → Good (Adds (IsBlock ws) xs) (r.block_within n xs ws)) → Good (Adds (IsBlock ts) found) (r.pointed (r.block_within n) all o us)
pointed-sound n found ts all us (Some s.Point) h k go = further-sound n found ts all us (next us) (begins_node (head (next us))) k (is-next s.Point us h) go
pointed-sound n found ts all us o h k go = (k.0, k.1, block_one k.2)

block_within-sound : (n : ℕ) (found : List Pattern) (ts : List Symbol) → Good (Adds (IsBlock ts) found) (r.block_within n found ts)
unfolding r.block_within
block_within-sound zero found ts = tt
block_within-sound (suc n) found ts = then_good (Adds (IsSame ts) found) (Adds (IsBlock ts) found) (r.same found ts) _ (same-sound found ts)
    (λ all us k. pointed-sound n found ts all us (head us) refl k (λ xs ws. block_within-sound n xs ws))

block-sound : (ts : List Symbol) → Good (IsBlock ts) (r.block ts)
unfolding r.block
block-sound ts = weaken (Adds (IsBlock ts) []) (IsBlock ts) _ (block_within-sound (length ts) [] ts) (λ all rest k. subst (λ v. IsBlock ts v rest) (sym k.1) k.2)

triples_if-sound : (ts : List Symbol) (begins : Bool) → Good (IsTriples ts) (r.triples_if begins ts)
triples_if-sound ts true = then_good (IsBlock ts) (IsTriples ts) (r.block ts) _ (block-sound ts) (λ found rest k. triples k)
triples_if-sound ts false = no_triples

pub triples-sound : (ts : List Symbol) → Good (IsTriples ts) (r.triples ts)
unfolding r.triples
triples-sound ts = triples_if-sound ts (begins_node (head ts))

-- ---- what they take

node-shorter : {ts rest : List Symbol} {a : Place} → IsNode ts a rest → length rest < length ts
node-shorter (node_variable h) = holds-shorter h
node-shorter (node_blank h) = holds-shorter h
node-shorter (node_term h) = term-shorter h

verb-shorter : {ts rest : List Symbol} {a : Place} → IsVerb ts a rest → length rest < length ts
verb-shorter (verb_variable h) = holds-shorter h
verb-shorter (verb_iri h) = holds-shorter h
verb-shorter (verb_a i) = is-shorter i

object_tail-shorter : {subject predicate : Place} {ts rest : List Symbol} {xs : List Pattern} → ObjectTail subject predicate ts xs rest → length rest ≤ length ts
object_tail-shorter object_end = omega arith
object_tail-shorter (object_more i h k) = omega (arith, is-shorter i, node-shorter h, object_tail-shorter k)

objects-shorter : {subject predicate : Place} {ts rest : List Symbol} {xs : List Pattern} → IsObjects subject predicate ts xs rest → length rest < length ts
objects-shorter (objects h k) = omega (arith, node-shorter h, object_tail-shorter k)

property_tail-shorter : {subject : Place} {ts rest : List Symbol} {xs : List Pattern} → PropertyTail subject ts xs rest → length rest ≤ length ts
property_tail-shorter property_end = omega arith
property_tail-shorter (property_none i k) = omega (arith, is-shorter i, property_tail-shorter k)
property_tail-shorter (property_more i h k m) = omega (arith, is-shorter i, verb-shorter h, objects-shorter k, property_tail-shorter m)

same-shorter : {ts rest : List Symbol} {xs : List Pattern} → IsSame ts xs rest → length rest < length ts
same-shorter (same h i j k) = omega (arith, node-shorter h, verb-shorter i, objects-shorter j, property_tail-shorter k)

block-shorter : {ts rest : List Symbol} {xs : List Pattern} → IsBlock ts xs rest → length rest < length ts
block-shorter (block_one k) = same-shorter k
block-shorter (block_point k i) = omega (arith, same-shorter k, is-shorter i)
block-shorter (block_more k i m) = omega (arith, same-shorter k, is-shorter i, block-shorter m)

pub triples-shorter : {ts rest : List Symbol} {xs : List Element} → IsTriples ts xs rest → length rest ≤ length ts
triples-shorter no_triples = omega arith
triples-shorter (triples k) = omega (arith, block-shorter k)

-- ---- what may follow

-- how early a part of triple patterns ends before the symbol
abbrev pub bounds : Shape → ℕ
bounds s.Tag = 4
bounds s.Typed = 4
bounds s.Comma = 3
bounds s.Semicolon = 2
bounds s.Var = 2
bounds s.Blank = 2
bounds s.Iri = 2
bounds s.Quoted = 2
bounds s.Integer = 2
bounds s.Decimal = 2
bounds s.Boolean = 2
bounds s.Plus = 2
bounds s.Minus = 2
bounds s.IsA = 2
bounds s.Point = 1
bounds shape = 0

-- nothing of this part or a greater one goes on here
abbrev pub EndsAt : ℕ → Option Shape → Type 0
EndsAt level None = Unit {0}
EndsAt level (Some shape) = bounds shape < level

abbrev pub Ends : ℕ → List Symbol → Type 0
Ends level ts = EndsAt level (head ts)

ends-later-at : (m n : ℕ) (o : Option Shape) → m ≤ n → EndsAt m o → EndsAt n o
ends-later-at m n None le h = tt
ends-later-at m n (Some shape) le h = omega arith

ends-later : (m n : ℕ) (ts : List Symbol) → m ≤ n → Ends m ts → Ends n ts
ends-later m n ts = ends-later-at m n (head ts)

pub is-ends : (level : ℕ) {shape : Shape} {ts us : List Symbol} → Is shape ts us → bounds shape < level → Ends level ts
is-ends level i h = subst (EndsAt level) (sym (is-head i)) h

ends-string : (o : Option Shape) → EndsAt 3 o → ends_string o ≡ true
ends-string (Some s.Tag) h = absurd (omega arith)
ends-string (Some s.Typed) h = absurd (omega arith)
ends-string o h = refl

ends-no_verb : (o : Option Shape) → EndsAt 2 o → begins_verb o ≡ false
ends-no_verb (Some s.Var) h = absurd (omega arith)
ends-no_verb (Some s.Iri) h = absurd (omega arith)
ends-no_verb (Some s.IsA) h = absurd (omega arith)
ends-no_verb o h = refl

ends-no_node : (o : Option Shape) → EndsAt 2 o → begins_node o ≡ false
ends-no_node (Some s.Var) h = absurd (omega arith)
ends-no_node (Some s.Blank) h = absurd (omega arith)
ends-no_node (Some s.Iri) h = absurd (omega arith)
ends-no_node (Some s.Quoted) h = absurd (omega arith)
ends-no_node (Some s.Integer) h = absurd (omega arith)
ends-no_node (Some s.Decimal) h = absurd (omega arith)
ends-no_node (Some s.Boolean) h = absurd (omega arith)
ends-no_node (Some s.Plus) h = absurd (omega arith)
ends-no_node (Some s.Minus) h = absurd (omega arith)
ends-no_node o h = refl

verb-ends : {ts rest : List Symbol} {a : Place} → IsVerb ts a rest → ends_string (head ts) ≡ true
verb-ends (verb_variable h) = ap ends_string (holds-head h)
verb-ends (verb_iri h) = ap ends_string (holds-head h)
verb-ends (verb_a i) = ap ends_string (is-head i)

verb-begins : {ts rest : List Symbol} {a : Place} → IsVerb ts a rest → begins_verb (head ts) ≡ true
verb-begins (verb_variable h) = ap begins_verb (holds-head h)
verb-begins (verb_iri h) = ap begins_verb (holds-head h)
verb-begins (verb_a i) = ap begins_verb (is-head i)

term-node : (o : Option Shape) → begins_term o ≡ true → begins_node o ≡ true
term-node (Some s.Iri) h = refl
term-node (Some s.Quoted) h = refl
term-node (Some s.Integer) h = refl
term-node (Some s.Decimal) h = refl
term-node (Some s.Boolean) h = refl
term-node (Some s.Plus) h = refl
term-node (Some s.Minus) h = refl
term-node o h = absurd cc

node-begins : {ts rest : List Symbol} {a : Place} → IsNode ts a rest → begins_node (head ts) ≡ true
node-begins (node_variable h) = ap begins_node (holds-head h)
node-begins (node_blank h) = ap begins_node (holds-head h)
node-begins {ts = ts} (node_term h) = term-node (head ts) (term-head h)

pub block-begins : {ts rest : List Symbol} {xs : List Pattern} → IsBlock ts xs rest → begins_node (head ts) ≡ true
block-begins (block_one (same h i j k)) = node-begins h
block-begins (block_point (same h i j k) p) = node-begins h
block-begins (block_more (same h i j k) p m) = node-begins h

object_tail-ends : {subject predicate : Place} {ts rest : List Symbol} {xs : List Pattern} → ObjectTail subject predicate ts xs rest → Ends 3 rest → ends_string (head ts) ≡ true
object_tail-ends {ts = ts} object_end h = ends-string (head ts) h
object_tail-ends (object_more i k m) h = ap ends_string (is-head i)

property_tail-ends : {subject : Place} {ts rest : List Symbol} {xs : List Pattern} → PropertyTail subject ts xs rest → Ends 2 rest → Ends 3 ts
property_tail-ends {ts = ts} property_end h = ends-later 2 3 ts (omega arith) h
property_tail-ends (property_none i k) h = is-ends 3 i (omega arith)
property_tail-ends (property_more i j k m) h = is-ends 3 i (omega arith)

property_tail-no_verb : {subject : Place} {ts rest : List Symbol} {xs : List Pattern} → PropertyTail subject ts xs rest → Ends 2 rest → begins_verb (head ts) ≡ false
property_tail-no_verb {ts = ts} property_end h = ends-no_verb (head ts) h
property_tail-no_verb (property_none i k) h = ap begins_verb (is-head i)
property_tail-no_verb (property_more i j k m) h = ap begins_verb (is-head i)

-- ---- complete

node_by-term : (ts : List Symbol) (o : Option Shape) → begins_term o ≡ true → r.node_by o ts ≡ (places.Term <$> term) ts
node_by-term ts (Some s.Var) h = absurd cc
node_by-term ts (Some s.Blank) h = absurd cc
node_by-term ts o h = refl

node-finds : {ts rest : List Symbol} {a : Place} → IsNode ts a rest → ends_string (head rest) ≡ true → Finds r.node ts a rest
unfolding r.node
node-finds (node_variable h) e = at-finds r.node_by (holds-head h) (spelled-finds places.Var h)
node-finds (node_blank h) e = at-finds r.node_by (holds-head h) (spelled-finds places.Blank h)
node-finds {ts = ts} (node_term h) e = record { found = node_by-term ts (head ts) (term-head h) ∙ (map-finds places.Term (term-finds h e)).found }

verb-finds : {ts rest : List Symbol} {a : Place} → IsVerb ts a rest → Finds r.verb ts a rest
unfolding r.verb
verb-finds (verb_variable h) = at-finds r.verb_by (holds-head h) (spelled-finds places.Var h)
verb-finds (verb_iri h) = at-finds r.verb_by (holds-head h) (spelled-finds (λ iri. places.Term (terms.Iri iri)) h)
verb-finds (verb_a i) = at-finds r.verb_by (is-head i) (take-finds {q = λ w. Some (places.Term (terms.Iri rdf_type), w)} i (record { found = refl }))

object_turn-stop : (subject predicate : Place) (o : Option Shape) → EndsAt 3 o → r.object_turn subject predicate o ≡ None
object_turn-stop subject predicate (Some s.Comma) h = absurd (omega arith)
object_turn-stop subject predicate o h = refl

object_tail-finds : (subject predicate : Place) {ts rest : List Symbol} {xs : List Pattern} → ObjectTail subject predicate ts xs rest → Ends 3 rest → (n : ℕ) (found : List Pattern) → length ts ≤ n
    → Finds (more (r.object_turn subject predicate) n found) ts (found ++ xs) rest
object_tail-finds subject predicate (object_end {ts = ts}) ends n found le =
    same_found (more-stop (r.object_turn subject predicate) n found ts (object_turn-stop subject predicate (head ts) ends)) (none_more found)
object_tail-finds subject predicate (object_more i h k) ends zero found le = absurd (omega (arith, is-shorter i))
object_tail-finds subject predicate (object_more {ts = ts} {vs = vs} {object = object} {more = xs} i h k) ends (suc n) found le =
    more-step (r.object_turn subject predicate) (take >> (pattern subject predicate <$> r.node)) n found ts vs (pattern subject predicate object) (ap (r.object_turn subject predicate) (is-head i))
    (take-finds i (map-finds (pattern subject predicate) (node-finds h (object_tail-ends k ends))))
    (same_found (object_tail-finds subject predicate k ends n (found ++ pattern subject predicate object ∷ []) (omega (arith, is-shorter i, node-shorter h))) (append_assoc found (pattern subject predicate object ∷ []) xs))

object_rest-all : (subject predicate : Place) {ts rest : List Symbol} {all : List Pattern} (found : List Pattern) → Finds (more (r.object_turn subject predicate) (length ts) found) ts all rest
    → Finds (r.object_rest subject predicate found) ts all rest
unfolding r.object_rest all_more
object_rest-all subject predicate found h = record { found = h.found }

objects-step : (subject predicate object : Place) {ts us rest : List Symbol} {all : List Pattern} (found : List Pattern) → Finds r.node ts object us
    → Finds (r.object_rest subject predicate (found ++ pattern subject predicate object ∷ [])) us all rest → Finds (r.objects subject predicate found) ts all rest
unfolding r.objects
objects-step subject predicate object found h k = then-finds _ h k

objects-finds : (subject predicate : Place) {ts rest : List Symbol} {xs : List Pattern} → IsObjects subject predicate ts xs rest → Ends 3 rest → (found : List Pattern)
    → Finds (r.objects subject predicate found) ts (found ++ xs) rest
objects-finds subject predicate (objects {us = us} {object = object} {more = xs} h k) ends found =
    objects-step subject predicate object found (node-finds h (object_tail-ends k ends))
    (object_rest-all subject predicate _ (same_found (object_tail-finds subject predicate k ends (length us) (found ++ pattern subject predicate object ∷ []) (omega arith)) (append_assoc found (pattern subject predicate object ∷ []) xs)))

property-none : (subject : Place) (found : List Pattern) (us : List Symbol) → begins_verb (head us) ≡ false → Finds (r.property subject found) us found us
unfolding r.property
property-none subject found us e = tested-finds begins_verb (r.property_if subject found) false e (record { found = refl })

property-some : (subject predicate : Place) (found : List Pattern) {us vs ws : List Symbol} {all : List Pattern} → begins_verb (head us) ≡ true → Finds r.verb us predicate vs
    → Finds (r.objects subject predicate found) vs all ws → Finds (r.property subject found) us all ws
unfolding r.property
property-some subject predicate found e h k = tested-finds begins_verb (r.property_if subject found) true e (then-finds _ h k)

property_turn-stop : (subject : Place) (o : Option Shape) → EndsAt 2 o → r.property_turn subject o ≡ None
property_turn-stop subject (Some s.Semicolon) h = absurd (omega arith)
property_turn-stop subject o h = refl

property_tail-finds : (subject : Place) {ts rest : List Symbol} {xs : List Pattern} → PropertyTail subject ts xs rest → Ends 2 rest → (n : ℕ) (found : List Pattern) → length ts ≤ n
    → Finds (repeat (r.property_turn subject) n found) ts (found ++ xs) rest
property_tail-finds subject (property_end {ts = ts}) ends n found le = same_found (repeat-stop (r.property_turn subject) n found ts (property_turn-stop subject (head ts) ends)) (none_more found)
property_tail-finds subject (property_none i k) ends zero found le = absurd (omega (arith, is-shorter i))
property_tail-finds subject (property_none {ts = ts} {us = us} i k) ends (suc n) found le =
    repeat-step (r.property_turn subject) (λ xs. take >> r.property subject xs) n found found ts us (ap (r.property_turn subject) (is-head i))
    (take-finds i (property-none subject found us (property_tail-no_verb k ends))) (property_tail-finds subject k ends n found (omega (arith, is-shorter i)))
property_tail-finds subject (property_more i h j k) ends zero found le = absurd (omega (arith, is-shorter i))
property_tail-finds subject (property_more {ts = ts} {ws = ws} {verb = predicate} {found = xs} {more = ys} i h j k) ends (suc n) found le =
    repeat-step (r.property_turn subject) (λ zs. take >> r.property subject zs) n found (found ++ xs) ts ws (ap (r.property_turn subject) (is-head i))
    (take-finds i (property-some subject predicate found (verb-begins h) (verb-finds h) (objects-finds subject predicate j (property_tail-ends k ends) found)))
    (same_found (property_tail-finds subject k ends n (found ++ xs) (omega (arith, is-shorter i, verb-shorter h, objects-shorter j))) (append_assoc found xs ys))

same-step : (subject predicate : Place) (found : List Pattern) {ts us vs ws rest : List Symbol} {all whole : List Pattern} → Finds r.node ts subject us → Finds r.verb us predicate vs
    → Finds (r.objects subject predicate found) vs all ws → Finds (repeat (r.property_turn subject) (length ws) all) ws whole rest → Finds (r.same found) ts whole rest
unfolding r.same r.property_rest all_steps
same-step subject predicate found h i j k = then-finds _ h (then-finds _ i (then-finds _ j (record { found = k.found })))

same-finds : {ts rest : List Symbol} {xs : List Pattern} → IsSame ts xs rest → Ends 2 rest → (found : List Pattern) → Finds (r.same found) ts (found ++ xs) rest
same-finds (same {ws = ws} {subject = subject} {verb = predicate} {found = xs} {more = ys} h i j k) ends found =
    same-step subject predicate found (node-finds h (verb-ends i)) (verb-finds i) (objects-finds subject predicate j (property_tail-ends k ends) found)
    (same_found (property_tail-finds subject k ends (length ws) (found ++ xs) (omega arith)) (append_assoc found xs ys))

pointed-stop : (go : List Pattern → Parser (List Pattern)) (all : List Pattern) (us : List Symbol) (o : Option Shape) → EndsAt 1 o → r.pointed go all o us ≡ Some (all, us)
pointed-stop go all us (Some s.Point) h = absurd (omega arith)
pointed-stop go all us o h = refl

block-one : (n : ℕ) (found : List Pattern) {ts us : List Symbol} {all : List Pattern} → Finds (r.same found) ts all us → Ends 1 us → Finds (r.block_within (suc n) found) ts all us
unfolding r.block_within
block-one n found {us = us} {all = all} h ends = then-finds (λ xs. peek >>= r.pointed (r.block_within n) xs) h (record { found = pointed-stop (r.block_within n) all us (head us) ends })

block-point : (n : ℕ) (found : List Pattern) {ts us vs : List Symbol} {all : List Pattern} → Finds (r.same found) ts all us → Is s.Point us vs → begins_node (head vs) ≡ false
    → Finds (r.block_within (suc n) found) ts all vs
unfolding r.block_within
block-point n found {all = all} h i e = then-finds (λ xs. peek >>= r.pointed (r.block_within n) xs) h
    (at-finds (r.pointed (r.block_within n) all) (is-head i) (take-finds i (tested-finds begins_node (r.further (r.block_within n) all) false e (record { found = refl }))))

block-more : (n : ℕ) (found : List Pattern) {ts us vs rest : List Symbol} {all whole : List Pattern} → Finds (r.same found) ts all us → Is s.Point us vs → begins_node (head vs) ≡ true
    → Finds (r.block_within n all) vs whole rest → Finds (r.block_within (suc n) found) ts whole rest
unfolding r.block_within
block-more n found {all = all} h i e k = then-finds (λ xs. peek >>= r.pointed (r.block_within n) xs) h
    (at-finds (r.pointed (r.block_within n) all) (is-head i) (take-finds i (tested-finds begins_node (r.further (r.block_within n) all) true e k)))

block-finds : {ts rest : List Symbol} {xs : List Pattern} → IsBlock ts xs rest → Ends 1 rest → (n : ℕ) (found : List Pattern) → length ts ≤ n → Finds (r.block_within n found) ts (found ++ xs) rest
block-finds (block_one k) ends zero found le = absurd (omega (arith, same-shorter k))
block-finds (block_one {rest = rest} k) ends (suc n) found le = block-one n found (same-finds k (ends-later 1 2 rest (omega arith) ends) found) ends
block-finds (block_point k i) ends zero found le = absurd (omega (arith, same-shorter k))
block-finds (block_point {rest = rest} k i) ends (suc n) found le =
    block-point n found (same-finds k (is-ends 2 i (omega arith)) found) i (ends-no_node (head rest) (ends-later 1 2 rest (omega arith) ends))
block-finds (block_more k i m) ends zero found le = absurd (omega (arith, same-shorter k))
block-finds (block_more {found = xs} {more = ys} k i m) ends (suc n) found le =
    block-more n found (same-finds k (is-ends 2 i (omega arith)) found) i (block-begins m)
    (same_found (block-finds m ends n (found ++ xs) (omega (arith, same-shorter k, is-shorter i))) (append_assoc found xs ys))

triples-none : (ts : List Symbol) → begins_node (head ts) ≡ false → Finds r.triples ts [] ts
unfolding r.triples
triples-none ts e = tested-finds begins_node r.triples_if false e (record { found = refl })

triples-some : {ts rest : List Symbol} {xs : List Pattern} → begins_node (head ts) ≡ true → Finds (r.block_within (length ts) []) ts xs rest → Finds r.triples ts (Triples xs ∷ []) rest
unfolding r.triples r.block
triples-some e h = tested-finds begins_node r.triples_if true e (map-finds {q = λ w. r.block_within (length w) [] w} (λ found. Triples found ∷ []) (record { found = h.found }))

pub triples-finds : {ts rest : List Symbol} {xs : List Element} → IsTriples ts xs rest → Ends 1 rest → Finds r.triples ts xs rest
triples-finds (no_triples {ts = ts}) ends = triples-none ts (ends-no_node (head ts) (ends-later 1 2 ts (omega arith) ends))
triples-finds (triples {ts = ts} k) ends = triples-some (block-begins k) (block-finds k ends (length ts) [] (omega arith))

-- triple patterns, where they stand, begin with a node
pub triples-begin : {ts rest : List Symbol} {xs : List Element} → IsTriples ts xs rest → Ends 1 rest → Ends 1 ts ⊎ (begins_node (head ts) ≡ true)
triples-begin no_triples ends = inl ends
triples-begin (triples k) ends = inr (block-begins k)
