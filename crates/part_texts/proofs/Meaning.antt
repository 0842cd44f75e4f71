-- The group that a part is written as means the part.
use Rattle.std.proofs.Common.{◌≡◌, true, false, [], ◌∷◌, refl, ap, ◌∙◌}
use Rattle.sparql_lex.proofs.Bools.{both}
use Rattle.sparql_tree.specs.Algebra as algebra
use Rattle.sparql_tree.specs.Algebra.{Algebra, is_server}
use Rattle.sparql_tree.specs.Translation.{unit, joined, of_group}
use Rattle.part_texts.proofs.Forms.{group_of_part, IsPart, IsWritten, is_unit}

pub joined-unit : (a : Algebra) → joined a unit ≡ a
joined-unit (algebra.Bgp []) = refl
joined-unit (algebra.Bgp (p ∷ ps)) = refl
joined-unit a = refl

joined-both : (a b : Algebra) → is_unit a ≡ false → is_unit b ≡ false → joined a b ≡ algebra.Join a b
joined-both (algebra.Bgp []) b h k = absurd (cc)
joined-both a (algebra.Bgp []) h k = absurd (cc)
joined-both a b h k = refl

-- what stands behind one group alone
pub means-back : (a : Algebra) → IsPart a → IsWritten a → of_group (group_of_part a) ≡ a
means-back (algebra.Bgp []) p w = refl
means-back (algebra.Bgp (q ∷ qs)) p w = refl
means-back (algebra.Join left right) p w =
    rw (means-back left p.0 w.0, means-back right p.1 w.1)
    (joined-unit (joined (joined left unit) right) ∙ (ap (λ a. joined a right) (joined-unit left) ∙ joined-both left right w.2 w.3))
means-back (algebra.Union left right) p w = rw (means-back left p.0 w.0, means-back right p.1 w.1) refl
means-back (algebra.Filter condition inner) p w = rw (means-back inner p w.0) (ap (algebra.Filter condition) (joined-unit inner))
means-back (algebra.Extend inner variable value) p w = rw (means-back inner p w.0) (ap (λ a. algebra.Extend a variable value) (joined-unit inner))
means-back (algebra.Table variables rows) p w = refl
means-back (algebra.LeftJoin left right condition) p w = absurd p
means-back (algebra.Minus left right) p w = absurd p

pub part-of : (a : Algebra) → is_server a ≡ true → IsPart a
part-of (algebra.Bgp patterns) h = tt
part-of (algebra.Table variables rows) h = tt
part-of (algebra.Join left right) h = let sides = both (is_server left) (is_server right) (both _ _ h).0 in (part-of left sides.0, part-of right sides.1)
part-of (algebra.Union left right) h = let sides = both (is_server left) (is_server right) h in (part-of left sides.0, part-of right sides.1)
part-of (algebra.Filter condition inner) h = part-of inner h
part-of (algebra.Extend inner variable value) h = part-of inner h
part-of (algebra.LeftJoin left right condition) h = absurd (cc)
part-of (algebra.Minus left right) h = absurd (cc)
