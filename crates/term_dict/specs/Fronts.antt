-- What the front of a record tells of it.
use Rattle.std.specs.Prelude.{◌≡◌, ℕ, ◌++◌, ◌==◌, List, [], ◌∷◌, Option, Some, None, if◌then◌else◌}
use Rattle.std.specs.declared.cmp.Ordering.{Ordering}
use Rattle.std.specs.declared.cmp.Ordering.TheVariants.{Equal}
use Rattle.term_core.specs.declared.term.Term.{Term}
use Rattle.term_core.specs.Order.{term_cmp}
use Rattle.term_dict.specs.Records.{◌>>=◌, number_front, cut_at, raw_in}

-- the beginning of a literal's lexical form, where its lengths, datatype and language tag are there
unfoldable pub lexical_at : List ℕ → Option (List ℕ)
lexical_at bytes = do
  n ← number_front bytes
  m ← number_front n.1
  front ← cut_at n.0 m.1
  middle ← cut_at m.0 front.1
  Some middle.1

-- the kind, and the beginning of the text
abbrev pub front_at : List ℕ → Option (ℕ × List ℕ)
front_at [] = None
front_at (kind ∷ rest) =
    if kind == 0 then Some (0, rest) else if kind == 1 then Some (1, rest)
    else if kind == 2 then (lexical_at rest >>= λ lexical. Some (2, lexical)) else None

-- with the rest behind the front, the record's texts stand to t in that order, and are not t's
pub record IsDecided (front rest : List ℕ) (t : Term) (order : Ordering) : Type 0 where
  pub texts : (u : Term) × (raw_in (front ++ rest) ≡ Some u) × (term_cmp u t ≡ order)
  pub apart : order ≡ Equal → ⊥
