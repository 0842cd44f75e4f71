-- What scans give to a join.
use Rattle.std.proofs.Common.{◌≡◌, ℕ, ◌+◌, List, length, Option, Some, None, refl, sym, ap, ◌∙◌, subst}
use Rattle.std.specs.Prelude.{slice_get}
use Rattle.term_core.specs.declared.pattern.IdTriple.{IdTriple}
use Rattle.term_core.specs.Mappings.{Name}
use Rattle.term_core.proofs.Merges.{Some_same}
use Rattle.triple_store.specs.declared.asked.Asked.{Asked}
use Rattle.triple_store.specs.Ranges.{IsAskedBy}
use Rattle.triple_store.specs.Stores.{View, IsKept, IsShown}
use Rattle.preempt_scan.specs.declared.scan.Scan.{Scan}
use Rattle.preempt_scan.specs.declared.scan.Found.{Found}
use Rattle.preempt_scan.specs.declared.scan.Found.TheVariants.{Triple as ATriple, End as NoMore}
use Rattle.preempt_scan.specs.Scans.{HasGiven, Finds, IsScanOf}
use Rattle.row_cells.specs.declared.cell.Cell.{Cell}
use Rattle.row_cells.specs.declared.cell.PatternSlots.{PatternSlots}
use Rattle.row_cells.specs.Cells.{Words, row_of, pattern_of, extended, AreSlots}
use Rattle.row_cells.specs.Data.{Data, ShowsData}
use Rattle.row_cells.specs.Laws.{IsOnce}
use Rattle.row_cells.specs.Owns.{AsksFor}
use Rattle.row_cells.proofs.Asking.{cells_ask}
use Rattle.preempt_join.specs.declared.cursor.Open.{Open}
use Rattle.preempt_join.specs.declared.cursor.Signal.{Signal}
use Rattle.preempt_join.specs.declared.cursor.Signal.TheVariants.{NotYet}
use Rattle.preempt_join.specs.Cursors.{HasOpened}
use Rattle.preempt_join.specs.Steps.{GoesOn, Makes}

-- a store shows data as it did before a call
pub shown_stays : (before now : View) (D : Data) → IsKept before now → ShowsData before.header before.device.image D → ShowsData now.header now.device.image D
shown_stays before now D kept s = subst (λ w. ShowsData w now.device.image D) (sym kept.header) (subst (λ w. ShowsData before.header w D) (sym kept.image) s)

pub is_shown : (store : View) (D : Data) → ShowsData store.header store.device.image D → IsShown store D.terms D.ids
is_shown store D s = record { image = s.bytes; told = s.told; shows = s.shows }

-- a scan that was just opened for a row
pub opened_at : (names : List Name) (D : Data) (words : Words) (s : PatternSlots) (cells : List Cell) (asked : Asked) (scan : Scan) → words.terms ≡ D.terms → IsOnce names → AreSlots (length names) s
    → AsksFor words.terms words s cells asked
    → (IsAskedBy D.terms (pattern_of names words.given s) (row_of names words cells) asked
    → IsScanOf D.triples D.terms D.ids (pattern_of names words.given s) (row_of names words cells) scan)
    → HasGiven D.ids scan 0 → HasOpened D (pattern_of names words.given s) (row_of names words cells) record { scan = scan; last = None } 0
opened_at names D words s cells asked scan e once slots asks found given = record {
  scan = found (subst (λ w. IsAskedBy w (pattern_of names words.given s) (row_of names words cells) asked) e (cells_ask names words s cells asked once slots asks));
  given = given;
  last = refl;
}

module _ (ids : List IdTriple) (s : PatternSlots) (cells : List Cell) (held : Option Open) (opened before : Open) (new : Scan) (k : ℕ) (f : Found) where
  same_place : held ≡ Some opened → held ≡ Some before → HasGiven ids before.scan k → HasGiven ids opened.scan k
  same_place e d h = subst (λ (o : Open). HasGiven ids o.scan k) (Some_same before opened (sym d ∙ e)) h

  -- a scan at its end
  pub ends_here : (out : List Cell) → held ≡ Some opened → held ≡ Some before → HasGiven ids before.scan k → (HasGiven ids opened.scan k → Finds ids opened.scan new k f) → f ≡ NoMore
      → GoesOn ids s cells held k NotYet out None
  ends_here out e d h finds is =
      let r : Finds ids opened.scan new k NoMore = subst (Finds ids opened.scan new k) is (finds (same_place e d h)) in
      subst (λ w. GoesOn ids s cells w k NotYet out None) (sym e) (r.0, refl)

  -- a scan that gives a triple
  pub goes_here : (t : IdTriple) (turn : Signal) (out : List Cell) → held ≡ Some opened → held ≡ Some before → HasGiven ids before.scan k
      → (HasGiven ids opened.scan k → Finds ids opened.scan new k f) → f ≡ ATriple t → new.order ≡ opened.scan.order → new.prefix ≡ opened.scan.prefix
      → Makes turn out (extended s cells t) → GoesOn ids s cells held k turn out (Some record { scan = new; last = Some t })
  goes_here t turn out e d h finds is order prefix makes =
      let r : Finds ids opened.scan new k (ATriple t) = subst (Finds ids opened.scan new k) is (finds (same_place e d h)) in
      subst (λ w. GoesOn ids s cells w k turn out (Some record { scan = new; last = Some t })) (sym e) (t, (r.0, (order, (prefix, (r.1, (refl, makes))))))
