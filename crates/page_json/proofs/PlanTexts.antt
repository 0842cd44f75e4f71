-- The text of a plan against what the reader finds.
use Rattle.std.proofs.Common.{◌≡◌, ℕ, List, Option, Some, None, Ok, Err, Result, option_map, option_and_then, cond, refl, ap, subst}
use Rattle.std.proofs.Common.{◌∙◌}
use Rattle.std.specs.Result.{result_ok}
use Rattle.std.specs.Str.{bytes_eq}
use Rattle.std.proofs.lemmas.Option.{same_Some}
use Rattle.std.proofs.lemmas.Slice.Eq.{bytes_eq-Decides}
use Rattle.base64.specs.Engines.{url_safe_no_pad}
use Rattle.base64.specs.GeneralPurpose.{encode_of, decode_of}
use Rattle.serde_json.specs.Data.{Data, null, boolean, number, string, array, object}
use Rattle.page_json.specs.PlanTexts.{IsPlanText}
use Rattle.page_json.specs.Reading.{found_plan, found_next}
use Rattle.page_json.specs.Replies.{next_json, HasPlanText}
use Rattle.page_json.proofs.Fronts.{some_from, some_map}
use Rattle.page_json.proofs.Values.{same_bytes, if_some}

pub plan_text_back : (text plan : List ℕ) → IsPlanText text plan → found_plan text ≡ Some plan
plan_text_back text plan h =
    ap (λ r. option_and_then (λ p. cond (bytes_eq text (encode_of url_safe_no_pad p)) (Some p) None) (result_ok r)) h.1
    ∙ ap (λ b. cond b (Some plan) None) ((bytes_eq-Decides text (encode_of url_safe_no_pad plan)).1 h.0)

pub plan_sound : (text plan : List ℕ) → found_plan text ≡ Some plan → IsPlanText text plan
plan_sound text plan e =
    let o = some_from _ (result_ok (decode_of url_safe_no_pad text)) plan e in
    let p = if_some (bytes_eq text (encode_of url_safe_no_pad o.0)) o.0 plan o.2 in
    (same_bytes _ _ p.0 ∙ ap (encode_of url_safe_no_pad) p.1, ok_of (decode_of url_safe_no_pad text) plan (o.1 ∙ ap Some p.1))
  where
    ok_of : {E : Type 0} (r : Result (List ℕ) E) (b : List ℕ) → result_ok r ≡ Some b → r ≡ Ok b
    ok_of (Ok a) b e = ap Ok (same_Some a b e)
    ok_of (Err x) b e = absurd (cc)

pub next_back : (next : Option (List ℕ)) → HasPlanText next → found_next (next_json next) ≡ Some next
next_back None h = refl
next_back (Some plan) h = ap (option_map Some) (plan_text_back (encode_of url_safe_no_pad plan) plan h)

abbrev IsFormed : Data → Option (List ℕ) → Type 0
IsFormed d next = (d ≡ next_json next) × HasPlanText next

pub next_sound : (d : Data) (next : Option (List ℕ)) → found_next d ≡ Some next → (d ≡ next_json next) × HasPlanText next
next_sound null next e = subst (IsFormed null) (same_Some None next e) (refl, tt)
next_sound (boolean b) next e = absurd (cc)
next_sound (number n) next e = absurd (cc)
next_sound (string text) next e =
    let p = some_map Some (found_plan text) next e in
    let q = plan_sound text p.0 p.1 in
    subst (IsFormed (string text)) p.2 (ap string q.0, subst (λ t. IsPlanText t p.0) q.0 q)
next_sound (array ds) next e = absurd (cc)
next_sound (object ms) next e = absurd (cc)
