-- What a request asks, against what the reader finds.
use Rattle.std.proofs.Common.{◌≡◌, ℕ, List, Option, Some, None, option_map, refl, sym, ap, ◌∙◌}
use Rattle.base64.specs.Engines.{url_safe_no_pad}
use Rattle.base64.specs.GeneralPurpose.{encode_of}
use Rattle.serde_json.specs.Data.{object}
use Rattle.page_json.specs.PlanTexts.{IsNoPlanText}
use Rattle.page_json.specs.Reading.{found_plan, found_next_plan, HasNoPlan}
use Rattle.page_json.specs.Replies.{HasPlanText}
use Rattle.page_json.specs.Requests.{asked_by, request_members, IsNextText}
use Rattle.std.proofs.lemmas.Option.{same_Some}
use Rattle.page_json.proofs.Fronts.{some_map}
use Rattle.page_json.proofs.PlanTexts.{plan_sound, plan_text_back}

-- what is written asks for what it was written for
pub next_asked : (query : List ℕ) (next : Option (List ℕ)) → HasPlanText next
    → (text : Option (List ℕ)) × (asked_by (object (request_members query next)) ≡ Some (query, text)) × IsNextText text next
next_asked query None h = (None, refl, refl)
next_asked query (Some plan) h = (Some (encode_of url_safe_no_pad plan), refl, (plan, refl, h))

pub next_sound : (text next : Option (List ℕ)) → found_next_plan text ≡ Some next → IsNextText text next
next_sound None next e = sym (same_Some None next e)
next_sound (Some text) next e = let p = some_map Some (found_plan text) next e in (p.0, sym p.2, plan_sound text p.0 p.1)

map_none : {A B : Type 0} (f : A → B) (o : Option A) → option_map f o ≡ None → o ≡ None
map_none f None e = refl
map_none f (Some a) e = absurd (cc)

no_plan : (text : List ℕ) → found_plan text ≡ None → IsNoPlanText text
no_plan text e = λ plan h. absurd (let some = sym e ∙ plan_text_back text plan h in cc)

bad_text : (text : Option (List ℕ)) → found_next_plan text ≡ None → (t : List ℕ) × (text ≡ Some t) × IsNoPlanText t
bad_text None e = absurd (cc)
bad_text (Some t) e = (t, refl, no_plan t (map_none Some (found_plan t) e))

pub bad_plan : (asked : Option (List ℕ × Option (List ℕ))) → HasNoPlan asked
    → (query text : List ℕ) × (asked ≡ Some (query, Some text)) × IsNoPlanText text
bad_plan None h = absurd (let no = h.0 in cc)
bad_plan (Some p) h = let bad = bad_text p.1 h.1 in (p.0, bad.0, ap (λ t. Some (p.0, t)) bad.1, bad.2)
