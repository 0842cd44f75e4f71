-- What is written is read back.
use Rattle.std.proofs.Common.{◌≡◌, ℕ, ◌≤◌, List, ◌++◌, length, refl, sym, ap, ◌∙◌, arith, length-append}
use Rattle.std.specs.Prelude.{take, drop}
use Rattle.std.proofs.Math.Seq.{take-append_seam, drop-append_seam}
use Rattle.std.proofs.lemmas.List.{drop-drop}
use Rattle.plan_tree.specs.Trace.{Plan}
use Rattle.plan_tree.specs.States.{State, done, table_state, join_state, union_state}
use Rattle.plan_tree.specs.Spelling.{state_bytes}
use Rattle.plan_tree.specs.Reached.{IsWholeShape}
use Rattle.plan_bytes.specs.declared.reading.PlanFault.{PlanFault}
use Rattle.plan_bytes.specs.declared.reading.PlanFault.TheVariants as refusal
use Rattle.plan_bytes.specs.Spelled.{spelled}
use Rattle.plan_bytes.specs.Refusals.{IsRefused}
use Rattle.plan_bytes.specs.Reading.{whole_at}
use Rattle.plan_bytes.specs.Laws.{SavedAreRead}
use Rattle.plan_bytes.proofs.Read.{whole_again, Some_same}

-- each state has a byte
some_byte : (state : State) → 1 ≤ length (state_bytes state)
some_byte done = omega arith
some_byte (table_state place) = omega arith
some_byte (join_state left inner) = omega arith
some_byte (union_state side active) = omega arith

take_front : (n : ℕ) (xs ys : List ℕ) → length xs ≡ n → take n (xs ++ ys) ≡ xs
take_front n xs ys e = ap (λ (m : ℕ). take m (xs ++ ys)) (sym e) ∙ take-append_seam xs ys

drop_front : (n : ℕ) (xs ys : List ℕ) → length xs ≡ n → drop n (xs ++ ys) ≡ ys
drop_front n xs ys e = ap (λ (m : ℕ). drop m (xs ++ ys)) (sym e) ∙ drop-append_seam xs ys

module _ (data_name text_name : List ℕ) (state : State) (d : length data_name ≡ 32) (t : length text_name ≡ 32) where
  long : 66 ≤ length (spelled data_name text_name state)
  long = omega (arith, d, t, length-append data_name (text_name ++ state_bytes state), length-append text_name (state_bytes state), some_byte state)

  data_is : take 32 (drop 1 (spelled data_name text_name state)) ≡ data_name
  data_is = take_front 32 data_name (text_name ++ state_bytes state) d

  behind_data : drop 33 (spelled data_name text_name state) ≡ text_name ++ state_bytes state
  behind_data = drop_front 32 data_name (text_name ++ state_bytes state) d

  text_is : take 32 (drop 33 (spelled data_name text_name state)) ≡ text_name
  text_is = ap (take 32) behind_data ∙ take_front 32 text_name (state_bytes state) t

  pub state_is : drop 65 (spelled data_name text_name state) ≡ state_bytes state
  state_is =
      sym (drop-drop 32 33 (spelled data_name text_name state)) ∙ ap (drop 32) behind_data ∙ drop_front 32 text_name (state_bytes state) t

  refused_for : (plan : Plan) → IsWholeShape plan state → (fault : PlanFault) → IsRefused plan (spelled data_name text_name state) data_name text_name fault → fault ≡ refusal.Memory
  refused_for plan w refusal.Short h = absurd (omega (arith, h, long))
  refused_for plan w refusal.Version h = absurd (h.1 refl)
  refused_for plan w refusal.ForeignData h = absurd (h.2 data_is)
  refused_for plan w refusal.ForeignQuery h = absurd (h.3 text_is)
  refused_for plan w refusal.Shape h = absurd (h.1 state w state_is)
  refused_for plan w (refusal.StrayCursor scan) h = absurd h
  refused_for plan w refusal.NoMoreRows h = absurd h
  refused_for plan w refusal.Memory h = refl

pub saved_are_read : SavedAreRead
saved_are_read plan data_name text_name state d t few w = record {
  accepted = λ fault h. refused_for data_name text_name state d t plan w fault h;
  one = λ other v e.
      Some_same state other
      (sym (whole_again plan state few w)
      ∙ ap (whole_at plan) (sym (state_is data_name text_name state d t) ∙ ap (drop 65) e ∙ state_is data_name text_name other d t)
      ∙ whole_again plan other few v);
}
