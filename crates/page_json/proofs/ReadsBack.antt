-- The text of a value whose names rise and whose numbers read back is read as that value.
use Rattle.std.proofs.Common.{◌≡◌, ℕ, ◌≤◌, List, [], Some, option_map, option_and_then}
use Rattle.std.proofs.Common.{Greater, refl, sym, ap, ◌∙◌, append-nil}
use Rattle.std.specs.Prelude.{⊤}
use Rattle.std.specs.Ordering.{nat_cmp, match_ordering}
use Rattle.std.specs.Cmp.Lexicographic.{slice_cmp}
use Rattle.json.specs.Json as json
use Rattle.json.specs.Lex.{tokens}
use Rattle.json.specs.Tree as tree
use Rattle.json.proofs.Printed.Trees.{value-json_tokens}
use Rattle.serde_json.specs.Data.{Data, null, boolean, number, string, array, object, Items, no_items, item, Members, no_members, member}
use Rattle.serde_json.specs.Data.{put}
use Rattle.serde_json.specs.Read.{read, max_depth, number_of, of_json, of_items, of_members}
use Rattle.serde_json.specs.Written.{number_text, outline, items_outline, members_outline}

-- a member behind the others
abbrev pub snoc : Members → List ℕ → Data → Members
snoc no_members k d = member k d no_members
snoc (member l e ms) k d = member l e (snoc ms k d)

-- members behind others
abbrev join : Members → Members → Members
join no_members more = more
join (member l e ms) more = member l e (join ms more)

join-snoc : (found : Members) (k : List ℕ) (d : Data) (ms : Members) → join (snoc found k d) ms ≡ join found (member k d ms)
join-snoc no_members k d ms = refl
join-snoc (member l e found) k d ms = ap (member l e) (join-snoc found k d ms)

-- the name stands above all of these names
abbrev pub IsAbove : List ℕ → Members → Type 0
IsAbove k no_members = ⊤
IsAbove k (member l e ms) = (slice_cmp nat_cmp k l ≡ Greater) × IsAbove k ms

put_above : (k : List ℕ) (d : Data) (found : Members) → IsAbove k found → put k d found ≡ snoc found k d
put_above k d no_members h = refl
put_above k d (member l e ms) h =
    ap (λ o. match_ordering o (member k d (member l e ms)) (member l d ms) (member l e (put k d ms))) h.0
    ∙ ap (member l e) (put_above k d ms h.1)

-- the names of each object rise, and each number reads back from its text
abbrev mutual
  pub IsPlain : Data → Type 0
  IsPlain null = ⊤
  IsPlain (boolean b) = ⊤
  IsPlain (number n) = number_of (number_text n) ≡ Some n
  IsPlain (string s) = ⊤
  IsPlain (array ds) = ItemsArePlain ds
  IsPlain (object ms) = MembersRise no_members ms

  pub ItemsArePlain : Items → Type 0
  ItemsArePlain no_items = ⊤
  ItemsArePlain (item d ds) = IsPlain d × ItemsArePlain ds

  -- each name is above those before it
  pub MembersRise : Members → Members → Type 0
  MembersRise found no_members = ⊤
  MembersRise found (member k d ms) = IsAbove k found × IsPlain d × MembersRise (snoc found k d) ms

join_none : (found : Members) → join found no_members ≡ found
join_none no_members = refl
join_none (member k d ms) = ap (member k d) (join_none ms)

mutual
  of_outline : (d : Data) → IsPlain d → of_json (outline d) ≡ Some d
  of_outline null h = refl
  of_outline (boolean b) h = refl
  of_outline (number n) h = ap (option_map number) h
  of_outline (string s) h = refl
  of_outline (array ds) h = ap (option_map array) (of_items_outline ds h)
  of_outline (object ms) h = ap (option_map object) (of_members_outline no_members ms h)

  of_items_outline : (ds : Items) → ItemsArePlain ds → of_items (items_outline ds) ≡ Some ds
  of_items_outline no_items h = refl
  of_items_outline (item d ds) h =
      ap (option_and_then (λ e. option_map (item e) (of_items (items_outline ds)))) (of_outline d h.0)
      ∙ ap (option_map (item d)) (of_items_outline ds h.1)

  of_members_outline : (found ms : Members) → MembersRise found ms → of_members (members_outline ms) found ≡ Some (join found ms)
  of_members_outline found no_members h = ap Some (sym (join_none found))
  of_members_outline found (member k d ms) h =
      ap (option_and_then (λ e. of_members (members_outline ms) (put k e found))) (of_outline d h.1)
      ∙ ap (of_members (members_outline ms)) (put_above k d found h.0)
      ∙ of_members_outline (snoc found k d) ms h.2 ∙ ap Some (join-snoc found k d ms)

pub reads_back : (text : List ℕ) (d : Data) → IsPlain d → tree.depth (outline d) ≤ max_depth → tokens text ≡ tree.json_tokens (outline d)
    → read text ≡ Some d
reads_back text d plain shallow same =
    ap (λ r. option_and_then of_json (option_and_then (λ p. json.if_last p.0 p.1) r))
    (ap (json.value max_depth) (same ∙ sym (append-nil _)) ∙ value-json_tokens (outline d) max_depth [] shallow) ∙ of_outline d plain
