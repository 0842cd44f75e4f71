-- What a front that was taken says of the whole.
use Rattle.std.proofs.Common.{◌≡◌, ℕ, ◌≤◌, List, [], ◌∷◌, ◌++◌, length, drop, Option, Some, refl, sym, ap, subst, ◌∙◌, arith, append-nil, append_assoc, length-append}
use Rattle.httparse.specs.Grammar.{RequestHead, print_request, ReadsRequest, HasNoRequest}
use Rattle.httparse.specs.Spans.{RequestOverflows}
use Rattle.http_core.specs.Heads.{head_limit, field_limit, Gave, HasHead, HasNoHead}

pub gave_none : (told : Option (List ℕ)) → Gave told [] told
gave_none told coming is = (coming, refl, is)

pub gave_then : (a b c : Option (List ℕ)) (xs ys : List ℕ) → Gave a xs b → Gave b ys c → Gave a (xs ++ ys) c
gave_then a b c xs ys g h coming is =
    let first = g coming is in
    let second = h first.0 first.2 in
    (second.0, first.1 ∙ ap (λ zs. xs ++ zs) second.1 ∙ sym (append_assoc xs ys second.0), second.2)

-- a front of equal lists is a front of the longer front
front_of : (xs ys p r : List ℕ) → xs ++ ys ≡ p ++ r → length p ≤ length xs → xs ≡ p ++ drop (length p) xs
front_of xs ys [] r e h = refl
front_of [] ys (y ∷ p) r e h = absurd (omega arith)
front_of (x ∷ xs) ys (y ∷ p) r e h =
    let same : x ≡ y = ap (head_or 0) e in
    let rest : xs ++ ys ≡ p ++ r = ap tail_of e in
    λ i. same i ∷ front_of xs ys p r rest (omega arith) i
  where
    head_or : ℕ → List ℕ → ℕ
    head_or d [] = d
    head_or d (z ∷ zs) = z

    tail_of : List ℕ → List ℕ
    tail_of [] = []
    tail_of (z ∷ zs) = zs

-- no head stands where all that comes is there and begins with none
pub none_at_end : (old : Option (List ℕ)) (buf : List ℕ) (new : Option (List ℕ)) → Gave old buf new → HasNoRequest buf
    → ((coming : List ℕ) → new ≡ Some coming → coming ≡ []) → (coming : List ℕ) → old ≡ Some coming → HasNoHead coming
none_at_end old buf new gave none end coming is head rest begins =
    let g = gave coming is in
    let whole : coming ≡ buf = g.1 ∙ ap (λ more. buf ++ more) (end g.0 g.2) ∙ append-nil buf in
    none head rest (subst (λ bytes. ReadsRequest bytes head rest) whole begins.reads)

-- nor where as many bytes as a head may have begin with none
pub none_when_full : (old : Option (List ℕ)) (buf : List ℕ) (new : Option (List ℕ)) → Gave old buf new → HasNoRequest buf
    → head_limit ≤ length buf → (coming : List ℕ) → old ≡ Some coming → HasNoHead coming
none_when_full old buf new gave none full coming is head rest begins =
    let g = gave coming is in
    let printed = print_request head in
    let front = front_of buf g.0 printed rest (sym g.1 ∙ begins.reads.1) (omega (arith, begins.short)) in
    none head (drop (length printed) buf) (begins.reads.0, front)

-- nor where more bytes only give more fields
pub none_ever : (old : Option (List ℕ)) (buf : List ℕ) (new : Option (List ℕ)) → Gave old buf new → RequestOverflows field_limit buf
    → (coming : List ℕ) → old ≡ Some coming → HasNoHead coming
none_ever old buf new gave never coming is head rest begins =
    let g = gave coming is in
    let many = never g.0 head rest (subst (λ bytes. ReadsRequest bytes head rest) g.1 begins.reads) in
    omega (arith, many, begins.few)

-- a head in as many bytes as it may have is within the limit
pub whole_head : (buf : List ℕ) → length buf ≤ head_limit → (head : RequestHead) (rest : List ℕ) → ReadsRequest buf head rest
    → length head.fields ≤ field_limit → HasHead buf
whole_head buf fits head rest reads few = (
  head,
  rest,
  record {
    reads = reads;
    short = omega (arith, fits, ap length reads.1, length-append (print_request head) rest);
    few = few;
  },
)
