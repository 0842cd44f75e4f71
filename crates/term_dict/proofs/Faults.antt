-- A refused read refuses what is made of it.
use Rattle.std.proofs.Common.{◌≡◌, ℕ, Result, Ok, Err, sym, ap, subst}
use Rattle.std.specs.Result.{IsErr, IsErrAnd}
use Rattle.std.specs.declared.cmp.Ordering.{Ordering}
use Rattle.term_core.specs.declared.term.Term.{Term}
use Rattle.sage_outside.specs.Parts.{Reads, wider}
use Rattle.sage_outside.specs.declared.fault.ReadFault.{ReadFault}
use Rattle.sage_outside.specs.declared.fault.ReadFault.TheVariants as faults
use Rattle.sage_outside.specs.declared.fault.StoreFault.{StoreFault}
use Rattle.sage_outside.specs.declared.fault.StoreFault.TheVariants as store_faults
use Rattle.term_dict.specs.Layout.{ReadsImage}
use Rattle.term_dict.specs.Ranks.{Compares}

by_fault : {X Y : Type 0} {Z W : Type 0} (view : X → Z) (other : Y → W) (fault : ReadFault) (piece : Result Z ℕ) (whole : Result W ℕ)
    → ((c : ℕ) → piece ≡ Err c → whole ≡ Err c) → Reads view (Err fault) piece → ReadsImage other (Err (wider fault)) whole
by_fault view other faults.Blocks piece whole h reads = tt
by_fault view other (faults.Damaged c) piece whole h reads = h c reads

pub widened : {X Y : Type 0} {Z W : Type 0} (view : X → Z) (other : Y → W) (r : Result X ReadFault) (s : Result Y StoreFault) (fault : ReadFault) (piece : Result Z ℕ) (whole : Result W ℕ)
    → r ≡ Err fault → s ≡ Err (wider fault) → ((c : ℕ) → piece ≡ Err c → whole ≡ Err c) → Reads view r piece → ReadsImage other s whole
widened {X = X} {Y = Y} view other r s fault piece whole e f h reads =
    let P : Result X ReadFault → Type 0 = λ q. Reads view q piece in
    let Q : Result Y StoreFault → Type 0 = λ q. ReadsImage other q whole in
    subst Q (sym f) (by_fault view other fault piece whole h (subst P e reads))

-- what is read, where the call answered
pub image_ok : {X Y : Type 0} (view : X → Y) (r : Result X StoreFault) (x : X) (read : Result Y ℕ) → r ≡ Ok x → ReadsImage view r read → read ≡ Ok (view x)
image_ok {X = X} view r x read e reads = let P : Result X StoreFault → Type 0 = λ s. ReadsImage view s read in subst P e reads

-- what `?` gives for a fault of the same type
pub passed_image : {X : Type 0} (r : Result X StoreFault) (fault : StoreFault) → IsErr r × IsErrAnd r (λ y. y ≡ fault) → r ≡ Err fault
passed_image (Err y) fault e = ap Err e.1
passed_image (Ok x) fault e = let f = e.0 in cc

refused_by : {X Y : Type 0} {Z W : Type 0} (view : X → Z) (other : Y → W) (fault : StoreFault) (piece : Result Z ℕ) (whole : Result W ℕ)
    → ((c : ℕ) → piece ≡ Err c → whole ≡ Err c) → ReadsImage view (Err fault) piece → ReadsImage other (Err fault) whole
refused_by view other store_faults.Blocks piece whole h reads = tt
refused_by view other store_faults.Memory piece whole h reads = tt
refused_by view other (store_faults.Damaged c) piece whole h reads = h c reads

-- a refused piece refuses what is made of it
pub refused_image : {X Y : Type 0} {Z W : Type 0} (view : X → Z) (other : Y → W) (r : Result X StoreFault) (s : Result Y StoreFault) (fault : StoreFault) (piece : Result Z ℕ) (whole : Result W ℕ)
    → r ≡ Err fault → s ≡ Err fault → ((c : ℕ) → piece ≡ Err c → whole ≡ Err c) → ReadsImage view r piece → ReadsImage other s whole
refused_image {X = X} {Y = Y} view other r s fault piece whole e f h reads =
    let P : Result X StoreFault → Type 0 = λ q. ReadsImage view q piece in
    let Q : Result Y StoreFault → Type 0 = λ q. ReadsImage other q whole in
    subst Q (sym f) (refused_by view other fault piece whole h (subst P e reads))

compares_by : {X Z : Type 0} (view : X → Z) (t : Term) (fault : StoreFault) (piece : Result Z ℕ) (raw read : Result Term ℕ)
    → ((c : ℕ) → piece ≡ Err c → read ≡ Err c) → ReadsImage view (Err fault) piece → Compares t (Err fault) raw read
compares_by view t store_faults.Blocks piece raw read h reads = tt
compares_by view t store_faults.Memory piece raw read h reads = tt
compares_by view t (store_faults.Damaged c) piece raw read h reads = h c reads

-- it refuses the comparison
pub refused_order : {X Z : Type 0} (view : X → Z) (t : Term) (r : Result X StoreFault) (s : Result Ordering StoreFault) (fault : StoreFault) (piece : Result Z ℕ) (raw read : Result Term ℕ)
    → r ≡ Err fault → s ≡ Err fault → ((c : ℕ) → piece ≡ Err c → read ≡ Err c) → ReadsImage view r piece → Compares t s raw read
refused_order {X = X} view t r s fault piece raw read e f h reads =
    let P : Result X StoreFault → Type 0 = λ q. ReadsImage view q piece in
    let Q : Result Ordering StoreFault → Type 0 = λ q. Compares t q raw read in
    subst Q (sym f) (compares_by view t fault piece raw read h (subst P e reads))
