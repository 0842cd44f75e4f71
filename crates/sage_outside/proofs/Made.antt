-- What is made of bytes that were read.
use Rattle.std.proofs.Common.{◌≡◌, ℕ, List, ap, Result, Ok, Err}
use Rattle.sage_outside.specs.Areas.{made}

pub made_ok : {X : Type 0} (f : List ℕ → X) (read : Result (List ℕ) ℕ) (bytes : List ℕ) → read ≡ Ok bytes → made f read ≡ Ok (f bytes)
made_ok f (Ok xs) bytes e = let g : xs ≡ bytes = cc in ap (λ l. Ok (f l)) g
made_ok f (Err b) bytes e = cc

pub made_err : {X : Type 0} (f : List ℕ → X) (read : Result (List ℕ) ℕ) (c : ℕ) → read ≡ Err c → made f read ≡ Err c
made_err f (Ok xs) c e = cc
made_err f (Err b) c e = let g : b ≡ c = cc in ap (λ m. Err m) g
