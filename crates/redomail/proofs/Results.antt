-- Results of calls that may fail.
use Rattle.std.proofs.Common.{Result, Ok, Err, OnErr}

-- what holds whatever is answered holds after an error
pub always_err : {T E : Type 0} (r : Result T E) (P : Type 0) → P → OnErr r P
always_err (Ok x) P h = tt
always_err (Err e) P h = h
