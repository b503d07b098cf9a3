-- A text that is written as a part, and then the rest.
use Rattle.std.proofs.Common.{List, ℕ, ◌++◌, Result, Err, refl}
use Rattle.diagram.proofs.Common.{ReplayFault, Tape, Writes, WritesText}
use Rattle.diagram.proofs.Written.{nothing_yet, one_more_part, stops_within, spells_rest}

-- the first part is written, and then the rest
pub both_parts : (t u v : Tape) (part rest : List ℕ) (r : Result (Unit {0}) ReplayFault) → Writes t u part → WritesText u v rest r → WritesText t v (part ++ rest) r
both_parts t u v part rest r written h =
    spells_rest t u v (part ++ rest) rest r (one_more_part t t u (part ++ rest) part rest (nothing_yet t (part ++ rest)) written) written.fine h

-- the first part is not written as a whole
pub first_fails : (t u : Tape) (part rest : List ℕ) (fault : ReplayFault) → WritesText {A = Unit {0}} t u part (Err fault) → WritesText {A = Unit {0}} t u (part ++ rest) (Err fault)
first_fails t u part rest fault h = stops_within t t u (part ++ rest) part rest fault (nothing_yet t (part ++ rest)) refl h
