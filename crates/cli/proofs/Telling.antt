-- What was written of a text, where a part of it was not.
use Rattle.std.proofs.Common.{◌≡◌, ◌∙◌, ℕ, ◌+◌, ◌-◌, ◌^◌, ◌<◌, min, List, ◌++◌, Result, Ok, Err, OnErr, OnOk, ap, sym, length, take, drop, get_or, take-append-drop}
use Rattle.std.proofs.lemmas.List.{at_drop_more}
use Rattle.std.proofs.lemmas.Grind.{flat_map-append}
use Rattle.std.specs.List.{flat_map}
use Rattle.schedule.specs.Tapes.{Begins, Tape, Writes}
use Rattle.schedule.specs.declared.texts.device.Failed.{Failed}
use Rattle.cli.specs.Report.{IsWritten}

-- what holds in any case holds of a fault
pub on_err : {T E : Type 0} (r : Result T E) (P : Type 0) → P → OnErr r P
on_err (Ok x) P p = tt
on_err (Err e) P p = p

pub on_err_too : {T E : Type 0} (r : Result T E) (P Q : Type 0) → (P → Q) → OnErr r P → OnErr r Q
on_err_too (Ok x) P Q f p = tt
on_err_too (Err e) P Q f p = f p

-- the lines before one, the line, and those after it
pub lines_around : {X : Type 0} (f : X → List ℕ) (xs : List X) (i : ℕ) (x : X) → i < length xs
    → flat_map f xs ≡ flat_map f (take i xs) ++ (f (get_or xs i x) ++ flat_map f (drop (i + 1) xs))
lines_around f xs i x some =
    ap (flat_map f) (sym (take-append-drop i xs)) ∙ flat_map-append f (take i xs) (drop i xs)
    ∙ at_drop_more (λ ys. flat_map f (take i xs) ++ flat_map f ys) xs i x some

-- what was written of a text, in either case
pub written : (before now : Tape) (text : List ℕ) (r : Result (Unit {0}) Failed) → OnOk r (Writes before now text) → OnErr r (Begins before.taken now.taken text)
    → OnErr r (now.failures ≡ min (before.failures + 1) (2 ^ 64 - 1)) → IsWritten before now text r
written before now text (Ok x) all front failed = all
written before now text (Err fault) all front failed = (front, failed)
