-- A history with one more deed.
use Rattle.std.proofs.Common.{◌≡◌, List, [], ◌∷◌, ◌++◌, Some, None, Result, Ok, Err, sym, ◌∙◌, ap}
use Rattle.judge.proofs.Common.{Fault, first_fault, Deed, and_then, judged_all, Leads, State, needs, after, unless, state_after_deed}

pub same_state : (s t : State) → ◌≡◌ {A = Result State Fault} (Ok s) (Ok t) → s ≡ t
same_state s t e = cc

goes_on : (r : Result State Fault) (t : State) (f : State → Result State Fault) (g : State → Result State Fault) (x : Result State Fault)
    → ((u : State) → f u ≡ Ok t → g u ≡ x) → and_then r f ≡ Ok t → and_then r g ≡ x
goes_on (Ok u) t f g x each e = each u e
goes_on (Err fault) t f g x each e = cc

-- deeds after a legal history are judged from the state at its end
pub judged_all-append : (s t : State) (history deeds : List Deed) → Leads s history t → judged_all s (history ++ deeds) ≡ judged_all t deeds
judged_all-append s t [] deeds e = ap (λ u. judged_all u deeds) (same_state s t e)
judged_all-append s t (d ∷ ds) deeds e =
    goes_on (state_after_deed s d) t (λ u. judged_all u ds) (λ u. judged_all u (ds ++ deeds)) (judged_all t deeds)
    (λ u h. judged_all-append u t ds deeds h) e

pub refused : (s t : State) (history : List Deed) (d : Deed) (fault : Fault) → Leads s history t → Some fault ≡ first_fault (needs t d) → judged_all s (history ++ d ∷ []) ≡ Err fault
refused s t history d fault e at =
    judged_all-append s t history (d ∷ []) e ∙ ap (λ o. and_then (unless o (after t d)) (λ u. Ok u)) (sym at)

pub allowed : (s t : State) (history : List Deed) (d : Deed) → Leads s history t → None ≡ first_fault (needs t d) → Leads s (history ++ d ∷ []) (after t d)
allowed s t history d e at =
    judged_all-append s t history (d ∷ []) e ∙ ap (λ o. and_then (unless o (after t d)) (λ u. Ok u)) (sym at)
