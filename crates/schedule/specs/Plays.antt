-- How a part of a run is played: what the listener has heard, and where the machine is.
use Rattle.std.specs.Prelude.{◌≡◌, ℕ, List, true, false, Option, Some, None, Result, Ok, Err}
use Rattle.schedule.specs.Transitions.{RunEvent, Took, Transitions, StepsFrom, IsLoud}
use Rattle.schedule.specs.Effects.{Effects, HearsAll, BreaksOffAt}
use Rattle.schedule.specs.Fragments.{Fragment}
use Rattle.schedule.specs.declared.player.play_stop.PlayStop.{PlayStop}
use Rattle.schedule.specs.declared.player.play_stop.PlayStop.TheVariants.{Refused, OutOfMemory, Stopped}

-- p takes a step that does not end its call, and to hear it changes nothing
abbrev pub TakesUnheard : {L S T C R Stop : Type 0} → Transitions S T C R → Effects L (RunEvent T C) Stop → L → S → ℕ → S → Type 0
TakesUnheard m h listener before p now =
    StepsFrom m before p (m.step before p) now × (m.ends (m.step before p) ≡ false) × h.hears listener (Took p (m.step before p)) listener

-- all events of a part were heard, and the machine is as the part leaves it
pub record PlaysAll {L S T C Q Stop : Type 0} (h : Effects L (RunEvent T C) Stop) (before now : L) (part : Fragment (RunEvent T C) S Q) (s : S) (refused : Option Q) : Type 0 where
  pub hears : HearsAll h.hears before part.reports now
  pub stands : s ≡ part.left
  pub refused_is : part.refused ≡ refused

-- the listener has heard events of a part, and stops at the next one
abbrev pub StopsIn : {L S T C Q Stop : Type 0} → Effects L (RunEvent T C) Stop → L → L → Fragment (RunEvent T C) S Q → Stop → Type 0
StopsIn h before now part stop = BreaksOffAt h.hears (λ next event. h.stops next event now stop) before part.reports

-- the listener has heard events of a part, and the machine has no memory for the next one, which shows something
abbrev pub RunsShort : {L S T C R Q Stop : Type 0} → Transitions S T C R → Effects L (RunEvent T C) Stop → L → L → Fragment (RunEvent T C) S Q → Type 0
RunsShort m h before now part = BreaksOffAt h.hears (λ next event. (now ≡ next) × IsLoud m event) before part.reports

-- how a part of a run was played
abbrev pub Plays : {L S T C R Stop A : Type 0} → Transitions S T C R → Effects L (RunEvent T C) Stop → L → L → Fragment (RunEvent T C) S R → S → Result A (PlayStop R Stop) → Type 0
Plays m h before now part s (Ok x) = PlaysAll h before now part s None
Plays m h before now part s (Err (Refused e)) = PlaysAll h before now part s (Some e) × (e ≡ m.out_of_memory → ⊥)
Plays m h before now part s (Err OutOfMemory) = RunsShort m h before now part
Plays m h before now part s (Err (Stopped stop)) = StopsIn h before now part stop

-- how the lines of a run were played, and at which line that ended
abbrev pub PlaysOn : {L S T C R Stop A : Type 0} → Transitions S T C R → Effects L (RunEvent T C) Stop → L → L → Fragment (RunEvent T C) S (ℕ × R) → S → Result A (ℕ × PlayStop R Stop) → Type 0
PlaysOn m h before now run s (Ok x) = PlaysAll h before now run s None
PlaysOn m h before now run s (Err (k, Refused e)) = PlaysAll h before now run s (Some (k, e)) × (e ≡ m.out_of_memory → ⊥)
PlaysOn m h before now run s (Err (k, OutOfMemory)) = RunsShort m h before now run
PlaysOn m h before now run s (Err (k, Stopped stop)) = StopsIn h before now run stop

-- why a step or a crash is not taken
abbrev pub IsStopOf : {S T C R Stop : Type 0} → Transitions S T C R → R → PlayStop R Stop → Type 0
IsStopOf m e (Refused refusal) = (refusal ≡ e) × (e ≡ m.out_of_memory → ⊥)
IsStopOf m e OutOfMemory = e ≡ m.out_of_memory
IsStopOf m e (Stopped stop) = ⊥

-- how the crashes of all processes end where one is not taken: there is no such process, or no memory
abbrev pub IsLastCrash : {S T C R Stop A : Type 0} → Transitions S T C R → R → Result A (PlayStop R Stop) → Type 0
IsLastCrash m e (Ok x) = e ≡ m.out_of_memory → ⊥
IsLastCrash m e (Err OutOfMemory) = e ≡ m.out_of_memory
IsLastCrash m e (Err stop) = ⊥

-- how the steps of a line end where one after the first is not taken
abbrev pub IsLateEnd : {S T C R Stop A : Type 0} → Transitions S T C R → R → Result A (PlayStop R Stop) → Type 0
IsLateEnd m e (Ok x) = (m.refuses_late ≡ false) × (e ≡ m.out_of_memory → ⊥)
IsLateEnd m e (Err (Refused refusal)) = (m.refuses_late ≡ true) × (refusal ≡ e) × (e ≡ m.out_of_memory → ⊥)
IsLateEnd m e (Err OutOfMemory) = e ≡ m.out_of_memory
IsLateEnd m e (Err (Stopped stop)) = ⊥
