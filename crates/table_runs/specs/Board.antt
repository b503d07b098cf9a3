-- The last put of a board word in a run, and what a process has done since it entered in its super-passage.
use Rattle.std.specs.Prelude.{◌≡◌, ℕ, Bool, false, ◌==◌, ◌&&◌, if◌then◌else◌, List, [], ◌∷◌, ◌++◌, Option, Some, None}
use Rattle.rmecore.specs.declared.outer.Outer.TheVariants.{Enter}
use Rattle.rmecore.specs.declared.word.Word.{Word}
use Rattle.rmecore.specs.declared.word.Word.TheVariants.{Data as DataAt}
use Rattle.redomail.specs.Layout.{board_at}
use Rattle.redomail.specs.declared.deed.Deed.{Deed}
use Rattle.redomail.specs.declared.deed.Deed.TheVariants as deed
use Rattle.rmeworld.specs.Holders.{NoEndOf}
use Rattle.rmeworld.specs.World.{deeds}
use Rattle.table_runs.specs.declared.setup.Setup.{Setup}
use Rattle.table_runs.specs.declared.entry.TakenStep.{TakenStep}
use Rattle.table_runs.specs.Runs.{entries_of, events_of_run, end_of, stores}
use Rattle.table_runs.specs.Headline.{deeds_of}

-- the word is data word i
abbrev pub is_data : ℕ → Word → Bool
is_data i (DataAt j) = j == i
is_data i word = false

-- the entry stores into board word i
abbrev pub puts : Setup → ℕ → TakenStep → Bool
puts s i e = stores e && is_data (board_at s.layout i) e.step.word

-- the first of the two that is there
abbrev pub or_earlier : Option TakenStep → Option TakenStep → Option TakenStep
or_earlier None earlier = earlier
or_earlier (Some e) earlier = Some e

-- the last of these entries that stores into board word i
abbrev pub last_put : Setup → ℕ → List TakenStep → Option TakenStep
last_put s i [] = None
last_put s i (e ∷ es) = or_earlier (last_put s i es) (if puts s i e then Some e else None)

-- the value that was put, or v where there was no put
abbrev pub value_or : Option TakenStep → ℕ → ℕ
value_or None v = v
value_or (Some e) v = e.value

-- the deeds of the entries `since`, which follow `before`
abbrev pub deeds_since : Setup → List TakenStep → List TakenStep → List Deed
deeds_since s before since = deeds s.layout s.limit (end_of s before) (events_of_run since)

-- The run is `before`, which ends with the Enter of p's super-passage, then `since`. The super-passage doesn't end in
-- `since`. p may crash there and enter again.
pub record SinceEnter (s : Setup) (p : ℕ) (es since : List TakenStep) : Type 0 where
  pub before : List TakenStep
  pub split : es ≡ before ++ since
  pub earlier : List Deed
  pub entered : deeds_of s before ≡ earlier ++ deed.Outer (Enter p) ∷ []
  pub stays : NoEndOf p (deeds_since s before since)

-- where p has put word i since the Enter of its super-passage, that put is the last one of the run
abbrev pub LastIsOwn : Setup → ℕ → ℕ → List TakenStep → Type 0
LastIsOwn s p i es = (since : List TakenStep) (e : TakenStep) → SinceEnter s p es since → last_put s i (entries_of p since) ≡ Some e → last_put s i es ≡ Some e
