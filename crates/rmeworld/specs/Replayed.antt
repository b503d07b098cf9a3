-- A world as a machine ("Replay clause"): which calls are refused, their results, and the state after each.
use Rattle.std.specs.Prelude.{ℕ, nat_lt, if◌then◌else◌, List, [], ◌∷◌, ◌++◌, slice_set, Option, Some, None}
use Rattle.rmecore.specs.Machine.{kind_of, word_of, carried_value}
use Rattle.rmecore.specs.Simulated.{own_at, tally_at, tally_after_step, new_tally}
use Rattle.rmecore.specs.declared.access.Access.{Access}
use Rattle.rmecore.specs.declared.access.Access.TheVariants.{Load, Store}
use Rattle.rmecore.specs.declared.kind.Kind.TheVariants.{Glance}
use Rattle.rmecore.specs.declared.outer.Outer.{Outer}
use Rattle.rmecore.specs.declared.outer.Outer.TheVariants.{Crash}
use Rattle.rmecore.specs.declared.own.Own.{Own}
use Rattle.rmecore.specs.declared.refusal.Refusal.{Refusal}
use Rattle.rmecore.specs.declared.refusal.Refusal.TheVariants.{NoSuchProcess, NothingToDo}
use Rattle.rmecore.specs.declared.word.Word.{Word}
use Rattle.rmecore.specs.declared.word.Word.TheVariants.{Choosing as ChoosingOf, Number as NumberOf, Inside as InsideOf, Data as DataAt}
use Rattle.redomail.specs.declared.layout.Layout.{Layout}
use Rattle.redomail.specs.Layout.{Words, words_of}
use Rattle.redomail.specs.declared.deed.Deed.{Deed}
use Rattle.redomail.specs.declared.deed.Deed.TheVariants.{Outer as OuterDeed}
use Rattle.rmeworld.specs.Behaviours.{Behaviour}
use Rattle.rmeworld.specs.declared.call.Call.{Call}
use Rattle.rmeworld.specs.declared.image.Image.{Image}
use Rattle.rmeworld.specs.declared.outcome.Outcome.{Outcome}
use Rattle.rmeworld.specs.declared.stepped.Stepped.{Stepped}
use Rattle.rmeworld.specs.Refused.{is_idle, start_refusal as process_state_refusal}
use Rattle.rmeworld.specs.ProcessState.{WorldEvent, Moves}
use Rattle.rmeworld.specs.MachineState.{MachineState, next_access, outcome, machine_after_step as machine_state_stepped, machine_after_start as machine_state_started, machine_after_crash as machine_state_crashed}
use Rattle.rmeworld.specs.World.{reading, put_deeds, event_deeds}
use Rattle.rmeworld.specs.WorldState.{WorldState, machine_state_at, process_state_at, global_state_of}

-- the refusal of a start
abbrev pub start_refusal : WorldState → ℕ → Call → Option Refusal
start_refusal s p call = if nat_lt p s.layout.procs then process_state_refusal s.layout (process_state_at s.processes p) call else Some NoSuchProcess

-- the call is under way, with counts of 0
abbrev pub world_after_start : WorldState → ℕ → Call → WorldState
world_after_start s p call =
    record s {
      processes = slice_set s.processes p (machine_state_started (machine_state_at s.processes p) call);
      tallies = slice_set s.tallies p (new_tally (own_at s.words p));
    }

-- the refusal of a step
abbrev pub advance_refusal : WorldState → ℕ → Option Refusal
advance_refusal s p = if nat_lt p s.layout.procs then (if is_idle (process_state_at s.processes p) then Some NothingToDo else None) else Some NoSuchProcess

-- the value that an access reads or writes
abbrev pub value_of : WorldState → Access → ℕ
value_of s a = carried_value a (reading (global_state_of s) (word_of a))

-- the world event of an access
abbrev pub world_event : WorldState → ℕ → Access → WorldEvent
world_event s p a = Moves p (kind_of a) (word_of a) (value_of s a)

-- the lock words and the data words after a store
abbrev pub words_set : List Own → Word → ℕ → List Own
words_set words (ChoosingOf p) v = slice_set words p (record (own_at words p) { choosing = v })
words_set words (NumberOf p) v = slice_set words p (record (own_at words p) { number = v })
words_set words (InsideOf p) v = slice_set words p (record (own_at words p) { inside = v })
words_set words (DataAt i) v = words

abbrev pub cells_set : List ℕ → Word → ℕ → List ℕ
cells_set cells (DataAt i) v = slice_set cells i v
cells_set cells word v = cells

-- the words after an access
abbrev pub words_by : List Own → Access → List Own
words_by words (Load kind word) = words
words_by words (Store kind word v) = words_set words word v

abbrev pub cells_by : List ℕ → Access → List ℕ
cells_by cells (Load kind word) = cells
cells_by cells (Store kind word v) = cells_set cells word v

-- the mailbox deeds of an access that is a put
abbrev pub mail_by : Layout → ℕ → Words → Access → List Deed
mail_by l p cells (Load kind word) = []
mail_by l p cells (Store kind word v) = put_deeds l p cells word v

-- the deed of the lock, or else these deeds
abbrev pub or_else : Option Outer → List Deed → List Deed
or_else None deeds = deeds
or_else (Some d) deeds = OuterDeed d ∷ []

-- a list of at most one deed
abbrev pub list_of : Option Deed → List Deed
list_of None = []
list_of (Some d) = d ∷ []

-- the first deed of a list
abbrev pub the_deed : List Deed → Option Deed
the_deed [] = None
the_deed (d ∷ ds) = Some d

-- the deeds of an access with these effects for its process
abbrev pub prospect_of : WorldState → ℕ → Access → Outcome → List Deed
prospect_of s p a o = or_else o.progress.outer (mail_by s.layout p (words_of s.cells) a)

-- the deeds of a process's access, with the value that it finds
abbrev pub deeds_ahead : MachineState → Words → Access → ℕ → List Deed
deeds_ahead s cells a v = or_else (outcome s (Some a) v).progress.outer (mail_by s.layout s.index cells a)

-- the report of this access
abbrev pub stepped_by : WorldState → ℕ → Access → Stepped
stepped_by s p a =
    let o = outcome (machine_state_at s.processes p) (Some a) (reading (global_state_of s) (word_of a)) in
    record {
      happened = record { kind = kind_of a; word = word_of a; value = value_of s a; outer = o.progress.outer; done = o.progress.done };
      deed = the_deed (event_deeds s.layout (global_state_of s) (world_event s p a));
      answer = o.answer;
    }

-- the world after this access
abbrev pub advanced_by : WorldState → ℕ → Access → WorldState
advanced_by s p a =
    let v = reading (global_state_of s) (word_of a) in
    record s {
      words = words_by s.words a;
      cells = cells_by s.cells a;
      processes = slice_set s.processes p (machine_state_stepped (machine_state_at s.processes p) v);
      tallies = slice_set s.tallies p (tally_after_step (tally_at s.tallies p) (outcome (machine_state_at s.processes p) (Some a) v).progress.blocked);
      history = s.history ++ event_deeds s.layout (global_state_of s) (world_event s p a);
    }

-- the default report, where there is no step
abbrev pub no_step : Stepped
no_step = record { happened = record { kind = Glance; word = DataAt 0; value = 0; outer = None; done = None }; deed = None; answer = None }

-- the report of a silent load
abbrev pub silent_step : Access → ℕ → Stepped
silent_step a v = record { happened = record { kind = kind_of a; word = word_of a; value = v; outer = None; done = None }; deed = None; answer = None }

abbrev pub stepped_if : WorldState → ℕ → Option Access → Stepped
stepped_if s p None = no_step
stepped_if s p (Some a) = stepped_by s p a

abbrev pub advanced_if : WorldState → ℕ → Option Access → WorldState
advanced_if s p None = s
advanced_if s p (Some a) = advanced_by s p a

-- the report of p's next step, and the world after it
abbrev pub world_step_report : WorldState → ℕ → Stepped
world_step_report s p = stepped_if s p (next_access (machine_state_at s.processes p))

abbrev pub world_after_step : WorldState → ℕ → WorldState
world_after_step s p = advanced_if s p (next_access (machine_state_at s.processes p))

-- the refusal of a crash
abbrev pub crash_refusal : WorldState → ℕ → Option Refusal
crash_refusal s p = if nat_lt p s.layout.procs then None else Some NoSuchProcess

-- the deed of a crash
abbrev pub crash_deed : ℕ → Deed
crash_deed p = OuterDeed (Crash p)

-- the world after a crash
abbrev pub world_after_crash : WorldState → ℕ → WorldState
world_after_crash s p =
    record s { processes = slice_set s.processes p (machine_state_crashed (machine_state_at s.processes p)); history = s.history ++ crash_deed p ∷ [] }

-- the current words, with the sizes
abbrev pub image_of : WorldState → Image
image_of s = record { cap = s.layout.cap; cells = s.cells; limit = s.limit; lock = s.words; version = 2; width = s.layout.width }

-- the behaviour of a world
abbrev pub world_behaviour : Behaviour WorldState
world_behaviour =
    record {
      start_refusal = start_refusal;
      started = world_after_start;
      advance_refusal = advance_refusal;
      stepped = world_step_report;
      advanced = world_after_step;
      crash_refusal = crash_refusal;
      crash_deed = λ s p. crash_deed p;
      crashed = world_after_crash;
      image_of = image_of;
    }
