-- "World", "Run" and "Deeds of a run", for the lock's part: all processes with their shared words, which survive every
-- crash, and their private places, which don't (Golab and Ramaraju). One step is one load or one store.
use Rattle.std.specs.Prelude.{◌≡◌, ℕ, zero, suc, ◌<◌, ◌==◌, Bool, true, false, List, [], ◌∷◌, Option, Some, None, IsSome, unwrap_or, if◌then◌else◌}
use Rattle.rmecore.specs.Place.{Event, Starts, Crashes, Steps, Place, Rest, Reread, Opening, Door, Wait, Leaving, Withdrawing, place_after_event, process}
use Rattle.rmecore.specs.Needs.{put}
use Rattle.rmecore.specs.declared.outer.Outer.{Outer}
use Rattle.rmecore.specs.declared.outer.Outer.TheVariants.{Begin, Ready, Enter, Crash, Reenter, Leave, Quit}
use Rattle.rmecore.specs.declared.kind.Kind.{Kind}
use Rattle.rmecore.specs.declared.kind.Kind.TheVariants.{Reread as Rereads, Open as Opens, Take as Takes, Shut as Shuts, Mark as Marks, Drop as Drops, Put as Puts}
use Rattle.rmecore.specs.declared.own.Own.{Own}
use Rattle.rmecore.specs.declared.word.Word.{Word}
use Rattle.rmecore.specs.declared.word.Word.TheVariants.{Choosing as ChoosingOf, Number as NumberOf, Inside as InsideOf, Data as DataAt}

-- the lock words and the places of all processes
pub record World : Type 0 where
  pub words : ℕ → Own
  pub places : ℕ → Place

-- the first world: all words 0, all places rest
abbrev pub at_rest : World
at_rest = record { words = λ p. record { choosing = 0; number = 0; inside = 0 }; places = λ p. Rest }

-- the kinds that store
abbrev pub is_store : Kind → Bool
is_store Opens = true
is_store Takes = true
is_store Shuts = true
is_store Marks = true
is_store Drops = true
is_store Puts = true
is_store _ = false

-- the current value of a lock word
abbrev pub read : (ℕ → Own) → Word → ℕ
read words (ChoosingOf p) = (words p).choosing
read words (NumberOf p) = (words p).number
read words (InsideOf p) = (words p).inside
read words (DataAt i) = 0

-- the lock words after a store
abbrev pub write : (ℕ → Own) → Word → ℕ → ℕ → Own
write words (ChoosingOf p) v = put words p (record (words p) { choosing = v })
write words (NumberOf p) v = put words p (record (words p) { number = v })
write words (InsideOf p) v = put words p (record (words p) { inside = v })
write words (DataAt i) v = words

-- a load reads the word's current value
abbrev pub Reads : (ℕ → Own) → Event → Type 0
Reads words (Steps p kind word v) = is_store kind ≡ false → read words word ≡ v
Reads words _ = Unit {0}

-- a store changes its own word alone. No other event changes a word
abbrev pub words_after_event : (ℕ → Own) → Event → ℕ → Own
words_after_event words (Steps p kind word v) = if is_store kind then write words word v else words
words_after_event words _ = words

-- an event is allowed if its process's place allows it and a load reads the current value
abbrev pub May : ℕ → ℕ → World → Event → Type 0
May n limit w e = (process e < n) × IsSome (place_after_event n limit (w.places (process e)) e) × Reads w.words e

-- the world after an event
abbrev pub after : ℕ → ℕ → World → Event → World
after n limit w e =
    record {
      words = words_after_event w.words e;
      places = put w.places (process e) (unwrap_or (place_after_event n limit (w.places (process e)) e) (w.places (process e)));
    }

-- "Run": each event is allowed after those before it
abbrev pub Run : ℕ → ℕ → World → List Event → Type 0
Run n limit w [] = Unit {0}
Run n limit w (e ∷ es) = May n limit w e × Run n limit (after n limit w e) es

-- the third reread is a re-entry, or no deed
abbrev pub reentry : ℕ → ℕ → ℕ → ℕ → Option Outer
reentry p zero (suc k) (suc i) = Some (Reenter p)
reentry _ _ _ _ = None

-- the deed of a step, from its process's place before the step
abbrev pub step_deed : ℕ → Place → Kind → ℕ → Option Outer
step_deed p Opening Opens v = Some (Begin p)
step_deed p (Door unread m) Takes v = Some (Ready p)
step_deed p (Wait k unpassed looked) Marks v = Some (Enter p)
step_deed p (Reread call (c ∷ k ∷ [])) Rereads v = reentry p c k v
step_deed p Leaving Drops v = Some (Leave p)
step_deed p Withdrawing Drops v = Some (Quit p)
step_deed p (Door unread m) Shuts v = Some (Quit p)
step_deed _ _ _ _ = None

-- "Deeds of a run": the deed of an event, from its process's place before it
abbrev pub deed : Place → Event → Option Outer
deed place (Starts p call) = None
deed place (Crashes p) = Some (Crash p)
deed place (Steps p kind word v) = step_deed p place kind v

abbrev pub and_then : Option Outer → List Outer → List Outer
and_then None ds = ds
and_then (Some d) ds = d ∷ ds

-- "Deeds of a run"
abbrev pub deeds : ℕ → ℕ → World → List Event → List Outer
deeds n limit w [] = []
deeds n limit w (e ∷ es) = and_then (deed (w.places (process e)) e) (deeds n limit (after n limit w e) es)

-- the world after a list of events
abbrev pub final : ℕ → ℕ → World → List Event → World
final n limit w [] = w
final n limit w (e ∷ es) = final n limit (after n limit w e) es

-- the events of one process
abbrev pub own_events : ℕ → List Event → List Event
own_events p [] = []
own_events p (e ∷ es) = if process e == p then e ∷ own_events p es else own_events p es

-- the place after a list of events
abbrev pub place_after : ℕ → ℕ → Place → List Event → Place
place_after n limit place [] = place
place_after n limit place (e ∷ es) = place_after n limit (unwrap_or (place_after_event n limit place e) place) es

-- a world at the end of some run from rest
pub record IsReached (n limit : ℕ) (w : World) : Type 0 where
  pub events : List Event
  pub run : Run n limit at_rest events
  pub world : final n limit at_rest events ≡ w
