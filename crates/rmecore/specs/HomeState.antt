-- "Home state" of Petri nets: a state that some continuation of every run reaches. Here all processes rest and all words are
-- 0. What a continuation answers, in which order it lets those in that are in line, and that each process can still enter.
use Rattle.std.specs.Prelude.{◌≡◌, ◌≢◌, ◌⊎◌, ◌++◌, ℕ, ◌<◌, ◌≤◌, true, false, List, [], ◌∷◌, All, Option, None, IsSome, unwrap_or}
use Rattle.rmecore.specs.AbstractLock.{Abstract, is_door}
use Rattle.rmecore.specs.Machine.{answer}
use Rattle.rmecore.specs.Place.{Event, Starts, Crashes, Steps, Place, Rest, Door, Wait, Inside, Withdrawing, has, is_before, process, place_after_event}
use Rattle.rmecore.specs.Refused.{is_idle}
use Rattle.rmecore.specs.World.{World, Run, deeds, final, own_events}
use Rattle.rmecore.specs.declared.core_call.CoreCall.TheVariants.{Withdraw}
use Rattle.rmecore.specs.declared.core_done.CoreDone.{CoreDone}
use Rattle.rmecore.specs.declared.outer.Outer.{Outer}
use Rattle.rmecore.specs.declared.outer.Outer.TheVariants.{Enter}

-- an event that cuts off no call: neither a crash nor the start of a withdraw
abbrev pub IsUninterrupted : Event → Type 0
IsUninterrupted (Crashes p) = ⊥
IsUninterrupted (Starts p Withdraw) = ⊥
IsUninterrupted _ = Unit {0}

-- a process rests, and its three words are 0
abbrev pub IsHome : World → ℕ → Type 0
IsHome w p = (w.places p ≡ Rest) × (w.words p ≡ record { choosing = 0; number = 0; inside = 0 })

-- a process is at its scan of the others
abbrev pub IsWaiting : Place → Type 0
IsWaiting (Wait number unpassed looked) = Unit {0}
IsWaiting _ = ⊥

-- In line, alive or dead: a process has a number, has not entered with it and is not withdrawing. So it waits, or has taken its
-- number and not yet finished its doorway, or crashed there, or is at rest or rereads after such a crash.
abbrev pub IsInLine : World → ℕ → Type 0
IsInLine w p = (0 < (w.words p).number) × ((w.words p).inside ≡ 0) × (w.places p ≢ Withdrawing)

-- the processes of the Enters, in their order
abbrev pub entries : List Outer → List ℕ
entries [] = []
entries (Enter p ∷ ds) = p ∷ entries ds
entries (d ∷ ds) = entries ds

-- p is in the list, and q is not before it
abbrev pub ComesBefore : ℕ → ℕ → List ℕ → Type 0
ComesBefore p q [] = ⊥
ComesBefore p q (r ∷ rs) = (r ≡ p) ⊎ ((r ≢ q) × ComesBefore p q rs)

-- the pair of p is less than that of q
abbrev pub IsLess : World → ℕ → ℕ → Type 0
IsLess w p q = is_before (w.words p).number p (w.words q).number q ≡ true

-- all that are in line enter, in the order of their pairs
pub record EnterInLine (n : ℕ) (w : World) (entered : List ℕ) : Type 0 where
  pub each : (p : ℕ) → p < n → IsInLine w p → has entered p ≡ true
  pub order : (p q : ℕ) → p < n → q < n → IsInLine w p → IsInLine w q → IsLess w p q → ComesBefore p q entered

-- the answer of an event, from its process's place before it
abbrev pub answer_of : Place → Event → Option CoreDone
answer_of place (Steps p kind word v) = answer place kind v
answer_of place _ = None

-- among the own events of a process, from this place, one has an answer
abbrev pub IsAnswered : ℕ → ℕ → Place → List Event → Type 0
IsAnswered n limit place [] = ⊥
IsAnswered n limit place (e ∷ es) = IsSome (answer_of place e) ⊎ IsAnswered n limit (unwrap_or (place_after_event n limit place e) place) es

-- A continuation without crash and withdraw brings all processes home. Each call that is under way at its beginning is
-- answered in it: no other call of the process starts before that answer.
pub record CanComeHome (n limit : ℕ) (w : World) : Type 0 where
  pub events : List Event
  pub run : Run n limit w events
  pub uninterrupted : All IsUninterrupted events
  pub answered : (p : ℕ) → p < n → is_idle (w.places p) ≡ false → IsAnswered n limit (w.places p) (own_events p events)
  pub home : (p : ℕ) → p < n → IsHome (final n limit w events) p
  pub in_line : EnterInLine n w (entries (deeds n limit w events))

-- p enters in a continuation without crash and withdraw, and is inside at its end
pub record CanStillEnter (n limit : ℕ) (w : World) (p : ℕ) : Type 0 where
  pub events : List Event
  pub run : Run n limit w events
  pub uninterrupted : All IsUninterrupted events
  pub enters : has (entries (deeds n limit w events)) p ≡ true
  pub inside : (final n limit w events).places p ≡ Inside

-- no number above 0 is in a pair before that of p
abbrev pub IsFirstInLine : ℕ → World → ℕ → Type 0
IsFirstInLine n w p = (q : ℕ) → q < n → q ≢ p → 0 < (w.words q).number → IsLess w p q

-- A doorway under way still has p to read, or has read a number that is no less than p's.
abbrev pub TakesLaterNumber : ℕ → ℕ → Place → Type 0
TakesLaterNumber p number (Door unread greatest) = (has unread p ≡ true) ⊎ (number ≤ greatest)
TakesLaterNumber p number _ = Unit {0}

-- an own step of p
abbrev pub IsStepOf : ℕ → Event → Type 0
IsStepOf p (Steps q kind word v) = q ≡ p
IsStepOf p _ = ⊥

-- an event of a process that is in its doorway in this world
abbrev pub IsOfDoorway : World → Event → Type 0
IsOfDoorway w e = IsUninterrupted e × (0 < (w.words (process e)).choosing)

-- Events of the processes that are in their doorways, then own steps of p alone, lead to the entry of p, and to no other.
pub record CanEnter (n limit : ℕ) (w : World) (p : ℕ) : Type 0 where
  pub doorways : List Event
  pub own : List Event
  pub run : Run n limit w (doorways ++ own)
  pub of_doorways : All (IsOfDoorway w) doorways
  pub own_steps : All (IsStepOf p) own
  pub entered : entries (deeds n limit w (doorways ++ own)) ≡ p ∷ []

-- p waits with the least pair, and each doorway counts it
abbrev pub CanEnterIfFirst : ℕ → ℕ → World → ℕ → Type 0
CanEnterIfFirst n limit w p =
    IsWaiting (w.places p) → IsFirstInLine n w p → ((q : ℕ) → q < n → TakesLaterNumber p (w.words p).number (w.places q)) → CanEnter n limit w p

-- p is ahead of each process in its doorway: p finished its own doorway before that one began
abbrev pub IsAheadOfDoorways : ℕ → Abstract → ℕ → Type 0
IsAheadOfDoorways n a p = (q : ℕ) → q < n → q ≢ p → is_door (a.phase q) ≡ true → a.ahead q p ≡ true

-- p waits with the least pair, and is ahead of all doorways
abbrev pub CanEnterIfAhead : ℕ → ℕ → World → Abstract → ℕ → Type 0
CanEnterIfAhead n limit w a p = IsWaiting (w.places p) → IsFirstInLine n w p → IsAheadOfDoorways n a p → CanEnter n limit w p
