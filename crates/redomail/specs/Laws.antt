-- The laws of the mailbox, over every run of its definitions.
use Rattle.std.specs.Prelude.{◌≡◌, ℕ, not, ◌+◌, ◌*◌, ◌<◌, ◌≤◌, true, false, ◌==◌, if◌then◌else◌, List, [], ◌++◌, length, take, slice_index, ◌⊎◌}
use Rattle.rmecore.specs.Needs.{AllHold}
use Rattle.rmecore.specs.declared.outer.Outer.TheVariants.{Leave}
use Rattle.redomail.specs.declared.deed.Deed.{Deed}
use Rattle.redomail.specs.declared.deed.Deed.TheVariants.{Outer}
use Rattle.redomail.specs.declared.layout.Layout.{Layout}
use Rattle.redomail.specs.declared.message.Message.{Message}
use Rattle.redomail.specs.declared.record.Record.{Record}
use Rattle.redomail.specs.declared.reply.Reply.{Reply}
use Rattle.redomail.specs.declared.reply.Reply.TheVariants.{Stored, Already, Mended, Ruined}
use Rattle.redomail.specs.declared.task.Task.{Task}
use Rattle.redomail.specs.Mailbox.{Mailbox, nothing_shown, message, IsAmong, row as needs_of}
use Rattle.redomail.specs.Leads.{MailLeads, AreOwn}
use Rattle.redomail.specs.Deeds.{deeds_of_put}
use Rattle.redomail.specs.Layout.{Words, words_of, row, size, IsLayout}
use Rattle.redomail.specs.Script.{Script, Done}
use Rattle.redomail.specs.Tasks.{script, consistent, apply_steps, repair}
use Rattle.redomail.specs.Shape.{Shape, RecordRule, entry, entries, recorded_message, count_of, IsNumbered, mailbox_of}
use Rattle.redomail.specs.Content.{IsContent}
use Rattle.redomail.specs.Safe.{Seen, DeedsLeadTo, Safe}
use Rattle.redomail.specs.Endings.{FindsArmed, ruined_after, armed_after}
use Rattle.redomail.specs.Runs.{stepped_to, run_steps, start, final, answer, steps, steps_of, words_after_puts, added_by, FitsTask, MayBegin, IsTaskUnderWay}

-- Each task that may begin is a safe script.
abbrev pub TasksAreSafe : Type 0
TasksAreSafe =
    (l : Layout) (p : ℕ) (t : Task) (w : Words) (s : Mailbox) → MayBegin l p t w s → Safe l p (added_by l t p w) s (script l p t) w s

-- `consistent` is a safe script whenever a process is inside.
abbrev pub ConsistentIsSafe : Type 0
ConsistentIsSafe =
    (l : Layout) (p : ℕ) (w : Words) (s : Mailbox) → IsLayout l → p < l.procs → Shape l p w s → Safe l p (recorded_message l p w) s (consistent l p) w s

-- While a safe script runs, the words have the shape.
abbrev pub SafeIsSeen : Type 0
SafeIsSeen =
    (l : Layout) (p : ℕ) (m : Message) (old : Mailbox) (e : Script Reply) (w : Words) (now : Mailbox) → Safe l p m old e w now → Seen l p m old w now

-- A step of a safe script does allowed deeds, after which the rest of the script is safe.
abbrev pub StepsStaySafe : Type 0
StepsStaySafe =
    (l : Layout) (p : ℕ) (m : Message) (old : Mailbox) (e : Script Reply) (w : Words) (now : Mailbox) → Safe l p m old e w now
    → let x = stepped_to l p e w [] in DeedsLeadTo l now x.deeds (Safe l p m old x.left x.words)

-- A put's deeds are deeds of the mailbox, by the process that puts.
abbrev pub PutsAreOwn : Type 0
PutsAreOwn = (l : Layout) (p : ℕ) (w : Words) (i v : ℕ) → AreOwn p (deeds_of_put l p w i v)

-- A task keeps the mailbox after any number of its steps.
abbrev pub TasksKeep : Type 0
TasksKeep =
    (l : Layout) (p : ℕ) (t : Task) (w : Words) (s : Mailbox) (k : ℕ) → MayBegin l p t w s
    → IsTaskUnderWay l p (added_by l t p w) s (run_steps l p k (start (script l p t) w))

-- No deed removes a message that is shown.
abbrev pub ShownGrows : Type 0
ShownGrows =
    (cap : ℕ) (s t : Mailbox) (deeds : List Deed) → MailLeads cap s deeds t → (more : List Message) × (t.shown ≡ s.shown ++ more)

-- From words of one mailbox to words of another that legal deeds of any processes lead to: the entries below the old count
-- are the same, and count is not lower.
abbrev pub ShownEntriesStand : Type 0
ShownEntriesStand =
    (l : Layout) (p q : ℕ) (w v : Words) (s t : Mailbox) (deeds : List Deed) → Shape l p w s → MailLeads l.cap s deeds t
    → Shape l q v t → (w 2 ≤ v 2) × ((a : ℕ) → a < w 2 → entry l v a ≡ entry l w a)

-- Under any number of a task's steps the entries below count stay the same, and count does not fall.
abbrev pub EntriesStand : Type 0
EntriesStand =
    (l : Layout) (p : ℕ) (t : Task) (w : Words) (s : Mailbox) (k : ℕ) → MayBegin l p t w s
    → let v = (run_steps l p k (start (script l p t) w)).words in
    (w 2 ≤ v 2) × ((a : ℕ) → a < w 2 → entry l v a ≡ entry l w a)

-- A repair that begins after some of the apply steps of the armed record ends with the words after all of them.
abbrev pub RepairCompletes : Type 0
RepairCompletes =
    (l : Layout) (p : ℕ) (r : Record) (w : Words) (j : ℕ) → IsLayout l → p < l.procs → r.at < l.cap
    → w 3 ≡ 1 → w 4 ≡ r.at → w 5 ≡ r.seq → row w 6 l.width ≡ r.value
    → (i : ℕ) → final (repair l p) (words_after_puts (take j (apply_steps l p r)) w) i ≡ words_after_puts (apply_steps l p r) w i

-- "Tasks": the number of steps of each task, for any words.
abbrev pub RepliesHaveTheirSteps : Type 0
RepliesHaveTheirSteps =
    (l : Layout) (p : ℕ) (t : Task) (w : Words) → FitsTask l t → steps (script l p t) w ≡ steps_of l t (answer (script l p t) w)

-- the number of steps of a `consistent` with this reply
abbrev pub consistent_steps : Layout → Reply → ℕ
consistent_steps l (Mended true) = 9 + 2 * l.width
consistent_steps l (Mended false) = 2
consistent_steps l _ = 1

-- `consistent`: its number of steps, and its reply. A ruined lock is reported, else whether a record was armed.
abbrev pub MendingHasItsSteps : Type 0
MendingHasItsSteps =
    (l : Layout) (p : ℕ) (w : Words)
    → (steps (consistent l p) w ≡ consistent_steps l (answer (consistent l p) w))
    × (answer (consistent l p) w ≡ (if w 0 == 1 then Ruined true else Mended (not (w 3 == 0))))

-- The words ruined and armed after each task, for any words.
abbrev pub TasksEnd : Type 0
TasksEnd =
    (l : Layout) (p : ℕ) (t : Task) (w : Words) → FindsArmed t (w 3)
    → (final (script l p t) w 0 ≡ ruined_after t (w 0)) × (final (script l p t) w 3 ≡ armed_after t (w 3))

-- `consistent` keeps ruined, and leaves no record armed. If the lock is ruined it changes nothing.
abbrev pub ConsistentEnds : Type 0
ConsistentEnds =
    (l : Layout) (p : ℕ) (w : Words)
    → (final (consistent l p) w 0 ≡ w 0) × ((w 0 ≡ 1 → ⊥) → final (consistent l p) w 3 ≡ 0)
    × (w 0 ≡ 1 → final (consistent l p) w ≡ w)

-- Of numbered entries, those of p have the numbers 1 to their count.
abbrev pub NumbersAreShown : Type 0
NumbersAreShown =
    (l : Layout) (w : Words) (p seq k : ℕ) → IsNumbered l w k → 0 < seq → seq ≤ count_of p (entries l w k) → IsAmong p seq (entries l w k)

-- If an append replies Stored or Already, its number is among its sender's messages shown.
abbrev pub AnsweredIsShown : Type 0
AnsweredIsShown =
    (l : Layout) (p seq : ℕ) (value : List ℕ) (old now : Mailbox) (reply : Reply) (w : Words)
    → Safe l p (message p seq value) old (Done reply) w now → (reply ≡ Stored) ⊎ (reply ≡ Already) → IsAmong p seq now.shown

-- Words that are all 0 have the shape of an empty mailbox, whichever process is inside.
abbrev pub NewWords : Type 0
NewWords = (l : Layout) (p : ℕ) (w : Words) → ((i : ℕ) → w i ≡ 0) → Shape l p w nothing_shown

-- If no record is armed, or the lock is ruined, the words have the shape for every process inside.
abbrev pub ShapePassesOn : Type 0
ShapePassesOn =
    (l : Layout) (p q : ℕ) (w : Words) (s : Mailbox) → (w 3 ≡ 0) ⊎ (s.ruined ≡ true) → Shape l p w s → Shape l q w s

-- If no record is armed, or the lock is ruined, the mailbox lets a process leave.
abbrev pub MayLeave : Type 0
MayLeave =
    (l : Layout) (p q cap : ℕ) (w : Words) (s : Mailbox) → (w 3 ≡ 0) ⊎ (s.ruined ≡ true) → Shape l p w s
    → AllHold (needs_of cap true s (Outer (Leave q)))

-- Words with the shape keep the rules of the content, and their content is the messages shown.
abbrev pub ShapeIsContent : Type 0
ShapeIsContent =
    (l : Layout) (p : ℕ) (xs : List ℕ) (s : Mailbox) → IsLayout l → length xs ≡ size l → Shape l p (words_of xs) s
    → IsContent l xs × (entries l (words_of xs) (slice_index xs 2) ≡ s.shown)

-- Words that keep the rules of the content have the shape for p, of the mailbox that they describe, provided that an armed
-- record of a lock that isn't ruined is p's.
abbrev pub ContentIsShape : Type 0
ContentIsShape =
    (l : Layout) (p : ℕ) (xs : List ℕ) → IsContent l xs → p < l.procs
    → (slice_index xs 0 ≡ 0 → slice_index xs 3 ≡ 1 → RecordRule l p (words_of xs)) → Shape l p (words_of xs) (mailbox_of l p (words_of xs))
