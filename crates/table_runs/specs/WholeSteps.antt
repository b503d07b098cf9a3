-- The own steps of several calls in a row, as a whole mailbox call makes them: the sum over the table of own steps of
-- docs/theory/model.md.
use Rattle.std.specs.Prelude.{◌≡◌, ℕ, ◌+◌, ◌*◌, ◌<◌, Bool, true, false, List, [], ◌∷◌, Option, Some, None}
use Rattle.rmecore.specs.declared.own.Own.{Own}
use Rattle.redomail.specs.declared.layout.Layout.{Layout}
use Rattle.redomail.specs.declared.reply.Reply.TheVariants.{Mended, Stored}
use Rattle.rmeworld.specs.declared.answer.Answer.{Answer}
use Rattle.rmeworld.specs.declared.answer.Answer.TheVariants.{Clean, OwnerDied, Mail, Unlocked}
use Rattle.rmeworld.specs.declared.call.Call.{Call}
use Rattle.rmeworld.specs.declared.call.Call.TheVariants.{Lock, Unlock, Consistent, Append}
use Rattle.rmeworld.specs.OwnSteps.{own_steps, most_steps}
use Rattle.table_runs.specs.WorkingMembers.{Seated}
use Rattle.crash_plans.specs.Plans.{many_more}
use Rattle.table_runs.specs.Tabled.{words_begun, process_state_begun}

-- the sum of two numbers of the table, where it has both
abbrev pub both : Option ℕ → Option ℕ → Option ℕ
both (Some j) (Some k) = Some (j + k)
both _ _ = None

-- whether the holder has nothing to mend after this answer
abbrev pub mended_by : Bool → Answer → Bool
mended_by mended Clean = true
mended_by mended OwnerDied = false
mended_by mended (Mail (Mended repaired)) = true
mended_by mended a = mended

-- The table's numbers for calls with these answers, added up. The words are those before the first call. After a lock the
-- words don't matter any more: only whether there is something to mend.
abbrev pub table_sum : Layout → Own → Bool → List Call → List Answer → Option ℕ
table_sum l words mended [] [] = Some 0
table_sum l words mended (call ∷ order) (a ∷ answers) = both (own_steps l words mended call a) (table_sum l words (mended_by mended a) order answers)
table_sum l words mended _ _ = None

-- the sum for an append that stores, from words that are all 0
abbrev pub StoredAppendSteps : Type 0
StoredAppendSteps =
    (l : Layout) (mended : Bool) (seq : ℕ) (value : List ℕ)
    → table_sum l (record { choosing = 0; number = 0; inside = 0 }) mended (Lock ∷ Append seq value ∷ Unlock ∷ []) (Clean ∷ Mail Stored ∷ Unlocked ∷ []) ≡ Some (3 * l.procs + 18 + 2 * l.width)

-- How many own steps have been counted for a lock and the calls after it with these answers: the table's sum, and the
-- blocked steps. A lock without an answer has counted fewer than the most that a lock takes, and the blocked steps.
abbrev pub SumCounts : Seated → List Call → List Answer → ℕ → Seated → Type 0
SumCounts x order [] blocked y = (k : ℕ) × (k < most_steps x.seat_view.setup.layout Lock) × (y.steps ≡ many_more (k + blocked) x.steps)
SumCounts x order (a ∷ answers) blocked y =
    (k : ℕ) × (table_sum x.seat_view.setup.layout (words_begun x.seat_view) (process_state_begun x.seat_view).mended order (a ∷ answers) ≡ Some k) × (y.steps ≡ many_more (k + blocked) x.steps)

-- the same for the calls of a holder: none is blocked, and its lock words don't matter
abbrev pub InsideCounts : Seated → Bool → List Call → List Answer → Seated → Type 0
InsideCounts x mended order answers y =
    (k : ℕ) × ((words : Own) → table_sum x.seat_view.setup.layout words mended order answers ≡ Some k) × (y.steps ≡ many_more k x.steps)

-- the most own steps of the calls after the lock in a whole mailbox call
abbrev pub most_inside : Layout → Call → ℕ
most_inside l task = most_steps l Consistent + most_steps l task + most_steps l Unlock

-- the most own steps of a whole mailbox call, blocked readings not counted
abbrev pub most_whole : Layout → Call → ℕ
most_whole l task = most_steps l Lock + most_inside l task
