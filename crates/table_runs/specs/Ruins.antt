-- Where a process reads that the lock is ruined, and the order in which a worker starts its calls. In that order nobody
-- ruins the lock.
use Rattle.std.specs.Prelude.{◌≡◌, ℕ, ◌<◌, Bool, true, false, List, [], ◌∷◌, ◌++◌, Option, Some, None}
use Rattle.rmecore.specs.declared.word.Word.TheVariants.{Data as DataAt}
use Rattle.redomail.specs.Layout.{IsLayout}
use Rattle.rmeworld.specs.declared.call.Call.{Call}
use Rattle.rmeworld.specs.declared.call.Call.TheVariants.{Lock, Unlock, Consistent, Append}
use Rattle.table_runs.specs.declared.entry.TakenStep.{TakenStep}
use Rattle.table_runs.specs.declared.setup.Setup.{Setup}
use Rattle.table_runs.specs.ReadMessages.{cells_of}
use Rattle.table_runs.specs.Runs.{entries_of, stores, IsRun}

-- a load of data word 0 that finds the lock ruined
abbrev pub ReadsRuin : TakenStep → Type 0
ReadsRuin e = (stores e ≡ false) × (e.step.word ≡ DataAt 0) × (e.value ≡ 1)

-- one of these entries reads that the lock is ruined
pub record HasReadRuin (es : List TakenStep) : Type 0 where
  pub front : List TakenStep
  pub entry : TakenStep
  pub back : List TakenStep
  pub is : es ≡ front ++ entry ∷ back
  pub reads : ReadsRuin entry

-- the call that was started last, if no crash came after it
abbrev pub last_call : Option Call → Bool → Option Call → Option Call
last_call last crashed (Some call) = Some call
last_call last true None = None
last_call last false None = last

-- the call that was started last in these entries, if no crash came after it
abbrev pub last_of : Option Call → List TakenStep → Option Call
last_of last [] = last
last_of last (e ∷ es) = last_of (last_call last e.step.crashed e.step.start) es

-- a mending or an append: after it there is nothing to mend, or the mending has found the lock ruined
abbrev pub settles : Option Call → Bool
settles (Some Consistent) = true
settles (Some (Append seq value)) = true
settles _ = false

-- a worker starts no other calls than these, and an unlock only after a mending or an append
abbrev pub MayStart : Option Call → Bool → Option Call → Type 0
MayStart last crashed None = Unit {0}
MayStart last crashed (Some Lock) = Unit {0}
MayStart last crashed (Some Consistent) = Unit {0}
MayStart last crashed (Some (Append seq value)) = Unit {0}
MayStart last crashed (Some Unlock) = (crashed ≡ false) × (settles last ≡ true)
MayStart last crashed _ = ⊥

-- these entries start their calls in a worker's order
abbrev pub AreInWorkerOrder : Option Call → List TakenStep → Type 0
AreInWorkerOrder last [] = Unit {0}
AreInWorkerOrder last (e ∷ es) = MayStart last e.step.crashed e.step.start × AreInWorkerOrder (last_call last e.step.crashed e.step.start) es

-- In a run whose processes all start their calls in this order, nobody ruins the lock, however often they crash.
abbrev pub NobodyRuins : Type 0
NobodyRuins = (s : Setup) (es : List TakenStep) → IsLayout s.layout → IsRun s es → ((p : ℕ) → p < s.layout.procs → AreInWorkerOrder None (entries_of p es)) → cells_of s es 0 ≡ 0
