-- An append by one feed: the three words that it loads first, and its stores, which are named all together.
use Rattle.std.specs.Prelude.{◌≡◌, ◌↔◌, ℕ, zero, suc, ◌+◌, ◌<◌, Bool, true, false, List, [], ◌∷◌, ◌++◌, take, Option, Some, None}
use Rattle.redomail.specs.Layout.{last_at}
use Rattle.redomail.specs.declared.reply.Reply.TheVariants.{Stored}
use Rattle.redomail.specs.declared.stage.JobStage.{JobStage}
use Rattle.redomail.specs.declared.stage.JobStage.TheVariants.{AskClosed}
use Rattle.rmecore.specs.declared.access.Access.{Access}
use Rattle.rmecore.specs.declared.access.Access.TheVariants.{Load, Store}
use Rattle.rmecore.specs.declared.kind.Kind.TheVariants.{Get as Gets}
use Rattle.rmecore.specs.declared.word.Word.TheVariants.{Data}
use Rattle.rmeworld.specs.MachineState.{next_access}
use Rattle.rmeworld.specs.declared.script_state.ScriptState.{ScriptState}
use Rattle.rmeworld.specs.declared.script_state.ScriptState.TheVariants.{Free, Doing}
use Rattle.rme_c.specs.declared.position.Position.TheVariants.{Within}
use Rattle.rme_c.specs.declared.process.RmeAccess.{RmeAccess}
use Rattle.rme_c.specs.declared.process.RmeProcess.{RmeProcess}
use Rattle.rme_c.specs.declared.process.RmeStores.{RmeStores}
use Rattle.rme_c.specs.declared.script_position.ScriptPosition.TheVariants as script_position
use Rattle.rme_c.specs.Codes.{reply_code, next_for_c}
use Rattle.rme_c.specs.Positions.{layout_of, machine_state_at}
use Rattle.rme_c.specs.Runs.{Counted, counted_of, fed_once, fed_zeros, IsFedRun}

-- an append asks first whether the mailbox is closed
abbrev pub is_first : JobStage → Bool
is_first (AskClosed seq value) = true
is_first _ = false

-- an append is at its first load
abbrev pub append_begins : ScriptState → Bool
append_begins (Doing purpose job) = is_first job.stage
append_begins Free = false

-- the access is a store
abbrev pub IsStore : Option Access → Type 0
IsStore (Some (Store kind word v)) = Unit {0}
IsStore (Some (Load kind word)) = ⊥
IsStore None = ⊥

-- this many stores come next
abbrev pub IsStores : ℕ → Counted → Type 0
IsStores zero c = Unit {0}
IsStores (suc k) c = IsStores k c × IsStore (next_access (fed_zeros k c).machine)

-- this many accesses that come next where each reads 0, as they are shown
abbrev pub shown_next : ℕ → ℕ → Counted → List RmeAccess
shown_next n zero c = []
shown_next n (suc k) c = shown_next n k c ++ next_for_c n None (next_access (fed_zeros k c).machine) ∷ []

-- store k of an append, as it is shown
abbrev pub store_at : RmeProcess → ℕ → ℕ → ℕ → RmeAccess
store_at p at seq k = next_for_c p.procs None (next_access (machine_state_at p (Within (script_position.Store at seq k))))

-- the first stores of an append, this many
abbrev pub named_to : RmeProcess → ℕ → ℕ → ℕ → List RmeAccess
named_to p at seq zero = []
named_to p at seq (suc k) = named_to p at seq k ++ store_at p at seq k ∷ []

-- from this machine on stores come next. They are named in order, and the process was fed all of them: its new state, and `next`. The last
-- one ends the call: the message is stored
pub record IsStored (c : Counted) (q : RmeProcess) (s : RmeStores) (a : RmeAccess) : Type 0 where
  pub stores : IsStores s.count c
  pub named : take s.count s.each ≡ shown_next c.machine.layout.procs s.count c
  pub fed : (zeros : ℕ) → zeros + 1 ≡ s.count → IsFedRun (fed_zeros zeros c) 0 q a s.reports
  pub ends : s.reports ≡ reply_code Stored

-- after these two words
abbrev pub fed_two : Counted → ℕ → ℕ → Counted
fed_two c v w = fed_once (fed_once c v) w

-- the process was at the first load of an append, and was fed what it loads: closed, count and its own last number. Stores are named
-- where one comes next, and then it was fed them too; else that is all
pub record IsAppended (p : RmeProcess) (closed count last : ℕ) (q : RmeProcess) (s : RmeStores) (a : RmeAccess) : Type 0 where
  pub loads_closed : next_access (counted_of p).machine ≡ Some (Load Gets (Data 1))
  pub loads_count : next_access (fed_once (counted_of p) closed).machine ≡ Some (Load Gets (Data 2))
  pub loads_last : next_access (fed_two (counted_of p) closed count).machine ≡ Some (Load Gets (Data (last_at (layout_of p) p.index)))
  pub when : (0 < s.count) ↔ IsStore (next_access (fed_once (fed_two (counted_of p) closed count) last).machine)
  pub ended : s.count ≡ 0 → IsFedRun (fed_two (counted_of p) closed count) last q a s.reports
  pub stored : 0 < s.count → IsStored (fed_once (fed_two (counted_of p) closed count) last) q s a
