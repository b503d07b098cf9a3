-- A step that does not answer its call leaves the call under way, so the process can take the next step.
use Rattle.std.proofs.Common.{◌≡◌, ℕ, ◌==◌, ◌&&◌, Bool, true, false, nat_lt, if◌then◌else◌, Option, Some, None, IsSome, unwrap_or, List, refl, sym, ap, ◌∙◌, subst, inl, inr}
use Rattle.schedule.proofs.ReplaysCommon.{cases_Bool, WorldState, machine_state_at, process_state_at}
use Rattle.rmecore.proofs.Invariant.{put_same}
use Rattle.rmecore.specs.Machine.{kind_of, word_of}
use Rattle.rmecore.specs.Paid.{is_glance}
use Rattle.rmecore.specs.Place.{Place, Rest, next}
use Rattle.rmecore.specs.Refused.{is_idle as is_idle_place}
use Rattle.rmecore.specs.declared.core_done.CoreDone.{CoreDone}
use Rattle.rmecore.specs.declared.core_done.CoreDone.TheVariants.{In, InAgain, Out}
use Rattle.rmecore.specs.declared.kind.Kind.{Kind}
use Rattle.rmecore.specs.declared.kind.Kind.TheVariants.{Get as Gets, Put as Puts}
use Rattle.rmecore.specs.declared.refusal.Refusal.TheVariants.{NoSuchProcess}
use Rattle.rmecore.specs.declared.word.Word.{Word}
use Rattle.rmecore.specs.declared.word.Word.TheVariants.{Data as DataAt}
use Rattle.redomail.specs.Script.{Script, Get as Asks, Put as Writes, Done}
use Rattle.redomail.specs.declared.deed.Deed.{Deed}
use Rattle.redomail.specs.declared.layout.Layout.{Layout}
use Rattle.redomail.specs.declared.reply.Reply.{Reply}
use Rattle.redomail.specs.declared.reply.Reply.TheVariants.{Ruined}
use Rattle.rmeworld.specs.Answered.{answer_by, by_lock, by_script}
use Rattle.rmeworld.specs.ScriptStates.{script_state_of}
use Rattle.rmeworld.specs.ProcessState.{ScriptState, Free, Doing, ProcessState, at_lock, moved_by, next_process_state, process_after_script}
use Rattle.rmeworld.specs.Refused.{is_idle, is_idle_by}
use Rattle.rmeworld.specs.Replayed.{advance_refusal, world_after_step, advanced_if, world_step_report, stepped_if, value_of, world_event}
use Rattle.rmecore.specs.Named.{lock_part}
use Rattle.rmeworld.specs.World.{GlobalState}
use Rattle.rmeworld.specs.declared.purpose.Purpose.{Purpose}
use Rattle.rmeworld.specs.declared.purpose.Purpose.TheVariants.{Checking, Ruining, Mending, Working}
use Rattle.rmeworld.proofs.CallParts.{On, goes_on}
use Rattle.rmeworld.proofs.CallSteps.{guard_process_state}
use Rattle.rmeworld.proofs.Following.{Follows, step_is}
use Rattle.rmeworld.proofs.WorldSteps.{step_takes}
use Rattle.rmeworld.proofs.WorldTallies.{no_glance}

settled_busy : (b c : Bool) (purpose : Purpose) (left : Script Reply) → by_script purpose b left ≡ None → is_idle (process_after_script b c purpose left) ≡ false
settled_busy b c purpose (Asks i rest) none = refl
settled_busy b c purpose (Writes i v rest) none = refl
settled_busy b c Checking (Done (Ruined true)) none = refl
settled_busy true c Checking (Done _) none = absurd (cc)
settled_busy false c Checking (Done _) none = absurd (cc)
settled_busy b c Ruining (Done _) none = refl
settled_busy b c Mending (Done (Ruined ruined)) none = absurd (cc)
settled_busy b c Mending (Done _) none = absurd (cc)
settled_busy b c (Working task) (Done _) none = absurd (cc)

part_busy : (s : Place) → IsSome (lock_part s) → is_idle_place s ≡ false
part_busy Rest some = cc
part_busy _ some = cc

checks : (x : Bool) (t : Place) (purpose : Purpose) (left : Script Reply) → true ≡ x → is_idle_by t (if x then Doing purpose left else Free) ≡ false
checks x t purpose left is = subst (λ b. is_idle_by t (if b then Doing purpose left else Free) ≡ false) is refl

goes : (x : Bool) (t : Place) (purpose : Purpose) (left : Script Reply) → false ≡ x → is_idle_place t ≡ false → is_idle_by t (if x then Doing purpose left else Free) ≡ false
goes x t purpose left is busy = subst (λ b. is_idle_by t (if b then Doing purpose left else Free) ≡ false) is busy

module _ (l : Layout) (limit p : ℕ) where
  lock_busy : (o : Option Place) (s : Place) (b c : Bool) (d : ProcessState) (over : Option CoreDone) → IsSome (at_lock l p s b c o) → (IsSome o → On over s (unwrap_or o s)) → by_lock c over ≡ None
      → is_idle (unwrap_or (at_lock l p s b c o) d) ≡ false
  lock_busy None s b c d over some on none = absurd (cc)
  lock_busy (Some t) s b c d None some on none = let h = on refl in goes _ t Checking _ h.1.0 (part_busy t (subst IsSome (sym h.2) h.0))
  lock_busy (Some t) s b c d (Some In) some on none = let h = on refl in checks _ t Checking _ h.1.0
  lock_busy (Some t) s b c d (Some InAgain) some on none = let h = on refl in checks _ t Checking _ h.1.0
  lock_busy (Some t) s b true d (Some Out) some on none = absurd (cc)
  lock_busy (Some t) s b false d (Some Out) some on none = absurd (cc)
  lock_busy (Some t) s b c d (Some _) some on none = absurd (cc)

  moved_busy : (s : Place) (b c : Bool) (e : ScriptState) (d : ProcessState) (kind : Kind) (word : Word) (v : ℕ) → IsSome (moved_by l limit p s b c e kind word v) → is_glance kind ≡ false → answer_by s b c e kind v ≡ None
      → is_idle (unwrap_or (moved_by l limit p s b c e kind word v) d) ≡ false
  moved_busy s b c Free d kind word v some moves none = lock_busy (next l.procs limit p s kind word v) s b c d _ some (λ may. goes_on l.procs p limit s kind word v may moves) none
  moved_busy s b c (Doing purpose (Asks j rest)) d Gets (DataAt i) v some moves none =
      guard_process_state (i == j) (process_after_script b c purpose (rest v)) d (λ q. is_idle q ≡ false) some (λ e. settled_busy b c purpose (rest v) none)
  moved_busy s b c (Doing purpose (Writes j x rest)) d Puts (DataAt i) v some moves none =
      guard_process_state ((i == j) && (v == x)) (process_after_script b c purpose rest) d (λ q. is_idle q ≡ false) some (λ e. settled_busy b c purpose rest none)
  moved_busy s b c (Doing purpose _) d _ _ v some moves none = absurd (cc)

busy_now : (s new : WorldState) (p : ℕ) → advance_refusal s p ≡ None → new.layout ≡ s.layout → is_idle (process_state_at new.processes p) ≡ false → advance_refusal new p ≡ None
busy_now s new p may layout busy = elim (cases_Bool (nat_lt p s.layout.procs)) [
  | inl e ↦ rw (layout, e, busy) refl
  | inr e ↦ let is : Some NoSuchProcess ≡ None = rw e at may in absurd (cc)
]

-- the process can take its next step
pub still_busy : {first : GlobalState} {history : List Deed} (s : WorldState) (p : ℕ) → Follows first s history → advance_refusal s p ≡ None → (world_step_report s p).answer ≡ None → advance_refusal (world_after_step s p) p ≡ None
still_busy s p now may none =
    let is = step_is s p now may in
    let t = machine_state_at s.processes p in
    let takes = step_takes s p is.access is.step in
    let silent : (stepped_if s p (Some is.access)).answer ≡ None = ap (λ o. (stepped_if s p o).answer) (sym is.step.next) ∙ none in
    let there : process_state_at (advanced_if s p (Some is.access)).processes p ≡ unwrap_or (next_process_state s.layout s.limit (process_state_at s.processes p) (world_event s p is.access)) (process_state_at s.processes p) =
    ap (λ (w : GlobalState). w.process_states p) takes.global_state ∙ put_same (process_state_at s.processes) p _ in
    let q = process_state_at s.processes p in
    let busy = moved_busy s.layout s.limit p q.lock q.mended q.barred q.script_state q (kind_of is.access) (word_of is.access) (value_of s is.access) takes.can.1 (no_glance t.limit t.index t.lock (script_state_of t.script_state) is.access is.step.next) silent in
    subst (λ o. advance_refusal (advanced_if s p o) p ≡ None) (sym is.step.next) (busy_now s (advanced_if s p (Some is.access)) p may takes.layout (subst (λ x. is_idle x ≡ false) (sym there) busy))
