-- The process state of a process of a variant, which follows from its own events alone (Place of docs/theory/model.md, with what
-- the variant adds).
use Rattle.std.specs.Prelude.{ℕ, Bool, true, false, Option, Some, None}
use Rattle.rmecore.specs.Place.{Place}
use Rattle.rmecore.specs.declared.access.Access.{Access}
use Rattle.rmecore.specs.declared.core_done.CoreDone.{CoreDone}
use Rattle.rmecore.specs.declared.kind.Kind.{Kind}
use Rattle.rmecore.specs.declared.outer.Outer.{Outer}
use Rattle.rmecore.specs.declared.outer.Outer.TheVariants.{Crash}
use Rattle.rmecore.specs.declared.word.Word.{Word}
use Rattle.redomail.specs.declared.layout.Layout.{Layout}
use Rattle.redomail.specs.Script.{tail}
use Rattle.rmeworld.specs.declared.answer.Answer.{Answer}
use Rattle.rmeworld.specs.declared.call.Call.{Call}
use Rattle.rmeworld.specs.declared.call.Call.TheVariants.{Consistent}
use Rattle.rmeworld.specs.declared.purpose.Purpose.TheVariants.{Mending}
use Rattle.rmeworld.specs.Answered.{by_lock, by_script}
use Rattle.rmeworld.specs.MachineState.{access_by}
use Rattle.rmeworld.specs.ProcessState.{ScriptState, Free, Doing, ProcessState, dead_process, WorldEvent, Begins, Falls, Moves, Glances, at_lock, moved_by, inside_only, begun_from}
use Rattle.crashlab.specs.declared.variants.deviation.Deviation.{Deviation}
use Rattle.crashlab.specs.declared.variants.deviation.Deviation.TheVariants.{Straight}
use Rattle.crashlab.specs.declared.variants.variant.Variant.{Variant}
use Rattle.crashlab.specs.variants.Variants.{variant_next, variant_deed, variant_answer, variant_access}
use Rattle.crashlab.specs.variants.VariantScripts.{variant_consistent}

-- a process state of the lock, with a variant state
pub record VariantProcessState : Type 0 where
  pub process_state : ProcessState
  pub deviation : Deviation

-- this process state, with this variant state
abbrev pub beside : Deviation → Option ProcessState → Option VariantProcessState
beside d None = None
beside d (Some process_state) = Some (record { process_state = process_state; deviation = d })

-- a process state outside the section, with nothing to mend
abbrev pub outside : Place → ProcessState
outside place = record { lock = place; mended = true; barred = false; script_state = Free }

-- where a step of the variant's lock leads. A variant state begins and ends outside the section
abbrev pub at_deviation : Layout → ℕ → Place → Bool → Bool → Deviation → Place → Deviation → Option VariantProcessState
at_deviation l p s b c Straight t Straight = beside Straight (at_lock l p s b c (Some t))
at_deviation l p s b c d t e = Some (record { process_state = outside t; deviation = e })

-- the same for a step that may not be allowed
abbrev pub at_variant : Layout → ℕ → Place → Bool → Bool → Deviation → Option (Place × Deviation) → Option VariantProcessState
at_variant l p s b c d None = None
at_variant l p s b c d (Some at) = at_deviation l p s b c d at.0 at.1

-- a step of the variant's lock, or one of a script, as in the world
abbrev pub variant_moved : Variant → Layout → ℕ → ℕ → Place → Bool → Bool → ScriptState → Deviation → Kind → Word → ℕ → Option VariantProcessState
variant_moved variant l limit p s b c Free d kind word v = at_variant l p s b c d (variant_next variant l.procs limit p s d kind word v)
variant_moved variant l limit p s b c (Doing purpose left) d kind word v = beside d (moved_by l limit p s b c (Doing purpose left) kind word v)

-- a start as in the world, but consistent runs the variant's repair
abbrev pub variant_begun : Variant → Layout → ℕ → Place → Bool → ScriptState → Call → Option ProcessState
variant_begun variant l p s false Free Consistent = inside_only s false true Mending (variant_consistent variant l p)
variant_begun variant l p s b script_state call = begun_from l p s b script_state call

-- the process state after an event of the process, if the event is allowed
abbrev pub variant_process_state : Variant → Layout → ℕ → VariantProcessState → WorldEvent → Option VariantProcessState
variant_process_state variant l limit s (Begins p call) = beside s.deviation (variant_begun variant l p s.process_state.lock s.process_state.mended s.process_state.script_state call)
variant_process_state variant l limit s (Falls p) = beside Straight (Some dead_process)
variant_process_state variant l limit s (Moves p kind word v) = variant_moved variant l limit p s.process_state.lock s.process_state.mended s.process_state.barred s.process_state.script_state s.deviation kind word v
variant_process_state variant l limit s (Glances p word v) = Some s

-- the deed of the lock at an event, from the process state before it
abbrev pub variant_outer_by : Variant → ℕ → Place → ScriptState → Deviation → Kind → ℕ → Option Outer
variant_outer_by variant p s Free d kind v = variant_deed variant p s d kind v
variant_outer_by variant p s _ d kind v = None

-- the deed of the lock at an event
abbrev pub variant_outer : Variant → VariantProcessState → WorldEvent → Option Outer
variant_outer variant s (Begins p call) = None
variant_outer variant s (Falls p) = Some (Crash p)
variant_outer variant s (Moves p kind word v) = variant_outer_by variant p s.process_state.lock s.process_state.script_state s.deviation kind v
variant_outer variant s (Glances p word v) = None

-- the answer of a step that ends its call
abbrev pub variant_answer_by : Variant → Place → Bool → Bool → ScriptState → Deviation → Kind → ℕ → Option Answer
variant_answer_by variant s b c Free d kind v = by_lock c (variant_answer variant s d kind v)
variant_answer_by variant s b c (Doing purpose left) d kind v = by_script purpose b (tail left v)

-- the answer of a step from a process state, if it ends its call
abbrev pub variant_answer_at : Variant → VariantProcessState → Kind → ℕ → Option Answer
variant_answer_at variant s kind v = variant_answer_by variant s.process_state.lock s.process_state.mended s.process_state.barred s.process_state.script_state s.deviation kind v

-- the answer of the lock's part, where the step ends it
abbrev pub variant_done_by : Variant → Place → ScriptState → Deviation → Kind → ℕ → Option CoreDone
variant_done_by variant s Free d kind v = variant_answer variant s d kind v
variant_done_by variant s (Doing purpose left) d kind v = None

-- the same of the lock's part
abbrev pub variant_done_at : Variant → VariantProcessState → Kind → ℕ → Option CoreDone
variant_done_at variant s kind v = variant_done_by variant s.process_state.lock s.process_state.script_state s.deviation kind v

-- the next step: the script's, or the lock's
abbrev pub variant_access_by : Variant → ℕ → ℕ → Place → ScriptState → Deviation → Option Access
variant_access_by variant limit p s Free d = variant_access variant limit p s d
variant_access_by variant limit p s (Doing purpose left) d = access_by limit p s (Doing purpose left)

-- the next step from a process state
abbrev pub variant_access_at : Variant → ℕ → ℕ → VariantProcessState → Option Access
variant_access_at variant limit p s = variant_access_by variant limit p s.process_state.lock s.process_state.script_state s.deviation
