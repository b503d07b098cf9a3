-- The phase of a process, as its steps show it.
use Rattle.std.specs.Prelude.{ℕ, List, Option, Some, None, slice_set}
use Rattle.rmecore.specs.declared.kind.Kind.{Kind}
use Rattle.rmecore.specs.declared.kind.Kind.TheVariants as kinds
use Rattle.rmecore.specs.declared.outer.Outer.TheVariants as outers
use Rattle.redomail.specs.declared.deed.Deed.{Deed}
use Rattle.redomail.specs.declared.deed.Deed.TheVariants as deeds
use Rattle.diagram.specs.declared.act.RowAct.{RowAct}
use Rattle.diagram.specs.declared.act.RowAct.TheVariants.{Silent, Telling, Fell}
use Rattle.diagram.specs.declared.phase.LifelinePhase.{LifelinePhase}
use Rattle.diagram.specs.declared.phase.LifelinePhase.TheVariants.{Rest, Doorway, Waiting, Section, Dead}

-- the phase that a deed leads to. A deed of the mailbox is done in the section
abbrev pub phase_of_deed : Deed → LifelinePhase
phase_of_deed (deeds.Outer (outers.Begin p)) = Doorway
phase_of_deed (deeds.Outer (outers.Ready p)) = Waiting
phase_of_deed (deeds.Outer (outers.Enter p)) = Section
phase_of_deed (deeds.Outer (outers.Reenter p)) = Section
phase_of_deed (deeds.Outer (outers.Leave p)) = Rest
phase_of_deed (deeds.Outer (outers.Quit p)) = Rest
phase_of_deed (deeds.Outer (outers.Crash p)) = Dead
phase_of_deed deed = Section

-- the phase that a step without a deed shows by its kind: it is a step of the doorway, of waiting, or of the section, or the
-- last of an exit. After a crash it shows where the process goes on
abbrev pub phase_of_kind : Kind → Option LifelinePhase
phase_of_kind kinds.Peek = Some Doorway
phase_of_kind kinds.Shut = Some Waiting
phase_of_kind kinds.Look = Some Waiting
phase_of_kind kinds.Weigh = Some Waiting
phase_of_kind kinds.Get = Some Section
phase_of_kind kinds.Put = Some Section
phase_of_kind kinds.Mark = Some Rest
phase_of_kind kind = None

-- the same for a step that ends a call: a recover ends at rest
abbrev pub phase_of_last : Kind → Option LifelinePhase
phase_of_last kinds.Reread = Some Rest
phase_of_last kinds.Shut = Some Rest
phase_of_last kind = phase_of_kind kind

-- the phase that a step shows which has a deed or ends a call
abbrev pub phase_of_telling : Option Deed → Kind → Option LifelinePhase
phase_of_telling (Some deed) kind = Some (phase_of_deed deed)
phase_of_telling None kind = phase_of_last kind

-- the phase that a row shows of its process, if it shows one
abbrev pub phase_shown : RowAct → Option LifelinePhase
phase_shown (Silent happened times) = phase_of_kind happened.kind
phase_shown (Telling step) = phase_of_telling step.deed step.happened.kind
phase_shown (Fell deed) = Some Dead

-- the phases of all processes after a row of p
abbrev pub with_phase : List LifelinePhase → ℕ → Option LifelinePhase → List LifelinePhase
with_phase phases p None = phases
with_phase phases p (Some phase) = slice_set phases p phase
