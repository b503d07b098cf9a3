-- The wrong variants of the lock (Variants of docs/dev/surface.md): the rows of its definition that each of them changes.
-- Right changes none.
use Rattle.std.specs.Prelude.{ℕ, zero, suc, Bool, ◌&&◌, ◌||◌, ◌==◌, if◌then◌else◌, [], ◌∷◌, Option, Some, None}
use Rattle.rmecore.specs.Place.{Place, Reread, Door, Wait, Unmarking, has, without, others, is_before, only, next}
use Rattle.rmecore.specs.World.{step_deed}
use Rattle.rmecore.specs.Machine.{access, answer}
use Rattle.rmecore.specs.declared.access.Access.{Access}
use Rattle.rmecore.specs.declared.access.Access.TheVariants.{Load, Store}
use Rattle.rmecore.specs.declared.core_call.CoreCall.{CoreCall}
use Rattle.rmecore.specs.declared.core_call.CoreCall.TheVariants.{Lock, Recover}
use Rattle.rmecore.specs.declared.core_done.CoreDone.{CoreDone}
use Rattle.rmecore.specs.declared.kind.Kind.{Kind}
use Rattle.rmecore.specs.declared.kind.Kind.TheVariants.{Reread as Rereads, Take as Takes, Shut as Shuts, Look as Looks, Weigh as Weighs, Mark as Marks, Drop as Drops}
use Rattle.rmecore.specs.declared.outer.Outer.{Outer}
use Rattle.rmecore.specs.declared.word.Word.{Word}
use Rattle.rmecore.specs.declared.word.Word.TheVariants.{Number as NumberOf, Inside as InsideOf}
use Rattle.crashlab.specs.declared.variants.deviation.Deviation.{Deviation}
use Rattle.crashlab.specs.declared.variants.deviation.Deviation.TheVariants.{Straight, Dropping, Over}
use Rattle.crashlab.specs.declared.variants.variant.Variant.{Variant}
use Rattle.crashlab.specs.declared.variants.variant.Variant.TheVariants.{NoLook, NoTies, Renumber, ExitOnCrash}

-- a place, if there is one, with this variant state
abbrev pub and_deviation : Deviation → Option Place → Option (Place × Deviation)
and_deviation d None = None
and_deviation d (Some place) = Some (place, d)

-- this place, where the condition holds
abbrev pub only_at : Bool → Place × Deviation → Option (Place × Deviation)
only_at b at = if b then Some at else None

-- this place, where the lock has a step
abbrev pub instead : Option Place → Place × Deviation → Option (Place × Deviation)
instead None at = None
instead (Some place) at = Some at

-- no look: waiting is `weigh` alone, of any process that was not passed
abbrev pub no_look : ℕ → ℕ → ℕ → Place → Kind → Word → ℕ → Option Place
no_look n limit p (Wait k unpassed None) Looks word v = None
no_look n limit p (Wait k unpassed None) Weighs (NumberOf j) v =
    only (has unpassed j) (if (v == 0) || is_before k p v j then Wait k (without j unpassed) None else Wait k unpassed None)
no_look n limit p place kind word v = next n limit p place kind word v

-- no ties: `weigh` passes where the numbers are equal
abbrev pub no_ties : ℕ → ℕ → ℕ → Place → Kind → Word → ℕ → Option Place
no_ties n limit p (Wait k unpassed (Some i)) Weighs (NumberOf j) v =
    only (j == i) (if (k == v) || ((v == 0) || is_before k p v j) then Wait k (without j unpassed) None else Wait k unpassed (Some i))
no_ties n limit p place kind word v = next n limit p place kind word v

-- renumber: a lock that finds a number taken in the doorway scans again and takes a new one. Where the numbers are spent
-- it waits with the number that it keeps
abbrev pub renumber : ℕ → ℕ → ℕ → Place → Deviation → Kind → Word → ℕ → Option (Place × Deviation)
renumber n limit p place (Over k) Takes word v = and_deviation Straight (next n limit p place Takes word v)
renumber n limit p place (Over k) Shuts word v = instead (next n limit p place Shuts word v) (Wait k (others n p) None, Straight)
renumber n limit p (Reread Lock (suc c ∷ suc k ∷ [])) Straight Rereads (InsideOf q) v = only_at (q == p) (Door (others n p) 0, Over (suc k))
renumber n limit p place deviation kind word v = and_deviation deviation (next n limit p place kind word v)

-- the lock or the recover that is under way
abbrev pub lock_or_recover : CoreCall → CoreCall
lock_or_recover Lock = Lock
lock_or_recover _ = Recover

-- exit on crash: a lock or recover that finds the process inside drops the number, and then goes on as if it was found
-- leaving
abbrev pub exit_on_crash : ℕ → ℕ → ℕ → Place → Deviation → Kind → Word → ℕ → Option (Place × Deviation)
exit_on_crash n limit p place Dropping Drops (NumberOf q) v = only_at ((q == p) && (v == 0)) (place, Straight)
exit_on_crash n limit p place Dropping Marks word v = None
exit_on_crash n limit p (Reread call (zero ∷ suc k ∷ [])) Straight Rereads (InsideOf q) (suc i) = only_at (q == p) (Unmarking (lock_or_recover call), Dropping)
exit_on_crash n limit p place deviation kind word v = and_deviation deviation (next n limit p place kind word v)

-- the place after one step of process p of this variant, as `next` gives that of the lock
abbrev pub variant_next : Variant → ℕ → ℕ → ℕ → Place → Deviation → Kind → Word → ℕ → Option (Place × Deviation)
variant_next NoLook n limit p place deviation kind word v = and_deviation deviation (no_look n limit p place kind word v)
variant_next NoTies n limit p place deviation kind word v = and_deviation deviation (no_ties n limit p place kind word v)
variant_next Renumber n limit p place deviation kind word v = renumber n limit p place deviation kind word v
variant_next ExitOnCrash n limit p place deviation kind word v = exit_on_crash n limit p place deviation kind word v
variant_next _ n limit p place deviation kind word v = and_deviation deviation (next n limit p place kind word v)

-- the deed of a step: none with a variant state, nor where a process that was found inside begins to leave
abbrev pub variant_deed : Variant → ℕ → Place → Deviation → Kind → ℕ → Option Outer
variant_deed variant p place Dropping kind v = None
variant_deed variant p place (Over k) kind v = None
variant_deed ExitOnCrash p (Reread call seen) Straight kind v = None
variant_deed variant p place Straight kind v = step_deed p place kind v

-- the answer of the lock's part at this step: none with a variant state, nor where such a process begins to leave
abbrev pub variant_answer : Variant → Place → Deviation → Kind → ℕ → Option CoreDone
variant_answer variant place Dropping kind v = None
variant_answer variant place (Over k) kind v = None
variant_answer ExitOnCrash (Reread call (zero ∷ suc k ∷ [])) Straight Rereads (suc i) = None
variant_answer variant place Straight kind v = answer place kind v

-- the next step. A scan takes the first of its list
abbrev pub variant_access : Variant → ℕ → ℕ → Place → Deviation → Option Access
variant_access NoLook limit p (Wait k (j ∷ js) None) deviation = Some (Load Weighs (NumberOf j))
variant_access variant limit p place Dropping = Some (Store Drops (NumberOf p) 0)
variant_access variant limit p place deviation = access limit p place
