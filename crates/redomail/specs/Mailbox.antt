-- "Mailbox list": the messages shown, at most one pending message, and whether it is closed and ruined. Its deeds are the
-- rows Commit to Ruin of the judge table, with Leave's second need.
use Rattle.std.specs.Prelude.{◌≡◌, ℕ, ◌+◌, Bool, true, false, not, ◌&&◌, ◌||◌, ◌==◌, nat_lt, List, [], ◌∷◌, ◌++◌, length, count_by, Option, Some, None, is_none, bytes_eq}
use Rattle.rmecore.specs.AbstractLock.{doer as lock_doer}
use Rattle.rmecore.specs.declared.fault.Fault.{Fault}
use Rattle.rmecore.specs.declared.fault.Fault.TheVariants.{NotInside, MailOrder, AfterClose}
use Rattle.rmecore.specs.declared.outer.Outer.TheVariants.{Leave}
use Rattle.redomail.specs.declared.deed.Deed.{Deed}
use Rattle.redomail.specs.declared.deed.Deed.TheVariants.{Outer, Commit, Show, Close, Ruin}
use Rattle.redomail.specs.declared.message.Message.{Message}

-- the state of the mailbox
pub record Mailbox : Type 0 where
  pub shown : List Message
  pub pending : Option Message
  pub closed : Bool
  pub ruined : Bool

abbrev pub nothing_shown : Mailbox
nothing_shown = record { shown = []; pending = None; closed = false; ruined = false }

abbrev pub message : ℕ → ℕ → List ℕ → Message
message p seq v = record { sender = p; seq = seq; value = v }

-- the message's sender is p
abbrev pub is_by : ℕ → Message → Bool
is_by p m = m.sender == p

-- a message of this sender with this number is among them, with any value
pub record IsAmong (p seq : ℕ) (messages : List Message) : Type 0 where
  pub before : List Message
  pub value : List ℕ
  pub later : List Message
  pub found : messages ≡ before ++ message p seq value ∷ later

-- the pending message is exactly this one. Two values are equal if they have the same words, so the widths count too
abbrev pub is_pending : Option Message → ℕ → ℕ → List ℕ → Bool
is_pending None p seq v = false
is_pending (Some m) p seq v = (m.sender == p) && (m.seq == seq) && bytes_eq m.value v

-- the process of a deed
abbrev pub doer : Deed → ℕ
doer (Outer d) = lock_doer d
doer (Commit p seq v) = p
doer (Show p at seq v) = p
doer (Close p) = p
doer (Ruin p) = p

-- a deed's row of the judge table for cap places and a doer that is inside or not: its needs in order, each with its fault
abbrev pub row : ℕ → Bool → Mailbox → Deed → List (Bool × Fault)
row cap inside m (Outer (Leave p)) = (is_none m.pending || m.ruined, MailOrder) ∷ []
row cap inside m (Outer d) = []
row cap inside m (Commit p seq v) =
    (inside, NotInside)
    ∷ (not m.ruined, MailOrder)
    ∷ (is_none m.pending, MailOrder)
    ∷ (nat_lt (length m.shown) cap, MailOrder)
    ∷ (seq == count_by (is_by p) m.shown + 1, MailOrder)
    ∷ (not m.closed, AfterClose)
    ∷ []
row cap inside m (Show p at seq v) =
    (inside, NotInside) ∷ (is_pending m.pending p seq v, MailOrder) ∷ (at == length m.shown, MailOrder) ∷ []
row cap inside m (Close p) = (inside, NotInside) ∷ (is_none m.pending, MailOrder) ∷ (not m.closed, AfterClose) ∷ []
row cap inside m (Ruin p) = (inside, NotInside) ∷ (not m.ruined, MailOrder) ∷ []

-- the effect of a deed ("does" in the judge table)
abbrev pub mailbox_after : Mailbox → Deed → Mailbox
mailbox_after m (Outer d) = m
mailbox_after m (Commit p seq v) = record m { pending = Some (message p seq v) }
mailbox_after m (Show p at seq v) = record m { shown = m.shown ++ message p seq v ∷ []; pending = None }
mailbox_after m (Close p) = record m { closed = true }
mailbox_after m (Ruin p) = record m { ruined = true }
