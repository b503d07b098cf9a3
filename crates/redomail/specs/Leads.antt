-- Lists of mailbox deeds by the processes inside.
use Rattle.std.specs.Prelude.{◌≡◌, ℕ, true, List, [], ◌∷◌}
use Rattle.rmecore.specs.Needs.{AllHold}
use Rattle.redomail.specs.Mailbox.{Mailbox, row, mailbox_after}
use Rattle.redomail.specs.declared.deed.Deed.{Deed}
use Rattle.redomail.specs.declared.deed.Deed.TheVariants.{Outer, Commit, Show, Close, Ruin}

-- These deeds, each by a process inside, are allowed one after another and lead from mailbox m to mailbox t.
abbrev pub MailLeads : ℕ → Mailbox → List Deed → Mailbox → Type 0
MailLeads cap m [] t = m ≡ t
MailLeads cap m (d ∷ ds) t = AllHold (row cap true m d) × MailLeads cap (mailbox_after m d) ds t

-- a deed of the mailbox by p
abbrev pub IsOwn : ℕ → Deed → Type 0
IsOwn p (Outer d) = ⊥
IsOwn p (Commit q seq v) = q ≡ p
IsOwn p (Show q at seq v) = q ≡ p
IsOwn p (Close q) = q ≡ p
IsOwn p (Ruin q) = q ≡ p

-- deeds of the mailbox by p
abbrev pub AreOwn : ℕ → List Deed → Type 0
AreOwn p [] = Unit {0}
AreOwn p (d ∷ ds) = IsOwn p d × AreOwn p ds
