-- What the replies of the tasks say of the mailbox.
use Rattle.std.specs.Prelude.{◌≡◌, ℕ, ◌+◌, ◌<◌, ◌≤◌, true, false, [], ◌∷◌, ◌++◌, length, ◌⊎◌}
use Rattle.redomail.specs.declared.message.Message.{Message}
use Rattle.redomail.specs.Mailbox.{Mailbox, IsAmong}
use Rattle.redomail.specs.declared.layout.Layout.{Layout}
use Rattle.redomail.specs.declared.reply.Reply.{Reply}
use Rattle.redomail.specs.declared.reply.Reply.TheVariants.{Stored, Already, OutOfOrder, Full, Closed, ClosedNow, AlreadyClosed, Mended, Word, Done, Ruined}
use Rattle.redomail.specs.Layout.{Words}
use Rattle.redomail.specs.Shape.{count_of}

-- the meaning of a reply of p's task that may add m, for the mailbox before and after the task
abbrev pub ReplyMeans : Layout → ℕ → Message → Mailbox → Reply → Mailbox → Type 0
ReplyMeans l p m old Stored new = new.shown ≡ old.shown ++ m ∷ []
ReplyMeans l p m old Already new =
    (new.shown ≡ old.shown) × (0 < m.seq) × (m.seq ≤ count_of p new.shown) × IsAmong p m.seq new.shown
ReplyMeans l p m old OutOfOrder new = (new.shown ≡ old.shown) × ((m.seq ≡ 0) ⊎ (count_of p new.shown + 1 < m.seq))
ReplyMeans l p m old Closed new = (new.shown ≡ old.shown) × (m.seq ≡ count_of p new.shown + 1) × (new.closed ≡ true)
ReplyMeans l p m old Full new = (new.shown ≡ old.shown) × (m.seq ≡ count_of p new.shown + 1) × (new.closed ≡ false) × (length new.shown ≡ l.cap)
ReplyMeans l p m old ClosedNow new = (new.shown ≡ old.shown) × (old.closed ≡ false) × (new.closed ≡ true)
ReplyMeans l p m old AlreadyClosed new = (new.shown ≡ old.shown) × (old.closed ≡ true) × (new.closed ≡ true)
ReplyMeans l p m old (Mended true) new = (new.shown ≡ old.shown) ⊎ (new.shown ≡ old.shown ++ m ∷ [])
ReplyMeans l p m old (Mended false) new = new.shown ≡ old.shown
ReplyMeans l p m old (Word v) new = new.shown ≡ old.shown
ReplyMeans l p m old Done new = new.shown ≡ old.shown
ReplyMeans l p m old (Ruined ruined) new = (new.shown ≡ old.shown) × (ruined ≡ new.ruined)

-- with this reply no record is armed
abbrev pub Disarms : Reply → Words → Type 0
Disarms (Word v) w = Unit {0}
Disarms Done w = Unit {0}
Disarms (Ruined ruined) w = Unit {0}
Disarms _ w = w 3 ≡ 0
