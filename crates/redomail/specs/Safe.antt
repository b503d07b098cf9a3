-- A safe script: what the process inside may do to the data words, step by step. It speaks of the words and the mailbox list
-- alone. So steps of other processes don't affect it.
use Rattle.std.specs.Prelude.{◌≡◌, ℕ, ◌<◌, List, [], ◌∷◌, ◌++◌, ◌⊎◌}
use Rattle.rmecore.specs.Needs.{put}
use Rattle.redomail.specs.declared.deed.Deed.{Deed}
use Rattle.redomail.specs.declared.layout.Layout.{Layout}
use Rattle.redomail.specs.declared.message.Message.{Message}
use Rattle.redomail.specs.declared.reply.Reply.{Reply}
use Rattle.redomail.specs.Mailbox.{Mailbox}
use Rattle.redomail.specs.Leads.{MailLeads}
use Rattle.redomail.specs.Layout.{Words, size}
use Rattle.redomail.specs.Script.{Script, Get, Put, Done}
use Rattle.redomail.specs.Shape.{Shape}
use Rattle.redomail.specs.Deeds.{deeds_of_put}
use Rattle.redomail.specs.Replies.{ReplyMeans, Disarms}

-- the messages shown are those from before, or these and m
abbrev pub Added : Message → Mailbox → Mailbox → Type 0
Added m old now = (now.shown ≡ old.shown) ⊎ (now.shown ≡ old.shown ++ m ∷ [])

-- the words have the shape, and the messages shown are those from before, or these and m
abbrev pub Seen : Layout → ℕ → Message → Mailbox → Words → Mailbox → Type 0
Seen l p m old w now = Shape l p w now × Added m old now

-- these deeds are allowed, and lead to a mailbox with this property
abbrev pub DeedsLeadTo : Layout → Mailbox → List Deed → (Mailbox → Type 0) → Type 0
DeedsLeadTo l now deeds Stands = (then : Mailbox) × MailLeads l.cap now deeds then × Stands then

-- The script is safe for p over words of the mailbox `now`. It began with the mailbox `old`, and m is the message that it
-- may add. Before each step the words have the shape. Each put is within the words, and its deeds are allowed and lead to
-- the mailbox of the new words. The reply is true of the mailbox.
abbrev pub Safe : Layout → ℕ → Message → Mailbox → Script Reply → Words → Mailbox → Type 0
Safe l p m old (Get i next) w now = Seen l p m old w now × Safe l p m old (next (w i)) w now
Safe l p m old (Put i v rest) w now =
    Seen l p m old w now × (i < size l) × DeedsLeadTo l now (deeds_of_put l p w i v) (Safe l p m old rest (put w i v))
Safe l p m old (Done reply) w now = Seen l p m old w now × ReplyMeans l p m old reply now × Disarms reply w
