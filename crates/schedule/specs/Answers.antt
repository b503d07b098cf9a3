-- The answer lines of a report (the specification's Report).
use Rattle.std.specs.Prelude.{ℕ, true, false, List, [], ◌∷◌, codes}
use Rattle.std.specs.Fmt.{decimal}
use Rattle.rmecore.specs.declared.found.Found.{Found}
use Rattle.rmecore.specs.declared.found.Found.TheVariants as founds
use Rattle.redomail.specs.declared.reply.Reply.{Reply}
use Rattle.redomail.specs.declared.reply.Reply.TheVariants as replies
use Rattle.rmeworld.specs.declared.answer.Answer.{Answer}
use Rattle.rmeworld.specs.declared.answer.Answer.TheVariants as answers

-- the word after `found`
abbrev pub word_of_found : Found → List ℕ
word_of_found founds.Idle = codes "idle"
word_of_found founds.Left = codes "left"
word_of_found founds.Doorway = codes "doorway"
word_of_found founds.Waiting = codes "waiting"
word_of_found founds.Inside = codes "inside"

-- the words of a task's reply. Done answers a put. No call answers Ruined: it is the lock's own question
abbrev pub words_of_reply : Reply → List (List ℕ)
words_of_reply replies.Stored = codes "stored" ∷ []
words_of_reply replies.Already = codes "already" ∷ []
words_of_reply replies.OutOfOrder = codes "out-of-order" ∷ []
words_of_reply replies.Full = codes "full" ∷ []
words_of_reply replies.Closed = codes "closed" ∷ []
words_of_reply replies.ClosedNow = codes "closed-now" ∷ []
words_of_reply replies.AlreadyClosed = codes "already-closed" ∷ []
words_of_reply (replies.Mended true) = codes "mended" ∷ []
words_of_reply (replies.Mended false) = codes "nothing-to-mend" ∷ []
words_of_reply (replies.Word v) = codes "word" ∷ decimal v ∷ []
words_of_reply replies.Done = codes "put" ∷ []
words_of_reply (replies.Ruined true) = codes "ruined" ∷ []
words_of_reply (replies.Ruined false) = codes "not-ruined" ∷ []

-- the words after `answer P`
abbrev pub words_of_answer : Answer → List (List ℕ)
words_of_answer answers.Clean = codes "clean" ∷ []
words_of_answer answers.OwnerDied = codes "owner-died" ∷ []
words_of_answer answers.NumbersSpent = codes "numbers-spent" ∷ []
words_of_answer answers.NotRecoverable = codes "not-recoverable" ∷ []
words_of_answer answers.Unlocked = codes "unlocked" ∷ []
words_of_answer answers.Withdrawn = codes "withdrawn" ∷ []
words_of_answer (answers.Found found) = codes "found" ∷ word_of_found found ∷ []
words_of_answer (answers.Mail reply) = words_of_reply reply
