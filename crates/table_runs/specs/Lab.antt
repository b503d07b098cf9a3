-- The laboratory: the sizes that it refuses (limits of docs/theory/model.md), what its workers send, and its result.
use Rattle.std.specs.Prelude.{◌≡◌, ◌≢◌, ℕ, zero, suc, ◌+◌, ◌*◌, ◌<◌, ◌^◌, ◌⊎◌, List, [], ◌∷◌, ◌++◌, length, filter}
use Rattle.redomail.specs.declared.message.Message.{Message}
use Rattle.redomail.specs.Mailbox.{message, is_by}
use Rattle.table_runs.specs.declared.setup.Setup.{Setup}
use Rattle.table_runs.specs.declared.lab.spec.Spec.{Spec}

-- a number isn't 1 to `most`
abbrev pub IsBeyondRange : ℕ → ℕ → Type 0
IsBeyondRange most n = (n ≡ 0) ⊎ (most < n)

-- a size is outside its limits, or there isn't one gate for each worker
abbrev pub IsBadSpec : Spec → ℕ → Type 0
IsBadSpec s gates =
    IsBeyondRange 64 s.procs ⊎ IsBeyondRange (2 ^ 62) s.limit ⊎ IsBeyondRange 65536 s.cap ⊎ IsBeyondRange 8 s.width ⊎ IsBeyondRange 4096 s.messages
    ⊎ (gates ≢ s.procs)

-- the sizes of a lab's arena
abbrev pub setup_of : Spec → Setup
setup_of s = record { layout = record { procs = s.procs; cap = s.cap; width = s.width }; limit = s.limit }

-- the first words of the value of worker p's message with this number: word j is 1,000,000 * p + seq + j
abbrev pub words_sent : ℕ → ℕ → ℕ → List ℕ
words_sent p seq zero = []
words_sent p seq (suc j) = words_sent p seq j ++ (1000000 * p + seq + j) ∷ []

-- worker p's message with this number
abbrev pub message_sent : ℕ → ℕ → ℕ → Message
message_sent width p seq = message p seq (words_sent p seq width)

-- the first k messages of worker p, numbered from 1
abbrev pub messages_sent : ℕ → ℕ → ℕ → List Message
messages_sent width p zero = []
messages_sent width p (suc k) = messages_sent width p k ++ message_sent width p (suc k) ∷ []

-- the messages of one sender, in order
abbrev pub messages_by : ℕ → List Message → List Message
messages_by p messages = filter (is_by p) messages

-- These are the messages of all workers: of each its own, once and in order, and no others.
pub record AreAllSent (s : Spec) (messages : List Message) : Type 0 where
  pub each : (p : ℕ) → p < s.procs → messages_by p messages ≡ messages_sent s.width p s.messages
  pub total : length messages ≡ s.procs * s.messages
