-- The messages of a mailbox, counted for each sender: its tally, when that is fine, and the lines of all tallies.
use Rattle.std.specs.Prelude.{◌≡◌, ℕ, ◌+◌, ◌-◌, ◌^◌, min, Bool, true, false, if◌then◌else◌, leb, nat_eq, List, [], ◌∷◌, ◌++◌, codes, length, map, sum}
use Rattle.std.specs.Fmt.{decimal}
use Rattle.std.specs.List.{flat_map, list_any, range_with_len}
use Rattle.table_runs.specs.Lab.{messages_by}
use Rattle.redomail.specs.declared.message.Message.{Message}
use Rattle.rmecore.specs.Simulated.{one_more}
use Rattle.schedule.specs.Words.{line_of}
use Rattle.lock_commands.specs.declared.tally.SenderTally.{SenderTally}

-- a sender's numbers, in the order of the mailbox
abbrev pub numbers_by : ℕ → List Message → List ℕ
numbers_by p messages = map (λ m. m.seq) (messages_by p messages)

-- how many numbers come again later
unfoldable pub repeats : List ℕ → ℕ
repeats [] = 0
repeats (n ∷ ns) = (if list_any (nat_eq n) ns then 1 else 0) + repeats ns

-- the last number, 0 where there is none
unfoldable pub last_number : List ℕ → ℕ
last_number [] = 0
last_number (n ∷ []) = n
last_number (n ∷ m ∷ ns) = last_number (m ∷ ns)

-- whether no number is less than the one before it
unfoldable pub never_fall : List ℕ → Bool
never_fall [] = true
never_fall (n ∷ []) = true
never_fall (n ∷ m ∷ ns) = if leb n m then never_fall (m ∷ ns) else false

-- the tally of a sender with these numbers; no count is greater than 2^64 - 1
abbrev pub tally_of : ℕ → List ℕ → SenderTally
tally_of p numbers =
    record {
      sender = p;
      messages = min (length numbers) (2 ^ 64 - 1);
      twice = min (repeats numbers) (2 ^ 64 - 1);
      last = last_number numbers;
      ordered = never_fall numbers;
    }

-- the tally of each sender, by its index
abbrev pub tallies_by : ℕ → List Message → List SenderTally
tallies_by procs messages = map (λ p. tally_of p (numbers_by p messages)) (range_with_len 0 procs)

-- the tallies of senders that have each sent this many messages, numbered from 1, of which each is there once and in order
abbrev pub tallies_sent : ℕ → ℕ → List SenderTally
tallies_sent procs most = map (λ p. record { sender = p; messages = most; twice = 0; last = most; ordered = true }) (range_with_len 0 procs)

-- a tally with one more number, which came before or did not
abbrev pub with_number : SenderTally → ℕ → Bool → SenderTally
with_number t n again =
    record {
      sender = t.sender;
      messages = one_more t.messages;
      twice = if again then one_more t.twice else t.twice;
      last = n;
      ordered = if t.ordered then leb t.last n else false;
    }

-- each number came once, and in order
abbrev pub IsFine : SenderTally → Type 0
IsFine tally = (tally.twice ≡ 0) × (tally.ordered ≡ true)

-- whether the numbers never fell, as a word
abbrev pub order_word : Bool → List ℕ
order_word true = codes "yes"
order_word false = codes "no"

-- the line of a sender
abbrev pub sender_line : SenderTally → List ℕ
sender_line tally =
    line_of (codes "sender" ∷ decimal tally.sender ∷ codes "messages" ∷ decimal tally.messages ∷ codes "twice" ∷ decimal tally.twice ∷ codes "order" ∷ order_word tally.ordered ∷ [])

-- the last line
abbrev pub total_line : ℕ → List ℕ
total_line total = line_of (codes "total" ∷ decimal total ∷ [])

-- the messages of all senders, at most 2^64 - 1
abbrev pub all_messages : List SenderTally → ℕ
all_messages tallies = min (sum (map (λ t. t.messages) tallies)) (2 ^ 64 - 1)

-- a line for each sender, and a last one with the number of all messages
abbrev pub tallies_text : List SenderTally → List ℕ
tallies_text tallies = flat_map sender_line tallies ++ total_line (all_messages tallies)
