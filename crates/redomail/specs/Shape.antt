-- "Shape" of the data words: the mailbox that they describe, with an armed record or without.
use Rattle.std.specs.Prelude.{◌≡◌, ◌≢◌, ℕ, zero, suc, ◌+◌, ◌<◌, ◌≤◌, Bool, false, ◌&&◌, ◌==◌, cond, if◌then◌else◌, List, [], ◌∷◌, ◌++◌, count_by, Option, Some, None, ◌⊎◌}
use Rattle.redomail.specs.declared.message.Message.{Message}
use Rattle.redomail.specs.Mailbox.{Mailbox, is_by, message}
use Rattle.redomail.specs.declared.layout.Layout.{Layout}
use Rattle.redomail.specs.Layout.{Words, row, last_at, place_at}

-- the entry at a place
abbrev pub entry : Layout → Words → ℕ → Message
entry l w a = message (w (place_at l a)) (w (place_at l a + 1)) (row w (place_at l a + 2) l.width)

-- the first k entries
abbrev pub entries : Layout → Words → ℕ → List Message
entries l w zero = []
entries l w (suc k) = entries l w k ++ entry l w k ∷ []

-- the number of q's messages among them
abbrev pub count_of : ℕ → List Message → ℕ
count_of q messages = count_by (is_by q) messages

-- Each of the first k entries has a sender, and a number one more than the number of earlier entries of that sender.
abbrev pub IsNumbered : Layout → Words → ℕ → Type 0
IsNumbered l w k =
    (a : ℕ) → a < k → (w (place_at l a) < l.procs) × (w (place_at l a + 1) ≡ count_of (w (place_at l a)) (entries l w a) + 1)

-- "List rule": the first k entries are numbered, and each process's last number is the number of its entries.
pub record ListRule (l : Layout) (w : Words) (k : ℕ) : Type 0 where
  pub numbered : IsNumbered l w k
  pub counted : (q : ℕ) → q < l.procs → w (last_at l q) ≡ count_of q (entries l w k)

-- the record's message, with sender p
abbrev pub recorded_message : Layout → ℕ → Words → Message
recorded_message l p w = message p (w 5) (row w 6 l.width)

-- "Record rule", case (a), not shown yet: the record has the number after those of p's entries. p's last number is the one
-- before, or the record's where the entry is written already.
pub record Unshown (l : Layout) (p : ℕ) (w : Words) : Type 0 where
  pub count : w 2 ≡ w 4
  pub numbered : IsNumbered l w (w 2)
  pub others : (q : ℕ) → q < l.procs → q ≢ p → w (last_at l q) ≡ count_of q (entries l w (w 2))
  pub next : w 5 ≡ count_of p (entries l w (w 2)) + 1
  pub last : (w (last_at l p) + 1 ≡ w 5) ⊎ ((w (last_at l p) ≡ w 5) × (entry l w (w 4) ≡ recorded_message l p w))

-- "Record rule", case (b), shown already.
pub record Shown (l : Layout) (p : ℕ) (w : Words) : Type 0 where
  pub count : w 2 ≡ w 4 + 1
  pub listed : ListRule l w (w 2)
  pub entry : entry l w (w 4) ≡ recorded_message l p w

-- "Record rule" for p.
pub record RecordRule (l : Layout) (p : ℕ) (w : Words) : Type 0 where
  pub room : w 4 < l.cap
  pub rule : Unshown l p w ⊎ Shown l p w

-- a flag as a word
abbrev pub bit : Bool → ℕ
bit b = cond b 1 0

-- the pending message of the words: p's record, if it is armed and not shown
abbrev pub pending_in : Layout → ℕ → Words → Option Message
pending_in l p w = if (w 3 == 1) && (w 2 == w 4) then Some (recorded_message l p w) else None

-- the mailbox that the words describe, with p inside
abbrev pub mailbox_of : Layout → ℕ → Words → Mailbox
mailbox_of l p w = record {
  shown = entries l w (w 2);
  pending = if w 0 == 1 then None else pending_in l p w;
  closed = w 1 == 1;
  ruined = w 0 == 1;
}

-- "Shape": the words are those of this mailbox, with p inside. Where the words are a list, their number is stated
-- separately.
pub record Shape (l : Layout) (p : ℕ) (w : Words) (s : Mailbox) : Type 0 where
  pub ruined : w 0 ≡ bit s.ruined
  pub closed : w 1 ≡ bit s.closed
  pub armed : (w 3 ≡ 0) ⊎ (w 3 ≡ 1)
  pub apart : w 1 ≡ 1 → w 3 ≡ 1 → ⊥
  pub room : w 2 ≤ l.cap
  pub shown : s.shown ≡ entries l w (w 2)
  pub listed : w 3 ≡ 0 → ListRule l w (w 2)
  pub record_rule : w 3 ≡ 1 → (q : ℕ) × (q < l.procs) × RecordRule l q w × (s.ruined ≡ false → q ≡ p)
  pub pending : s.ruined ≡ false → s.pending ≡ pending_in l p w
