-- The state of a judge. The ahead sets are rows of bits, one row for each process.
use Rattle.std.specs.Prelude.{◌≡◌, ℕ, zero, suc, ◌+◌, ◌*◌, ◌^◌, ◌<◌, ◌≤◌, Bool, true, List, length, slice_index, slice_index_or, Option, is_some, if◌then◌else◌}
use Rattle.std.specs.Int.{bit_at}
use Rattle.rmecore.specs.declared.phase.Phase.{Phase}
use Rattle.redomail.specs.declared.message.Message.{Message}
use Rattle.redomail.specs.declared.deed.Deed.{Deed}
use Rattle.redomail.specs.declared.deed.Deed.TheVariants as deed
use Rattle.redomail.specs.Mailbox.{doer}
use Rattle.judge.specs.declared.mail_part.MailPart.{MailPart}

-- the judge table's state without the messages shown, but with their number, in all and for each sender
pub record Kept : Type 0 where
  pub procs : ℕ
  pub cap : ℕ
  pub most_inside : ℕ
  pub phases : List Phase
  pub ahead : List ℕ
  pub counts : List ℕ
  pub shown : ℕ
  pub pending : Option Message
  pub closed : Bool
  pub ruined : Bool

-- the judge's invariant: the limits, one member for each process in each list, and no more messages than the capacity
pub record IsSound (k : Kept) : Type 0 where
  pub few : k.procs ≤ 64
  pub small : k.cap ≤ 65536
  pub phases : length k.phases ≡ k.procs
  pub ahead : length k.ahead ≡ k.procs
  pub counts : length k.counts ≡ k.procs
  pub counts_low : (p : ℕ) → p < k.procs → slice_index k.counts p ≤ k.shown
  pub shown_low : k.shown ≤ k.cap
  pub room : is_some k.pending ≡ true → k.shown < k.cap

-- the first n members of the list are the function's values
abbrev pub Lists : {X : Type 0} → List X → ℕ → (ℕ → X) → Type 0
Lists {X} xs n f = (k : ℕ) (d : X) → k < n → slice_index_or xs k d ≡ f k

-- the first n bits are the function's values
abbrev pub HasBits : ℕ → ℕ → (ℕ → Bool) → Type 0
HasBits row n f = (q : ℕ) → q < n → bit_at row q ≡ (if f q then 1 else 0)

-- in each of the first n rows, the first n bits are the row's function's values
abbrev pub HasRows : List ℕ → ℕ → (ℕ → ℕ → Bool) → Type 0
HasRows rows n f = (p : ℕ) → p < n → HasBits (slice_index rows p) n (f p)

-- what applying a deed needs: a process of the judge, a free place for a Commit, a pending message for a Show
abbrev pub HasRoom : Kept → Deed → Type 0
HasRoom k (deed.Outer o) = doer (deed.Outer o) < k.procs
HasRoom k (deed.Commit p seq v) = (p < k.procs) × (k.shown < k.cap)
HasRoom k (deed.Show p at seq v) = (p < k.procs) × (is_some k.pending ≡ true)
HasRoom k (deed.Close p) = p < k.procs
HasRoom k (deed.Ruin p) = p < k.procs

-- the number whose first n bits are the function's values, without other bits
abbrev pub row_word : ℕ → (ℕ → Bool) → ℕ
row_word zero f = 0
row_word (suc n) f = (if f n then 1 else 0) * 2 ^ n + row_word n f

-- a judge of the same size with this state
abbrev pub kept_with : Kept → List Phase → List ℕ → List ℕ → MailPart → Kept
kept_with k phases ahead counts mail =
    record {
      procs = k.procs;
      cap = k.cap;
      most_inside = k.most_inside;
      phases = phases;
      ahead = ahead;
      counts = counts;
      shown = mail.shown;
      pending = mail.pending;
      closed = mail.closed;
      ruined = mail.ruined;
    }
