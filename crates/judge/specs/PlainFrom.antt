-- "Plain properties" from a start. The start counts as deeds before the list: what is dead in, shown, pending and closed.
-- Its ready processes are Ready before each Begin of the list. If q is in the doorway or ready there and p is ahead of q, p
-- is Ready before q's Begin.
use Rattle.std.specs.Prelude.{◌≡◌, ℕ, ◌+◌, ◌<◌, true, List, take, length, count_by, ◌⊎◌}
use Rattle.rmecore.specs.declared.outer.Outer.TheVariants.{Begin, Enter, Reenter}
use Rattle.redomail.specs.declared.deed.Deed.{Deed}
use Rattle.redomail.specs.declared.deed.Deed.TheVariants as deed
use Rattle.rmecore.specs.declared.phase.Phase.TheVariants as phase
use Rattle.redomail.specs.Mailbox.{is_by, is_pending}
use Rattle.judge.specs.Plain.{HasDeedAt, IsDeedAt, StandsBefore, NoneBefore, NoneBetween, IsEntry, IsEndOf, GoneBefore, is_show, is_show_of, LockInOrder}
use Rattle.judge.specs.Starts.{phase_in, is_ahead}
use Rattle.judge.specs.declared.start.Start.{Start}

-- (a) to (c), within the list and together with the start
pub record LockInOrderFrom (start : Start) (deeds : List Deed) : Type 0 where
  pub alone : LockInOrder deeds
  pub dead_reenters : (p j : ℕ) → phase_in start.phases p ≡ phase.DeadIn → NoneBefore deeds j IsEntry → HasDeedAt deeds j IsEntry → IsDeedAt deeds j (deed.Outer (Reenter p))
  pub first_come : (p q b e : ℕ) → phase_in start.phases p ≡ phase.Ready → IsDeedAt deeds b (deed.Outer (Begin q)) → b < e → NoneBetween deeds b e (IsEndOf q)
      → IsDeedAt deeds e (deed.Outer (Enter q)) → GoneBefore deeds p e
  pub ahead_first : (p q e : ℕ) → phase_in start.phases p ≡ phase.Ready → is_ahead start q p ≡ true → NoneBefore deeds e (IsEndOf q)
      → IsDeedAt deeds e (deed.Outer (Enter q)) → GoneBefore deeds p e

-- (d)
pub record MailInOrderFrom (start : Start) (deeds : List Deed) : Type 0 where
  pub numbered : (p i at seq : ℕ) (v : List ℕ) → IsDeedAt deeds i (deed.Show p at seq v) → seq ≡ count_by (is_by p) start.shown + count_by (is_show_of p) (take i deeds) + 1
  pub placed : (p i at seq : ℕ) (v : List ℕ) → IsDeedAt deeds i (deed.Show p at seq v) → at ≡ length start.shown + count_by is_show (take i deeds)
  pub committed : (p i at seq : ℕ) (v : List ℕ) → IsDeedAt deeds i (deed.Show p at seq v) → (is_pending start.pending p seq v ≡ true) ⊎ StandsBefore deeds i (deed.Commit p seq v)
  pub no_commit : (p q i j seq : ℕ) (v : List ℕ) → IsDeedAt deeds i (deed.Close q) → i < j → IsDeedAt deeds j (deed.Commit p seq v) → ⊥
  pub no_show : (p q i j at seq : ℕ) (v : List ℕ) → IsDeedAt deeds i (deed.Close q) → i < j → IsDeedAt deeds j (deed.Show p at seq v) → ⊥
  pub closed_no_commit : (p j seq : ℕ) (v : List ℕ) → start.closed ≡ true → IsDeedAt deeds j (deed.Commit p seq v) → ⊥
  pub closed_no_show : (p j at seq : ℕ) (v : List ℕ) → start.closed ≡ true → IsDeedAt deeds j (deed.Show p at seq v) → ⊥

-- (a) to (d)
pub record IsPlainFrom (start : Start) (deeds : List Deed) : Type 0 where
  pub lock : LockInOrderFrom start deeds
  pub mail : MailInOrderFrom start deeds
