-- "Plain properties" of a list of deeds, by positions in it. They know no state.
use Rattle.std.specs.Prelude.{◌≡◌, ℕ, ◌+◌, ◌<◌, Bool, true, false, ◌==◌, List, take, count_by, slice_get, MatchOption, ◌⊎◌}
use Rattle.rmecore.specs.declared.outer.Outer.TheVariants.{Begin, Ready, Enter, Crash, Reenter, Leave, Quit}
use Rattle.redomail.specs.declared.deed.Deed.{Deed}
use Rattle.redomail.specs.declared.deed.Deed.TheVariants as deed

-- Enter p or Reenter p
abbrev pub IsEntryOf : ℕ → Deed → Type 0
IsEntryOf p d = (d ≡ deed.Outer (Enter p)) ⊎ (d ≡ deed.Outer (Reenter p))

-- an Enter or a Reenter of any process
abbrev pub IsEntry : Deed → Type 0
IsEntry d = (p : ℕ) × IsEntryOf p d

-- Leave p or Crash p
abbrev pub IsExitOf : ℕ → Deed → Type 0
IsExitOf p d = (d ≡ deed.Outer (Leave p)) ⊎ (d ≡ deed.Outer (Crash p))

-- Leave p or Quit p, which end a super-passage of p
abbrev pub IsEndOf : ℕ → Deed → Type 0
IsEndOf p d = (d ≡ deed.Outer (Leave p)) ⊎ (d ≡ deed.Outer (Quit p))

-- Enter p or Quit p, after which no process waits for p
abbrev pub IsGoneOf : ℕ → Deed → Type 0
IsGoneOf p d = (d ≡ deed.Outer (Enter p)) ⊎ (d ≡ deed.Outer (Quit p))

-- a Show
abbrev pub is_show : Deed → Bool
is_show (deed.Show p at seq v) = true
is_show _ = false

-- a Show of a message of this sender
abbrev pub is_show_of : ℕ → Deed → Bool
is_show_of q (deed.Show p at seq v) = p == q
is_show_of q _ = false

-- the list has a deed at position i, and it has P
abbrev pub HasDeedAt : List Deed → ℕ → (Deed → Type 0) → Type 0
HasDeedAt deeds i P = MatchOption (slice_get deeds i) ⊥ P

-- this deed is at position i
abbrev pub IsDeedAt : List Deed → ℕ → Deed → Type 0
IsDeedAt deeds i d = HasDeedAt deeds i (λ e. e ≡ d)

-- no deed between positions i and j has P
abbrev pub NoneBetween : List Deed → ℕ → ℕ → (Deed → Type 0) → Type 0
NoneBetween deeds i j P = (k : ℕ) → i < k → k < j → HasDeedAt deeds k P → ⊥

-- none of the first j deeds has P
abbrev pub NoneBefore : List Deed → ℕ → (Deed → Type 0) → Type 0
NoneBefore deeds j P = (k : ℕ) → k < j → HasDeedAt deeds k P → ⊥

-- "Plain properties" (a): between an entry of p and the next Leave p or Crash p there is no entry of any process.
abbrev pub NoTwoInside : List Deed → Type 0
NoTwoInside deeds = (p i j : ℕ) → HasDeedAt deeds i (IsEntryOf p) → i < j → NoneBetween deeds i j (IsExitOf p) → HasDeedAt deeds j IsEntry → ⊥

-- "Plain properties" (b): after a Crash p while p is in, the next entry of any process is Reenter p.
abbrev pub DeadReenters : List Deed → Type 0
DeadReenters deeds =
    (p i c j : ℕ) → HasDeedAt deeds i (IsEntryOf p) → i < c → NoneBetween deeds i c (IsExitOf p) → IsDeedAt deeds c (deed.Outer (Crash p))
    → c < j → NoneBetween deeds c j IsEntry → HasDeedAt deeds j IsEntry → IsDeedAt deeds j (deed.Outer (Reenter p))

-- p's super-passage at position i has its Enter, or the Quit that ends it, after i and before e
pub record GoneBetween (deeds : List Deed) (p i e : ℕ) : Type 0 where
  pub place : ℕ
  pub later : i < place
  pub before : place < e
  pub gone : HasDeedAt deeds place (IsGoneOf p)
  pub same : NoneBetween deeds i place (IsEndOf p)

-- p's super-passage from before the list has its Enter, or the Quit that ends it, before e
pub record GoneBefore (deeds : List Deed) (p e : ℕ) : Type 0 where
  pub place : ℕ
  pub before : place < e
  pub gone : HasDeedAt deeds place (IsGoneOf p)
  pub same : NoneBefore deeds place (IsEndOf p)

-- "Plain properties" (c): if p is Ready before the Begin of q's super-passage, and q enters in it, then p enters or quits
-- before that Enter.
abbrev pub FirstComeFirstServed : List Deed → Type 0
FirstComeFirstServed deeds =
    (p q r b e : ℕ) → IsDeedAt deeds r (deed.Outer (Ready p)) → r < b → IsDeedAt deeds b (deed.Outer (Begin q))
    → b < e → NoneBetween deeds b e (IsEndOf q) → IsDeedAt deeds e (deed.Outer (Enter q)) → GoneBetween deeds p r e

-- this deed is at some position before i
abbrev pub StandsBefore : List Deed → ℕ → Deed → Type 0
StandsBefore deeds i d = (k : ℕ) × (k < i) × IsDeedAt deeds k d

-- "Plain properties" (d): the Shows of a sender are numbered from 1, and each was committed before. Each Show's place is the
-- number of Shows before it. No Commit and no Show comes after a Close.
pub record MailInOrder (deeds : List Deed) : Type 0 where
  pub numbered : (p i at seq : ℕ) (v : List ℕ) → IsDeedAt deeds i (deed.Show p at seq v) → seq ≡ count_by (is_show_of p) (take i deeds) + 1
  pub placed : (p i at seq : ℕ) (v : List ℕ) → IsDeedAt deeds i (deed.Show p at seq v) → at ≡ count_by is_show (take i deeds)
  pub committed : (p i at seq : ℕ) (v : List ℕ) → IsDeedAt deeds i (deed.Show p at seq v) → StandsBefore deeds i (deed.Commit p seq v)
  pub no_commit : (p q i j seq : ℕ) (v : List ℕ) → IsDeedAt deeds i (deed.Close q) → i < j → IsDeedAt deeds j (deed.Commit p seq v) → ⊥
  pub no_show : (p q i j at seq : ℕ) (v : List ℕ) → IsDeedAt deeds i (deed.Close q) → i < j → IsDeedAt deeds j (deed.Show p at seq v) → ⊥

-- (a) to (c), the properties of the lock's deeds
pub record LockInOrder (deeds : List Deed) : Type 0 where
  pub no_two_inside : NoTwoInside deeds
  pub dead_reenters : DeadReenters deeds
  pub first_come : FirstComeFirstServed deeds

-- (a) to (d)
pub record IsPlain (deeds : List Deed) : Type 0 where
  pub lock : LockInOrder deeds
  pub mail : MailInOrder deeds
