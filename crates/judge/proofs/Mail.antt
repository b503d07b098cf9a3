-- The mailbox: the Shows of each sender are numbered from 1, committed before, and placed by their count. None follows a
-- Close.
use Rattle.std.proofs.Common.{◌≡◌, ℕ, zero, suc, ◌+◌, ◌<◌, true, ◌&&◌, ◌==◌, bytes_eq, List, [], ◌∷◌, length, take, count_by, Option, Some, None, is_none, refl, ◌⊎◌, sym, ◌∙◌, subst, inl, inr, arith, length-append, true≢false, eqb-true}
use Rattle.judge.proofs.Common.{false≢true, and_parts, not-true, Begin, AllHold, Deed, Message, is_by, is_pending, message, IsDeedAt, is_show, is_show_of, StandsBefore, MailInOrder, State, needs, after}
use Rattle.judge.proofs.Common.{empty_state}
use Rattle.std.proofs.lemmas.Slice.Eq.{bytes_eq-Decides}
use Rattle.redomail.specs.declared.deed.Deed.TheVariants as deed
use Rattle.judge.proofs.Counts.{one_if, count_cons, count_push}
use Rattle.judge.proofs.Steps.{Allowed}

-- the number of p's messages shown
abbrev shown_of : State → ℕ → ℕ
shown_of s p = count_by (is_by p) s.mail.shown

-- A pending message has the next number of its sender.
abbrev pub MailSound : State → Type 0
MailSound s = (p seq : ℕ) (v : List ℕ) → is_pending s.mail.pending p seq v ≡ true → seq ≡ shown_of s p + 1

pub MailSound-empty : (procs cap : ℕ) → MailSound (empty_state procs cap)
MailSound-empty procs cap p seq v e = absurd (false≢true e)

same_words : (xs ys : List ℕ) → bytes_eq xs ys ≡ true → xs ≡ ys
same_words xs ys e = (bytes_eq-Decides xs ys).0 e

-- the parts of a message, from tests of the parts
pub message_parts : (a b : ℕ) (c : List ℕ) (p seq : ℕ) (v : List ℕ) → ((a == p) && (b == seq) && bytes_eq c v) ≡ true → (a ≡ p) × (b ≡ seq) × (c ≡ v)
message_parts a b c p seq v e =
    let h = and_parts ((a == p) && (b == seq)) (bytes_eq c v) e in
    let g = and_parts (a == p) (b == seq) h.0 in
    (eqb-true a p g.0, eqb-true b seq g.1, same_words c v h.1)

-- the needs of a Commit, as facts
commit_numbered : (s : State) (p seq : ℕ) (v : List ℕ) → AllHold (needs s (deed.Commit p seq v)) → seq ≡ shown_of s p + 1
commit_numbered s p seq v h = eqb-true seq (shown_of s p + 1) h.1.1.1.1.1.0

MailSound-after : (s : State) (d : Deed) → AllHold (needs s d) → MailSound s → MailSound (after s d)
MailSound-after s (deed.Commit q n w) h sound = λ p seq v e.
    let parts = message_parts q n w p seq v e in
    let P : ℕ → Type 0 = λ k. n ≡ shown_of s k + 1 in
    sym parts.1 ∙ subst P parts.0 (commit_numbered s q n w h)
MailSound-after s (deed.Show q at n w) h sound = λ p seq v e. absurd (false≢true e)
MailSound-after s (deed.Outer (Begin q)) h sound = sound
MailSound-after s _ h sound = sound

-- only a Show adds to the messages shown
shown_of-after : (s : State) (d : Deed) (p : ℕ) → shown_of (after s d) p ≡ shown_of s p + one_if (is_show_of p d)
shown_of-after s (deed.Show q at n w) p = count_push (is_by p) s.mail.shown (message q n w)
shown_of-after s (deed.Outer (Begin q)) p = omega arith
shown_of-after s _ p = omega arith

length-after : (s : State) (d : Deed) → length (after s d).mail.shown ≡ length s.mail.shown + one_if (is_show d)
length-after s (deed.Show q at n w) = omega (arith, length-append s.mail.shown (message q n w ∷ []))
length-after s (deed.Outer (Begin q)) = omega arith
length-after s _ = omega arith

-- the needs of a Show, as facts
shows : (s : State) (d : Deed) (p at seq : ℕ) (v : List ℕ) → AllHold (needs s d) → d ≡ deed.Show p at seq v → AllHold (needs s (deed.Show p at seq v))
shows s d p at seq v h e = let P : Deed → Type 0 = λ k. AllHold (needs s k) in subst P e h

-- From any state, a Show's number counts the messages shown in it and the Shows since.
pub numbered : (s : State) (ds : List Deed) → MailSound s → Allowed s ds → (p i at seq : ℕ) (v : List ℕ) → IsDeedAt ds i (deed.Show p at seq v) → seq ≡ shown_of s p + count_by (is_show_of p) (take i ds) + 1
numbered s [] sound ok p i at seq v here = absurd here
numbered s (d ∷ ds) sound ok p zero at seq v here =
    let e = sound p seq v (shows s d p at seq v ok.0 here).1.1.0 in omega (arith, e)
numbered s (d ∷ ds) sound ok p (suc i) at seq v here =
    let ih = numbered (after s d) ds (MailSound-after s d ok.0 sound) ok.1 p i at seq v here in
    omega (arith, ih, shown_of-after s d p, count_cons (is_show_of p) d (take i ds))

pub placed : (s : State) (ds : List Deed) → Allowed s ds → (p i at seq : ℕ) (v : List ℕ) → IsDeedAt ds i (deed.Show p at seq v) → at ≡ length s.mail.shown + count_by is_show (take i ds)
placed s [] ok p i at seq v here = absurd here
placed s (d ∷ ds) ok p zero at seq v here =
    let e = eqb-true at (length s.mail.shown) (shows s d p at seq v ok.0 here).1.1.1.0 in omega (arith, e)
placed s (d ∷ ds) ok p (suc i) at seq v here =
    let ih = placed (after s d) ds ok.1 p i at seq v here in
    omega (arith, ih, length-after s d, count_cons is_show d (take i ds))

-- a message pending after a deed was pending before it, or the deed commits it
pending_since : (s : State) (d : Deed) (p seq : ℕ) (v : List ℕ) → is_pending (after s d).mail.pending p seq v ≡ true → (is_pending s.mail.pending p seq v ≡ true) ⊎ (d ≡ deed.Commit p seq v)
pending_since s (deed.Commit q n w) p seq v e =
    let parts = message_parts q n w p seq v e in
    let a = parts.0 in let b = parts.1 in let c = parts.2 in
    inr cc
pending_since s (deed.Show q at n w) p seq v e = absurd (false≢true e)
pending_since s (deed.Outer (Begin q)) p seq v e = inl e
pending_since s _ p seq v e = inl e

-- From any state, a message that is shown was pending in it or is committed since.
pub committed : (s : State) (ds : List Deed) → Allowed s ds → (p i at seq : ℕ) (v : List ℕ) → IsDeedAt ds i (deed.Show p at seq v) → (is_pending s.mail.pending p seq v ≡ true) ⊎ StandsBefore ds i (deed.Commit p seq v)
committed s [] ok p i at seq v here = absurd here
committed s (d ∷ ds) ok p zero at seq v here = inl (shows s d p at seq v ok.0 here).1.1.0
committed s (d ∷ ds) ok p (suc i) at seq v here =
    elim (committed (after s d) ds ok.1 p i at seq v here) [
      | inr w ↦ inr (suc w.0, omega (arith, w.1), w.2)
      | inl e ↦
          elim (pending_since s d p seq v e) [ inl was ↦ inl was | inr is ↦ inr (0, omega arith, is) ]
    ]

-- closed, and nothing is pending
abbrev pub Silent : State → Type 0
Silent s = (s.mail.closed ≡ true) × (is_none s.mail.pending ≡ true)

none_pending : (o : Option Message) (p seq : ℕ) (v : List ℕ) → is_none o ≡ true → is_pending o p seq v ≡ true → ⊥
none_pending None p seq v e h = false≢true h
none_pending (Some m) p seq v e h = false≢true e

no_commit_now : (s : State) (p seq : ℕ) (v : List ℕ) → AllHold (needs s (deed.Commit p seq v)) → Silent s → ⊥
no_commit_now s p seq v h silent = true≢false (sym silent.0 ∙ not-true s.mail.closed h.1.1.1.1.1.1.0)

no_show_now : (s : State) (p at seq : ℕ) (v : List ℕ) → AllHold (needs s (deed.Show p at seq v)) → Silent s → ⊥
no_show_now s p at seq v h silent = none_pending s.mail.pending p seq v silent.1 h.1.1.0

-- a Close leaves the mailbox closed, with nothing pending
closes : (s : State) (d : Deed) (q : ℕ) → AllHold (needs s d) → d ≡ deed.Close q → Silent (after s d)
closes s d q h e =
    let P : Deed → Type 0 = λ k. AllHold (needs s k) → Silent (after s k) in
    subst P (sym e) (λ g. (refl, g.1.1.0)) h

Silent-after : (s : State) (d : Deed) → AllHold (needs s d) → Silent s → Silent (after s d)
Silent-after s (deed.Commit q n w) h silent = absurd (no_commit_now s q n w h silent)
Silent-after s (deed.Show q at n w) h silent = (silent.0, refl)
Silent-after s (deed.Close q) h silent = (refl, silent.1)
Silent-after s (deed.Outer (Begin q)) h silent = silent
Silent-after s _ h silent = silent

-- neither comes after a Close
pub none_after : (s : State) (ds : List Deed) → Silent s → Allowed s ds → (p j at seq : ℕ) (v : List ℕ) → (IsDeedAt ds j (deed.Commit p seq v) → ⊥) × (IsDeedAt ds j (deed.Show p at seq v) → ⊥)
none_after s [] silent ok p j at seq v = (λ here. here, λ here. here)
none_after s (d ∷ ds) silent ok p zero at seq v =
    let P : Deed → Type 0 = λ k. AllHold (needs s k) in
    (λ here. no_commit_now s p seq v (subst P here ok.0) silent, λ here. no_show_now s p at seq v (subst P here ok.0) silent)
none_after s (d ∷ ds) silent ok p (suc j) at seq v = none_after (after s d) ds (Silent-after s d ok.0 silent) ok.1 p j at seq v

pub after_close : (s : State) (ds : List Deed) → Allowed s ds → (p q i j at seq : ℕ) (v : List ℕ) → IsDeedAt ds i (deed.Close q) → i < j → (IsDeedAt ds j (deed.Commit p seq v) → ⊥) × (IsDeedAt ds j (deed.Show p at seq v) → ⊥)
after_close s [] ok p q i j at seq v close l = absurd close
after_close s (d ∷ ds) ok p q i zero at seq v close l = absurd (omega arith)
after_close s (d ∷ ds) ok p q zero (suc j) at seq v close l =
    none_after (after s d) ds (closes s d q ok.0 close) ok.1 p j at seq v
after_close s (d ∷ ds) ok p q (suc i) (suc j) at seq v close l =
    after_close (after s d) ds ok.1 p q i j at seq v close (omega arith)

pub MailInOrder-from_allowed : (procs cap : ℕ) (ds : List Deed) → Allowed (empty_state procs cap) ds → MailInOrder ds
MailInOrder-from_allowed procs cap ds ok = record {
  numbered = λ p i at seq v here. omega (arith, numbered (empty_state procs cap) ds (MailSound-empty procs cap) ok p i at seq v here);
  placed = λ p i at seq v here. omega (arith, placed (empty_state procs cap) ds ok p i at seq v here);
  committed = λ p i at seq v here.
      elim (committed (empty_state procs cap) ds ok p i at seq v here) [ inl e ↦ absurd (false≢true e) | inr w ↦ w ];
  no_commit = λ p q i j seq v close l. (after_close (empty_state procs cap) ds ok p q i j 0 seq v close l).0;
  no_show = λ p q i j at seq v close l. (after_close (empty_state procs cap) ds ok p q i j at seq v close l).1;
}
