-- The lock's part and the mailbox's part of a list of deeds.
use Rattle.std.proofs.Common.{◌≡◌, ℕ, Bool, true, List, [], ◌∷◌, ◌++◌, map, Some, None, is_none, Ok, refl, sym, ◌∙◌, ap, subst}
use Rattle.judge.proofs.Common.{cond-true, Fault, Outer, Leave, Abstract, Legal, abstract_after, is_inside, lock_doer, nobody, AllHold, first_fault, Deed, Mailbox, row, nothing_shown, LockAllows, MailAllows, outers}
use Rattle.judge.proofs.Common.{all_after, and_then, judged_all, Leads, State, lock_needs, mail_needs, needs, after, empty_state, unless, state_after_deed}
use Rattle.redomail.specs.declared.deed.Deed.TheVariants as deed
use Rattle.judge.proofs.Steps.{Allowed, Allowed-from_leads}
use Rattle.judge.proofs.Histories.{same_state}

pub AllHold-append : (xs ys : List (Bool × Fault)) → AllHold xs → AllHold ys → AllHold (xs ++ ys)
AllHold-append [] ys h g = g
AllHold-append (x ∷ xs) ys h g = (h.0, AllHold-append xs ys h.1 g)

AllHold-left : (xs ys : List (Bool × Fault)) → AllHold (xs ++ ys) → AllHold xs
AllHold-left [] ys h = tt
AllHold-left (x ∷ xs) ys h = (h.0, AllHold-left xs ys h.1)

AllHold-right : (xs ys : List (Bool × Fault)) → AllHold (xs ++ ys) → AllHold ys
AllHold-right [] ys h = h
AllHold-right (x ∷ xs) ys h = AllHold-right xs ys h.1

no_fault : (ns : List (Bool × Fault)) → AllHold ns → first_fault ns ≡ None
no_fault [] h = refl
no_fault (n ∷ ns) h = cond-true n.0 (first_fault ns) (Some n.1) h.0 ∙ no_fault ns h.1

pub judged-allowed : (s : State) (d : Deed) → AllHold (needs s d) → state_after_deed s d ≡ Ok (after s d)
judged-allowed s d h = ap (λ o. unless o (after s d)) (no_fault (needs s d) h)

pub Leads-allowed : (s : State) (ds : List Deed) → Allowed s ds → Leads s ds (all_after s ds)
Leads-allowed s [] ok = refl
Leads-allowed s (d ∷ ds) ok =
    ap (λ r. and_then r (λ t. judged_all t ds)) (judged-allowed s d ok.0) ∙ Leads-allowed (after s d) ds ok.1

-- where one process may be inside, the lock is the abstract lock
pub LockAllows-legal : (n : ℕ) (a : Abstract) (ds : List Outer) → Legal n a ds → LockAllows 1 n a ds
LockAllows-legal n a [] legal = tt
LockAllows-legal n a (d ∷ ds) legal = (legal.0, LockAllows-legal n (abstract_after a d) ds legal.1)

pub Legal-allowed : (n : ℕ) (a : Abstract) (ds : List Outer) → LockAllows 1 n a ds → Legal n a ds
Legal-allowed n a [] ok = tt
Legal-allowed n a (d ∷ ds) ok = (ok.0, Legal-allowed n (abstract_after a d) ds ok.1)

-- both parts together
pub Allowed-halves : (s : State) (ds : List Deed) → LockAllows s.most_inside s.procs s.lock (outers ds) → MailAllows s.procs s.cap s.lock s.mail ds → Allowed s ds
Allowed-halves s [] lock mail = tt
Allowed-halves s (deed.Outer d ∷ ds) lock mail = ((mail.0, AllHold-append _ _ lock.0.1 mail.1), Allowed-halves (after s (deed.Outer d)) ds lock.1 mail.2)
Allowed-halves s (deed.Commit p seq v ∷ ds) lock mail = ((mail.0, mail.1), Allowed-halves (after s (deed.Commit p seq v)) ds lock mail.2)
Allowed-halves s (deed.Show p at seq v ∷ ds) lock mail = ((mail.0, mail.1), Allowed-halves (after s (deed.Show p at seq v)) ds lock mail.2)
Allowed-halves s (deed.Close p ∷ ds) lock mail = ((mail.0, mail.1), Allowed-halves (after s (deed.Close p)) ds lock mail.2)
Allowed-halves s (deed.Ruin p ∷ ds) lock mail = ((mail.0, mail.1), Allowed-halves (after s (deed.Ruin p)) ds lock mail.2)

pub lock_half : (s : State) (ds : List Deed) → Allowed s ds → LockAllows s.most_inside s.procs s.lock (outers ds)
lock_half s [] ok = tt
lock_half s (deed.Outer d ∷ ds) ok = ((ok.0.0, AllHold-left (lock_needs s (deed.Outer d)) _ ok.0.1), lock_half (after s (deed.Outer d)) ds ok.1)
lock_half s (deed.Commit p seq v ∷ ds) ok = lock_half (after s (deed.Commit p seq v)) ds ok.1
lock_half s (deed.Show p at seq v ∷ ds) ok = lock_half (after s (deed.Show p at seq v)) ds ok.1
lock_half s (deed.Close p ∷ ds) ok = lock_half (after s (deed.Close p)) ds ok.1
lock_half s (deed.Ruin p ∷ ds) ok = lock_half (after s (deed.Ruin p)) ds ok.1

pub mail_half : (s : State) (ds : List Deed) → Allowed s ds → MailAllows s.procs s.cap s.lock s.mail ds
mail_half s [] ok = tt
mail_half s (d ∷ ds) ok = (ok.0.0, AllHold-right (lock_needs s d) (mail_needs s d) ok.0.1, mail_half (after s d) ds ok.1)

-- if nothing is pending, the mailbox allows each deed of the lock
mail_of_outer : (cap : ℕ) (inside : Bool) (m : Mailbox) (d : Outer) → is_none m.pending ≡ true → AllHold (row cap inside m (deed.Outer d))
mail_of_outer cap inside m (Leave p) e = (rw e refl, tt)
mail_of_outer cap inside m _ e = tt

pub MailAllows-outers : (n cap : ℕ) (a : Abstract) (m : Mailbox) (ds : List Outer) → is_none m.pending ≡ true → Legal n a ds → MailAllows n cap a m (map deed.Outer ds)
MailAllows-outers n cap a m [] e legal = tt
MailAllows-outers n cap a m (d ∷ ds) e legal =
    (legal.0.0, mail_of_outer cap (is_inside (a.phase (lock_doer d))) m d e, MailAllows-outers n cap (abstract_after a d) m ds e legal.1)

pub outers-map : (ds : List Outer) → outers (map deed.Outer ds) ≡ ds
outers-map [] = refl
outers-map (d ∷ ds) = ap (λ es. d ∷ es) (outers-map ds)

-- deeds of the lock alone, beside an empty mailbox
pub Allowed-outers : (n cap : ℕ) (ds : List Outer) → Legal n nobody ds → Allowed (empty_state n cap) (map deed.Outer ds)
Allowed-outers n cap ds legal =
    Allowed-halves (empty_state n cap) (map deed.Outer ds) (LockAllows-legal n nobody (outers (map deed.Outer ds)) (subst (Legal n nobody) (sym (outers-map ds)) legal)) (MailAllows-outers n cap nobody nothing_shown ds refl legal)

-- the state after legal deeds
pub state_led : (s t : State) (ds : List Deed) → Leads s ds t → t ≡ all_after s ds
state_led s t ds e = same_state t (all_after s ds) (sym e ∙ Leads-allowed s ds (Allowed-from_leads s t ds e))
