-- Each message shown was committed, so it was sent. If the mailbox is closed some process closed it, and if the lock is
-- ruined some process ruined it.
use Rattle.std.proofs.Common.{◌≡◌, ℕ, true, List, [], ◌∷◌, All, sym, ap, ◌∙◌, subst, inl, inr, ◌⊎◌}
use Rattle.rmeworld.proofs.Common.{cases_Bool, false≢true, All-nil, All-head, All-tail, All-push, Abstract, nobody, all_done, Deed, Layout, Message, Words, Mailbox, message, is_pending, Shape, bit}
use Rattle.rmeworld.proofs.Common.{all_after, empty_state, State, after, state_led, IsAsked, mail_after, IsSent, EveryMessageWasSent, EveryCloseWasAsked, EveryRuinWasAsked, at_first, last_global_state, deeds}
use Rattle.redomail.specs.declared.deed.Deed.TheVariants as deed
use Rattle.judge.proofs.Mail.{message_parts}
use Rattle.judge.proofs.Steps.{Allowed, Allowed-from_leads}
use Rattle.rmeworld.proofs.Asked.{every_deed_was_asked}
use Rattle.rmeworld.proofs.WorldEvents.{judge_of, Kept}
use Rattle.rmeworld.proofs.Holders.{execution_comes}
use Rattle.rmeworld.proofs.LawfulNow.{Someone, Nobody, find_in}
use Rattle.rmeworld.proofs.Projection.{outers}

module _ (D : Deed → Type 0) where
  -- a message that is shown was pending or was committed
  module _ (S : Message → Type 0) (commits : (p seq : ℕ) (v : List ℕ) → D (deed.Commit p seq v) → S (message p seq v)) where
    shown_have : (s : State) (ds : List Deed) → Allowed s ds → All D ds → ((p seq : ℕ) (v : List ℕ) → is_pending s.mail.pending p seq v ≡ true → S (message p seq v)) → All S s.mail.shown → All S (all_after s ds).mail.shown
    shown_have s [] ok has pending shown = shown
    shown_have s (deed.Outer d ∷ ds) ok has pending shown = shown_have (after s (deed.Outer d)) ds ok.1 (All-tail D (deed.Outer d) ds has) pending shown
    shown_have s (deed.Commit q n w ∷ ds) ok has pending shown =
        let asked : S (message q n w) = commits q n w (All-head D (deed.Commit q n w) ds has) in
        shown_have (after s (deed.Commit q n w)) ds ok.1 (All-tail D (deed.Commit q n w) ds has)
        (λ p seq v e. let parts = message_parts q n w p seq v e in subst S (λ i. message (parts.0 i) (parts.1 i) (parts.2 i)) asked)
        shown
    shown_have s (deed.Show q at n w ∷ ds) ok has pending shown =
        shown_have (after s (deed.Show q at n w)) ds ok.1 (All-tail D (deed.Show q at n w) ds has) (λ p seq v e. absurd (false≢true e)) (All-push S s.mail.shown (message q n w) shown (pending q n w ok.0.1.1.0))
    shown_have s (deed.Close q ∷ ds) ok has pending shown = shown_have (after s (deed.Close q)) ds ok.1 (All-tail D (deed.Close q) ds has) pending shown
    shown_have s (deed.Ruin q ∷ ds) ok has pending shown = shown_have (after s (deed.Ruin q)) ds ok.1 (All-tail D (deed.Ruin q) ds has) pending shown

  closed_by : (s : State) (ds : List Deed) → All D ds → (all_after s ds).mail.closed ≡ true → (s.mail.closed ≡ true) ⊎ ((p : ℕ) × D (deed.Close p))
  closed_by s [] has e = inl e
  closed_by s (deed.Outer d ∷ ds) has e = closed_by (after s (deed.Outer d)) ds (All-tail D (deed.Outer d) ds has) e
  closed_by s (deed.Commit q n w ∷ ds) has e = closed_by (after s (deed.Commit q n w)) ds (All-tail D (deed.Commit q n w) ds has) e
  closed_by s (deed.Show q at n w ∷ ds) has e = closed_by (after s (deed.Show q at n w)) ds (All-tail D (deed.Show q at n w) ds has) e
  closed_by s (deed.Close q ∷ ds) has e = inr (q, All-head D (deed.Close q) ds has)
  closed_by s (deed.Ruin q ∷ ds) has e = closed_by (after s (deed.Ruin q)) ds (All-tail D (deed.Ruin q) ds has) e

  ruined_by : (s : State) (ds : List Deed) → All D ds → (all_after s ds).mail.ruined ≡ true → (s.mail.ruined ≡ true) ⊎ ((p : ℕ) × D (deed.Ruin p))
  ruined_by s [] has e = inl e
  ruined_by s (deed.Outer d ∷ ds) has e = ruined_by (after s (deed.Outer d)) ds (All-tail D (deed.Outer d) ds has) e
  ruined_by s (deed.Commit q n w ∷ ds) has e = ruined_by (after s (deed.Commit q n w)) ds (All-tail D (deed.Commit q n w) ds has) e
  ruined_by s (deed.Show q at n w ∷ ds) has e = ruined_by (after s (deed.Show q at n w)) ds (All-tail D (deed.Show q at n w) ds has) e
  ruined_by s (deed.Close q ∷ ds) has e = ruined_by (after s (deed.Close q)) ds (All-tail D (deed.Close q) ds has) e
  ruined_by s (deed.Ruin q ∷ ds) has e = inr (q, All-head D (deed.Ruin q) ds has)

pub every_message_was_sent : EveryMessageWasSent
every_message_was_sent l limit execution layout reports =
    let s : State = empty_state l.procs l.cap in
    let there = (execution_comes l limit execution layout reports).1 in
    shown_have (IsAsked l limit execution) (IsSent execution) (λ p seq v h. h) s (deeds l limit at_first execution) (Allowed-from_leads s _ (deeds l limit at_first execution) there.1) (every_deed_was_asked l limit execution layout reports)
    (λ p seq v e. absurd (false≢true e))
    (All-nil (IsSent execution))

pub every_close_was_asked : EveryCloseWasAsked
every_close_was_asked l limit execution layout reports e =
    elim (closed_by (IsAsked l limit execution) (empty_state l.procs l.cap) (deeds l limit at_first execution) (every_deed_was_asked l limit execution layout reports) e) [ inl first ↦ absurd (false≢true first) | inr asked ↦ asked ]

-- the words have the shape for some process
shape_for : (l : Layout) (a : Abstract) (w : Words) (m : Mailbox) → Kept l a w m → (p : ℕ) × Shape l p w m
shape_for l a w m k = by (find_in l.procs a.phase)
  where
    by : Someone l.procs a.phase ⊎ Nobody l.procs a.phase → (p : ℕ) × Shape l p w m
    by (inl h) = (h.0, k.shape h.0 (λ r lt i. k.sole r h.0 lt h.1 i h.2))
    by (inr none) = (0, k.shape 0 (λ r lt i. absurd (none r lt i)))

pub every_ruin_was_asked : EveryRuinWasAsked
every_ruin_was_asked l limit execution layout reports ne =
    let s : State = empty_state l.procs l.cap in
    let there = (execution_comes l limit execution layout reports).1 in
    let a : Abstract = all_done nobody (outers l limit at_first execution) in
    let shape = (shape_for l a (last_global_state l limit at_first execution).cells there.0.mail there.0.kept).1 in
    let is : judge_of l a there.0.mail ≡ all_after s (deeds l limit at_first execution) = state_led s (judge_of l a there.0.mail) (deeds l limit at_first execution) there.1 in
    let ruined : (mail_after l limit execution).ruined ≡ true = sym (ap (λ (x : State). x.mail.ruined) is) ∙ elim (cases_Bool there.0.mail.ruined) [ inl t ↦ t | inr f ↦ absurd (ne (shape.ruined ∙ ap bit f)) ] in
    elim (ruined_by (IsAsked l limit execution) s (deeds l limit at_first execution) (every_deed_was_asked l limit execution layout reports) ruined) [ inl first ↦ absurd (false≢true first) | inr asked ↦ asked ]
