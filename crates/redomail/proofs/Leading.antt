-- Lists of mailbox deeds, one after another.
use Rattle.std.proofs.Common.{◌≡◌, ℕ, true, List, [], ◌∷◌, ◌++◌, refl, sym, subst}
use Rattle.redomail.proofs.Common.{AllHold, Deed, MailLeads, Mailbox, mailbox_after}
use Rattle.redomail.specs.Mailbox.{row}

pub no_deed : (cap : ℕ) (s : Mailbox) (ds : List Deed) → ds ≡ [] → MailLeads cap s ds s
no_deed cap s ds e = subst (λ xs. MailLeads cap s xs s) (sym e) refl

pub one_deed : (cap : ℕ) (s : Mailbox) (ds : List Deed) (d : Deed) → ds ≡ d ∷ [] → AllHold (row cap true s d) → MailLeads cap s ds (mailbox_after s d)
one_deed cap s ds d e holds = subst (λ xs. MailLeads cap s xs (mailbox_after s d)) (sym e) (holds, refl)

pub leads_on : (cap : ℕ) (s t u : Mailbox) (ds es : List Deed) → MailLeads cap s ds t → MailLeads cap t es u → MailLeads cap s (ds ++ es) u
leads_on cap s t u [] es first then = subst (λ x. MailLeads cap x es u) (sym first) then
leads_on cap s t u (d ∷ ds) es first then = (first.0, leads_on cap (mailbox_after s d) t u ds es first.1 then)
