-- A run of a safe script keeps the mailbox and the entries below count.
use Rattle.std.proofs.Common.{ℕ, zero, suc, List, refl, subst, sym}
use Rattle.redomail.proofs.Common.{Deed, Layout, Message, Reply, Task, deeds_of_put, Words, MailLeads, Mailbox, MayBegin, added_by, StepKept, ScriptRun, stepped_to, run_steps, start, IsTaskUnderWay, Safe, Done, Put}
use Rattle.redomail.proofs.Common.{Script, tail, Get, script}
use Rattle.redomail.proofs.Leading.{leads_on}
use Rattle.redomail.specs.Laws.{StepsStaySafe, EntriesStand}
use Rattle.redomail.proofs.Stands.{shown_entries_stand}
use Rattle.redomail.proofs.Safe.{seen}
use Rattle.redomail.proofs.Begins.{begun_safe}

module _ (l : Layout) (p : ℕ) (m : Message) (s0 : Mailbox) where
  -- after some steps: the deeds so far are allowed, and the rest is safe
  abbrev pub Stood : ScriptRun Reply → Type 0
  Stood x = (s : Mailbox) × MailLeads l.cap s0 x.deeds s × Safe l p m s0 x.left x.words s

  step_on : (e : Script Reply) (w : Words) (ds : List Deed) (s : Mailbox) → MailLeads l.cap s0 ds s → Safe l p m s0 e w s → Stood (stepped_to l p e w ds)
  step_on (Get i next) w ds s e h = (s, e, h.1)
  step_on (Put i v rest) w ds s e h =
      let g = h.2 in (g.0, leads_on l.cap s0 s g.0 ds (deeds_of_put l p w i v) e g.1, g.2)
  step_on (Done a) w ds s e h = (s, e, h)

  pub Stood-ran : (k : ℕ) (x : ScriptRun Reply) → Stood x → Stood (run_steps l p k x)
  Stood-ran zero x h = h
  Stood-ran (suc k) x h =
      let g = Stood-ran k x h in let y = run_steps l p k x in step_on y.left y.words y.deeds g.0 g.1 g.2

  pub Kept-from_stood : (x : ScriptRun Reply) → Stood x → IsTaskUnderWay l p m s0 x
  Kept-from_stood x h =
      let a = seen l p m s0 x.left x.words h.0 h.2 in
      record { state = h.0; legal = h.1; shape = a.0; shown = a.1 }

pub steps_stay_safe : StepsStaySafe
steps_stay_safe l p m old (Get i next) w now h = (now, refl, h.1)
steps_stay_safe l p m old (Put i v rest) w now h = h.2
steps_stay_safe l p m old (Done a) w now h = (now, refl, h)

pub step_kept : (e : Script Reply) (x : ℕ) → StepKept e x (tail e x)
step_kept (Get i next) x l p m old w now h e = (now, refl, subst (λ y. Safe l p m old (next y) w now) (sym e) h.1)
step_kept (Put i v rest) x l p m old w now h e = h.2
step_kept (Done a) x l p m old w now h e = (now, refl, h)

pub stood : (l : Layout) (p : ℕ) (t : Task) (w : Words) (s : Mailbox) (k : ℕ) → MayBegin l p t w s → Stood l p (added_by l t p w) s (run_steps l p k (start (script l p t) w))
stood l p t w s k may = Stood-ran l p (added_by l t p w) s k (start (script l p t) w) (s, refl, begun_safe l p t w s may)

pub tasks_keep : (l : Layout) (p : ℕ) (t : Task) (w : Words) (s : Mailbox) (k : ℕ) → MayBegin l p t w s → IsTaskUnderWay l p (added_by l t p w) s (run_steps l p k (start (script l p t) w))
tasks_keep l p t w s k may = Kept-from_stood l p (added_by l t p w) s _ (stood l p t w s k may)

pub entries_stand : EntriesStand
entries_stand l p t w s k may =
    let kept = tasks_keep l p t w s k may in
    shown_entries_stand l p p w (run_steps l p k (start (script l p t) w)).words s kept.state
    (run_steps l p k (start (script l p t) w)).deeds may.shape kept.legal kept.shape
