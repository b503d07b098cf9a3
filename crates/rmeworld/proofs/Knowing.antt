-- What each process knows of the data words. Inside with a script: the rest of the script is safe, and how it ends. Inside
-- and mended: the words are clean. At its exit: they are clean or ruined.
use Rattle.std.proofs.Common.{◌≡◌, ℕ, ◌<◌, Bool, true, false, ◌&&◌, ◌==◌, length, if◌then◌else◌, List, refl, sym, ap, ◌∙◌, subst, inl, inr, arith, eqb-true, true≢false}
use Rattle.rmeworld.proofs.Common.{cases_Bool, and_parts, eqb-false, Phase, Within, Place, Leaving, Inside, Layout, Message, Reply, Mended, Ruined, Stored, Already, Task, Words, IsLayout, Mailbox}
use Rattle.rmeworld.proofs.Common.{message, Safe, Script, Get, Put, Done, Shape, bit, recorded_message, script, consistent, Purpose, Ruining, Mending, Working, Checking, AppendTells, PurposeTells, ScriptState, Free}
use Rattle.rmeworld.proofs.Common.{Doing, ProcessState, process_after_script, end_place, end_mended}
use Rattle.redomail.specs.declared.task.Task.TheVariants as task
use Rattle.redomail.specs.Runs.{answer, final, added_by, Allowed, MayBegin}
use Rattle.redomail.specs.Endings.{FindsArmed, ruined_after, armed_after}
use Rattle.redomail.proofs.Begins.{begun_safe, consistent_safe}
use Rattle.redomail.proofs.Endings.{tasks_end, consistent_ends}
use Rattle.redomail.proofs.Steps.{consistent_reported}
use Rattle.redomail.proofs.Among.{answered_is_shown}

-- ruined is 0 and no record is armed
abbrev pub Clean : Words → Type 0
Clean w = (w 0 ≡ 0) × (w 3 ≡ 0)

-- the reply and the words at a script's end
abbrev pub Ends : Purpose → Bool → Reply → Words → Type 0
Ends Checking b (Ruined true) w = w 0 ≡ 1
Ends Checking b (Ruined false) w = b ≡ true → Clean w
Ends Checking b _ w = ⊥
Ends Ruining b a w = w 0 ≡ 1
Ends Mending b (Mended repaired) w = Clean w
Ends Mending b _ w = b ≡ true → Clean w
Ends (Working t) b a w = b ≡ true → Clean w

-- the message of an append is its own
abbrev pub Mine : Purpose → ℕ → Message → Type 0
Mine (Working (task.Append seq value)) p m = message p seq value ≡ m
Mine _ p m = Unit {0}

pub record Work (l : Layout) (p : ℕ) (w : Words) (s : Mailbox) (b : Bool) (purpose : Purpose) (left : Script Reply) : Type 0 where
  pub m : Message
  pub old : Mailbox
  pub safe : Safe l p m old left w s
  pub ends : Ends purpose b (answer left w) (final left w)
  pub mine : Mine purpose p m

-- the data words, and the mailbox that they hold
pub record MailStore : Type 0 where
  pub words : Words
  pub mail : Mailbox

abbrev pub mail_store : Words → Mailbox → MailStore
mail_store words mail = record { words = words; mail = mail }

-- what a process knows of them after an event
abbrev pub Post : Layout → ℕ → Phase → MailStore → Bool → ScriptState → Place → Type 0
Post l p ph store b (Doing purpose left) lock = (lock ≡ Inside) × (ph ≡ Within) × Work l p store.words store.mail b purpose left
Post l p ph store b Free Inside = (ph ≡ Within) × (b ≡ true → Clean store.words)
Post l p ph store b Free Leaving = (ph ≡ Within) × (store.words 0 ≡ 0 → store.words 3 ≡ 0)
Post l p ph store b Free _ = Unit {0}

abbrev pub PostAt : Layout → ℕ → Phase → Words → Mailbox → ProcessState → Type 0
PostAt l p ph w s process_state = Post l p ph (mail_store w s) process_state.mended process_state.script_state process_state.lock

module _ (l : Layout) (p : ℕ) where
  end_post : (ph : Phase) (w : Words) (s : Mailbox) (b : Bool) (purpose : Purpose) (a : Reply) → ph ≡ Within → Ends purpose b a w → Post l p ph (mail_store w s) (end_mended purpose b a) Free (end_place purpose a)
  end_post ph w s b Checking (Ruined true) h e = (h, λ z. absurd (omega arith))
  end_post ph w s b Checking (Ruined false) h e = (h, e)
  end_post ph w s b Checking _ h e = absurd (e)
  end_post ph w s b Ruining a h e = (h, λ z. absurd (omega arith))
  end_post ph w s b Mending (Mended repaired) h e = (h, λ _. e)
  end_post ph w s b Mending _ h e = (h, e)
  end_post ph w s b (Working t) a h e = (h, e)

  -- after a step of a script
  pub settled_post : (ph : Phase) (w : Words) (s : Mailbox) (b c : Bool) (purpose : Purpose) (e : Script Reply) → ph ≡ Within → Work l p w s b purpose e → PostAt l p ph w s (process_after_script b c purpose e)
  settled_post ph w s b c purpose (Get i rest) h k = (refl, h, k)
  settled_post ph w s b c purpose (Put i v rest) h k = (refl, h, k)
  settled_post ph w s b c purpose (Done a) h k = end_post ph w s b purpose a h k.ends

  -- a process that isn't in knows nothing, and stays so
  pub Post-out : (ph : Phase) (w w' : Words) (s s' : Mailbox) (b : Bool) (script_state : ScriptState) (lock : Place) → (ph ≡ Within → ⊥) → Post l p ph (mail_store w s) b script_state lock → Post l p ph (mail_store w' s') b script_state lock
  Post-out ph w w' s s' b (Doing purpose left) lock out k = absurd (out k.1)
  Post-out ph w w' s s' b Free Inside out k = absurd (out k.0)
  Post-out ph w w' s s' b Free Leaving out k = absurd (out k.0)
  Post-out ph w w' s s' b Free _ out k = tt

-- the scripts at their start, for a process inside with words of this shape
module _ (l : Layout) (p : ℕ) (w : Words) (s : Mailbox) (layout : IsLayout l) (below : p < l.procs) (shape : Shape l p w s) where
  sound : w 0 ≡ 0 → s.ruined ≡ false
  sound z = elim (cases_Bool s.ruined) [ inl t ↦ absurd (let one : w 0 ≡ 1 = shape.ruined ∙ ap bit t in omega arith) | inr f ↦ f ]

  zero_or_one : (w 0 == 1) ≡ false → w 0 ≡ 0
  zero_or_one f =
      let ne = eqb-false (w 0) 1 f in
      elim (cases_Bool s.ruined) [ inl t ↦ absurd (ne (shape.ruined ∙ ap bit t)) | inr e ↦ shape.ruined ∙ ap bit e ]

  may : (t : Task) → Allowed l t w s → MayBegin l p t w s
  may t allowed = record { layout = layout; process = below; shape = shape; allowed = allowed }

  pub checking : (b : Bool) → (b ≡ true → w 0 ≡ 0 → w 3 ≡ 0) → Work l p w s b Checking (script l p task.Check)
  checking b clean = record {
    m = added_by l task.Check p w;
    old = s;
    safe = begun_safe l p task.Check w s (may task.Check tt);
    ends =
        elim (cases_Bool (w 0 == 1)) [
          | inl t ↦ rw t (eqb-true (w 0) 1 t)
          | inr f ↦ rw f (λ h. (zero_or_one f, clean h (zero_or_one f)))
        ];
    mine = tt;
  }

  pub ruining : (b : Bool) → Work l p w s b Ruining (script l p task.Ruin)
  ruining b = record {
    m = added_by l task.Ruin p w;
    old = s;
    safe = begun_safe l p task.Ruin w s (may task.Ruin tt);
    ends = refl;
    mine = tt;
  }

  -- the end of `consistent`: if the lock isn't ruined, mended and clean
  mended_by : (a : Reply) (v : Words) (b repaired : Bool) → (w 0 == 1) ≡ b → a ≡ (if b then Ruined true else Mended repaired) → (v 0 ≡ w 0) → ((w 0 ≡ 1 → ⊥) → v 3 ≡ 0) → Ends Mending false a v
  mended_by a v true repaired t is zero armed = rw is (λ h. absurd (true≢false (sym h)))
  mended_by a v false repaired f is zero armed =
      let off = zero_or_one f in
      rw is (zero ∙ off, armed (λ one. omega arith))

  pub mending : Work l p w s false Mending (consistent l p)
  mending =
      let reports = consistent_reported l p w in
      let ends = consistent_ends l p w in
      record {
        m = recorded_message l p w;
        old = s;
        safe = consistent_safe l p w s layout below shape;
        ends = mended_by (answer (consistent l p) w) (final (consistent l p) w) (w 0 == 1) _ refl reports.1 ends.0 ends.1;
        mine = tt;
      }

  -- a task that keeps ruined, and armed 0
  pub calm : (t : Task) → FindsArmed t (w 3) → ruined_after t (w 0) ≡ w 0 → (w 3 ≡ 0 → armed_after t (w 3) ≡ 0) → Clean w → Clean (final (script l p t) w)
  calm t finds ruined armed c = let e = tasks_end l p t w finds in (e.0 ∙ (ruined ∙ c.0), e.1 ∙ armed c.1)

  pub appending : (b : Bool) (seq : ℕ) (value : List ℕ) → (b && (length value == l.width)) ≡ true → (b ≡ true → Clean w) → Work l p w s b (Working (task.Append seq value)) (script l p (task.Append seq value))
  appending b seq value asked clean =
      let both = and_parts b (length value == l.width) asked in
      let c = clean both.0 in
      record {
        m = message p seq value;
        old = s;
        safe = begun_safe l p (task.Append seq value) w s (may (task.Append seq value) (sound c.0, c.1, eqb-true (length value) l.width both.1));
        ends = λ _. calm (task.Append seq value) c.1 refl (λ _. refl) c;
        mine = refl;
      }

  pub closing : (b : Bool) → b ≡ true → (b ≡ true → Clean w) → Work l p w s b (Working task.Close) (script l p task.Close)
  closing b asked clean =
      let c = clean asked in
      record {
        m = added_by l task.Close p w;
        old = s;
        safe = begun_safe l p task.Close w s (may task.Close (sound c.0, c.1));
        ends = λ _. calm task.Close c.1 refl (λ _. refl) c;
        mine = tt;
      }

  pub getting : (b : Bool) (i : ℕ) → i < 4 → (b ≡ true → Clean w) → Work l p w s b (Working (task.BoardGet i)) (script l p (task.BoardGet i))
  getting b i asked clean = record {
    m = added_by l (task.BoardGet i) p w;
    old = s;
    safe = begun_safe l p (task.BoardGet i) w s (may (task.BoardGet i) asked);
    ends = clean;
    mine = tt;
  }

  pub putting : (b : Bool) (i v : ℕ) → i < 4 → (b ≡ true → Clean w) → Work l p w s b (Working (task.BoardPut i v)) (script l p (task.BoardPut i v))
  putting b i v asked clean = record {
    m = added_by l (task.BoardPut i v) p w;
    old = s;
    safe = begun_safe l p (task.BoardPut i v) w s (may (task.BoardPut i v) asked);
    ends = λ h. calm (task.BoardPut i v) tt refl (λ e. e) (clean h);
    mine = tt;
  }

-- the meaning of an append's answer
append_tells : (l : Layout) (p seq : ℕ) (value : List ℕ) (m : Message) (old : Mailbox) (e : Script Reply) (w : Words) (s : Mailbox) → message p seq value ≡ m → Safe l p m old e w s → AppendTells p seq e s.shown
append_tells l p seq value m old (Done Stored) w s mine h = answered_is_shown l p seq value old s Stored w (subst (λ x. Safe l p x old (Done Stored) w s) (sym mine) h) (inl refl)
append_tells l p seq value m old (Done Already) w s mine h = answered_is_shown l p seq value old s Already w (subst (λ x. Safe l p x old (Done Already) w s) (sym mine) h) (inr refl)
append_tells l p seq value m old _ w s mine h = tt

pub work_tells : (l : Layout) (p : ℕ) (w : Words) (s : Mailbox) (b : Bool) (purpose : Purpose) (e : Script Reply) → Work l p w s b purpose e → PurposeTells p purpose e s.shown
work_tells l p w s b (Working (task.Append seq value)) e k = append_tells l p seq value k.m k.old e w s k.mine k.safe
work_tells l p w s b _ e k = tt
