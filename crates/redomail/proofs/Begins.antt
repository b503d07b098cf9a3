-- Each task is safe if the process inside may begin it.
use Rattle.std.proofs.Common.{◌≡◌, ℕ, zero, suc, ◌+◌, ◌<◌, ◌≤◌, Bool, true, false, ◌==◌, nat_lt, nat_le, List, [], ◌∷◌, ◌++◌, length, refl, not, sym, ◌∙◌, ap, subst, inl, inr, arith, append_assoc, eqb-true, leb-true, leb-false, ltb-true, ltb-false, true≢false, append-nil, Option}
use Rattle.redomail.proofs.Common.{cond_both, eqb-false, put, Layout, Message, Reply, Task, deeds_of_put, row, Words, last_at, board_at, MailLeads, message, IsAmong, Mailbox, mailbox_after, MayBegin, added_by}
use Rattle.redomail.proofs.Common.{Safe, Seen, Done, Put, Script, gets, entry, entries, count_of, Shape, bit, recorded_message, RecordRule, ListRule, record_of, redo, append_decision, append, close, repair, script}
use Rattle.redomail.specs.declared.deed.Deed.TheVariants as deed
use Rattle.redomail.specs.declared.task.Task.TheVariants as task
use Rattle.redomail.specs.declared.reply.Reply.TheVariants as reply
use Rattle.redomail.specs.Tasks.{store_steps, unless_replied}
use Rattle.redomail.specs.Script.{puts}
use Rattle.redomail.specs.Laws.{ConsistentIsSafe}
use Rattle.redomail.proofs.Among.{numbers_are_shown}
use Rattle.redomail.proofs.Leading.{no_deed, one_deed}
use Rattle.redomail.proofs.Words.{put-other, put-nothing, place_low, row-alike, entry-alike, entries-alike, IsNumbered-alike, ListRule-alike, deeds_of_put-none}
use Rattle.redomail.proofs.Modes.{Idle, base_of, closed_off, Idle-from_shape, Mode-from_shape, record_in, Shape-from_idle}
use Rattle.redomail.proofs.Changes.{length-entries, Allowed-close, Idle-closed}
use Rattle.redomail.proofs.Applies.{store, apply_half, apply_whole}

closed_on : (s : Mailbox) (x : ℕ) → x ≡ bit s.closed → x ≡ 1 → s.closed ≡ true
closed_on s x e one = cond_both s.closed 1 0 (λ y. x ≡ y → s.closed ≡ true) (λ h _. h) (λ _ h. absurd (omega arith)) e

module _ (l : Layout) (p : ℕ) (m : Message) (s0 : Mailbox) where
  -- an append before it has read its words
  record Fresh (seq : ℕ) (value : List ℕ) (w : Words) (s : Mailbox) : Type 0 where
    pub idle : Idle l p w s
    pub same : s.shown ≡ s0.shown
    pub mine : message p seq value ≡ m
    pub wide : length value ≡ l.width

  seen_idle : (w : Words) (s : Mailbox) → Idle l p w s → s.shown ≡ s0.shown → Seen l p m s0 w s
  seen_idle w s h same = (Shape-from_idle l p w s h, inl same)

  decided_safe : (seq : ℕ) (value : List ℕ) (w : Words) (s : Mailbox) → Fresh seq value w s → Safe l p m s0 (append_decision l p seq value (w 1) (w 2) (w (last_at l p))) w s
  decided_safe seq value w s h =
      let P : Option Reply → Type 0 = λ o. Safe l p m s0 (unless_replied o (puts (store_steps l p (record_of (w 2) seq value)) (Done reply.Stored))) w s in
      let look = seen_idle w s h.idle h.same in
      let off = h.idle.disarmed in
      let es : m.seq ≡ seq = sym (ap (λ x. x.seq) h.mine) in
      let el : w (last_at l p) ≡ count_of p s.shown = h.idle.listed.counted p h.idle.base.process ∙ ap (count_of p) (sym h.idle.shown) in
      let there : count_of p (entries l w (w 2)) ≡ w (last_at l p) = sym (h.idle.listed.counted p h.idle.base.process) in
      cond_both (seq == 0) _ _ P (λ y0. (look, (h.same, inl (es ∙ eqb-true seq 0 y0)), off)) (λ n0.
      let a0 = eqb-false seq 0 n0 in
      cond_both (nat_le seq (w (last_at l p))) _ _ P (λ y1. let b1 = leb-true seq (w (last_at l p)) y1 in
      let among : IsAmong p m.seq s.shown = subst (IsAmong p m.seq) (sym h.idle.shown) (numbers_are_shown l w p m.seq (w 2) h.idle.listed.numbered (omega arith) (omega arith)) in
      (look, (h.same, omega arith, omega arith, among), off)) (λ n1.
      let a1 = leb-false seq (w (last_at l p)) n1 in
      cond_both (nat_lt (w (last_at l p) + 1) seq) _ _ P (λ y2. let b2 = ltb-true (w (last_at l p) + 1) seq y2 in (look, (h.same, inr (omega arith)), off)) (λ n2.
      let a2 = ltb-false (w (last_at l p) + 1) seq n2 in
      let number : m.seq ≡ count_of p s.shown + 1 = omega arith in
      cond_both (w 1 == 1) _ _ P (λ y3. (look, (h.same, number, closed_on s (w 1) h.idle.base.closed (eqb-true (w 1) 1 y3)), off)) (λ n3.
      let open_yet : s.closed ≡ false = closed_off s (w 1) h.idle.base.closed (eqb-false (w 1) 1 n3) in
      cond_both (w 2 == l.cap) _ _ P
      (λ y4. (look, (h.same, number, open_yet, (rw h.idle.shown (length-entries l w (w 2))) ∙ eqb-true (w 2) l.cap y4), off))
      (λ n4.
      let c = eqb-false (w 2) l.cap n4 in
      store l p m s0 (record_of (w 2) seq value) w s h.mine h.same record {
        idle = h.idle;
        at = refl;
        wide = h.wide;
        room = omega (arith, h.idle.room);
        next = omega arith;
        open_yet = open_yet;
      })))))

  append_safe : (seq : ℕ) (value : List ℕ) (w : Words) (s : Mailbox) → Fresh seq value w s → Safe l p m s0 (append l p seq value) w s
  append_safe seq value w s h =
      let look = seen_idle w s h.idle h.same in (look, (look, (look, decided_safe seq value w s h)))

  close_safe : (w : Words) (s : Mailbox) → Idle l p w s → s ≡ s0 → Safe l p m s0 close w s
  close_safe w s h same =
      let P : Script Reply → Type 0 = λ x. Safe l p m s0 x w s in
      let shown = ap (λ x. x.shown) same in
      let closed = ap (λ x. x.closed) same in
      let look = seen_idle w s h shown in
      let low = place_low l l.cap in (
        look,
        cond_both (w 1 == 1) _ _ P
            (λ y. let on = closed_on s (w 1) h.base.closed (eqb-true (w 1) 1 y) in (look, (shown, sym closed ∙ on, on), h.disarmed))
            (λ n.
            let off = closed_off s (w 1) h.base.closed (eqb-false (w 1) 1 n) in
            let z : w 1 ≡ 0 = h.base.closed ∙ (rw off refl) in
            let e : deeds_of_put l p w 1 1 ≡ deed.Close p ∷ [] = rw z refl in
            let t : Mailbox = mailbox_after s (deed.Close p) in
            let idle = Idle-closed l p w s h in (
              look,
              omega arith,
              (t, one_deed l.cap s _ (deed.Close p) e (Allowed-close l p w s off h), (seen_idle (put w 1 1) t idle shown, (shown, sym closed ∙ off, refl), idle.disarmed)),
            )),
      )

  -- gets of several words in a row
  gets_safe : (i n : ℕ) (read : List ℕ) (next : List ℕ → Script Reply) (w : Words) (s : Mailbox) → Seen l p m s0 w s → Safe l p m s0 (next (read ++ row w i n)) w s → Safe l p m s0 (gets i n read next) w s
  gets_safe i zero read next w s look h =
      let P : List ℕ → Type 0 = λ xs. Safe l p m s0 (next xs) w s in subst P (append-nil read) h
  gets_safe i (suc n) read next w s look h =
      let P : List ℕ → Type 0 = λ xs. Safe l p m s0 (next xs) w s in
      (look, gets_safe (i + 1) n (read ++ w i ∷ []) next w s look (subst P (sym (append_assoc read (w i ∷ []) (row w (i + 1) n))) h))

  repair_armed : (w : Words) (s : Mailbox) → w 3 ≡ 1 → Seen l p m s0 w s → Safe l p m s0 (redo l p (w 4) (w 5) (row w 6 l.width)) w s → Safe l p m s0 (repair l p) w s
  repair_armed w s on look h = (look, rw on (look, (look, gets_safe 6 l.width [] (redo l p (w 4) (w 5)) w s look h)))

  repair_idle : (w : Words) (s : Mailbox) → Idle l p w s → s.shown ≡ s0.shown → Safe l p m s0 (repair l p) w s
  repair_idle w s h same =
      let look = seen_idle w s h same in (look, rw h.disarmed (look, same, h.disarmed))

-- words that differ only on the board or in ruined
pub Shape-alike : (l : Layout) (p : ℕ) (v w : Words) (s t : Mailbox) → ((j : ℕ) → 0 < j → j < 6 + l.width → v j ≡ w j) → ((j : ℕ) → 10 + l.width ≤ j → v j ≡ w j) → v 0 ≡ bit t.ruined
    → t.closed ≡ s.closed → t.shown ≡ s.shown → t.pending ≡ s.pending → (t.ruined ≡ false → s.ruined ≡ false) → Shape l p w s → Shape l p v t
Shape-alike l p v w s t low high ruined closed shown pending less h =
    let e1 : v 1 ≡ w 1 = low 1 (omega arith) (omega arith) in
    let e2 : v 2 ≡ w 2 = low 2 (omega arith) (omega arith) in
    let e3 : v 3 ≡ w 3 = low 3 (omega arith) (omega arith) in
    let e4 : v 4 ≡ w 4 = low 4 (omega arith) (omega arith) in
    let e5 : v 5 ≡ w 5 = low 5 (omega arith) (omega arith) in
    let ev : row v 6 l.width ≡ row w 6 l.width = row-alike v w 6 l.width (λ j a b. low j (omega arith) (omega arith)) in
    let es : (k : ℕ) → entries l v k ≡ entries l w k = λ k. entries-alike l v w k (λ j a b. high j (omega arith)) in
    let en : (a : ℕ) → entry l v a ≡ entry l w a = λ a. (let x = place_low l a in entry-alike l v w a (λ j f g. high j (omega arith))) in
    let ls : (k : ℕ) → ListRule l w k → ListRule l v k = λ k. ListRule-alike l v w k (λ j a b. high j a) in
    let rule : (q : ℕ) → RecordRule l q w → RecordRule l q v = λ q r. record {
      room = omega (arith, e4, r.room);
      rule = elim r.rule [
        | inl u ↦ inl record {
          count = e2 ∙ (u.count ∙ sym e4);
          numbered = rw e2 (IsNumbered-alike l v w (w 2) (λ j a b. high j (omega arith)) u.numbered);
          others = λ x lx ne. high (last_at l x) (omega arith) ∙ (rw (e2, es (w 2)) (u.others x lx ne));
          next = e5 ∙ rw (e2, es (w 2)) u.next;
          last = rw (high (last_at l q) (omega arith), e5, e4, en (w 4), ev) u.last;
        }
        | inr g ↦ inr record {
          count = e2 ∙ (g.count ∙ ap (λ x. x + 1) (sym e4));
          listed = rw e2 (ls (w 2) g.listed);
          entry = rw (e4, e5, en (w 4), ev) g.entry;
        }
      ];
    } in
    record {
      ruined = ruined;
      closed = e1 ∙ (h.closed ∙ ap bit (sym closed));
      armed = rw e3 h.armed;
      apart = λ a b. h.apart (sym e1 ∙ a) (sym e3 ∙ b);
      room = omega (arith, e2, h.room);
      shown = shown ∙ (h.shown ∙ (rw (e2, es (w 2)) refl));
      listed = λ off. rw e2 (ls (w 2) (h.listed (sym e3 ∙ off)));
      record_rule = λ on. let r = h.record_rule (sym e3 ∙ on) in (r.0, r.1, rule r.0 r.2, λ sound. r.3 (less sound));
      pending = λ sound. pending ∙ (h.pending (less sound) ∙ (rw (e2, e3, e4, e5, ev) refl));
    }

ruined_on : (s : Mailbox) (x : ℕ) → x ≡ bit s.ruined → x ≡ 1 → s.ruined ≡ true
ruined_on s x e one = cond_both s.ruined 1 0 (λ y. x ≡ y → s.ruined ≡ true) (λ h _. h) (λ _ h. absurd (omega arith)) e

ruined_off : (s : Mailbox) (x : ℕ) → x ≡ bit s.ruined → (x ≡ 1 → ⊥) → s.ruined ≡ false
ruined_off s x e other = cond_both s.ruined 1 0 (λ y. x ≡ y → s.ruined ≡ false) (λ _ h. absurd (other h)) (λ h _. h) e

board_safe : (l : Layout) (p : ℕ) (m : Message) (i v : ℕ) (w : Words) (s : Mailbox) → i < 4 → Shape l p w s → Safe l p m s (Put (board_at l i) v (Done reply.Done)) w s
board_safe l p m i v w s small h =
    let at : ℕ = board_at l i in
    let low = place_low l l.cap in
    let kept : Shape l p (put w at v) s =
    Shape-alike l p (put w at v) w s s (λ j a b. put-other w at v j (λ e. omega arith)) (λ j a. put-other w at v j (λ e. omega arith))
    (put-other w at v 0 (λ e. omega arith) ∙ h.ruined) refl refl refl (λ x. x) h in (
      (h, inl refl),
      omega arith,
      (s, no_deed l.cap s _ (deeds_of_put-none l p w at v (omega arith)), ((kept, inl refl), refl, tt)),
    )

ruin_safe : (l : Layout) (p : ℕ) (m : Message) (w : Words) (s : Mailbox) → Shape l p w s → Safe l p m s (Put 0 1 (Done reply.Done)) w s
ruin_safe l p m w s h =
    let low = place_low l l.cap in
    let P : List _ → Type 0 = λ ds. (t : Mailbox) × MailLeads l.cap s ds t × Safe l p m s (Done reply.Done) (put w 0 1) t in (
      (h, inl refl),
      omega arith,
      cond_both (w 0 == 1) _ _ P
          (λ y.
          let same = put-nothing w 0 1 (eqb-true (w 0) 1 y) in
          (s, refl, subst (λ x. Safe l p m s (Done reply.Done) x s) (sym same) ((h, inl refl), refl, tt)))
          (λ n.
          let off = ruined_off s (w 0) h.ruined (eqb-false (w 0) 1 n) in
          let t : Mailbox = mailbox_after s (deed.Ruin p) in
          let e3 : not s.ruined ≡ true = ap not off in
          let kept : Shape l p (put w 0 1) t =
          Shape-alike l p (put w 0 1) w s t (λ j a b. put-other w 0 1 j (λ e. omega arith)) (λ j a. put-other w 0 1 j (λ e. omega arith))
          refl refl refl refl (λ x. absurd (true≢false x)) h in
          (t, one_deed l.cap s _ (deed.Ruin p) refl (refl, (e3, tt)), ((kept, inl refl), refl, tt))),
    )

is_ruined : (s : Mailbox) (x : ℕ) → x ≡ bit s.ruined → (x == 1) ≡ s.ruined
is_ruined s x e = rw e (cond_both s.ruined 1 0 (λ y. s.ruined ≡ (y == 1) → (y == 1) ≡ s.ruined) (λ _ h. sym h) (λ _ h. sym h) (bit_is s.ruined))
  where
    bit_is : (b : Bool) → b ≡ (bit b == 1)
    bit_is true = refl
    bit_is false = refl

-- Each task that the process inside may begin is safe.
pub begun_safe : (l : Layout) (p : ℕ) (t : Task) (w : Words) (s : Mailbox) → MayBegin l p t w s → Safe l p (added_by l t p w) s (script l p t) w s
begun_safe l p (task.Append seq value) w s may =
    let base = base_of l p w s may.layout may.process may.allowed.0 may.shape in
    append_safe l p _ s seq value w s record {
      idle = Idle-from_shape l p w s base may.allowed.1 may.shape;
      same = refl;
      mine = refl;
      wide = may.allowed.2;
    }
begun_safe l p task.Close w s may =
    let base = base_of l p w s may.layout may.process may.allowed.0 may.shape in
    close_safe l p _ s w s (Idle-from_shape l p w s base may.allowed.1 may.shape) refl
begun_safe l p task.Repair w s may =
    let base = base_of l p w s may.layout may.process may.allowed may.shape in
    let m = recorded_message l p w in
    let look : Seen l p m s w s = (may.shape, inl refl) in
    elim (Mode-from_shape l p w s base may.shape may.shape.armed) [
      | inl i ↦ repair_idle l p m s w s i refl
      | inr (inl a) ↦ repair_armed l p m s w s a.armed.armed look (apply_half l p m s (record_in l w) (reply.Mended true) w s tt refl refl a)
      | inr (inr a) ↦ repair_armed l p m s w s a.armed.armed look (apply_whole l p m s (record_in l w) (reply.Mended true) w s tt a (inl refl))
    ]
begun_safe l p (task.BoardGet i) w s may =
    let look : Seen l p (recorded_message l p w) s w s = (may.shape, inl refl) in (look, (look, refl, tt))
begun_safe l p (task.BoardPut i v) w s may = board_safe l p _ i v w s may.allowed may.shape
begun_safe l p task.Ruin w s may = ruin_safe l p _ w s may.shape
begun_safe l p task.Check w s may =
    let look : Seen l p (recorded_message l p w) s w s = (may.shape, inl refl) in (look, (look, (refl, is_ruined s (w 0) may.shape.ruined), tt))

pub consistent_safe : ConsistentIsSafe
consistent_safe l p w s layout process shape =
    let look : Seen l p (recorded_message l p w) s w s = (shape, inl refl) in (
      look,
      cond_both (w 0 == 1) (Done (reply.Ruined true)) (repair l p) (λ e. Safe l p (recorded_message l p w) s e w s)
          (λ y. (look, (refl, sym (ruined_on s (w 0) shape.ruined (eqb-true (w 0) 1 y))), tt))
          (λ n.
          begun_safe l p task.Repair w s record {
            layout = layout;
            process = process;
            shape = shape;
            allowed = ruined_off s (w 0) shape.ruined (eqb-false (w 0) 1 n);
          }),
    )
