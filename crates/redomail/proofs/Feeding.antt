-- A job after one more word: it still fits its layout, and the rest of it is the tail of its script.
use Rattle.std.proofs.Common.{◌≡◌, ℕ, ◌+◌, ◌-◌, ◌*◌, ◌<◌, ◌≤◌, Bool, true, false, ◌==◌, nat_lt, nat_le, if◌then◌else◌, List, length, take, slice_set, refl, sym, ap, ◌∙◌, inl, inr, arith, length-take, length-set, ltb-true, ltb-false, Option, Some, None}
use Rattle.redomail.proofs.Common.{cases_Bool, Layout, Reply, Task, left_at, value_width, buffer_width, words_read, steps_done, board_index, FitsStage, IsLayout, Done, puts, tail, store_steps}
use Rattle.redomail.proofs.Common.{record_of, redo, append_decision}
use Rattle.redomail.specs.declared.reply.Reply.TheVariants as reply
use Rattle.redomail.specs.declared.stage.JobStage.{JobStage}
use Rattle.redomail.specs.declared.stage.JobStage.TheVariants as stage
use Rattle.redomail.specs.declared.task.Task.TheVariants as task
use Rattle.redomail.specs.Stages.{first_stage, stage_after, decided_stage, unless_ended, read_stage}
use Rattle.redomail.specs.Tasks.{early_reply, unless_replied}
use Rattle.redomail.proofs.Scripts.{store-on, store-end, store-redo, read-on, read-end}

module _ (l : Layout) (lawful : IsLayout l) where
  -- a stage whose only data is a value of the layout's width
  fits : (x : JobStage) → value_width l x ≡ l.width → buffer_width x ≡ 8 → words_read x ≡ 0 → steps_done x ≡ 0 → board_index x ≡ 0 → FitsStage l x
  fits x value buffer read step board =
      let least = lawful.least in
      record { value = value; buffer = buffer; read = omega (arith, read, least); step = omega (arith, step); board = omega (arith, board) }

  fits_ended : (a : Reply) → FitsStage l (stage.Ended a)
  fits_ended a = fits (stage.Ended a) refl refl refl refl refl

  -- a task that is not refused for its index or its value
  abbrev pub FitsTask : Task → Type 0
  FitsTask (task.Append seq value) = length value ≡ l.width
  FitsTask (task.BoardGet i) = i < 4
  FitsTask (task.BoardPut i v) = i < 4
  FitsTask t = Unit {0}

  pub fits_first : (t : Task) → FitsTask t → FitsStage l (first_stage t)
  fits_first (task.Append seq value) h = fits (stage.AskClosed seq value) h refl refl refl refl
  fits_first task.Close h = fits stage.AskOpen refl refl refl refl refl
  fits_first task.Repair h = fits stage.AskArmed refl refl refl refl refl
  fits_first (task.BoardGet i) h = record { value = refl; buffer = refl; read = (fits stage.AskAt refl refl refl refl refl).read; step = omega arith; board = h }
  fits_first (task.BoardPut i v) h = record { value = refl; buffer = refl; read = (fits stage.AskAt refl refl refl refl refl).read; step = omega arith; board = h }
  fits_first task.Ruin h = fits stage.PutRuined refl refl refl refl refl
  fits_first task.Check h = fits stage.AskRuined refl refl refl refl refl

  pub fits_usable : FitsStage l stage.AskUsable
  fits_usable = fits stage.AskUsable refl refl refl refl refl

  -- an append that has read its three words
  fits_decided : (seq : ℕ) (value : List ℕ) (closed count last : ℕ) → length value ≡ l.width → FitsStage l (decided_stage l seq value closed count last)
  fits_decided seq value closed count last wide = by (early_reply l.cap seq closed count last)
    where
      by : (o : Option Reply) → FitsStage l (unless_ended o (stage.Write (record_of count seq value) 0 reply.Stored))
      by None = fits (stage.Write (record_of count seq value) 0 reply.Stored) wide refl refl refl refl
      by (Some answer) = fits_ended answer

  left_decided : (p seq : ℕ) (value : List ℕ) (closed count last : ℕ) → left_at l p (decided_stage l seq value closed count last) ≡ append_decision l p seq value closed count last
  left_decided p seq value closed count last = by (early_reply l.cap seq closed count last)
    where
      by : (o : Option Reply) → left_at l p (unless_ended o (stage.Write (record_of count seq value) 0 reply.Stored)) ≡ unless_replied o (puts (store_steps l p (record_of count seq value)) (Done reply.Stored))
      by None = refl
      by (Some answer) = refl

  -- a repair after one more word of the record's value
  fits_read : (at seq : ℕ) (words : List ℕ) (read word : ℕ) → length words ≡ 8 → read < l.width → FitsStage l (read_stage l at seq (slice_set words read word) (read + 1))
  fits_read at seq words read word room within =
      let most = lawful.most in
      let len = length-set words read word in
      elim (cases_Bool (nat_lt (read + 1) l.width)) [
        | inl e ↦ let less : read + 1 < l.width = ltb-true _ _ e in rw e (record { value = refl; buffer = len ∙ room; read = less; step = omega arith; board = omega arith })
        | inr e ↦
            let past : l.width ≤ read + 1 = ltb-false _ _ e in
            let all : length (take (read + 1) (slice_set words read word)) ≡ l.width = omega (arith, length-take (read + 1) (slice_set words read word), len, room, within, most, past) in
            rw e (record { value = all; buffer = refl; read = omega (arith, within); step = omega (arith, within); board = omega arith })
      ]

  left_read : (p at seq : ℕ) (words : List ℕ) (read word : ℕ) → length words ≡ 8 → read < l.width
      → left_at l p (read_stage l at seq (slice_set words read word) (read + 1)) ≡ tail (left_at l p (stage.AskValue at seq words read)) word
  left_read p at seq words read word room within =
      let most = lawful.most in
      let len = length-set words read word in
      elim (cases_Bool (nat_lt (read + 1) l.width)) [
        | inl e ↦ let less : read + 1 < l.width = ltb-true _ _ e in rw e (read-on l.width read words word (redo l p at seq) (omega (arith, less)) (omega (arith, within, most, room)))
        | inr e ↦
            let past : l.width ≤ read + 1 = ltb-false _ _ e in
            let value : List ℕ = take (read + 1) (slice_set words read word) in
            let all : length value ≡ read + 1 = omega (arith, length-take (read + 1) (slice_set words read word), len, room, within, most) in
            rw e (ap (λ xs. puts xs (Done (reply.Mended true))) (store-redo l p (record_of at seq value) (3 + (read + 1)) (omega (arith, all))) ∙ read-end l.width read words word (redo l p at seq) (omega (arith, past, within)) (omega (arith, within, most, room)))
      ]

  fits_if : (b : Bool) (x y : JobStage) → FitsStage l x → FitsStage l y → FitsStage l (if b then x else y)
  fits_if true x y h k = h
  fits_if false x y h k = k

  pub fits_after : (x : JobStage) (word : ℕ) → FitsStage l x → FitsStage l (stage_after l x word)
  fits_after (stage.AskClosed seq value) word h = fits (stage.AskCount seq value word) h.value refl refl refl refl
  fits_after (stage.AskCount seq value closed) word h = fits (stage.AskLast seq value closed word) h.value refl refl refl refl
  fits_after (stage.AskLast seq value closed count) word h = fits_decided seq value closed count word h.value
  fits_after stage.AskUsable word h = fits_if (word == 1) _ _ (fits_ended _) (fits stage.AskArmed refl refl refl refl refl)
  fits_after stage.AskArmed word h = fits_if (word == 0) _ _ (fits_ended _) (fits stage.AskAt refl refl refl refl refl)
  fits_after stage.AskAt word h = fits (stage.AskSeq word) refl refl refl refl refl
  fits_after (stage.AskSeq at) word h = fits (stage.AskValue at word _ 0) refl refl refl refl refl
  fits_after (stage.AskValue at seq words read) word h = fits_read at seq words read word h.buffer h.read
  fits_after (stage.Write r step a) word h =
      elim (cases_Bool (nat_lt (step + 1) (8 + 2 * l.width))) [
        | inl e ↦ let less : step + 1 < 8 + 2 * l.width = ltb-true _ _ e in rw e (record { value = h.value; buffer = refl; read = h.read; step = less; board = omega arith })
        | inr e ↦ rw e (fits_ended a)
      ]
  fits_after stage.AskOpen word h = fits_if (word == 1) _ _ (fits_ended _) (fits stage.PutClosed refl refl refl refl refl)
  fits_after _ word h = fits_ended _

  pub left_after : (p : ℕ) (x : JobStage) (word : ℕ) → FitsStage l x → left_at l p (stage_after l x word) ≡ tail (left_at l p x) word
  left_after p (stage.AskLast seq value closed count) word h = left_decided p seq value closed count word
  left_after p stage.AskUsable word h = elim (cases_Bool (word == 1)) [ inl e ↦ rw e refl | inr e ↦ rw e refl ]
  left_after p stage.AskArmed word h = elim (cases_Bool (word == 0)) [ inl e ↦ rw e refl | inr e ↦ rw e refl ]
  left_after p (stage.AskSeq at) word h = let whole : l.width - 0 ≡ l.width = omega arith in rw whole refl
  left_after p (stage.AskValue at seq words read) word h = left_read p at seq words read word h.buffer h.read
  left_after p (stage.Write r step a) word h =
      let wide = h.value in
      let within = h.step in
      elim (cases_Bool (nat_lt (step + 1) (8 + 2 * l.width))) [
        | inl e ↦ let less : step + 1 < 8 + 2 * l.width = ltb-true _ _ e in rw e (sym (store-on l p r (Done a) word step (omega (arith, wide, within))))
        | inr e ↦ let past : 8 + 2 * l.width ≤ step + 1 = ltb-false _ _ e in rw e (sym (store-end l p r (Done a) word step (omega (arith, wide, within, past))))
      ]
  left_after p stage.AskOpen word h = elim (cases_Bool (word == 1)) [ inl e ↦ rw e refl | inr e ↦ rw e refl ]
  left_after p _ word h = refl
