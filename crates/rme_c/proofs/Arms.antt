-- The steps of scripts, one by one.
use Rattle.std.proofs.Common.{◌≡◌, ℕ, zero, suc, ◌+◌, ◌-◌, ◌*◌, ◌<◌, ◌≤◌, true, false, nat_lt, is_none, List, [], ◌∷◌, ◌++◌, length, take, replicate, slice_set, Some, None, refl, sym, ap, ◌∙◌, subst, arith, length-take, length-set, length-append}
use Rattle.rme_c.proofs.Common.{lt-ltb, le-ltb, Inside, Layout, Reply, left_at, FitsStage, IsLayout, Pending, record_of, Mending, next_access, Effect, ScriptPosition, Position, Lock, Within, RmeProcess, padded_value}
use Rattle.rme_c.proofs.Common.{job_of, purpose_of, layout_of, machine_state_at, FitsPosition, IsStep}
use Rattle.std.proofs.lemmas.List.{length-replicate}
use Rattle.redomail.specs.declared.reply.Reply.TheVariants.{Stored, Mended}
use Rattle.redomail.specs.declared.stage.JobStage.TheVariants as stage
use Rattle.redomail.specs.declared.stage.JobStage.{JobStage}
use Rattle.redomail.specs.Stages.{stage_after, unless_ended}
use Rattle.redomail.specs.Tasks.{early_reply, unless_replied}
use Rattle.redomail.proofs.Feeding.{left_after}
use Rattle.rmecore.specs.Place as Place
use Rattle.rmeworld.specs.declared.answer.Answer.TheVariants.{Mail}
use Rattle.rme_c.specs.declared.script_position.ScriptPosition.TheVariants as script_position
use Rattle.rme_c.proofs.Jobs.{storing, reading, wants}
use Rattle.rme_c.proofs.ScriptPositions.{goes, ends}

-- the words of a record's value, after one more was read
set_zeros : (read m : ℕ) (words : List ℕ) (v : ℕ) → read + suc m ≡ length words → slice_set (take read words ++ replicate (suc m) 0) read v ≡ take (read + 1) (slice_set words read v) ++ replicate m 0
set_zeros zero m [] v h = absurd (omega arith)
set_zeros zero m (w ∷ words) v h = refl
set_zeros (suc read) m [] v h = absurd (omega arith)
set_zeros (suc read) m (w ∷ words) v h =
    let a : suc read + 1 ≡ suc (read + 1) = omega arith in
    rw a (ap (λ xs. w ∷ xs) (set_zeros read m words v (omega arith)))

pub set_padded : (read : ℕ) (words : List ℕ) (v : ℕ) → read < 8 → length words ≡ 8 → slice_set (padded_value read words) read v ≡ padded_value (read + 1) (slice_set words read v)
set_padded read words v h eight =
    let m : ℕ = 8 - (read + 1) in
    let a : 8 - read ≡ suc m = omega arith in
    rw a (set_zeros read m words v (omega arith))

take_front : (n : ℕ) (xs ys : List ℕ) → n ≤ length xs → take n (take n xs ++ ys) ≡ take n xs
take_front zero xs ys h = refl
take_front (suc n) [] ys h = absurd (omega arith)
take_front (suc n) (x ∷ xs) ys h = ap (λ l. x ∷ l) (take_front n xs ys (omega arith))

-- a step of storing fits its layout
fits_write : (l : Layout) → IsLayout l → (at seq : ℕ) (words : List ℕ) (step : ℕ) (reply : Reply) → length words ≡ 8 → step < 8 + 2 * l.width → FitsStage l (stage.Write (record_of at seq (take l.width words)) step reply)
fits_write l lawful at seq words step reply eight h =
    let most = lawful.most in
    let least = lawful.least in
    record { value = omega (arith, length-take l.width words, eight, most); buffer = refl; read = omega (arith, least); step = h; board = omega arith }

fits_value : (l : Layout) → IsLayout l → (at seq read : ℕ) (words : List ℕ) → length words ≡ 8 → read < l.width → FitsStage l (stage.AskValue at seq words read)
fits_value l lawful at seq read words eight h = record { value = refl; buffer = eight; read = h; step = omega arith; board = omega arith }

module _ (p : RmeProcess) (eight : length p.value ≡ 8) where
  abbrev l : Layout
  l = layout_of p

  abbrev job : ScriptPosition → Pending
  job c = job_of l p.index p.value c

  wide : IsLayout l → length (take l.width p.value) ≡ l.width
  wide lawful = let most = lawful.most in omega (arith, length-take l.width p.value, eight, most)

  -- a script has a step left
  pub has_script_position : (c : ScriptPosition) → FitsPosition p (Within c) → is_none (next_access (machine_state_at p (Within c))) ≡ false
  has_script_position (script_position.Value at seq read) h = wants p.limit p.index Place.Inside Mending _ (reading l p.index at seq read (padded_value read p.value) h.1.1.1)
  has_script_position (script_position.Redo at seq step) h = let wide = wide h.1.1.0 in let within = h.1.1.1 in wants p.limit p.index Place.Inside Mending _ (storing l p.index _ step (Mended true) (omega (arith, wide, within)))
  has_script_position (script_position.Store at seq step) h = let wide = wide h.1.1.0 in let within = h.1.1.1 in wants p.limit p.index Place.Inside (purpose_of l p.value (script_position.Store at seq step)) _ (storing l p.index _ step Stored (omega (arith, wide, within)))
  has_script_position _ h = refl

  goes_on_storing : (at seq step v : ℕ) (reply : Reply) → step + 1 < 8 + 2 * p.width
      → stage_after l (stage.Write (record_of at seq (take l.width p.value)) step reply) v ≡ stage.Write (record_of at seq (take l.width p.value)) (step + 1) reply
  goes_on_storing at seq step v reply h = let yes : nat_lt (step + 1) (8 + 2 * p.width) ≡ true = lt-ltb _ _ h in rw yes refl

  ends_storing : (at seq step v : ℕ) (reply : Reply) → 8 + 2 * p.width ≤ step + 1
      → stage_after l (stage.Write (record_of at seq (take l.width p.value)) step reply) v ≡ stage.Ended reply
  ends_storing at seq step v reply h = let no : nat_lt (step + 1) (8 + 2 * p.width) ≡ false = le-ltb _ _ h in rw no refl

  pub redo_on : (at seq step v : ℕ) (r : Position × Effect) → FitsPosition p (Within (script_position.Redo at seq step)) → step + 1 < 8 + 2 * p.width
      → r ≡ (Within (script_position.Redo at seq (step + 1)), record { answer = None; blocked = false }) → IsStep p (Within (script_position.Redo at seq step)) v p r.0 r.1
  redo_on at seq step v r fits more is =
      let lawful = fits.1.1.0 in
      let after = goes_on_storing at seq step v (Mended true) more in
      let wide = wide lawful in
      goes p p (script_position.Redo at seq step) Mending (job (script_position.Redo at seq step)) (job (script_position.Redo at seq (step + 1))) v refl
      (λ i. record { layout = l; sender = p.index; stage = after i })
      (storing l p.index _ step (Mended true) (omega (arith, wide, fits.1.1.1)))
      (sym (ap (left_at l p.index) after) ∙ left_after l lawful p.index _ v (fits_write l lawful at seq p.value step (Mended true) eight fits.1.1.1))
      (script_position.Redo at seq (step + 1)) r is refl refl
      (storing l p.index _ (step + 1) (Mended true) (omega (arith, wide, more)))
      (fits.0, (fits.1.0, (lawful, more)))

  pub store_on : (at seq step v : ℕ) (r : Position × Effect) → FitsPosition p (Within (script_position.Store at seq step)) → step + 1 < 8 + 2 * p.width
      → r ≡ (Within (script_position.Store at seq (step + 1)), record { answer = None; blocked = false }) → IsStep p (Within (script_position.Store at seq step)) v p r.0 r.1
  store_on at seq step v r fits more is =
      let lawful = fits.1.1.0 in
      let after = goes_on_storing at seq step v Stored more in
      let wide = wide lawful in
      goes p p (script_position.Store at seq step) (purpose_of l p.value (script_position.Store at seq step)) (job (script_position.Store at seq step)) (job (script_position.Store at seq (step + 1))) v refl
      (λ i. record { layout = l; sender = p.index; stage = after i })
      (storing l p.index _ step Stored (omega (arith, wide, fits.1.1.1)))
      (sym (ap (left_at l p.index) after) ∙ left_after l lawful p.index _ v (fits_write l lawful at seq p.value step Stored eight fits.1.1.1))
      (script_position.Store at seq (step + 1)) r is refl refl
      (storing l p.index _ (step + 1) Stored (omega (arith, wide, more)))
      (fits.0, (fits.1.0, (lawful, more)))

  pub redo_end : (q : RmeProcess) (at seq step v : ℕ) (r : Position × Effect) → FitsPosition p (Within (script_position.Redo at seq step)) → 8 + 2 * p.width ≤ step + 1
      → q ≡ record p { unmended = 0 } → r ≡ (Lock Inside, record { answer = Some (Mail (Mended true)); blocked = false }) → IsStep p (Within (script_position.Redo at seq step)) v q r.0 r.1
  redo_end q at seq step v r fits past same is =
      let lawful = fits.1.1.0 in
      let after = ends_storing at seq step v (Mended true) past in
      let wide = wide lawful in
      subst (λ (x : RmeProcess). IsStep p (Within (script_position.Redo at seq step)) v x r.0 r.1) (sym same)
      (ends p (record p { unmended = 0 }) (script_position.Redo at seq step) Mending (job (script_position.Redo at seq step)) (record { layout = l; sender = p.index; stage = stage.Ended (Mended true) }) v refl
      (λ i. record { layout = l; sender = p.index; stage = after i })
      (storing l p.index _ step (Mended true) (omega (arith, wide, fits.1.1.1)))
      (sym (ap (left_at l p.index) after) ∙ left_after l lawful p.index _ v (fits_write l lawful at seq p.value step (Mended true) eight fits.1.1.1))
      Inside (Mended true) r is refl refl refl refl refl (fits.0, fits.1.0))

  pub store_end : (at seq step v : ℕ) (r : Position × Effect) → FitsPosition p (Within (script_position.Store at seq step)) → 8 + 2 * p.width ≤ step + 1
      → r ≡ (Lock Inside, record { answer = Some (Mail Stored); blocked = false }) → IsStep p (Within (script_position.Store at seq step)) v p r.0 r.1
  store_end at seq step v r fits past is =
      let lawful = fits.1.1.0 in
      let after = ends_storing at seq step v Stored past in
      let wide = wide lawful in
      ends p p (script_position.Store at seq step) (purpose_of l p.value (script_position.Store at seq step)) (job (script_position.Store at seq step)) (record { layout = l; sender = p.index; stage = stage.Ended Stored }) v refl
      (λ i. record { layout = l; sender = p.index; stage = after i })
      (storing l p.index _ step Stored (omega (arith, wide, fits.1.1.1)))
      (sym (ap (left_at l p.index) after) ∙ left_after l lawful p.index _ v (fits_write l lawful at seq p.value step Stored eight fits.1.1.1))
      Inside Stored r is refl refl refl refl refl (fits.0, fits.1.0)

  length_padded : (read : ℕ) → read < 8 → length (padded_value read p.value) ≡ 8
  length_padded read h = omega (arith, length-append (take read p.value) (replicate (8 - read) 0), length-take read p.value, length-replicate {A = ℕ} (8 - read) 0, eight)

  pub value_on : (q : RmeProcess) (at seq read v : ℕ) (r : Position × Effect) → FitsPosition p (Within (script_position.Value at seq read)) → read + 1 < p.width
      → q ≡ record p { value = slice_set p.value read v } → r ≡ (Within (script_position.Value at seq (read + 1)), record { answer = None; blocked = false }) → IsStep p (Within (script_position.Value at seq read)) v q r.0 r.1
  value_on q at seq read v r fits more same is =
      let lawful = fits.1.1.0 in
      let most = lawful.most in
      let yes : nat_lt (read + 1) p.width ≡ true = lt-ltb _ _ more in
      let small : read < 8 = omega (arith, most, more) in
      let after : stage_after l (stage.AskValue at seq (padded_value read p.value) read) v ≡ stage.AskValue at seq (padded_value (read + 1) (slice_set p.value read v)) (read + 1) =
      rw yes (ap (λ ws. stage.AskValue at seq ws (read + 1)) (set_padded read p.value v small eight)) in
      subst (λ (x : RmeProcess). IsStep p (Within (script_position.Value at seq read)) v x r.0 r.1) (sym same)
      (goes p (record p { value = slice_set p.value read v }) (script_position.Value at seq read) Mending (job (script_position.Value at seq read)) (record { layout = l; sender = p.index; stage = stage.AskValue at seq (padded_value (read + 1) (slice_set p.value read v)) (read + 1) }) v refl
      (λ i. record { layout = l; sender = p.index; stage = after i })
      (reading l p.index at seq read (padded_value read p.value) fits.1.1.1)
      (sym (ap (left_at l p.index) after) ∙ left_after l lawful p.index _ v (fits_value l lawful at seq read (padded_value read p.value) (length_padded read small) fits.1.1.1))
      (script_position.Value at seq (read + 1)) r is refl refl
      (reading l p.index at seq (read + 1) (padded_value (read + 1) (slice_set p.value read v)) more)
      (fits.0, (fits.1.0, (lawful, more))))

  pub value_end : (q : RmeProcess) (at seq read v : ℕ) (r : Position × Effect) → FitsPosition p (Within (script_position.Value at seq read)) → p.width ≤ read + 1
      → q ≡ record p { value = slice_set p.value read v } → r ≡ (Within (script_position.Redo at seq (3 + p.width)), record { answer = None; blocked = false }) → IsStep p (Within (script_position.Value at seq read)) v q r.0 r.1
  value_end q at seq read v r fits past same is =
      let lawful = fits.1.1.0 in
      let most = lawful.most in
      let below = fits.1.1.1 in
      let no : nat_lt (read + 1) p.width ≡ false = le-ltb _ _ past in
      let small : read < 8 = omega (arith, most, below) in
      let whole : read + 1 ≡ p.width = omega (arith, past, below) in
      let set : List ℕ = slice_set p.value read v in
      let sets : length set ≡ 8 = length-set p.value read v ∙ eight in
      let front : take (read + 1) (slice_set (padded_value read p.value) read v) ≡ take p.width set =
      ap (take (read + 1)) (set_padded read p.value v small eight) ∙ (take_front (read + 1) set (replicate (8 - (read + 1)) 0) (omega (arith, sets, small)) ∙ ap (λ n. take n set) whole) in
      let after : stage_after l (stage.AskValue at seq (padded_value read p.value) read) v ≡ stage.Write (record_of at seq (take p.width set)) (3 + p.width) (Mended true) =
      rw no (λ i. stage.Write (record_of at seq (front i)) (3 + whole i) (Mended true)) in
      let wide : length (take p.width set) ≡ p.width = omega (arith, length-take p.width set, sets, most) in
      subst (λ (x : RmeProcess). IsStep p (Within (script_position.Value at seq read)) v x r.0 r.1) (sym same)
      (goes p (record p { value = set }) (script_position.Value at seq read) Mending (job (script_position.Value at seq read)) (record { layout = l; sender = p.index; stage = stage.Write (record_of at seq (take p.width set)) (3 + p.width) (Mended true) }) v refl
      (λ i. record { layout = l; sender = p.index; stage = after i })
      (reading l p.index at seq read (padded_value read p.value) below)
      (sym (ap (left_at l p.index) after) ∙ left_after l lawful p.index _ v (fits_value l lawful at seq read (padded_value read p.value) (length_padded read small) below))
      (script_position.Redo at seq (3 + p.width)) r is refl refl
      (storing l p.index _ (3 + p.width) (Mended true) (omega (arith, wide)))
      (fits.0, (fits.1.0, (lawful, omega arith))))

module _ (p : RmeProcess) where
  abbrev value_words : List ℕ
  value_words = take p.width p.value

  abbrev stores : ℕ → ℕ → JobStage
  stores count seq = stage.Write (record_of count seq value_words) 0 Stored

  -- an append that has read its three words: it has its reply, or stores its message
  pub decided_early : (seq closed count last : ℕ) (reply : Reply) (r : Position × Effect) → FitsPosition p (Within (script_position.Last seq closed count)) → early_reply p.cap seq closed count last ≡ Some reply
      → r ≡ (Lock Inside, record { answer = Some (Mail reply); blocked = false }) → IsStep p (Within (script_position.Last seq closed count)) last p r.0 r.1
  decided_early seq closed count last reply r fits early is =
      let c = script_position.Last seq closed count in
      ends p p c (purpose_of (layout_of p) p.value c) (job_of (layout_of p) p.index p.value c) (record { layout = layout_of p; sender = p.index; stage = stage.Ended reply }) last refl
      (λ i. record { layout = layout_of p; sender = p.index; stage = unless_ended (early i) (stores count seq) })
      tt (sym (ap (λ o. unless_replied o (left_at (layout_of p) p.index (stores count seq))) early)) Inside reply r is refl refl refl refl refl (fits.0, fits.1.0)

  pub decided_stores : (seq closed count last : ℕ) (r : Position × Effect) → FitsPosition p (Within (script_position.Last seq closed count)) → early_reply p.cap seq closed count last ≡ None
      → r ≡ (Within (script_position.Store count seq 0), record { answer = None; blocked = false }) → IsStep p (Within (script_position.Last seq closed count)) last p r.0 r.1
  decided_stores seq closed count last r fits early is =
      let c = script_position.Last seq closed count in
      let d = script_position.Store count seq 0 in
      goes p p c (purpose_of (layout_of p) p.value c) (job_of (layout_of p) p.index p.value c) (job_of (layout_of p) p.index p.value d) last refl
      (λ i. record { layout = layout_of p; sender = p.index; stage = unless_ended (early i) (stores count seq) })
      tt (sym (ap (λ o. unless_replied o (left_at (layout_of p) p.index (stores count seq))) early)) d r is refl refl tt
      (fits.0, (fits.1.0, (fits.1.1, omega arith)))
