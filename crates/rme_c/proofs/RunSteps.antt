-- The steps of runs: each load reads 0.
use Rattle.std.proofs.Common.{◌≡◌, ℕ, zero, suc, ◌+◌, ◌-◌, ◌*◌, ◌<◌, ◌≤◌, ◌≢◌, min, max, ◌==◌, not, true, false, nat_lt, is_none, List, [], ◌∷◌, ◌++◌, length, Option, Some, None, refl, sym, ap, ◌∙◌, subst, inl, inr, eq-eqb, eqb-true, arith}
use Rattle.std.proofs.lemmas.Bool.{eqb-false}
use Rattle.rme_c.proofs.Common.{lt-ltb, cases_Bool, Access, Place, access, first, kind_of, word_of, carried_value, above, is_entry, mended_entered, MachineState, next_access, machine_after_step, RmeProcess, layout_of, Free as IsFree}
use Rattle.rmecore.proofs.Scans.{above_first, without-first, without-next, has-first}
use Rattle.rmecore.specs.Machine.{answer, is_blocked}
use Rattle.rmecore.specs.Place.{Rest, Reread, Opening, Door, Shutting, Wait, Leaving, Unmarking, next, without, span}
use Rattle.rmecore.specs.declared.access.Access.TheVariants.{Load, Store}
use Rattle.rmecore.specs.declared.core_call.CoreCall.{CoreCall}
use Rattle.rmecore.specs.declared.core_call.CoreCall.TheVariants as call
use Rattle.rmecore.specs.declared.kind.Kind.TheVariants as kind
use Rattle.rmecore.specs.declared.word.Word.TheVariants as word
use Rattle.rmeworld.specs.MachineState.{outcome}
use Rattle.rmeworld.specs.declared.outcome.Outcome.{Outcome}
use Rattle.rme_c.specs.Codes.{code_after_step, reports_by, goes_as}
use Rattle.rme_c.specs.Runs.{Counted, fed_once, fed_zeros, AreNextAccesses, peeks, waits, CallGoesOn}

-- one feed of 0 more, at the front
pub zeros_first : (k : ℕ) (c : Counted) → fed_zeros (suc k) c ≡ fed_zeros k (fed_once c 0)
zeros_first zero c = refl
zeros_first (suc k) c = ap (λ x. fed_once x 0) (zeros_first k c)

-- zeros that are fed in two parts
pub zeros_sum : (a b s : ℕ) (c : Counted) → s ≡ a + b → fed_zeros s c ≡ fed_zeros b (fed_zeros a c)
zeros_sum a zero s c e = let same : s ≡ a = omega (arith, e) in ap (λ k. fed_zeros k c) same
zeros_sum a (suc b) s c e =
    let more : s ≡ suc (a + b) = omega (arith, e) in
    ap (λ k. fed_zeros k c) more ∙ ap (λ x. fed_once x 0) (zeros_sum a b (a + b) c refl)

pub goes_goes : (o : Option Access) → CallGoesOn (goes_as o)
goes_goes None = inl refl
goes_goes (Some (Load kind (word.Choosing p))) = inr (omega arith)
goes_goes (Some (Load kind (word.Number p))) = inr (omega arith)
goes_goes (Some (Load kind (word.Inside p))) = inr (omega arith)
goes_goes (Some (Load kind (word.Data i))) = inl refl
goes_goes (Some (Store kind word v)) = inl refl

reported_on : (o : Option Access) (x : Outcome) (next : Option Access) → is_none o ≡ false → x.answer ≡ None → x.progress.blocked ≡ false → reports_by o x next ≡ goes_as next
reported_on None x next busy none free = cc
reported_on (Some a) x next busy none free = rw (none, free) refl

length_span_out : (p i k : ℕ) → p < i → length (span p i k) ≡ k
length_span_out p i zero h = refl
length_span_out p i (suc k) h =
    elim (cases_Bool (i == p)) [
      | inl e ↦ let same : i ≡ p = eqb-true i p e in absurd (omega (arith, same, h))
      | inr e ↦ rw e (ap suc (length_span_out p (i + 1) k (omega arith)))
    ]

length_span_in : (p i k : ℕ) → i ≤ p → p < i + k → length (span p i k) + 1 ≡ k
length_span_in p i zero h below = absurd (omega arith)
length_span_in p i (suc k) h below =
    elim (cases_Bool (i == p)) [
      | inl e ↦ let same : i ≡ p = eqb-true i p e in rw e (let l = length_span_out p (i + 1) k (omega arith) in omega arith)
      | inr e ↦
          let other : i ≢ p = eqb-false i p e in
          rw e (let l = length_span_in p (i + 1) k (omega arith) (omega arith) in omega arith)
    ]

-- how many others there are
pub length_others : (n p : ℕ) → p < n → length (above n p 0) + 1 ≡ n
length_others n p h =
    let all : n ≡ n - 0 = omega arith in
    subst (λ k. length (span p 0 k) + 1 ≡ n) all (length_span_in p 0 n (omega arith) (omega arith))

pub length_waits : (js : List ℕ) → length (waits js) ≡ 2 * length js
length_waits [] = refl
length_waits (j ∷ js) = let l = length_waits js in omega arith

-- a list of processes without its first
tail_is : (n p j : ℕ) (js : List ℕ) (i : ℕ) → j ∷ js ≡ above n p i → js ≡ above n p (j + 1)
tail_is n p j js i e =
    let f : first (above n p i) ≡ Some j = ap first (sym e) in
    let both : j ∷ js ≡ j ∷ above n p (j + 1) = e ∙ above_first n p i j f in
    cc

without_next_here : (n p j : ℕ) (js : List ℕ) → js ≡ above n p (j + 1) → without j js ≡ js
without_next_here n p j js e = subst (λ l. without j l ≡ l) (sym e) (without-next n p j)

without_here : (n p j : ℕ) (js : List ℕ) → js ≡ above n p (j + 1) → without j (j ∷ js) ≡ js
without_here n p j js e = subst (λ l. without j (j ∷ l) ≡ l) (sym e) (without-first n p j)

module _ (p : RmeProcess) where
  abbrev n : ℕ
  n = p.procs

  abbrev own : ℕ
  own = p.index

  -- the machine of p with the lock's part at this place
  abbrev pub place_at : Place → MachineState
  place_at t = record { layout = layout_of p; limit = p.limit; index = p.index; lock = t; mended = p.unmended == 0; barred = not (p.barred == 0); script_state = IsFree }

  abbrev pub reached : Place → ℕ → Counted
  reached t c = record { machine = place_at t; steps = c }

  -- a step of the lock's part that is no entry
  step : (s t : Place) (a : Access) (v c : ℕ) → access p.limit p.index s ≡ Some a → next p.procs p.limit p.index s (kind_of a) (word_of a) (carried_value a v) ≡ Some t
      → is_entry s t ≡ false → mended_entered (p.unmended == 0) s t ≡ (p.unmended == 0) → c < 18446744073709551615 → fed_once (reached s c) v ≡ reached t (c + 1)
  step s t a v c is goes entry mended few =
      let counts : min (c + 1) 18446744073709551615 ≡ c + 1 = omega (arith, few) in
      rw (is, goes, entry, mended) (ap (reached t) counts)

  pub reread_choosing : (which : CoreCall) (v c : ℕ) → c < 18446744073709551615 → fed_once (reached (Reread which []) c) v ≡ reached (Reread which (v ∷ [])) (c + 1)
  reread_choosing which v c few = step (Reread which []) (Reread which (v ∷ [])) (Load kind.Reread (word.Choosing own)) v c refl (rw (eq-eqb own own refl) refl) refl refl few

  pub reread_number : (which : CoreCall) (x v c : ℕ) → c < 18446744073709551615 → fed_once (reached (Reread which (x ∷ [])) c) v ≡ reached (Reread which (x ∷ v ∷ [])) (c + 1)
  reread_number which x v c few = step (Reread which (x ∷ [])) (Reread which (x ∷ v ∷ [])) (Load kind.Reread (word.Number own)) v c refl (rw (eq-eqb own own refl) refl) refl refl few

  pub reread_inside : (c : ℕ) → c < 18446744073709551615 → fed_once (reached (Reread call.Lock (0 ∷ 0 ∷ [])) c) 0 ≡ reached Opening (c + 1)
  reread_inside c few = step (Reread call.Lock (0 ∷ 0 ∷ [])) (Opening) (Load kind.Reread (word.Inside own)) 0 c refl (rw (eq-eqb own own refl) refl) refl refl few

  pub opened : (v c : ℕ) → c < 18446744073709551615 → fed_once (reached Opening c) v ≡ reached (Door (above n own 0) 0) (c + 1)
  opened v c few = step (Opening) (Door (above n own 0) 0) (Store kind.Open (word.Choosing own) 1) v c refl (rw (eq-eqb own own refl) refl) refl refl few

  pub peeked : (j : ℕ) (js : List ℕ) (m c : ℕ) → js ≡ above n own (j + 1) → c < 18446744073709551615 → fed_once (reached (Door (j ∷ js) m) c) 0 ≡ reached (Door js m) (c + 1)
  peeked j js m c e few =
      let most : max m 0 ≡ m = omega arith in
      step (Door (j ∷ js) m) (Door js m) (Load kind.Peek (word.Number j)) 0 c refl (rw (has-first j js, without_here n own j js e, most) refl) refl refl few

  pub taken : (m v c : ℕ) → m < p.limit → c < 18446744073709551615 → fed_once (reached (Door [] m) c) v ≡ reached (Shutting call.Lock (m + 1)) (c + 1)
  taken m v c free few =
      let less : nat_lt m p.limit ≡ true = lt-ltb m p.limit free in
      step (Door [] m) (Shutting call.Lock (m + 1)) (Store kind.Take (word.Number own) (m + 1)) v c (rw less refl) (rw (eq-eqb own own refl, less, eq-eqb (m + 1) (m + 1) refl) refl) refl refl few

  pub shuts : (k v c : ℕ) → c < 18446744073709551615 → fed_once (reached (Shutting call.Lock k) c) v ≡ reached (Wait k (above n own 0) None) (c + 1)
  shuts k v c few = step (Shutting call.Lock k) (Wait k (above n own 0) None) (Store kind.Shut (word.Choosing own) 0) v c refl (rw (eq-eqb own own refl) refl) refl refl few

  pub looks : (k j : ℕ) (js : List ℕ) (c : ℕ) → c < 18446744073709551615 → fed_once (reached (Wait k (j ∷ js) None) c) 0 ≡ reached (Wait k (j ∷ js) (Some j)) (c + 1)
  looks k j js c few = step (Wait k (j ∷ js) None) (Wait k (j ∷ js) (Some j)) (Load kind.Look (word.Choosing j)) 0 c refl (rw (has-first j js) refl) refl refl few

  pub weighs : (k j : ℕ) (js : List ℕ) (c : ℕ) → js ≡ above n own (j + 1) → c < 18446744073709551615 → fed_once (reached (Wait k (j ∷ js) (Some j)) c) 0 ≡ reached (Wait k js None) (c + 1)
  weighs k j js c e few = step (Wait k (j ∷ js) (Some j)) (Wait k js None) (Load kind.Weigh (word.Number j)) 0 c refl (rw (eq-eqb j j refl) (ap (λ l. Some (Wait k l None)) (without_next_here n own j js e))) refl refl few

  pub drops : (v c : ℕ) → c < 18446744073709551615 → fed_once (reached Leaving c) v ≡ reached (Unmarking call.Unlock) (c + 1)
  drops v c few = step (Leaving) (Unmarking call.Unlock) (Store kind.Drop (word.Number own) 0) v c refl (rw (eq-eqb own own refl) refl) refl refl few

  pub unmarks : (v c : ℕ) → c < 18446744073709551615 → fed_once (reached (Unmarking call.Unlock) c) v ≡ reached Rest (c + 1)
  unmarks v c few = step (Unmarking call.Unlock) (Rest) (Store kind.Mark (word.Inside own) 0) v c refl (rw (eq-eqb own own refl) refl) refl refl few

  -- a whole scan
  pub peeks_all : (js : List ℕ) (i m c : ℕ) → js ≡ above n own i → c + length js ≤ 18446744073709551615 → fed_zeros (length js) (reached (Door js m) c) ≡ reached (Door [] m) (c + length js)
  peeks_all [] i m c e few = let same : c ≡ c + 0 = omega arith in ap (reached (Door [] m)) same
  peeks_all (j ∷ js) i m c e few =
      let t = tail_is n own j js i e in
      let same : c + 1 + length js ≡ c + suc (length js) = omega arith in
      zeros_first (length js) (reached (Door (j ∷ js) m) c)
      ∙ ap (fed_zeros (length js)) (peeked j js m c t (omega (arith, few)))
      ∙ peeks_all js (j + 1) m (c + 1) t (omega (arith, few))
      ∙ ap (reached (Door [] m)) same

  pub waits_all : (js : List ℕ) (i k c : ℕ) → js ≡ above n own i → c + length (waits js) ≤ 18446744073709551615 → fed_zeros (length (waits js)) (reached (Wait k js None) c) ≡ reached (Wait k [] None) (c + length (waits js))
  waits_all [] i k c e few = let same : c ≡ c + 0 = omega arith in ap (reached (Wait k [] None)) same
  waits_all (j ∷ js) i k c e few =
      let t = tail_is n own j js i e in
      let same : c + 1 + 1 + length (waits js) ≡ c + suc (suc (length (waits js))) = omega arith in
      zeros_first (suc (length (waits js))) (reached (Wait k (j ∷ js) None) c)
      ∙ ap (fed_zeros (suc (length (waits js)))) (looks k j js c (omega (arith, few)))
      ∙ zeros_first (length (waits js)) (reached (Wait k (j ∷ js) (Some j)) (c + 1))
      ∙ ap (fed_zeros (length (waits js))) (weighs k j js (c + 1) t (omega (arith, few)))
      ∙ waits_all js (j + 1) k (c + 1 + 1) t (omega (arith, few))
      ∙ ap (reached (Wait k [] None)) same

  -- the accesses of a scan come one after another
  pub peeks_run : (js : List ℕ) (i m : ℕ) → js ≡ above n own i → AreNextAccesses (place_at (Door js m)) (peeks js)
  peeks_run [] i m e = tt
  peeks_run (j ∷ js) i m e =
      let t = tail_is n own j js i e in
      (refl, subst (λ s. AreNextAccesses s (peeks js)) (sym (ap (λ (x : Counted). x.machine) (peeked j js m 0 t (omega arith)))) (peeks_run js (j + 1) m t))

  pub waits_run : (js : List ℕ) (i k : ℕ) → js ≡ above n own i → AreNextAccesses (place_at (Wait k js None)) (waits js)
  waits_run [] i k e = tt
  waits_run (j ∷ js) i k e =
      let t = tail_is n own j js i e in
      let weigh : Access = Load kind.Weigh (word.Number j) in (
        refl,
        subst (λ s. AreNextAccesses s (weigh ∷ waits js)) (sym (ap (λ (x : Counted). x.machine) (looks k j js 0 (omega arith))))
            (refl, subst (λ s. AreNextAccesses s (waits js)) (sym (ap (λ (x : Counted). x.machine) (weighs k j js 0 t (omega arith)))) (waits_run js (j + 1) k t)),
      )

  -- a scan, and what follows it
  pub peeks_then : (js : List ℕ) (i m : ℕ) (rest : List Access) → js ≡ above n own i → AreNextAccesses (place_at (Door [] m)) rest → AreNextAccesses (place_at (Door js m)) (peeks js ++ rest)
  peeks_then [] i m rest e r = r
  peeks_then (j ∷ js) i m rest e r =
      let t = tail_is n own j js i e in
      (refl, subst (λ s. AreNextAccesses s (peeks js ++ rest)) (sym (ap (λ (x : Counted). x.machine) (peeked j js m 0 t (omega arith)))) (peeks_then js (j + 1) m rest t r))

  pub waits_then : (js : List ℕ) (i k : ℕ) (rest : List Access) → js ≡ above n own i → AreNextAccesses (place_at (Wait k [] None)) rest → AreNextAccesses (place_at (Wait k js None)) (waits js ++ rest)
  waits_then [] i k rest e r = r
  waits_then (j ∷ js) i k rest e r =
      let t = tail_is n own j js i e in
      let weigh : Access = Load kind.Weigh (word.Number j) in (
        refl,
        subst (λ s. AreNextAccesses s (weigh ∷ (waits js ++ rest))) (sym (ap (λ (x : Counted). x.machine) (looks k j js 0 (omega arith))))
            (refl, subst (λ s. AreNextAccesses s (waits js ++ rest)) (sym (ap (λ (x : Counted). x.machine) (weighs k j js 0 t (omega arith)))) (waits_then js (j + 1) k rest t r)),
      )

  -- a step that neither ends its call nor is blocked
  pub reported_goes : (s : Place) (a : Access) (v : ℕ) → access p.limit p.index s ≡ Some a → answer s (kind_of a) (carried_value a v) ≡ None → is_blocked p.index s (kind_of a) (carried_value a v) ≡ false → CallGoesOn (code_after_step (place_at s) v)
  reported_goes s a v is ends blocks =
      let o : Outcome = outcome (place_at s) (next_access (place_at s)) v in
      let busy : is_none (next_access (place_at s)) ≡ false = rw is refl in
      let none : o.answer ≡ None = rw (is, ends) refl in
      let free : o.progress.blocked ≡ false = rw (is, blocks) refl in
      subst CallGoesOn (sym (reported_on (next_access (place_at s)) o (next_access (machine_after_step (place_at s) v)) busy none free)) (goes_goes (next_access (machine_after_step (place_at s) v)))

  pub peeks_go : (js : List ℕ) (i m c k : ℕ) → js ≡ above n own i → k < length js → c + length js ≤ 18446744073709551615 → CallGoesOn (code_after_step (fed_zeros k (reached (Door js m) c)).machine 0)
  peeks_go [] i m c k e h few = absurd (omega arith)
  peeks_go (j ∷ js) i m c zero e h few = reported_goes (Door (j ∷ js) m) (Load kind.Peek (word.Number j)) 0 refl refl refl
  peeks_go (j ∷ js) i m c (suc k) e h few =
      let t = tail_is n own j js i e in
      subst (λ (x : Counted). CallGoesOn (code_after_step x.machine 0)) (sym (zeros_first k _ ∙ ap (fed_zeros k) (peeked j js m c t (omega (arith, few))))) (peeks_go js (j + 1) m (c + 1) k t (omega arith) (omega (arith, few)))

  pub waits_go : (js : List ℕ) (i k c r : ℕ) → js ≡ above n own i → r < length (waits js) → c + length (waits js) ≤ 18446744073709551615 → CallGoesOn (code_after_step (fed_zeros r (reached (Wait k js None) c)).machine 0)
  waits_go [] i k c r e h few = absurd (omega arith)
  waits_go (j ∷ js) i k c zero e h few = reported_goes (Wait k (j ∷ js) None) (Load kind.Look (word.Choosing j)) 0 refl refl refl
  waits_go (j ∷ js) i k c (suc zero) e h few =
      subst (λ (x : Counted). CallGoesOn (code_after_step x.machine 0)) (sym (looks k j js c (omega (arith, few)))) (reported_goes (Wait k (j ∷ js) (Some j)) (Load kind.Weigh (word.Number j)) 0 refl refl refl)
  waits_go (j ∷ js) i k c (suc (suc r)) e h few =
      let t = tail_is n own j js i e in
      subst (λ (x : Counted). CallGoesOn (code_after_step x.machine 0))
      (sym (zeros_first (suc r) _ ∙ ap (fed_zeros (suc r)) (looks k j js c (omega (arith, few))) ∙ zeros_first r _ ∙ ap (fed_zeros r) (weighs k j js (c + 1) t (omega (arith, few)))))
      (waits_go js (j + 1) k (c + 1 + 1) r t (omega arith) (omega (arith, few)))
