-- The counts of a simulated core are the steps of the table.
use Rattle.std.proofs.Common.{◌≡◌, ℕ, ◌+◌, ◌<◌, Bool, true, false, nat_lt, if◌then◌else◌, [], ◌∷◌, Option, Some, None, IsSome, IfSome, unwrap_or, refl, sym, ap, ◌∙◌, inl, inr, arith, eqb-true}
use Rattle.rmecore.proofs.Common.{cases_Bool, CoreCall, Lock, CoreDone, Kind, Rereads}
use Rattle.rmecore.proofs.Common.{Glance as Glances, Own, Tally, Word, Choosing as ChoosingOf, Number as NumberOf, InsideOf, access, kind_of, is_blocked, answer, is_glance, ReadsBegun}
use Rattle.rmecore.proofs.Common.{Place, Reread, Door, Wait, next, Steps, shut, place_after_unmark, tally_after_step, IsExact, HasTaken, IsTallied, IsRereading}
use Rattle.rmecore.proofs.Common.{World, is_store, write, Reads, words_after_event}
use Rattle.rmecore.proofs.Accesses.{passed}
use Rattle.rmecore.proofs.Payments.{Comes, pays}
use Rattle.rmecore.proofs.AllowedSteps.{by_step}

-- the machine's next step is never a glance
pub never_glances : (limit p : ℕ) (place : Place) → IfSome (access limit p place) (λ a. is_glance (kind_of a) ≡ false)
never_glances limit p (Door [] m) = elim (cases_Bool (nat_lt m limit)) [ inl e ↦ rw e refl | inr e ↦ rw e refl ]
never_glances limit p (Reread call (c ∷ k ∷ i ∷ seen)) = tt
never_glances limit p (Wait k unpassed (Some j)) = refl
never_glances limit p (Wait k (j ∷ js) None) = refl
never_glances limit p _ = assumption

-- the counts after a step

pub exact_before : (t : Tally) (b : Bool) → IsExact (tally_after_step t b) → IsExact t
exact_before t b e = omega arith

pub sums : (t : Tally) (b : Bool) (x : ℕ) → IsExact (tally_after_step t b) → t.steps ≡ x + t.blocked → (tally_after_step t b).steps ≡ (if b then x else x + 1) + (tally_after_step t b).blocked
sums t true x e h = omega arith
sums t false x e h = omega arith

-- a process that rereads after a step has read one of its own words in that step

-- what the place after a step says of the place before
abbrev pub Was : Place → Kind → Place → Type 0
Was s kind s' = IsRereading s' → IsRereading s × (is_store kind ≡ false)

shut_not : (n p : ℕ) (call : CoreCall) (k : ℕ) → IsRereading (shut n p call k) → ⊥
shut_not n p Lock k h = h
shut_not n p _ k h = h

unmarked_not : (call : CoreCall) → IsRereading (place_after_unmark call) → ⊥
unmarked_not Lock h = h
unmarked_not _ h = h

pub rereads_on : (n limit p : ℕ) (s : Place) (kind : Kind) (word : Word) (v : ℕ) → IsSome (next n limit p s kind word v) → is_glance kind ≡ false → Was s kind (unwrap_or (next n limit p s kind word v) s)
rereads_on n limit p =
    by_step {C = λ s kind word v t. is_glance kind ≡ false → Was s kind t} (
    record {
      rereads_choosing = λ call v not_glance h. (tt, refl);
      rereads_number = λ call c v not_glance h. (tt, refl);
      rereads_inside = λ call c k v not_glance h. (tt, refl);
      opens = λ not_glance h. absurd h;
      peeks = λ unread m j v there not_glance h. absurd h;
      takes = λ m less not_glance h. absurd h;
      spends = λ m most not_glance h. absurd h;
      shuts = λ call k not_glance h. absurd (shut_not n p call k h);
      looks = λ k unpassed j there not_glance h. absurd h;
      looks_again = λ k unpassed j v there blocked not_glance h. absurd h;
      weighs = λ k unpassed j v passes not_glance h. absurd h;
      weighs_again = λ k unpassed j v blocked not_glance h. absurd h;
      marks = λ k not_glance h. absurd h;
      drops = λ not_glance h. absurd h;
      withdraws = λ not_glance h. absurd h;
      unmarks = λ call not_glance h. absurd (unmarked_not call h);
      glances = λ s word v not_glance h. absurd (cc);
    })

-- a reread reads the words as they were when the call began
pub reads_begun : (n limit : ℕ) (w : World) (p : ℕ) (began : Own) (s : Place) (kind : Kind) (word : Word) (v : ℕ) → IsSome (next n limit p s kind word v) → is_glance kind ≡ false → Reads w.words (Steps p kind word v) → (IsRereading s → began ≡ w.words p)
    → ReadsBegun began.choosing began.number began.inside s v
reads_begun n limit w p began (Reread call []) Rereads (ChoosingOf q) v some not_glance reads h =
    let mine : q ≡ p = eqb-true q p (passed _ _ some) in sym (reads refl) ∙ ap (λ r. (w.words r).choosing) mine ∙ ap (λ x. x.choosing) (sym (h tt))
reads_begun n limit w p began (Reread call (x ∷ [])) Rereads (NumberOf q) v some not_glance reads h =
    let mine : q ≡ p = eqb-true q p (passed _ _ some) in sym (reads refl) ∙ ap (λ r. (w.words r).number) mine ∙ ap (λ x. x.number) (sym (h tt))
reads_begun n limit w p began (Reread call (x ∷ y ∷ [])) Rereads (InsideOf q) v some not_glance reads h =
    let mine : q ≡ p = eqb-true q p (passed _ _ some) in sym (reads refl) ∙ ap (λ r. (w.words r).inside) mine ∙ ap (λ x. x.inside) (sym (h tt))
reads_begun n limit w p began (Reread call seen) Glances word v some not_glance reads h = absurd (cc)
reads_begun n limit w p began (Reread call seen) kind word v some not_glance reads h = absurd (cc)
reads_begun n limit w p began _ kind word v some not_glance reads h = tt

-- the counts after one step of a process at place s. The call began with the words in its tally
module _ (n limit : ℕ) (w : World) (p : ℕ) (kind : Kind) (word : Word) (v : ℕ) (t : Tally) (below : p < n) (some : IsSome (next n limit p (w.places p) kind word v)) (not_glance : is_glance kind ≡ false) (reports : Reads w.words (Steps p kind word v))
    (tallied : IsTallied n (w.words p) (w.places p) t) where
  abbrev b : Bool
  b = is_blocked p (w.places p) kind v

  abbrev to : Place
  to = unwrap_or (next n limit p (w.places p) kind word v) (w.places p)

  counts : IsExact (tally_after_step t b) → (x : ℕ) × Comes n t.began.choosing t.began.number t.began.inside (answer (w.places p) kind v) to x × ((tally_after_step t b).steps ≡ x + (tally_after_step t b).blocked)
  counts exact =
      let old = tallied.taking (exact_before t b exact) in
      let reads = reads_begun n limit w p t.began (w.places p) kind word v some not_glance reports tallied.began in
      (if b then old.0 else old.0 + 1, pays n p below limit _ _ _ (w.places p) kind word v old.0 some not_glance reads old.1, sums t b old.0 exact old.2)

  -- with the answer, the steps are exactly those of the table
  pub answered : IfSome (answer (w.places p) kind v) (λ done. IsExact (tally_after_step t b) → HasTaken n (tally_after_step t b) done)
  answered = of (answer (w.places p) kind v) counts
    where
      of : (o : Option CoreDone) → (IsExact (tally_after_step t b) → (x : ℕ) × Comes n t.began.choosing t.began.number t.began.inside o to x × ((tally_after_step t b).steps ≡ x + (tally_after_step t b).blocked)) → IfSome o (λ done. IsExact (tally_after_step t b) → HasTaken n (tally_after_step t b) done)
      of None f = tt
      of (Some done) f = λ exact. let c = f exact in (c.0, c.1.1, c.2)

  pub tallied_on : IsTallied n (words_after_event w.words (Steps p kind word v) p) to (tally_after_step t b)
  tallied_on =
      record {
        began = λ h.
            let was = rereads_on n limit p (w.places p) kind word v some not_glance h in
            tallied.began was.0 ∙ loads (is_store kind) was.1;
        taking = λ exact. let c = counts exact in (c.0, c.1.0, c.2);
      }
    where
      loads : (store : Bool) → store ≡ false → w.words p ≡ (if store then write w.words word v else w.words) p
      loads true e = cc
      loads false e = refl
