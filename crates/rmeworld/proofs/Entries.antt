-- The core answers In, InAgain or Found(Inside) exactly when the process becomes inside.
use Rattle.std.proofs.Common.{◌≡◌, ℕ, zero, suc, Bool, false, [], ◌∷◌, Option, Some, None, IsSome, IfSome, unwrap_or, refl}
use Rattle.rmeworld.proofs.Common.{Access, CoreCall as Call, CoreDone, Rereads, Shut as Shuts, Mark as Marks, Standing, kind_of, word_of, answer, progress}
use Rattle.rmeworld.proofs.Common.{after_access, lock_access as next_access, carried_value, Place, next, Reread, Shutting, Unmarking, Inside}
use Rattle.rmeworld.proofs.Common.{restart, shut, place_after_unmark, is_entry, checks_done, mended_done, mended_entered}
use Rattle.rmecore.specs.declared.core_call.CoreCall.TheVariants.{Lock}
use Rattle.rmecore.specs.Machine.{IsAllowed}
use Rattle.rmecore.specs.Paid.{is_glance}
use Rattle.rmecore.specs.declared.kind.Kind.{Kind}
use Rattle.rmecore.specs.declared.word.Word.{Word}
use Rattle.rmecore.proofs.AllowedSteps.{by_step}
use Rattle.rmecore.proofs.Tallies.{never_glances}

abbrev pub Enters : Option CoreDone → Place → Place → Type 0
Enters done s t = (checks_done done ≡ is_entry s t) × ((b : Bool) → mended_done b done ≡ mended_entered b s t)

rereads : (n limit p : ℕ) (call : Call) (c k i : ℕ) → Enters (answer (Reread call (c ∷ k ∷ [])) Rereads i) (Reread call (c ∷ k ∷ [])) (restart n p call c k i)
rereads n limit p Lock (suc c) zero i = (refl, λ b. refl)
rereads n limit p _ (suc c) zero i = (refl, λ b. refl)
rereads n limit p _ zero zero (suc i) = (refl, λ b. refl)
rereads n limit p _ zero (suc k) (suc i) = (refl, λ b. refl)
rereads n limit p _ _ _ _ = (refl, λ b. refl)

shuts : (n p : ℕ) (call : Call) (k v : ℕ) → Enters (answer (Shutting call k) Shuts v) (Shutting call k) (shut n p call k)
shuts n p Lock k v = (refl, λ b. refl)
shuts n p _ k v = (refl, λ b. refl)

unmarks : (call : Call) (v : ℕ) → Enters (answer (Unmarking call) Marks v) (Unmarking call) (place_after_unmark call)
unmarks Lock v = (refl, λ b. refl)
unmarks _ v = (refl, λ b. refl)

entered : (n limit p : ℕ) (s : Place) (kind : Kind) (word : Word) (v : ℕ) → IsSome (next n limit p s kind word v) → is_glance kind ≡ false → Enters (answer s kind v) s (unwrap_or (next n limit p s kind word v) s)
entered n limit p =
    by_step {C = λ s kind word v t. is_glance kind ≡ false → Enters (answer s kind v) s t} (
    record {
      rereads_choosing = λ call v moves. (refl, λ b. refl);
      rereads_number = λ call c v moves. (refl, λ b. refl);
      rereads_inside = λ call c k v moves. rereads n limit p call c k v;
      opens = λ moves. (refl, λ b. refl);
      peeks = λ unread m j v there moves. (refl, λ b. refl);
      takes = λ m less moves. (refl, λ b. refl);
      spends = λ m most moves. (refl, λ b. refl);
      shuts = λ call k moves. shuts n p call k 0;
      looks = λ k unpassed j there moves. (refl, λ b. refl);
      looks_again = λ k unpassed j v there blocked moves. (refl, λ b. refl);
      weighs = λ k unpassed j v passes moves. (refl, λ b. refl);
      weighs_again = λ k unpassed j v blocked moves. (refl, λ b. refl);
      marks = λ k moves. (refl, λ b. refl);
      drops = λ moves. (refl, λ b. refl);
      withdraws = λ moves. (refl, λ b. refl);
      unmarks = λ call moves. unmarks call 0;
      glances = λ s word v moves. absurd (cc);
    })

-- the core's answer decides whether the process has entered
of_step : (s : Standing) (v : ℕ) (o : Option Access) → IfSome o (IsAllowed s) → IfSome o (λ a. is_glance (kind_of a) ≡ false) → Enters None s.place s.place → Enters (progress s o v).done s.place (after_access s o v)
of_step s v None h moves same = same
of_step s v (Some a) h moves same = entered s.procs s.limit s.index s.place (kind_of a) (word_of a) (carried_value a v) (h v) moves

pub stays : (s : Place) → Enters None s s
stays Inside = (refl, λ b. refl)
stays _ = (refl, λ b. refl)

pub all_entered : (s : Standing) (v : ℕ) → IfSome (next_access s) (IsAllowed s) → Enters (progress s (next_access s) v).done s.place (after_access s (next_access s) v)
all_entered s v h = of_step s v (next_access s) h (never_glances s.limit s.index s.place) (stays s.place)
