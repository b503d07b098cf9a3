-- Every step of the lock is an entry, a re-entry, an exit, or changes nothing in who is in. No step touches a data word.
use Rattle.std.proofs.Common.{◌≡◌, ℕ, zero, suc, [], ◌∷◌, Some, None, IsSome, refl}
use Rattle.rmecore.proofs.Common.{CoreCall, Lock, Kind, Take as Takes, Rereads, Weigh as Weighs, Mark as Marks}
use Rattle.rmecore.proofs.Common.{Glance as Glances, Word, Data as DataAt, Place, Reread, Door, Wait}
use Rattle.rmecore.proofs.Common.{next, restart, shut, place_after_unmark, step_deed}
use Rattle.rmecore.proofs.AllowedSteps.{by_step_to}
use Rattle.rmecore.specs.Turn.{Elsewhere, Turn, Enters, Reenters, Exits, Same, Else}

module _ (n limit p : ℕ) where
  restarts : (call : CoreCall) (c k v : ℕ) → Turn p (Reread call (c ∷ k ∷ [])) (restart n p call c k v) (step_deed p (Reread call (c ∷ k ∷ [])) Rereads v)
  restarts Lock (suc c) zero v = Else tt tt tt
  restarts call (suc c) zero v = Else tt tt tt
  restarts call zero zero (suc v) = Else tt tt tt
  restarts call zero (suc k) (suc v) = Reenters call (zero ∷ suc k ∷ []) refl refl refl
  restarts _ _ _ _ = Else tt tt tt

  glanced : (s : Place) (v : ℕ) → step_deed p s Glances v ≡ None
  glanced (Reread call (c ∷ k ∷ [])) v = refl
  glanced _ v = refl

  shut_else : (call : CoreCall) (k : ℕ) → Elsewhere (shut n p call k)
  shut_else Lock k = tt
  shut_else _ k = tt

  unmarked_else : (call : CoreCall) → Elsewhere (place_after_unmark call)
  unmarked_else Lock = tt
  unmarked_else _ = tt

  pub turn : (s : Place) (kind : Kind) (word : Word) (v : ℕ) (t : Place) → next n limit p s kind word v ≡ Some t → Turn p s t (step_deed p s kind v)
  turn =
      by_step_to {C = λ s kind word v t. Turn p s t (step_deed p s kind v)} (
      record {
        rereads_choosing = λ call v. Else tt tt tt;
        rereads_number = λ call c v. Else tt tt tt;
        rereads_inside = restarts;
        opens = Else tt tt refl;
        peeks = λ unread m j v there. Else tt tt tt;
        takes = λ m less. Else tt tt refl;
        spends = λ m most. Else tt tt refl;
        shuts = λ call k. Else tt (shut_else call k) tt;
        looks = λ k unpassed j there. Else tt tt tt;
        looks_again = λ k unpassed j v there blocked. Else tt tt tt;
        weighs = λ k unpassed j v passes. Else tt tt tt;
        weighs_again = λ k unpassed j v blocked. Else tt tt tt;
        marks = λ k. Enters k [] None refl refl refl;
        drops = Exits refl tt refl;
        withdraws = Else tt tt refl;
        unmarks = λ call. Else tt (unmarked_else call) tt;
        glances = λ s word v. Same refl (glanced s v);
      })

pub not_data : (n limit p : ℕ) (s : Place) (kind : Kind) (i v : ℕ) → IsSome (next n limit p s kind (DataAt i) v) → ⊥
not_data n limit p (Reread call (c ∷ k ∷ [])) Rereads i v some = cc
not_data n limit p (Door [] m) Takes i v some = cc
not_data n limit p (Wait k unpassed (Some j)) Weighs i v some = cc
not_data n limit p (Wait k [] None) Marks i v some = cc
not_data n limit p s Glances i v some = cc
not_data _ _ _ _ _ _ _ some = cc
