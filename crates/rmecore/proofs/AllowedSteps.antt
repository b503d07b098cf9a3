-- The steps that "Step" allows, one by one: what holds of each of them holds of every allowed step.
use Rattle.std.proofs.Common.{◌≡◌, ℕ, ◌+◌, ◌<◌, ◌≤◌, max, Bool, true, false, ◌&&◌, ◌||◌, ◌==◌, if◌then◌else◌, nat_lt, nat_le, List, [], ◌∷◌, Option, Some, None, IsSome, unwrap_or, refl, sym, subst, eqb-true, ltb-true, leb-true}
use Rattle.rmecore.proofs.Common.{and_parts, CoreCall, Lock, Unlock, Kind, Take as Takes, Shut as Shuts, Rereads, Open as Opens, Peek as Peeks, Look as Looks, Weigh as Weighs, Mark as Marks, Drop as Drops, Glance as Glances}
use Rattle.rmecore.proofs.Common.{Word, Choosing as ChoosingOf, Number as NumberOf, InsideOf, Place, Rest, Reread, Opening, Door, Shutting, Wait, Inside, Leaving, Withdrawing, Unmarking, has, only, next, without, others}
use Rattle.rmecore.proofs.Common.{is_before, restart, shut, place_after_unmark}

-- an event that was allowed passed its test
pub guard : (b : Bool) (t s : Place) (P : Place → Type 0) → IsSome (only b t) → (b ≡ true → P t) → P (unwrap_or (only b t) s)
guard true t s P some f = f refl
guard false t s P some f = cc

-- C holds of each allowed step of process p: from a place, with its kind, its word and the value, to a place
pub record EachStep (n limit p : ℕ) (C : Place → Kind → Word → ℕ → Place → Type 0) : Type 0 where
  pub rereads_choosing : (call : CoreCall) (v : ℕ) → C (Reread call []) Rereads (ChoosingOf p) v (Reread call (v ∷ []))
  pub rereads_number : (call : CoreCall) (c v : ℕ) → C (Reread call (c ∷ [])) Rereads (NumberOf p) v (Reread call (c ∷ v ∷ []))
  pub rereads_inside : (call : CoreCall) (c k v : ℕ) → C (Reread call (c ∷ k ∷ [])) Rereads (InsideOf p) v (restart n p call c k v)
  pub opens : C Opening Opens (ChoosingOf p) 1 (Door (others n p) 0)
  pub peeks : (unread : List ℕ) (m j v : ℕ) → has unread j ≡ true → C (Door unread m) Peeks (NumberOf j) v (Door (without j unread) (max m v))
  pub takes : (m : ℕ) → m < limit → C (Door [] m) Takes (NumberOf p) (m + 1) (Shutting Lock (m + 1))
  pub spends : (m : ℕ) → limit ≤ m → C (Door [] m) Shuts (ChoosingOf p) 0 Rest
  pub shuts : (call : CoreCall) (k : ℕ) → C (Shutting call k) Shuts (ChoosingOf p) 0 (shut n p call k)
  pub looks : (k : ℕ) (unpassed : List ℕ) (j : ℕ) → has unpassed j ≡ true → C (Wait k unpassed None) Looks (ChoosingOf j) 0 (Wait k unpassed (Some j))
  pub looks_again : (k : ℕ) (unpassed : List ℕ) (j v : ℕ) → has unpassed j ≡ true → (v == 0) ≡ false → C (Wait k unpassed None) Looks (ChoosingOf j) v (Wait k unpassed None)
  pub weighs : (k : ℕ) (unpassed : List ℕ) (j v : ℕ) → ((v == 0) || is_before k p v j) ≡ true → C (Wait k unpassed (Some j)) Weighs (NumberOf j) v (Wait k (without j unpassed) None)
  pub weighs_again : (k : ℕ) (unpassed : List ℕ) (j v : ℕ) → ((v == 0) || is_before k p v j) ≡ false → C (Wait k unpassed (Some j)) Weighs (NumberOf j) v (Wait k unpassed (Some j))
  pub marks : (k : ℕ) → C (Wait k [] None) Marks (InsideOf p) 1 Inside
  pub drops : C Leaving Drops (NumberOf p) 0 (Unmarking Unlock)
  pub withdraws : C Withdrawing Drops (NumberOf p) 0 Rest
  pub unmarks : (call : CoreCall) → C (Unmarking call) Marks (InsideOf p) 0 (place_after_unmark call)
  pub glances : (s : Place) (word : Word) (v : ℕ) → C s Glances word v s

module _ (p : ℕ) where
  -- a word of p's own was read
  own_read : (P : ℕ → Place → Type 0) (q : ℕ) (t s : Place) → IsSome (only (q == p) t) → P p t → P q (unwrap_or (only (q == p) t) s)
  own_read P q t s some h = guard (q == p) t s (P q) some (λ e. subst (λ r. P r t) (sym (eqb-true q p e)) h)

  -- x was stored into a word of p's own
  own_store : (P : ℕ → ℕ → Place → Type 0) (q v x : ℕ) (f : ℕ → Place) (s : Place) → IsSome (only ((q == p) && (v == x)) (f v)) → P p x (f x) → P q v (unwrap_or (only ((q == p) && (v == x)) (f v)) s)
  own_store P q v x f s some h =
      guard _ (f v) s (P q v) some
      (λ e. let both = and_parts _ _ e in subst (λ r. P r v (f v)) (sym (eqb-true q p both.0)) (subst (λ y. P p y (f y)) (sym (eqb-true v x both.1)) h))

  -- the same under one condition more
  own_store_if :
      (P : ℕ → ℕ → Place → Type 0) (q v x : ℕ) (b : Bool) (f : ℕ → Place) (s : Place) → IsSome (only ((q == p) && (b && (v == x))) (f v)) → (b ≡ true → P p x (f x))
      → P q v (unwrap_or (only ((q == p) && (b && (v == x))) (f v)) s)
  own_store_if P q v x b f s some h =
      guard _ (f v) s (P q v) some
      (λ e. let both = and_parts _ _ e in let rest = and_parts _ _ both.1 in
      subst (λ r. P r v (f v)) (sym (eqb-true q p both.0)) (subst (λ y. P p y (f y)) (sym (eqb-true v x rest.1)) (h rest.0)))

by_test : (P : Place → Type 0) (b : Bool) (t s : Place) → (b ≡ true → P t) → (b ≡ false → P s) → P (if b then t else s)
by_test P true t s h k = h refl
by_test P false t s h k = k refl

module _ {n limit p : ℕ} {C : Place → Kind → Word → ℕ → Place → Type 0} (each : EachStep n limit p C) where
  pub by_step : (s : Place) (kind : Kind) (word : Word) (v : ℕ) → IsSome (next n limit p s kind word v) → C s kind word v (unwrap_or (next n limit p s kind word v) s)
  by_step (Reread call []) Rereads (ChoosingOf q) v some = own_read p (λ q t. C (Reread call []) Rereads (ChoosingOf q) v t) q _ _ some (each.rereads_choosing call v)
  by_step (Reread call (c ∷ [])) Rereads (NumberOf q) v some = own_read p (λ q t. C (Reread call (c ∷ [])) Rereads (NumberOf q) v t) q _ _ some (each.rereads_number call c v)
  by_step (Reread call (c ∷ k ∷ [])) Rereads (InsideOf q) v some =
      own_read p (λ q t. C (Reread call (c ∷ k ∷ [])) Rereads (InsideOf q) v t) q (restart n p call c k v) _ some (each.rereads_inside call c k v)
  by_step Opening Opens (ChoosingOf q) v some = own_store p (λ q v t. C Opening Opens (ChoosingOf q) v t) q v 1 (λ _. Door (others n p) 0) _ some each.opens
  by_step (Door unread m) Peeks (NumberOf j) v some = guard (has unread j) _ _ (λ t. C (Door unread m) Peeks (NumberOf j) v t) some (each.peeks unread m j v)
  by_step (Door [] m) Takes (NumberOf q) v some =
      own_store_if p (λ q v t. C (Door [] m) Takes (NumberOf q) v t) q v (m + 1) (nat_lt m limit) (λ v. Shutting Lock v) _ some (λ e. each.takes m (ltb-true m limit e))
  by_step (Door [] m) Shuts (ChoosingOf q) v some =
      own_store_if p (λ q v t. C (Door [] m) Shuts (ChoosingOf q) v t) q v 0 (nat_le limit m) (λ _. Rest) _ some (λ e. each.spends m (leb-true limit m e))
  by_step (Shutting call k) Shuts (ChoosingOf q) v some =
      own_store p (λ q v t. C (Shutting call k) Shuts (ChoosingOf q) v t) q v 0 (λ _. shut n p call k) _ some (each.shuts call k)
  by_step (Wait k unpassed None) Looks (ChoosingOf j) v some =
      guard (has unpassed j) _ _ (λ t. C (Wait k unpassed None) Looks (ChoosingOf j) v t) some
      (λ e. by_test (λ t. C (Wait k unpassed None) Looks (ChoosingOf j) v t) (v == 0) _ _
      (λ z. subst (λ y. C (Wait k unpassed None) Looks (ChoosingOf j) y (Wait k unpassed (Some j))) (sym (eqb-true v 0 z)) (each.looks k unpassed j e)) (each.looks_again k unpassed j v e))
  by_step (Wait k unpassed (Some i)) Weighs (NumberOf j) v some =
      guard (j == i) _ _ (λ t. C (Wait k unpassed (Some i)) Weighs (NumberOf j) v t) some
      (λ e. subst (λ r. C (Wait k unpassed (Some r)) Weighs (NumberOf j) v (if (v == 0) || is_before k p v j then Wait k (without j unpassed) None else Wait k unpassed (Some r))) (eqb-true j i e)
      (by_test (λ t. C (Wait k unpassed (Some j)) Weighs (NumberOf j) v t) ((v == 0) || is_before k p v j) _ _ (each.weighs k unpassed j v) (each.weighs_again k unpassed j v)))
  by_step (Wait k [] None) Marks (InsideOf q) v some = own_store p (λ q v t. C (Wait k [] None) Marks (InsideOf q) v t) q v 1 (λ _. Inside) _ some (each.marks k)
  by_step Leaving Drops (NumberOf q) v some = own_store p (λ q v t. C Leaving Drops (NumberOf q) v t) q v 0 (λ _. Unmarking Unlock) _ some each.drops
  by_step Withdrawing Drops (NumberOf q) v some = own_store p (λ q v t. C Withdrawing Drops (NumberOf q) v t) q v 0 (λ _. Rest) _ some each.withdraws
  by_step (Unmarking call) Marks (InsideOf q) v some = own_store p (λ q v t. C (Unmarking call) Marks (InsideOf q) v t) q v 0 (λ _. place_after_unmark call) _ some (each.unmarks call)
  by_step s Glances (ChoosingOf q) v some = each.glances s (ChoosingOf q) v
  by_step s Glances (NumberOf q) v some = each.glances s (NumberOf q) v
  by_step s Glances (InsideOf q) v some = each.glances s (InsideOf q) v
  by_step _ _ _ _ some = absurd (cc)

  -- the same, where the place after it is known
  pub by_step_to : (s : Place) (kind : Kind) (word : Word) (v : ℕ) (t : Place) → next n limit p s kind word v ≡ Some t → C s kind word v t
  by_step_to s kind word v t e = to (next n limit p s kind word v) (by_step s kind word v) e
    where
      same : (x : Place) → Some x ≡ Some t → x ≡ t
      same x e = cc

      to : (o : Option Place) → (IsSome o → C s kind word v (unwrap_or o s)) → o ≡ Some t → C s kind word v t
      to None h e = absurd (cc)
      to (Some x) h e = subst (C s kind word v) (same x e) (h refl)
