-- A repair writes all apply steps, however many of them are written already.
use Rattle.std.proofs.Common.{◌≡◌, ℕ, zero, suc, ◌+◌, ◌<◌, ◌≤◌, true, List, [], ◌∷◌, ◌++◌, take, refl, ◌⊎◌, sym, ◌∙◌, ap, subst, inl, inr, arith, append_assoc, append-nil}
use Rattle.redomail.proofs.Common.{cases_eq, put, Layout, Record, Reply, row, Words, saturate, last_at, place_at, final, words_after_puts, Done, puts, Script, gets, in_row, apply_steps, record_of, redo, repair}
use Rattle.redomail.specs.declared.reply.Reply.TheVariants as reply
use Rattle.redomail.specs.Laws.{RepairCompletes}
use Rattle.redomail.proofs.Words.{put-other, put-same, place_low, row-alike}

-- none of the puts is at this index
abbrev pub Outside : List (ℕ × ℕ) → ℕ → Type 0
Outside [] i = Unit {0}
Outside (x ∷ xs) i = (i ≡ x.0 → ⊥) × Outside xs i

pub Outside-append : (xs ys : List (ℕ × ℕ)) (i : ℕ) → Outside xs i → Outside ys i → Outside (xs ++ ys) i
Outside-append [] ys i a b = b
Outside-append (x ∷ xs) ys i a b = (a.0, Outside-append xs ys i a.1 b)

pub Outside-in_row : (at : ℕ) (vs : List ℕ) (i : ℕ) → i < at → i < 100 → Outside (in_row at vs) i
Outside-in_row at [] i a b = tt
Outside-in_row at (v ∷ vs) i a b = ((λ e. omega arith), Outside-in_row (at + 1) vs i (omega arith) b)

-- the first j puts change no word but their own
front_other : (j : ℕ) (xs : List (ℕ × ℕ)) (w : Words) (i : ℕ) → Outside xs i → words_after_puts (take j xs) w i ≡ w i
front_other zero xs w i out = refl
front_other (suc j) [] w i out = refl
front_other (suc j) (x ∷ xs) w i out = front_other j xs (put w x.0 x.1) i out.1 ∙ put-other w x.0 x.1 i out.0

-- words that agree wherever the puts don't write agree everywhere after them
written-same : (xs : List (ℕ × ℕ)) (v w : Words) → ((i : ℕ) → Outside xs i → v i ≡ w i) → (i : ℕ) → words_after_puts xs v i ≡ words_after_puts xs w i
written-same [] v w same i = same i tt
written-same (x ∷ xs) v w same i =
    written-same xs (put v x.0 x.1) (put w x.0 x.1)
    (λ j out.
    elim (cases_eq j x.0) [
      | inl e ↦ put-same v x.0 x.1 j e ∙ sym (put-same w x.0 x.1 j e)
      | inr ne ↦ put-other v x.0 x.1 j ne ∙ (same j (ne, out) ∙ sym (put-other w x.0 x.1 j ne))
    ])
    i

pub written-append : (xs ys : List (ℕ × ℕ)) (w : Words) → words_after_puts (xs ++ ys) w ≡ words_after_puts ys (words_after_puts xs w)
written-append [] ys w = refl
written-append (x ∷ xs) ys w = written-append xs ys (put w x.0 x.1)

pub final-puts : (xs : List (ℕ × ℕ)) (e : Script Reply) (w : Words) → final (puts xs e) w ≡ final e (words_after_puts xs w)
final-puts [] e w = refl
final-puts (x ∷ xs) e w = final-puts xs e (put w x.0 x.1)

pub final-gets : (i n : ℕ) (read : List ℕ) (next : List ℕ → Script Reply) (w : Words) → final (gets i n read next) w ≡ final (next (read ++ row w i n)) w
final-gets i zero read next w = ap (λ xs. final (next xs) w) (sym (append-nil read))
final-gets i (suc n) read next w =
    final-gets (i + 1) n (read ++ w i ∷ []) next w ∙ ap (λ xs. final (next xs) w) (append_assoc read (w i ∷ []) (row w (i + 1) n))

-- the first j puts without the last one, or all of them
front_or_all : (j : ℕ) (xs : List (ℕ × ℕ)) (y : ℕ × ℕ) → ((w : Words) (i : ℕ) → Outside xs i → words_after_puts (take j (xs ++ y ∷ [])) w i ≡ w i) ⊎ (take j (xs ++ y ∷ []) ≡ xs ++ y ∷ [])
front_or_all zero xs y = inl (λ w i out. refl)
front_or_all (suc zero) [] y = inr refl
front_or_all (suc (suc j)) [] y = inr refl
front_or_all (suc j) (x ∷ xs) y =
    elim (front_or_all j xs y) [
      | inl e ↦ inl (λ w i out. e (put w x.0 x.1) i out.1 ∙ put-other w x.0 x.1 i out.0)
      | inr e ↦ inr (ap (λ zs. x ∷ zs) e)
    ]

module _ (l : Layout) (p : ℕ) (r : Record) where
  -- the apply steps without the last, which clears armed
  abbrev front_steps : List (ℕ × ℕ)
  front_steps = in_row (place_at l r.at) (p ∷ r.seq ∷ r.value) ++ (last_at l p, r.seq) ∷ (2, saturate (r.at + 1)) ∷ []

  split : apply_steps l p r ≡ front_steps ++ (3, 0) ∷ []
  split = sym (append_assoc (in_row (place_at l r.at) (p ∷ r.seq ∷ r.value)) ((last_at l p, r.seq) ∷ (2, saturate (r.at + 1)) ∷ []) ((3, 0) ∷ []))

  outside_front : (i : ℕ) → 2 < i → i < 10 + l.width → l.width ≤ 8 → Outside front_steps i
  outside_front i a b most =
      let low = place_low l r.at in
      Outside-append (in_row (place_at l r.at) (p ∷ r.seq ∷ r.value)) ((last_at l p, r.seq) ∷ (2, saturate (r.at + 1)) ∷ []) i
      (Outside-in_row (place_at l r.at) (p ∷ r.seq ∷ r.value) i (omega arith) (omega arith))
      ((λ e. omega arith), ((λ e. omega arith), tt))

  outside : (i : ℕ) → 3 < i → i < 10 + l.width → l.width ≤ 8 → Outside (apply_steps l p r) i
  outside i a b most =
      subst (λ xs. Outside xs i) (sym split) (Outside-append front_steps ((3, 0) ∷ []) i (outside_front i (omega arith) b most) ((λ e. omega arith), tt))

  pub flag_off : (w : Words) → words_after_puts (apply_steps l p r) w 3 ≡ 0
  flag_off w = ap (λ xs. words_after_puts xs w 3) split ∙ ap (λ f. f 3) (written-append front_steps ((3, 0) ∷ []) w)

  armed_final : (v : Words) → v 3 ≡ 1 → v 4 ≡ r.at → v 5 ≡ r.seq → row v 6 l.width ≡ r.value → final (repair l p) v ≡ words_after_puts (apply_steps l p r) v
  armed_final v on at seq value =
      let same : record_of (v 4) (v 5) (row v 6 l.width) ≡ r = λ t. record { at = at t; seq = seq t; value = value t } in
      let start : final (repair l p) v ≡ final (gets 6 l.width [] (redo l p (v 4) (v 5))) v = rw (on, final) refl in
      start
      ∙ (final-gets 6 l.width [] (redo l p (v 4) (v 5)) v
      ∙ (final-puts (apply_steps l p (record_of (v 4) (v 5) (row v 6 l.width))) (Done (reply.Mended true)) v
      ∙ ap (λ x. words_after_puts (apply_steps l p x) v) same))

  disarmed_final : (v : Words) → v 3 ≡ 0 → final (repair l p) v ≡ v
  disarmed_final v off = rw (off, final) refl

pub repair_completes : RepairCompletes
repair_completes l p r w j layout process room on at seq value i =
    let most = layout.most in
    let all = apply_steps l p r in
    let v : Words = words_after_puts (take j all) w in
    let still : (k : ℕ) → 3 < k → k < 10 + l.width → v k ≡ w k = λ k a b. front_other j all w k (outside l p r k a b most) in
    let known : row v 6 l.width ≡ r.value = row-alike v w 6 l.width (λ k a b. still k (omega arith) (omega arith)) ∙ value in
    elim (front_or_all j (front_steps l p r) (3, 0)) [
      | inl e ↦
          (let flag : v 3 ≡ w 3 =
          ap (λ xs. words_after_puts (take j xs) w 3) (split l p r) ∙ e w 3 (outside_front l p r 3 (omega arith) (omega arith) most) in
          ap (λ f. f i) (armed_final l p r v (flag ∙ on) (still 4 (omega arith) (omega arith) ∙ at) (still 5 (omega arith) (omega arith) ∙ seq) known)
          ∙ written-same all v w (λ k out. front_other j all w k out) i)
      | inr e ↦
          (let whole : take j all ≡ all = subst (λ xs. take j xs ≡ xs) (sym (split l p r)) e in
          let P : List (ℕ × ℕ) → Type 0 = λ xs. final (repair l p) (words_after_puts xs w) i ≡ words_after_puts all w i in
          subst P (sym whole) (ap (λ f. f i) (disarmed_final l p r (words_after_puts all w) (flag_off l p r w))))
    ]
