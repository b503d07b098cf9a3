-- In every world in which somebody is in line, somebody owes a step and is not blocked. It stays so until an effective event
-- or a disturbance comes, since all other events leave the world as it is.
use Rattle.std.proofs.Common.{◌≡◌, ◌≢◌, ℕ, zero, suc, ◌<◌, Bool, true, false, not, ◌&&◌, ◌||◌, ◌==◌, if◌then◌else◌, ◌⊎◌, List, [], ◌∷◌, Some, None, IsSome, unwrap_or, refl, sym, ap, ◌∙◌, subst, inl, inr, arith, eqb-true, eq-eqb}
use Rattle.std.proofs.lemmas.Bool.{or_from, not-true}
use Rattle.progress.proofs.Common.{and_parts, or_left, or_right, false_from_ne_true, cases_eq, Kind, Look as Looks, Weigh as Weighs, Glance as Glances, Own, Word, Choosing as ChoosingOf, Number as NumberOf, InsideOf, Data as DataAt, is_blocked, is_glance}
use Rattle.progress.proofs.Common.{put, Place, Reread, Door, Wait, has, next, Event, Starts, Crashes, Steps, without, is_before, process, World, May, after, Run, Reads, words_after_event, write, is_store, IsFirstInLine, IsLess}
use Rattle.progress.proofs.Common.{is_disturbance, is_effective, work, disturbances, Owes, is_move, moves}
use Rattle.rmecore.proofs.Accesses.{passed}
use Rattle.rmecore.proofs.Invariant.{Fits, put_same, put_other}
use Rattle.rmecore.proofs.HomeStates.{one_comes_first, before_is_transitive}
use Rattle.rmecore.proofs.Runs.{guard}
use Rattle.rmecore.proofs.SoundWorlds.{Sound, Awaits}

-- an event that is neither effective nor a disturbance leaves the world as it is

module _ (n limit : ℕ) where
  -- a glance changes no place
  glances : (q : ℕ) (s : Place) (r v : ℕ) → (next n limit q s Glances (ChoosingOf r) v ≡ Some s) × (next n limit q s Glances (NumberOf r) v ≡ Some s) × (next n limit q s Glances (InsideOf r) v ≡ Some s) × (next n limit q s Glances (DataAt r) v ≡ None)
  glances q (Reread call []) r v = (refl, refl, refl, refl)
  glances q (Reread call (c ∷ [])) r v = (refl, refl, refl, refl)
  glances q (Reread call (c ∷ k ∷ [])) r v = (refl, refl, refl, refl)
  glances q (Reread call (c ∷ k ∷ i ∷ seen)) r v = (refl, refl, refl, refl)
  glances q (Door [] m) r v = (refl, refl, refl, refl)
  glances q (Door (j ∷ unread) m) r v = (refl, refl, refl, refl)
  glances q (Wait k [] None) r v = (refl, refl, refl, refl)
  glances q (Wait k (j ∷ unpassed) None) r v = (refl, refl, refl, refl)
  glances q (Wait k unpassed (Some i)) r v = (refl, refl, refl, refl)
  glances q _ r v = (refl, refl, refl, refl)

  idle : (q : ℕ) (s : Place) (kind : Kind) (word : Word) (v : ℕ) → IsSome (next n limit q s kind word v) → (is_glance kind || is_blocked q s kind v) ≡ true → (unwrap_or (next n limit q s kind word v) s ≡ s) × (is_store kind ≡ false)
  idle q (Wait j unpassed None) Looks (ChoosingOf r) v some e =
      let blocked : (v == 0) ≡ false = not-true (v == 0) e in
      (guard (has unpassed r) (if v == 0 then Wait j unpassed (Some r) else Wait j unpassed None) (Wait j unpassed None) (λ t. t ≡ Wait j unpassed None) some (λ there. ap (λ b. if b then Wait j unpassed (Some r) else Wait j unpassed None) blocked), refl)
  idle q (Wait j unpassed (Some i)) Weighs (NumberOf r) v some e =
      let blocked : ((v == 0) || is_before j q v i) ≡ false = not-true ((v == 0) || is_before j q v i) e in (
        guard (r == i) (if ((v == 0) || is_before j q v r) then Wait j (without r unpassed) None else Wait j unpassed (Some i)) (Wait j unpassed (Some i)) (λ t. t ≡ Wait j unpassed (Some i)) some
            (λ is. ap (λ b. if b then Wait j (without r unpassed) None else Wait j unpassed (Some i)) (subst (λ a. ((v == 0) || is_before j q v a) ≡ false) (sym (eqb-true r i is)) blocked)),
        refl,
      )
  idle q s Glances (ChoosingOf r) v some e = (ap (λ o. unwrap_or o s) (glances q s r v).0, refl)
  idle q s Glances (NumberOf r) v some e = (ap (λ o. unwrap_or o s) (glances q s r v).1, refl)
  idle q s Glances (InsideOf r) v some e = (ap (λ o. unwrap_or o s) (glances q s r v).2, refl)
  idle q s Glances (DataAt r) v some e = absurd (let bad = subst IsSome (glances q s r v).3 some in cc)
  idle q _ _ _ _ some e = absurd (cc)

  same_places : (places : ℕ → Place) (q : ℕ) (s : Place) → s ≡ places q → put places q s ≡ places
  same_places places q s is = λ i r. each r i
    where
      each : (r : ℕ) → put places q s r ≡ places r
      each r = elim (cases_eq r q) [ inl e ↦ subst (λ a. put places q s a ≡ places a) (sym e) (put_same places q s ∙ is) | inr ne ↦ put_other places q s r ne ]

  unmoved : (w : World) (e : Event) → May n limit w e → is_effective (w.places (process e)) e ≡ false → is_disturbance (w.places (process e)) e ≡ false → after n limit w e ≡ w
  unmoved w (Starts q call) may e d = absurd (let bad : true ≡ false = sym (ap not d) ∙ e in cc)
  unmoved w (Crashes q) may e d = absurd (cc)
  unmoved w (Steps q kind word v) may e d =
      let h = idle q (w.places q) kind word v may.1 (either (is_disturbance (w.places q) (Steps q kind word v)) (is_glance kind || is_blocked q (w.places q) kind v) d e) in
      let words : words_after_event w.words (Steps q kind word v) ≡ w.words = ap (λ b. if b then write w.words word v else w.words) h.1 in
      let places = same_places w.places q (unwrap_or (next n limit q (w.places q) kind word v) (w.places q)) h.0 in
      λ i. record { words = words i; places = places i }
    where
      either : (a b : Bool) → a ≡ false → not (a || b) ≡ false → b ≡ true
      either false true e f = refl
      either false false e f = cc
      either true b e f = cc

  -- every own step of q that is no glance is effective
  abbrev pub IsReady : World → ℕ → Type 0
  IsReady w q = (kind : Kind) (word : Word) (v : ℕ) → IsSome (next n limit q (w.places q) kind word v) → Reads w.words (Steps q kind word v) → is_blocked q (w.places q) kind v ≡ false

  none_of : (b : Bool) (c : ℕ) → (if b then suc c else c) ≡ 0 → (b ≡ false) × (c ≡ 0)
  none_of true c e = absurd (omega arith)
  none_of false c e = (refl, e)

  no_move : (w : World) (e : Event) (q : ℕ) → May n limit w e → is_effective (w.places (process e)) e ≡ false → is_disturbance (w.places (process e)) e ≡ false → IsReady w q → ((process e == q) && is_move e) ≡ false
  no_move w (Starts r call) q may e d ready = absurd (let bad : true ≡ false = sym (ap not d) ∙ e in cc)
  no_move w (Crashes r) q may e d ready = absurd (cc)
  no_move w (Steps r kind word v) q may e d ready =
      false_from_ne_true ((r == q) && not (is_glance kind)) (λ both.
      let parts = and_parts (r == q) (not (is_glance kind)) both in
      let is : r ≡ q = eqb-true r q parts.0 in
      let glance : is_glance kind ≡ false = not-true (is_glance kind) parts.1 in
      let blocked : is_blocked r (w.places r) kind v ≡ false =
      subst (λ a. IsSome (next n limit a (w.places a) kind word v) → Reads w.words (Steps a kind word v) → is_blocked a (w.places a) kind v ≡ false) (sym is) (ready kind word v) may.1 may.2 in
      let none : (is_disturbance (w.places r) (Steps r kind word v) || (is_glance kind || is_blocked r (w.places r) kind v)) ≡ false =
      or_from (is_disturbance (w.places r) (Steps r kind word v)) (is_glance kind || is_blocked r (w.places r) kind v) d (or_from (is_glance kind) (is_blocked r (w.places r) kind v) glance blocked) in
      let bad : true ≡ false = sym (ap not none) ∙ e in cc)

  -- without an effective event and without a disturbance q does not move
  pub no_moves : (w : World) (q : ℕ) (events : List Event) → IsReady w q → Run n limit w events → work n limit w events ≡ 0 → disturbances n limit w events ≡ 0 → moves q events ≡ false
  no_moves w q [] ready run e d = refl
  no_moves w q (f ∷ fs) ready run e d =
      let e' = none_of (is_effective (w.places (process f)) f) (work n limit (after n limit w f) fs) e in
      let d' = none_of (is_disturbance (w.places (process f)) f) (disturbances n limit (after n limit w f) fs) d in
      let as_before : after n limit w f ≡ w = unmoved w f run.0 e'.0 d'.0 in
      or_from ((process f == q) && is_move f) (moves q fs) (no_move w f q run.0 e'.0 d'.0 ready)
      (subst (λ u. Run n limit u fs → work n limit u fs ≡ 0 → disturbances n limit u fs ≡ 0 → moves q fs ≡ false) (sym as_before) (no_moves w q fs ready) run.1 e'.1 d'.1)

  -- somebody owes a step and is not blocked
  pub record Owing (w : World) : Type 0 where
    pub who : ℕ
    pub below : who < n
    pub owes : Owes n w who
    pub ready : IsReady w who

  -- whoever is in its doorway is not blocked
  in_doorway : (x : Own) (q : ℕ) (s : Place) → Fits x s → 0 < x.choosing → (kind : Kind) (v : ℕ) → is_blocked q s kind v ≡ false
  in_doorway x q (Wait j unpassed looked) fits some kind v = absurd (omega arith)
  in_doorway x q _ fits some kind v = refl

  -- whoever has the least pair is not blocked where nobody is in its doorway
  module _ (w : World) (closed : (q : ℕ) → q < n → (w.words q).choosing ≡ 0) (q : ℕ) (first : IsFirstInLine n w q) where
    passes : (s : Place) → Fits (w.words q) s → Awaits n q s → (kind : Kind) (word : Word) (v : ℕ) → IsSome (next n limit q s kind word v) → Reads w.words (Steps q kind word v) → is_blocked q s kind v ≡ false
    passes (Wait j unpassed None) fits awaits Looks (ChoosingOf r) v some reports =
        let there : has unpassed r ≡ true = passed (has unpassed r) (if v == 0 then Wait j unpassed (Some r) else Wait j unpassed None) some in
        let zeroed : v ≡ 0 = sym (reports refl) ∙ closed r (awaits r there).0 in
        ap not (eq-eqb v 0 zeroed)
    passes (Wait j unpassed (Some i)) fits awaits Weighs (NumberOf r) v some reports =
        let is : r ≡ i = eqb-true r i (passed (r == i) _ some) in
        let read : (w.words i).number ≡ v = ap (λ a. (w.words a).number) (sym is) ∙ reports refl in
        ap not (elim (cases_eq v 0) [
          | inl zeroed ↦ or_left (v == 0) (is_before j q v i) (eq-eqb v 0 zeroed)
          | inr more ↦
              let less : is_before (w.words q).number q (w.words i).number i ≡ true = first i awaits.1.0 awaits.1.1 (omega arith) in
              or_right (v == 0) (is_before j q v i) (subst (λ a. is_before a q v i ≡ true) fits.1 (subst (λ a. is_before (w.words q).number q a i ≡ true) read less))
        ])
    passes (Wait j unpassed None) fits awaits Looks _ v some reports = absurd (cc)
    passes (Wait j unpassed (Some i)) fits awaits Weighs _ v some reports = absurd (cc)
    passes _ fits awaits _ _ v some reports = refl

  -- a doorway below m, or none
  doorway : (w : World) (m : ℕ) → ((q : ℕ) × (q < m) × (0 < (w.words q).choosing)) ⊎ ((q : ℕ) → q < m → (w.words q).choosing ≡ 0)
  doorway w zero = inr (λ q low. absurd (omega arith))
  doorway w (suc m) =
      elim (doorway w m) [
        | inl h ↦ inl (h.0, omega arith, h.2)
        | inr none ↦ elim (cases_eq (w.words m).choosing 0) [
          | inl zeroed ↦ inr (λ q low. elim (cases_eq q m) [ inl is ↦ subst (λ a. (w.words a).choosing ≡ 0) (sym is) zeroed | inr ne ↦ none q (omega arith) ])
          | inr some ↦ inl (m, omega arith, omega arith)
        ]
      ]

-- the least pair of all that hold a number

-- the first of those below m
record Least (m : ℕ) (w : World) : Type 0 where
  who : ℕ
  low : who < m
  holds : 0 < (w.words who).number
  first : IsFirstInLine m w who

least_below : (w : World) (m : ℕ) → ((q : ℕ) → q < m → (w.words q).number ≡ 0) ⊎ Least m w
least_below w zero = inl (λ q low. absurd (omega arith))
least_below w (suc m) =
    elim (cases_eq (w.words m).number 0) [
      | inl zeroed ↦ elim (least_below w m) [
        | inl none ↦ inl (λ q low. elim (cases_eq q m) [ inl is ↦ subst (λ a. (w.words a).number ≡ 0) (sym is) zeroed | inr ne ↦ none q (omega arith) ])
        | inr l ↦ inr (record {
          who = l.who;
          low = omega arith;
          holds = l.holds;
          first = λ q low ne some. elim (cases_eq q m) [ inl is ↦ absurd (let same : (w.words q).number ≡ 0 = ap (λ a. (w.words a).number) is ∙ zeroed in omega arith) | inr far ↦ l.first q (omega arith) ne some ];
        })
      ]
      | inr held ↦ elim (least_below w m) [
        | inl none ↦ inr (record { who = m; low = omega arith; holds = omega arith; first = λ q low ne some. absurd (let z = none q (omega arith) in omega arith) })
        | inr l ↦ elim (one_comes_first (w.words l.who).number l.who (w.words m).number m (λ is. let low = l.low in omega arith)) [
          | inl less ↦ inr (record {
            who = l.who;
            low = omega arith;
            holds = l.holds;
            first = λ q low ne some. elim (cases_eq q m) [ inl is ↦ subst (IsLess w l.who) (sym is) less | inr far ↦ l.first q (omega arith) ne some ];
          })
          | inr less ↦ inr (record {
            who = m;
            low = omega arith;
            holds = omega arith;
            first = λ q low ne some. elim (cases_eq q l.who) [
              | inl is ↦ subst (IsLess w m) (sym is) less
              | inr far ↦ before_is_transitive (w.words m).number m (w.words l.who).number l.who (w.words q).number q less (l.first q (omega arith) far some)
            ];
          })
        ]
      ]
    ]

pub owing : (n limit p : ℕ) (w : World) → p < n → 0 < (w.words p).number → Sound n w → Owing n limit w
owing n limit p w low some h =
    elim (doorway n limit w n) [
      | inl d ↦ record { who = d.0; below = d.1; owes = inl d.2; ready = λ kind word v may reports. in_doorway n limit (w.words d.0) d.0 (w.places d.0) (h.tied.fits d.0 d.1) d.2 kind v }
      | inr closed ↦ elim (least_below w n) [
        | inl none ↦ absurd (let z = none p low in omega arith)
        | inr l ↦ record { who = l.who; below = l.low; owes = inr (l.holds, l.first); ready = passes n limit w closed l.who l.first (w.places l.who) (h.tied.fits l.who l.low) (h.awaits l.who) }
      ]
    ]
