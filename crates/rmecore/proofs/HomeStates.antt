-- From every world of a run all processes can come home.
use Rattle.std.proofs.Common.{◌≡◌, ◌≢◌, ℕ, zero, suc, ◌<◌, ◌≤◌, true, false, ◌==◌, ◌⊎◌, List, [], ◌∷◌, length, Option, refl, sym, ap, ◌∙◌, subst, inl, inr, arith, eq-eqb}
use Rattle.rmecore.proofs.Common.{cases_eq, cases_lt, or_left, or_right, Own, Place, Wait, has, without, others, is_before}
use Rattle.rmecore.proofs.Common.{World, final, deeds}
use Rattle.rmecore.proofs.Common.{IsUninterrupted, IsHome, IsWaiting, IsInLine, IsLess, EnterInLine, CanComeHome, entries, is_idle}
use Rattle.rmecore.specs.HomeState.{ComesBefore}
use Rattle.rmecore.proofs.Invariant.{has-without, has-others}
use Rattle.rmecore.proofs.Bounds.{before_test}
use Rattle.rmecore.proofs.Rows.{before_by}
use Rattle.rmecore.proofs.Continuations.{Continues, ended, followed, followed_by, widened}
use Rattle.rmecore.proofs.SoundWorlds.{Sound}
use Rattle.rmecore.proofs.InLine.{InLineWith, stays_in_line, is_answered}
use Rattle.rmecore.proofs.Settling.{Ends, IsSettled, fits, settled_as, settles}
use Rattle.rmecore.proofs.Entering.{MayPass, enters_and_leaves}
use Rattle.rmecore.proofs.Scans.{without_less}

-- a pair before another, and both orders

pub one_comes_first : (k p v q : ℕ) → p ≢ q → (is_before k p v q ≡ true) ⊎ (is_before v q k p ≡ true)
one_comes_first k p v q ne =
    elim (cases_lt k v) [
      | inl less ↦ inl (before_test k p v q (inl less))
      | inr no_less ↦ elim (cases_eq k v) [
        | inl same ↦ elim (cases_lt p q) [ inl low ↦ inl (before_test k p v q (inr (same, low))) | inr high ↦ inr (before_test v q k p (inr (sym same, omega arith))) ]
        | inr other ↦ inr (before_test v q k p (inl (omega arith)))
      ]
    ]

pub before_is_transitive : (k p v q x r : ℕ) → is_before k p v q ≡ true → is_before v q x r ≡ true → is_before k p x r ≡ true
before_is_transitive k p v q x r h h' =
    elim (before_by k p v q h) [
      | inl less ↦ elim (before_by v q x r h') [ inl less' ↦ before_test k p x r (inl (omega arith)) | inr same ↦ before_test k p x r (inl (omega arith)) ]
      | inr same ↦ elim (before_by v q x r h') [ inl less ↦ before_test k p x r (inl (omega arith)) | inr same' ↦ before_test k p x r (inr (omega arith, omega arith)) ]
    ]

not_both : (k p v q : ℕ) → is_before k p v q ≡ true → is_before v q k p ≡ true → ⊥
not_both k p v q h h' =
    let a = before_by k p v q h in
    let b = before_by v q k p h' in
    omega arith

waits_or_not : (s : Place) → IsWaiting s ⊎ (IsWaiting s → ⊥)
waits_or_not (Wait k unpassed looked) = inl tt
waits_or_not _ = inr (λ h. h)

-- the number and the sets of a process that waits
pub record Waits (s : Place) : Type 0 where
  pub number : ℕ
  pub unpassed : List ℕ
  pub looked : Option ℕ
  pub is : s ≡ Wait number unpassed looked

pub waits_as : (s : Place) → IsWaiting s → Waits s
waits_as (Wait k unpassed looked) h = record { number = k; unpassed = unpassed; looked = looked; is = refl }
waits_as _ h = absurd h

-- the processes below m are home or wait
pub record Settled (n m : ℕ) (w : World) : Type 0 where
  pub sound : Sound n w
  pub settled : (p : ℕ) → p < m → IsSettled w p

-- all that wait enter, in the order of their pairs
pub record WaitersEnter (n : ℕ) (w : World) (entered : List ℕ) : Type 0 where
  pub each : (p : ℕ) → p < n → IsWaiting (w.places p) → has entered p ≡ true
  pub order : (p q : ℕ) → p < n → q < n → IsWaiting (w.places p) → IsWaiting (w.places q) → IsLess w p q → ComesBefore p q entered

-- the least pair of those that wait

pub record Least (m : ℕ) (w : World) : Type 0 where
  pub first : ℕ
  pub low : first < m
  pub waits : IsWaiting (w.places first)
  pub least : (q : ℕ) → q < m → q ≢ first → IsWaiting (w.places q) → IsLess w first q

not_home : (w : World) (p : ℕ) → IsHome w p → IsWaiting (w.places p) → ⊥
not_home w p h waits = subst IsWaiting h.0 waits

pub least_of : (m : ℕ) (w : World) → ((p : ℕ) → p < m → IsSettled w p) → ((p : ℕ) → p < m → IsHome w p) ⊎ Least m w
least_of zero w h = inl (λ p low. absurd (omega arith))
least_of (suc m) w h =
    elim (least_of m w (λ p low. h p (omega arith))) [
      | inl homes ↦ elim (h m (omega arith)) [
        | inl home ↦ inl (λ p low. elim (cases_eq p m) [ inl is ↦ subst (IsHome w) (sym is) home | inr ne ↦ homes p (omega arith) ])
        | inr waits ↦ inr (record { first = m; low = omega arith; waits = waits; least = λ q low ne also. absurd (not_home w q (homes q (omega arith)) also) })
      ]
      | inr l ↦ elim (h m (omega arith)) [
        | inl home ↦ inr (record {
          first = l.first;
          low = omega arith;
          waits = l.waits;
          least = λ q low ne also. elim (cases_eq q m) [ inl is ↦ absurd (not_home w m home (subst (λ r. IsWaiting (w.places r)) is also)) | inr far ↦ l.least q (omega arith) ne also ];
        })
        | inr waits ↦ elim (one_comes_first (w.words l.first).number l.first (w.words m).number m (λ is. omega arith)) [
          | inl less ↦ inr (record {
            first = l.first;
            low = omega arith;
            waits = l.waits;
            least = λ q low ne also. elim (cases_eq q m) [ inl is ↦ subst (IsLess w l.first) (sym is) less | inr far ↦ l.least q (omega arith) ne also ];
          })
          | inr less ↦ inr (record {
            first = m;
            low = omega arith;
            waits = waits;
            least = λ q low ne also. elim (cases_eq q l.first) [ inl is ↦ subst (IsLess w m) (sym is) less | inr far ↦ before_is_transitive (w.words m).number m (w.words l.first).number l.first (w.words q).number q less (l.least q (omega arith) far also) ];
          })
        ]
      ]
    ]

module _ (n limit : ℕ) where
  -- first each process goes on alone, until it is home or waits

  one_more : {m : ℕ} {w w' : World} → Settled n m w → Ends n m (λ w. IsSettled w m) w w' → Settled n (suc m) w'
  one_more {m = m} {w = w} {w' = w'} h e =
      record {
        sound = e.sound;
        settled = λ p less. elim (cases_eq p m) [ inl is ↦ subst (IsSettled w') (sym is) e.there | inr ne ↦ settled_as w w' p (e.words p ne) (e.places p ne) (h.settled p (omega arith)) ];
      }

  next_settles : {m : ℕ} {w : World} → m < n → Settled n m w → Continues n limit IsUninterrupted w [] (Settled n (suc m))
  next_settles {m = m} {w = w} below h = widened (λ e q. q.0) (λ w' e. one_more h e) (settles n limit m below (w.places m) h.sound refl)

  pub all_settle : (m : ℕ) → m ≤ n → {w : World} → Sound n w → Continues n limit IsUninterrupted w [] (Settled n m)
  all_settle zero low sound = ended (record { sound = sound; settled = λ p less. absurd (omega arith) })
  all_settle (suc m) low sound = followed (all_settle m (omega arith) sound) (λ w' h. next_settles (omega arith) h)

  -- the least pair passes all

  may_pass : {w : World} → Sound n w → ((p : ℕ) → p < n → IsSettled w p) → (l : Least n w) → MayPass n l.first w.words
  may_pass {w = w} sound h l j other =
      elim (h j other.0) [
        | inl home ↦ (ap (λ x. x.choosing) home.1, or_left ((w.words j).number == 0) (is_before (w.words l.first).number l.first (w.words j).number j) (eq-eqb (w.words j).number 0 (ap (λ x. x.number) home.1)))
        | inr waits ↦
            let s = waits_as (w.places j) waits in
            let f = fits n j other.0 sound s.is in
            (f.0, or_right ((w.words j).number == 0) (is_before (w.words l.first).number l.first (w.words j).number j) (l.least j other.0 other.1 waits))
      ]

  -- so it enters, leaves, and is home
  first_enters : {w : World} → Sound n w → ((p : ℕ) → p < n → IsSettled w p) → (l : Least n w) → Continues n limit IsUninterrupted w (l.first ∷ []) (λ w'. Ends n l.first (λ w. IsHome w l.first) w w')
  first_enters {w = w} sound h l =
      let s = waits_as (w.places l.first) l.waits in
      widened (λ e q. q.0) (λ w' e. e) (enters_and_leaves n limit l.first l.low s.number s.unpassed s.looked sound s.is (may_pass sound h l))

  -- then those that wait go home one after another

  -- all come home, and enter in line
  pub record Homecoming (w : World) : Type 0 where
    pub line : List ℕ
    pub in_line : WaitersEnter n w line
    pub way : Continues n limit IsUninterrupted w line (λ w'. (p : ℕ) → p < n → IsHome w' p)

  -- after the first is home
  joined : {w w' : World} → (l : Least n w) → Ends n l.first (λ w. IsHome w l.first) w w' → {line : List ℕ} → WaitersEnter n w' line → WaitersEnter n w (l.first ∷ line)
  joined {w = w} {w' = w'} l e {line = line} rest =
      record {
        each = λ p low waits. elim (cases_eq p l.first) [ inl is ↦ or_left (p == l.first) (has line p) (eq-eqb p l.first is) | inr ne ↦ or_right (p == l.first) (has line p) (rest.each p low (still p ne waits)) ];
        order = λ p q hp hq wp wq less. elim (cases_eq p l.first) [
          | inl is ↦ inl (sym is)
          | inr ne ↦
              let far : q ≢ l.first = λ is. not_both (w.words l.first).number l.first (w.words p).number p (l.least p hp ne wp) (subst (IsLess w p) is less) in
              let now : IsLess w' p q = subst (λ (x : Own). is_before x.number p (w'.words q).number q ≡ true) (sym (e.words p ne)) (subst (λ (x : Own). is_before (w.words p).number p x.number q ≡ true) (sym (e.words q far)) less) in
              inr (λ is. far (sym is), rest.order p q hp hq (still p ne wp) (still q far wq) now)
        ];
      }
    where
      still : (q : ℕ) → q ≢ l.first → IsWaiting (w.places q) → IsWaiting (w'.places q)
      still q ne waits = subst IsWaiting (sym (e.places q ne)) waits

  settled_still : {w w' : World} {p : ℕ} → Ends n p (λ w. IsHome w p) w w' → ((q : ℕ) → q < n → IsSettled w q) → (q : ℕ) → q < n → IsSettled w' q
  settled_still {w = w} {w' = w'} {p = p} e h q low = elim (cases_eq q p) [ inl is ↦ subst (IsSettled w') (sym is) (inl e.there) | inr ne ↦ settled_as w w' q (e.words q ne) (e.places q ne) (h q low) ]

  stays_home : (w : World) → ((p : ℕ) → p < n → IsHome w p) → Homecoming w
  stays_home w homes =
      record {
        line = [];
        in_line = record { each = λ p low waits. absurd (not_home w p (homes p low) waits); order = λ p q hp hq wp wq less. absurd (not_home w p (homes p hp) wp) };
        way = ended homes;
      }

  still_listed :
      {w w' : World} (js : List ℕ) (p : ℕ) → Ends n p (λ w. IsHome w p) w w' → ((q : ℕ) → q < n → IsWaiting (w.places q) → has js q ≡ true)
      → (q : ℕ) → q < n → IsWaiting (w'.places q) → has (without p js) q ≡ true
  still_listed {w' = w'} js p e listed q low waits =
      let away : q ≢ p = λ is. not_home w' p e.there (subst (λ r. IsWaiting (w'.places r)) is waits) in
      has-without js q p away ∙ listed q low (subst IsWaiting (e.places q away) waits)

  -- the first goes home, and then all others
  first_goes : {w : World} (l : Least n w) (c : Continues n limit IsUninterrupted w (l.first ∷ []) (λ w'. Ends n l.first (λ w. IsHome w l.first) w w')) → Homecoming (final n limit w c.events) → Homecoming w
  first_goes l c rest = record { line = l.first ∷ rest.line; in_line = joined l c.goal {line = rest.line} rest.in_line; way = followed_by c rest.way }

  -- js has all that wait
  go_home : (most : ℕ) (js : List ℕ) {w : World} → length js ≤ most → Sound n w → ((p : ℕ) → p < n → IsSettled w p) → ((p : ℕ) → p < n → IsWaiting (w.places p) → has js p ≡ true) → Homecoming w
  go_home zero js {w = w} few sound h listed =
      elim (least_of n w h) [
        | inl homes ↦ stays_home w homes
        | inr l ↦ absurd (let less = without_less js l.first (listed l.first l.low l.waits) in omega arith)
      ]
  go_home (suc most) js {w = w} few sound h listed =
      elim (least_of n w h) [
        | inl homes ↦ stays_home w homes
        | inr l ↦
            let c = first_enters sound h l in
            let less = without_less js l.first (listed l.first l.low l.waits) in
            first_goes l c (go_home most (without l.first js) (omega arith) c.goal.sound (settled_still c.goal h) (still_listed js l.first c.goal listed))
      ]

  -- those that are in line in w wait with the same number in w', where all are home or wait
  pub record LinedUp (w w' : World) : Type 0 where
    pub waits : (p : ℕ) → p < n → IsInLine w p → IsWaiting (w'.places p)
    pub number : (p : ℕ) → p < n → IsInLine w p → (w'.words p).number ≡ (w.words p).number

  lined_up : {w : World} → Sound n w → (c : Continues n limit IsUninterrupted w [] (Settled n n)) → LinedUp w (final n limit w c.events)
  lined_up {w = w} sound c =
      let w' : World = final n limit w c.events in
      let none : (p : ℕ) → has (entries (deeds n limit w c.events)) p ≡ false = λ p. ap (λ l. has l p) c.entered in
      let kept : (p : ℕ) → IsInLine w p → InLineWith w' p (w.words p).number = λ p h. stays_in_line n limit w c.events p c.run c.each sound h (none p) in
      record {
        waits = λ p low h. elim (c.goal.settled p low) [ inl home ↦ absurd (let number : (w'.words p).number ≡ 0 = ap (λ x. x.number) home.1 in let some = (kept p h).in_line.0 in omega arith) | inr waits ↦ waits ];
        number = λ p low h. (kept p h).number;
      }

  as_before : {w w' : World} {line : List ℕ} → LinedUp w w' → WaitersEnter n w' line → EnterInLine n w line
  as_before {w = w} {w' = w'} s h =
      record {
        each = λ p low wp. h.each p low (s.waits p low wp);
        order = λ p q hp hq wp wq less.
            let now : IsLess w' p q = subst (λ x. is_before x p (w'.words q).number q ≡ true) (sym (s.number p hp wp)) (subst (λ x. is_before (w.words p).number p x q ≡ true) (sym (s.number q hq wq)) less) in
            h.order p q hp hq (s.waits p hp wp) (s.waits q hq wq) now;
      }

  -- the way home, with who enters in it
  pub record WayHome (w : World) : Type 0 where
    pub line : List ℕ
    pub in_line : EnterInLine n w line
    pub way : Continues n limit IsUninterrupted w line (λ w'. (p : ℕ) → p < n → IsHome w' p)

  pub way_home : {w : World} → Sound n w → WayHome w
  way_home {w = w} sound =
      let c = all_settle n (omega arith) sound in
      let rest = go_home (length (others n n)) (others n n) (omega arith) c.goal.sound c.goal.settled (λ p low waits. has-others n n p low (λ is. omega arith)) in
      record { line = rest.line; in_line = as_before (lined_up sound c) rest.in_line; way = followed_by c rest.way }

  pub comes_home : {w : World} → Sound n w → CanComeHome n limit w
  comes_home {w = w} sound =
      let h = way_home sound in
      record {
        events = h.way.events;
        run = h.way.run;
        uninterrupted = h.way.each;
        answered = λ p low busy. is_answered n limit w h.way.events p h.way.run h.way.each busy (ap is_idle (h.way.goal p low).0);
        home = h.way.goal;
        in_line = subst (EnterInLine n w) (sym h.way.entered) h.in_line;
      }
