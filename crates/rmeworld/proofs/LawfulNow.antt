-- The image of a global state at the end of an execution is lawful.
use Rattle.std.proofs.Common.{◌≡◌, ℕ, zero, suc, ◌<◌, ◌≤◌, ◌^◌, Bool, true, false, List, length, slice_index, refl, sym, ap, ◌∙◌, subst, inl, inr, ◌⊎◌, arith}
use Rattle.rmeworld.proofs.Common.{cases_eq, Phase, Within as Inside, DeadIn, own_at, IsInSection, Deed, Layout, Words, size, words_of, Shape, RecordRule, bit, State, Image, layout_of, IsLawfulImage}
use Rattle.rmeworld.proofs.Common.{IsWorld, IsImageOf, EveryExecutionLeavesAnImage, IsLegalHistory, image_of, ProcessState, IsSize, GlobalState, WorldState, global_state_of}
use Rattle.redomail.specs.Content.{HeadsHold}
use Rattle.rmeworld.proofs.Reaching.{Arrived, arrives, origin, reached_arrives}
use Rattle.rmeworld.proofs.Executions.{before_is}

-- a process is in, or it is not
decides : (phase : Phase) → IsInSection phase ⊎ (IsInSection phase → ⊥)
decides Inside = inl tt
decides DeadIn = inl tt
decides _ = inr (λ h. h)

abbrev pub Someone : ℕ → (ℕ → Phase) → Type 0
Someone n phases = (p : ℕ) × (p < n) × IsInSection (phases p)

abbrev pub Nobody : ℕ → (ℕ → Phase) → Type 0
Nobody n phases = (p : ℕ) → p < n → IsInSection (phases p) → ⊥

pub find_in : (n : ℕ) (phases : ℕ → Phase) → Someone n phases ⊎ Nobody n phases
find_in zero phases = inr (λ p below i. omega arith)
find_in (suc n) phases = by (find_in n phases) (decides (phases n))
  where
    by : Someone n phases ⊎ Nobody n phases → IsInSection (phases n) ⊎ (IsInSection (phases n) → ⊥) → Someone (suc n) phases ⊎ Nobody (suc n) phases
    by (inl h) here = inl (h.0, omega (arith, h.1), h.2)
    by (inr h) (inl here) = inl (n, omega arith, here)
    by (inr h) (inr out) = inr (λ p below i. elim (cases_eq p n) [ inl e ↦ out (subst (λ q. IsInSection (phases q)) e i) | inr ne ↦ h p (omega (arith, ne)) i ])

bit_least : (b : Bool) → bit b ≤ 1
bit_least true = omega arith
bit_least false = omega arith

bit_clear : (b : Bool) → bit b ≡ 0 → b ≡ false
bit_clear true e = cc
bit_clear false e = refl

-- a global state with the image's words
abbrev image_global_state : Image → (ℕ → ProcessState) → GlobalState
image_global_state i process_states = record { words = own_at i.lock; cells = words_of i.cells; process_states = process_states }

module _ (i : Image) (process_states : ℕ → ProcessState) (history : List Deed) (state : State) (a : Arrived (layout_of i) i.limit state (image_global_state i process_states) history) where
  abbrev l : Layout
  l = layout_of i

  abbrev w : Words
  w = words_of i.cells

  -- only one process is in
  only : (p : ℕ) → p < l.procs → IsInSection (a.now.lock.phase p) → (r : ℕ) → r < l.procs → IsInSection (a.now.lock.phase r) → r ≡ p
  only p below here r low there =
      elim (cases_eq r p) [
        | inl same ↦ same
        | inr ne ↦
            (let x = a.who_is_in p below here in
            let y = a.who_is_in r low there in
            let e = before_is (own_at i.lock p).number p (own_at i.lock r).number r (a.lawful.least p r below low ne x.0 x.1 y.0) in
            let f = before_is (own_at i.lock r).number r (own_at i.lock p).number p (a.lawful.least r p low below (λ z. ne (sym z)) y.0 y.1 x.0) in
            absurd (omega (arith, e, f)))
      ]

  shape_in : (p : ℕ) → p < l.procs → IsInSection (a.now.lock.phase p) → Shape l p w a.now.mail
  shape_in p below here = a.sits.shape p (only p below here)

  shape_by : Someone l.procs a.now.lock.phase ⊎ Nobody l.procs a.now.lock.phase → (p : ℕ) × Shape l p w a.now.mail
  shape_by (inl h) = (h.0, shape_in h.0 h.1 h.2)
  shape_by (inr h) = (0, a.sits.shape 0 (λ r below here. absurd (h r below here)))

  any_shape : (p : ℕ) × Shape l p w a.now.mail
  any_shape = shape_by (find_in l.procs a.now.lock.phase)

  recorded_clean : slice_index i.cells 3 ≡ 1 → slice_index i.cells 0 ≡ 0 → (p : ℕ) × ((p < l.procs) × (0 < (own_at i.lock p).number) × (0 < (own_at i.lock p).inside)) × RecordRule l p w
  recorded_clean armed calm = by (find_in l.procs a.now.lock.phase)
    where
      by : Someone l.procs a.now.lock.phase ⊎ Nobody l.procs a.now.lock.phase → (p : ℕ) × ((p < l.procs) × (0 < (own_at i.lock p).number) × (0 < (own_at i.lock p).inside)) × RecordRule l p w
      by (inl h) =
          let shape = shape_in h.0 h.1 h.2 in
          let x = a.who_is_in h.0 h.1 h.2 in
          let r = shape.record_rule armed in
          let same : r.0 ≡ h.0 = r.3 (bit_clear a.now.mail.ruined (sym shape.ruined ∙ calm)) in
          (h.0, (h.1, x.0, x.1), subst (λ q. RecordRule l q w) same r.2)
      by (inr h) = let none = a.sits.rest h calm in absurd (omega (arith, none, armed))

  module _ (version : i.version ≡ 2) (sized : IsSize l) (limited : (1 ≤ i.limit) × (i.limit ≤ 2 ^ 62)) (filled : length i.cells ≡ size l) where
    heads : HeadsHold l i.cells
    heads =
        let h = any_shape.1 in
        record {
          least = sized.layout.least;
          most = sized.layout.most;
          size = filled;
          ruined = subst (λ x. x ≤ 1) (sym h.ruined) (bit_least a.now.mail.ruined);
          closed = subst (λ x. x ≤ 1) (sym h.closed) (bit_least a.now.mail.closed);
          armed = elim h.armed [ inl e ↦ omega (arith, e) | inr e ↦ omega (arith, e) ];
          room = h.room;
          apart = h.apart;
        }

    lawful_now : IsLawfulImage i
    lawful_now =
        record {
          versioned = λ _. inl version;
          sized = λ _. record {
            someone = let h = sized.procs in omega (arith, h);
            few = sized.layout.few;
            limited = limited.0;
            low = limited.1;
            room = let h = sized.cap in omega (arith, h);
            small = sized.layout.small;
            least = sized.layout.least;
            most = sized.layout.most;
          };
          filled = λ _. filled;
          rows = λ _. λ p. a.lawful.rows p;
          lawful = λ _. a.lawful;
          heads = λ _. heads;
          listed = λ _. λ e. any_shape.1.listed e;
          recorded = λ _. record {
            clean = recorded_clean;
            ruined = λ armed ruined. let r = any_shape.1.record_rule armed in (r.0, r.1, r.2);
          };
        }

-- An image of the global state at the end is lawful.
pub image_ends : {l : Layout} {limit : ℕ} {w : GlobalState} {history : List Deed} (state : State) (i : Image) → IsSize l → (1 ≤ limit) × (limit ≤ 2 ^ 62) → IsImageOf l limit w i → Arrived l limit state w history → IsLawfulImage i
image_ends {l = l} {limit = limit} {w = w} {history = history} state i sized limited is a =
    let there : w ≡ image_global_state i w.process_states = λ j. record { words = sym is.words j; cells = sym is.cells j; process_states = w.process_states } in
    let global_state = subst (λ x. Arrived l limit state x history) there a in
    let limits = subst (λ x. Arrived l x state (image_global_state i w.process_states) history) (sym is.limited) global_state in
    let arrived = subst (λ x. Arrived x i.limit state (image_global_state i w.process_states) history) (sym is.layout) limits in
    lawful_now i w.process_states history state arrived is.version (subst IsSize (sym is.layout) sized) (subst (λ x. (1 ≤ x) × (x ≤ 2 ^ 62)) (sym is.limited) limited)
    (is.filled ∙ ap size (sym is.layout))

pub every_execution_leaves_an_image : EveryExecutionLeavesAnImage
every_execution_leaves_an_image l limit w s execution i sized limited start reports is =
    image_ends s i sized limited is (arrives l limit w s execution sized.layout (origin l limit w s sized.layout start) reports)

pub image_is_lawful : (s : WorldState) → IsWorld s → IsLawfulImage (image_of s)
image_is_lawful s world =
    let is : IsImageOf s.layout s.limit (global_state_of s) (image_of s) = record {
      version = refl;
      layout = λ j. record { procs = world.configured.words_each j; cap = s.layout.cap; width = s.layout.width };
      limited = refl;
      filled = world.filled;
      words = refl;
      cells = refl;
    } in
    image_ends world.reached.state (image_of s) world.sized world.limited is (reached_arrives world.sized.layout world.reached)

pub history_is_legal : (s : WorldState) → IsWorld s → IsLegalHistory s
history_is_legal s world =
    let r = world.reached in
    let a = reached_arrives world.sized.layout r in
    record { first = r.first; state = r.state; origin = r.origin; now = a.now; leads = a.leads }
