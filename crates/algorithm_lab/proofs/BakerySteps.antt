-- A step of the text and the step of the lock at the same place: the same access, deed and answer, and they lead to the same place.
use Rattle.std.proofs.Common.{◌≡◌, ℕ, ◌+◌, ◌^◌, ◌<◌, ◌≤◌, ◌==◌, ◌||◌, nat_lt, nat_le, Bool, true, false, if◌then◌else◌, max, List, [], ◌∷◌, Option, Some, None, Result, Ok, Err, unwrap_or, refl, sym, ap, ◌∙◌, subst, inl, inr, arith, le-leb}
use Rattle.std.specs.Prelude.{option_map, option_and_then, ok_or, slice_get}
use Rattle.std.specs.Option.{option_or}
use Rattle.std.specs.Ordering.{nat_cmp, ordering_then, is_eq, is_lt}
use Rattle.std.proofs.lemmas.Bool.{lt-ltb, le-ltb}
use Rattle.rmecore.specs.Place.{Place, Rest, Dead, Reread, Opening, Door, Shutting, Wait, Inside, Leaving, Withdrawing, Unmarking, above, others, next, is_before, without, only}
use Rattle.rmecore.specs.Machine.{access, kind_of, word_of, carried_value, answer}
use Rattle.rmecore.specs.World.{step_deed}
use Rattle.rmecore.specs.declared.access.Access.{Access as LockAccess}
use Rattle.rmecore.specs.declared.access.Access.TheVariants.{Load as Loads, Store as Stores}
use Rattle.rmecore.specs.declared.core_call.CoreCall.TheVariants.{Lock, Unlock, Recover}
use Rattle.rmecore.specs.declared.core_done.CoreDone.{CoreDone}
use Rattle.rmecore.specs.declared.kind.Kind.TheVariants.{Reread as Rereads, Open as Opens, Peek as Peeks, Take as Takes, Shut as Shuts, Look as Looks, Weigh as Weighs, Mark as Marks, Drop as Drops}
use Rattle.rmecore.specs.declared.outer.Outer.{Outer}
use Rattle.rmecore.specs.declared.outer.Outer.TheVariants as outers
use Rattle.rmecore.specs.declared.word.Word.{Word}
use Rattle.rmecore.specs.declared.word.Word.TheVariants.{Choosing as ChoosingOf, Number as NumberOf, Inside as InsideOf, Data as DataAt}
use Rattle.rmecore.proofs.Bounds.{Within}
use Rattle.rmecore.proofs.Invariant.{eqb_self}
use Rattle.rmecore.proofs.Scans.{without-first, has-first}
use Rattle.algorithms.specs.Accesses.{access_of, access_after_read, index_of, is_swap, bound_of, value_stored, names_after_read, passes}
use Rattle.algorithms.specs.Arrivals.{Arrival, after_round, further_rounds, most_local_rounds, round_outcome, ◌>>=◌}
use Rattle.algorithm_lab.specs.Bakery.{IsBakery, may_pass}
use Rattle.algorithms.specs.LocalRuns.{nothing_noted}
use Rattle.algorithm_lab.specs.Moves.{answer_number}
use Rattle.algorithms.specs.Steps.{step_before_access, goes_on, stays, move_of_arrival, value_of, word_at, process_landed}
use Rattle.algorithms.specs.Values.{expression_value, fitting}
use Rattle.algorithms.specs.Worlds.{taken_by, under_way, no_names}
use Rattle.algorithms.specs.declared.access.WordAccess.{WordAccess}
use Rattle.algorithms.specs.declared.access.Address.{Address}
use Rattle.algorithms.specs.declared.access.Moved.{Moved}
use Rattle.algorithms.specs.declared.access.Taken.{Taken}
use Rattle.algorithms.specs.declared.algorithm.Algorithm.{Algorithm}
use Rattle.algorithms.specs.declared.algorithm.Declaration.{Declaration}
use Rattle.algorithms.specs.declared.condition.Comparison.TheVariants.{Equal}
use Rattle.algorithms.specs.declared.condition.Condition.{Condition, Compare}
use Rattle.algorithms.specs.declared.constants.Constants.{Constants}
use Rattle.algorithms.specs.declared.expression.Expression.{Expression, Number, Private, Me, Limit}
use Rattle.algorithms.specs.declared.line.AccessLine.{AccessLine}
use Rattle.algorithms.specs.declared.line.Action.{Action}
use Rattle.algorithms.specs.declared.line.Action.TheVariants.{Load, Store, Await, Swap}
use Rattle.algorithms.specs.declared.line.AlgorithmDeed.TheVariants.{Begin}
use Rattle.algorithms.specs.declared.line.LineKind.TheVariants as forms
use Rattle.algorithms.specs.declared.process.AlgorithmProcess.{AlgorithmProcess}
use Rattle.algorithms.specs.declared.refusal.AlgorithmRefusal.{AlgorithmRefusal}
use Rattle.algorithms.specs.declared.refusal.AlgorithmRefusal.TheVariants.{OutOfRange, Malformed, NothingToDo}
use Rattle.algorithm_lab.proofs.BakeryLines.{HasForm, has_form, HasBound, has_bound, access_there, sixty, stops, ends}
use Rattle.algorithm_lab.proofs.BakeryComparisons.{constants, eq_cmp, pair_cmp, or_test}
use Rattle.algorithm_lab.proofs.BakeryLocalRuns as runs
use Rattle.algorithm_lab.proofs.BakeryLocalRuns.{Names, names, local, one, From}
use Rattle.algorithm_lab.proofs.BakeryPlaces.{before, all_names, IsLoop, Stands, noted_by}
use Rattle.algorithm_lab.proofs.BakeryLandings as lands
use Rattle.algorithm_lab.proofs.BakeryLandings.{Lands, stopped}

-- the address of a lock word, and what an access of the lock stores
abbrev pub address_of : Word → Address
address_of (ChoosingOf q) = record { declaration = 0; index = q }
address_of (NumberOf q) = record { declaration = 1; index = q }
address_of (InsideOf q) = record { declaration = 2; index = q }
address_of (DataAt q) = record { declaration = 3; index = q }

abbrev pub stores_of : LockAccess → Option ℕ
stores_of (Loads kind word) = None
stores_of (Stores kind word x) = Some x

abbrev pub access_by : LockAccess → WordAccess
access_by acc = record { address = address_of (word_of acc); stores = stores_of acc; swaps = false }

-- a step of the text does what the step of the lock does
pub record Follows (n limit p : ℕ) (place : Place) (acc : LockAccess) (v : ℕ) (t : Taken) : Type 0 where
  pub access : t.access ≡ access_by acc
  pub noted : t.moved.noted ≡ noted_by (step_deed p place (kind_of acc) (carried_value acc v))
  pub answer : t.moved.answer ≡ option_map answer_number (answer place (kind_of acc) (carried_value acc v))
  pub stands : Stands n limit p (unwrap_or (next n limit p place (kind_of acc) (word_of acc) (carried_value acc v)) place) t.moved.process

-- what is so of the value that a step reads in a run
abbrev pub ValueFits : ℕ → Place → ℕ → Type 0
ValueFits limit (Reread call (c ∷ k ∷ [])) v = (c ≤ 1) × (v ≤ 1)
ValueFits limit (Door (j ∷ js) m) v = v ≤ limit
ValueFits limit place v = Unit {0}

abbrev access_with : ℕ → ℕ → Option ℕ → WordAccess
access_with d i stores = record { address = record { declaration = d; index = i }; stores = stores; swaps = false }

abbrev access_made : Action → ℕ → ℕ → Option ℕ → WordAccess
access_made action d i stores = record { address = record { declaration = d; index = i }; stores = stores; swaps = is_swap action }

module _ (a : Algorithm) (b : IsBakery a) (n limit p : ℕ) (own : p < n) (most : n ≤ 64) (high : limit ≤ 2 ^ 62) (words : List (List ℕ)) where
  abbrev me : Constants
  me = constants p n limit

  -- ---- the access of a line

  access_is : (d i : ℕ) (index : Expression) (action : Action) (may : Bool) (store : List ℕ) (bound : Option Expression) (stores : Option ℕ)
      → HasBound a.declarations.items d bound → expression_value me store index ≡ Some i → i < n
      → ((declaration : Declaration) → declaration.bound ≡ bound → value_stored me store declaration action ≡ Some stores) → is_swap action ≡ false
      → access_of a.declarations.items me store (record { word = record { declaration = d; index = Some index }; action = action; may_withdraw = may }) ≡ Some (access_with d i stores)
  access_is d i index action may store bound stores h e low value alone =
      ap (λ o. option_and_then (λ declaration. option_and_then (λ j. option_and_then (λ s. Some (access_made action d j s)) (value_stored me store declaration action)) (index_of me store declaration.extent (Some index))) o) h.there
      ∙ ap (λ extent. option_and_then (λ j. option_and_then (λ s. Some (access_made action d j s)) (value_stored me store h.declaration action)) (index_of me store extent (Some index))) h.each
      ∙ ap (λ o. option_and_then (λ j. option_and_then (λ s. Some (access_made action d j s)) (value_stored me store h.declaration action)) (option_and_then (λ j. fitting (nat_lt j n) j) o)) e
      ∙ ap (λ t. option_and_then (λ j. option_and_then (λ s. Some (access_made action d j s)) (value_stored me store h.declaration action)) (fitting t i)) (lt-ltb i n low)
      ∙ ap (λ o. option_and_then (λ s. Some (access_made action d i s)) o) (value h.declaration h.is)
      ∙ ap (λ b. Some (record { address = record { declaration = d; index = i }; stores = stores; swaps = b })) alone

  bounded : (at : ℕ) (f : Option Expression) → slice_get (Some (Number 1) ∷ Some Limit ∷ Some (Number 1) ∷ []) at ≡ Some f → HasBound a.declarations.items at f
  bounded at f e = has_bound a b at f e

  -- a load, and a store of a number
  loads : (d i : ℕ) (index : Expression) (name : ℕ) (store : List ℕ) (bound : Option Expression) → HasBound a.declarations.items d bound → expression_value me store index ≡ Some i → i < n
      → access_of a.declarations.items me store (record { word = record { declaration = d; index = Some index }; action = Load name; may_withdraw = false }) ≡ Some (access_with d i None)
  loads d i index name store bound h e low = access_is d i index (Load name) false store bound None h e low (λ declaration is. refl) refl

  stored_by : (store : List ℕ) (value : Expression) (declaration : Declaration) (bound : Option Expression) → declaration.bound ≡ bound
      → value_stored me store declaration (Store value) ≡ option_and_then (λ most. option_and_then (λ v. if nat_le v most then Some (Some v) else None) (expression_value me store value)) (bound_of me store bound)
  stored_by store value declaration bound is =
      ap (λ o. option_and_then (λ most. option_and_then (λ v. if nat_le v most then Some (Some v) else None) (expression_value me store value)) (bound_of me store o)) is

  -- a store of 0 or 1 in choosing or inside
  marks : (d x : ℕ) (may : Bool) (store : List ℕ) → HasBound a.declarations.items d (Some (Number 1)) → x ≤ 1
      → access_of a.declarations.items me store (record { word = record { declaration = d; index = Some Me }; action = Store (Number x); may_withdraw = may }) ≡ Some (access_with d p (Some x))
  marks d x may store h low =
      access_is d p Me (Store (Number x)) may store _ (Some x) h refl own
      (λ declaration is. stored_by store (Number x) declaration _ is ∙ ap (λ t. if t then Some (Some x) else None) (le-leb x 1 low)) refl

  -- a store in number
  numbers : (value : Expression) (x : ℕ) (store : List ℕ) → expression_value me store value ≡ Some x → x ≤ limit
      → access_of a.declarations.items me store (record { word = record { declaration = 1; index = Some Me }; action = Store value; may_withdraw = false }) ≡ Some (access_with 1 p (Some x))
  numbers value x store e low =
      access_is 1 p Me (Store value) false store _ (Some x) (bounded 1 _ refl) refl own
      (λ declaration is. stored_by store value declaration _ is
      ∙ ap (λ o. option_and_then (λ v. if nat_le v limit then Some (Some v) else None) o) e
      ∙ ap (λ t. if t then Some (Some x) else None) (le-leb x limit low)) refl

  -- ---- one step

  abbrev taken_with : ℕ → WordAccess → ℕ → Moved → Taken
  taken_with at access v moved = record { at = at; access = access; value = v; moved = moved }

  abbrev after_passes : ℕ → AccessLine → List ℕ → WordAccess → ℕ → Bool → Result Taken AlgorithmRefusal
  after_passes at line store access v goes =
      (if goes then goes_on a me (at + 1) (names_after_read line.action v store) else Ok (stays at store)) >>= (λ moved. Ok (taken_with at access v moved))

  abbrev after_made : ℕ → AccessLine → List ℕ → ℕ → WordAccess → Result Taken AlgorithmRefusal
  after_made at line store v made = ok_or (passes me (names_after_read line.action v store) line.action) (OutOfRange at) >>= after_passes at line store made v

  abbrev after_value : ℕ → AccessLine → List ℕ → WordAccess → ℕ → Result Taken AlgorithmRefusal
  after_value at line store access v =
      ok_or (access_after_read a.declarations.items me (names_after_read line.action v store) line.action access) (OutOfRange at) >>= after_made at line store v

  -- all but a swap stays as it was before the read
  whole : (store : List ℕ) (action : Action) (access : WordAccess) → is_swap action ≡ false → access_after_read a.declarations.items me store action access ≡ Some access
  whole store (Load name) access alone = refl
  whole store (Store value) access alone = refl
  whole store (Await name until) access alone = refl
  whole store (Swap name value guard until) access alone = absurd (cc)

  abbrev after_access : ℕ → AccessLine → List ℕ → WordAccess → Result Taken AlgorithmRefusal
  after_access at line store access = ok_or (value_of words access) (Malformed at) >>= after_value at line store access

  -- the step up to the question whether it goes on
  begins : (at : ℕ) (store : List ℕ) (line : AccessLine) (access : WordAccess) (v : ℕ) (goes : Bool) → HasForm a.lines.items at (forms.Access line) → access_of a.declarations.items me store line ≡ Some access
      → value_of words access ≡ Some v → passes me (names_after_read line.action v store) line.action ≡ Some goes → is_swap line.action ≡ false → taken_by a me words (before at store) ≡ after_passes at line store access v goes
  begins at store line access v goes h e1 e2 e3 alone =
      ap (λ r. r >>= (λ l. step_before_access a me words at l store)) (access_there a at line h)
      ∙ ap (λ o. ok_or o (OutOfRange at) >>= after_access at line store) e1
      ∙ ap (λ o. ok_or o (Malformed at) >>= after_value at line store access) e2
      ∙ ap (λ o. ok_or o (OutOfRange at) >>= after_made at line store v) (whole (names_after_read line.action v store) line.action access alone)
      ∙ ap (λ o. ok_or o (OutOfRange at) >>= after_passes at line store access v) e3

  went_on : (at : ℕ) (store : List ℕ) (l : Arrival) → From a b me 60 (local at store nothing_noted) ≡ Ok l → goes_on a me at store ≡ Ok (move_of_arrival 0 l)
  went_on at store l e =
      ap (λ k. (round_outcome a.lines.items me k (local at store nothing_noted) >>= after_round (further_rounds a.lines.items me most_local_rounds)) >>= (λ l. Ok (move_of_arrival a.lasting l))) (sixty a b)
      ∙ ap (λ r. r >>= (λ l. Ok (move_of_arrival a.lasting l))) e
      ∙ ap (λ k. Ok (move_of_arrival k l)) b.lasting

  abbrev Step : Place → AlgorithmProcess → LockAccess → ℕ → Type 0
  Step place t acc v = (taken : Taken) × (taken_by a me words t ≡ Ok taken) × Follows n limit p place acc v taken

  -- the place that the lock comes to
  abbrev Leads : Place → LockAccess → ℕ → Place → Type 0
  Leads place acc v to = next n limit p place (kind_of acc) (word_of acc) (carried_value acc v) ≡ Some to

  arrived : (place to : Place) (acc : LockAccess) (v : ℕ) (t : AlgorithmProcess) → Leads place acc v to → Stands n limit p to t → Stands n limit p (unwrap_or (next n limit p place (kind_of acc) (word_of acc) (carried_value acc v)) place) t
  arrived place to acc v t e h = subst (λ o. Stands n limit p (unwrap_or o place) t) (sym e) h

  steps_on : (place to : Place) (acc : LockAccess) (v at x : ℕ) (store : List ℕ) (line : AccessLine) → HasForm a.lines.items at (forms.Access line)
      → access_of a.declarations.items me store line ≡ Some (access_by acc) → value_of words (access_by acc) ≡ Some x → passes me (names_after_read line.action x store) line.action ≡ Some true → is_swap line.action ≡ false
      → Lands a b n limit p own most high 60 (at + 1) (names_after_read line.action x store) to (step_deed p place (kind_of acc) (carried_value acc v)) (answer place (kind_of acc) (carried_value acc v))
      → Leads place acc v to → Step place (before at store) acc v
  steps_on place to acc v at x store line h e1 e2 e3 alone l leads = (
    taken_with at (access_by acc) x (move_of_arrival 0 l.landing),
    begins at store line (access_by acc) x true h e1 e2 e3 alone ∙ ap (λ r. r >>= (λ moved. Ok (taken_with at (access_by acc) x moved))) (went_on (at + 1) (names_after_read line.action x store) l.landing l.run),
    record { access = refl; noted = l.noted; answer = l.answer; stands = arrived place to acc v _ leads l.stands },
  )

  -- a blocked reading
  blocks : (place : Place) (acc : LockAccess) (v at x : ℕ) (store : List ℕ) (line : AccessLine) → HasForm a.lines.items at (forms.Access line)
      → access_of a.declarations.items me store line ≡ Some (access_by acc) → value_of words (access_by acc) ≡ Some x → passes me (names_after_read line.action x store) line.action ≡ Some false → is_swap line.action ≡ false
      → noted_by (step_deed p place (kind_of acc) (carried_value acc v)) ≡ nothing_noted → option_map answer_number (answer place (kind_of acc) (carried_value acc v)) ≡ None
      → Stands n limit p place (before at store) → Leads place acc v place → Step place (before at store) acc v
  blocks place acc v at x store line h e1 e2 e3 alone d r stands leads =
      (taken_with at (access_by acc) x (stays at store), begins at store line (access_by acc) x false h e1 e2 e3 alone, record { access = refl; noted = sym d; answer = sym r; stands = arrived place place acc v _ leads stands })

  -- it stops at once
  lands_at : (at : ℕ) (store : List ℕ) (place : Place) (line : AccessLine) → HasForm a.lines.items at (forms.Access line) → Stands n limit p place (before at store) → Lands a b n limit p own most high 60 at store place None None
  lands_at at store place line h stands = record { landing = record { answer = None; state = local at store nothing_noted }; run = stops a.lines.items me 59 _ line h; noted = refl; answer = refl; stands = stands }

  -- it stops after a note
  lands_noted : (at : ℕ) (store : List ℕ) (place : Place) (landing : Arrival) (deed : Option Outer) (said : Option CoreDone) → From a b me 60 (local at store nothing_noted) ≡ Ok landing
      → landing.state.noted ≡ noted_by deed → landing.answer ≡ option_map answer_number said → Stands n limit p place (process_landed 0 landing.state landing.answer) → Lands a b n limit p own most high 60 at store place deed said
  lands_noted at store place landing deed said run noted answer stands = record { landing = landing; run = run; noted = noted; answer = answer; stands = stands }

  abbrev pub Report : LockAccess → ℕ → Type 0
  Report acc v = word_at words (address_of (word_of acc)) ≡ Some v

  -- ---- each place

  abbrev pub StepIf : Place → AlgorithmProcess → Option LockAccess → Type 0
  StepIf place t None = under_way t.place ≡ Err NothingToDo
  StepIf place t (Some acc) = (v : ℕ) → ValueFits limit place v → Report acc v → Step place t acc v

  -- the three rereads
  rereads : (place to : Place) (acc : LockAccess) (v at d name : ℕ) (store : List ℕ) (bound : Option Expression)
      → HasForm a.lines.items at (forms.Access (record { word = record { declaration = d; index = Some Me }; action = Load name; may_withdraw = false }))
      → HasBound a.declarations.items d bound → access_by acc ≡ access_with d p None → Report acc v
      → Lands a b n limit p own most high 60 (at + 1) (names_after_read (Load name) v store) to (step_deed p place (kind_of acc) (carried_value acc v)) (answer place (kind_of acc) (carried_value acc v))
      → Leads place acc v to → Step place (before at store) acc v
  rereads place to acc v at d name store bound h has same reports l leads =
      steps_on place to acc v at v store _ h (loads d p Me name store bound has refl own ∙ ap Some (sym same))
      (ap (λ acc. option_or acc.stores (word_at words acc.address)) same ∙ ap (λ acc. word_at words acc.address) (sym same) ∙ reports) refl refl l leads

  -- a store without a value to receive
  stores : (place to : Place) (acc : LockAccess) (v at x : ℕ) (store : List ℕ) (d : ℕ) (value : Expression) (may : Bool)
      → HasForm a.lines.items at (forms.Access (record { word = record { declaration = d; index = Some Me }; action = Store value; may_withdraw = may }))
      → access_of a.declarations.items me store (record { word = record { declaration = d; index = Some Me }; action = Store value; may_withdraw = may }) ≡ Some (access_with d p (Some x))
      → access_by acc ≡ access_with d p (Some x)
      → Lands a b n limit p own most high 60 (at + 1) store to (step_deed p place (kind_of acc) (carried_value acc v)) (answer place (kind_of acc) (carried_value acc v))
      → Leads place acc v to → Step place (before at store) acc v
  stores place to acc v at x store d value may h e same l leads =
      steps_on place to acc v at x store _ h (e ∙ ap Some (sym same)) (ap (λ acc. option_or acc.stores (word_at words acc.address)) same) refl refl l leads

  lock_choosing : (v : ℕ) → Report (Loads Rereads (ChoosingOf p)) v → Step (Reread Lock []) (before 0 no_names) (Loads Rereads (ChoosingOf p)) v
  lock_choosing v reports =
      rereads (Reread Lock []) (Reread Lock (v ∷ [])) (Loads Rereads (ChoosingOf p)) v 0 0 0 no_names _ (has_form a b 0 _ refl) (bounded 0 _ refl) refl reports
      (lands_at 1 (names v 0 0 0 0 0) (Reread Lock (v ∷ [])) _ (has_form a b 1 _ refl) refl) (rw (eqb_self p))

  lock_number : (c v : ℕ) → Report (Loads Rereads (NumberOf p)) v → Step (Reread Lock (c ∷ [])) (before 1 (names c 0 0 0 0 0)) (Loads Rereads (NumberOf p)) v
  lock_number c v reports =
      rereads (Reread Lock (c ∷ [])) (Reread Lock (c ∷ v ∷ [])) (Loads Rereads (NumberOf p)) v 1 1 1 (names c 0 0 0 0 0) _ (has_form a b 1 _ refl) (bounded 1 _ refl) refl reports
      (lands_at 2 (names c v 0 0 0 0) (Reread Lock (c ∷ v ∷ [])) _ (has_form a b 2 _ refl) refl) (rw (eqb_self p))

  lock_inside : (c k v : ℕ) → c ≤ 1 → v ≤ 1 → Report (Loads Rereads (InsideOf p)) v → Step (Reread Lock (c ∷ k ∷ [])) (before 2 (names c k 0 0 0 0)) (Loads Rereads (InsideOf p)) v
  lock_inside c k v low small reports =
      rereads (Reread Lock (c ∷ k ∷ [])) _ (Loads Rereads (InsideOf p)) v 2 2 2 (names c k 0 0 0 0) _ (has_form a b 2 _ refl) (bounded 2 _ refl) refl reports
      (lands.relocks a b n limit p own most high c k v low small) (rw (eqb_self p))

  recover_choosing : (v : ℕ) → Report (Loads Rereads (ChoosingOf p)) v → Step (Reread Recover []) (before 40 no_names) (Loads Rereads (ChoosingOf p)) v
  recover_choosing v reports =
      rereads (Reread Recover []) (Reread Recover (v ∷ [])) (Loads Rereads (ChoosingOf p)) v 40 0 0 no_names _ (has_form a b 40 _ refl) (bounded 0 _ refl) refl reports
      (lands_at 41 (names v 0 0 0 0 0) (Reread Recover (v ∷ [])) _ (has_form a b 41 _ refl) refl) (rw (eqb_self p))

  recover_number : (c v : ℕ) → Report (Loads Rereads (NumberOf p)) v → Step (Reread Recover (c ∷ [])) (before 41 (names c 0 0 0 0 0)) (Loads Rereads (NumberOf p)) v
  recover_number c v reports =
      rereads (Reread Recover (c ∷ [])) (Reread Recover (c ∷ v ∷ [])) (Loads Rereads (NumberOf p)) v 41 1 1 (names c 0 0 0 0 0) _ (has_form a b 41 _ refl) (bounded 1 _ refl) refl reports
      (lands_at 42 (names c v 0 0 0 0) (Reread Recover (c ∷ v ∷ [])) _ (has_form a b 42 _ refl) refl) (rw (eqb_self p))

  recover_inside : (c k v : ℕ) → c ≤ 1 → v ≤ 1 → Report (Loads Rereads (InsideOf p)) v → Step (Reread Recover (c ∷ k ∷ [])) (before 42 (names c k 0 0 0 0)) (Loads Rereads (InsideOf p)) v
  recover_inside c k v low small reports =
      rereads (Reread Recover (c ∷ k ∷ [])) _ (Loads Rereads (InsideOf p)) v 42 2 2 (names c k 0 0 0 0) _ (has_form a b 42 _ refl) (bounded 2 _ refl) refl reports
      (lands.recovers a b n limit p own most high c k v low small) (rw (eqb_self p))

  opens : (x : Names) (v : ℕ) → Step Opening (before 14 (all_names x)) (Stores Opens (ChoosingOf p) 1) v
  opens x v =
      stores Opening (Door (others n p) 0) (Stores Opens (ChoosingOf p) 1) v 14 1 (all_names x) 0 (Number 1) false (has_form a b 14 _ refl) (marks 0 1 false (all_names x) (bounded 0 _ refl) (omega arith)) refl
      (let h = lands.door_starts a b n limit p own most high 54 x.c x.k x.i x.j x.v (one Begin) (above n p 0) refl in
      record { landing = record { answer = None; state = h.state }; run = runs.opened a b me 58 x.c x.k x.i x.m x.j x.v ∙ h.run; noted = h.noted; answer = refl; stands = h.stands }) (rw (eqb_self p))

  peeks : (x : Names) (j m : ℕ) (js : List ℕ) (v : ℕ) → m ≤ limit → v ≤ limit → IsLoop n p j js → Report (Loads Peeks (NumberOf j)) v → Step (Door (j ∷ js) m) (before 18 (names x.c x.k x.i m j x.v)) (Loads Peeks (NumberOf j)) v
  peeks x j m js v low small loop reports =
      steps_on (Door (j ∷ js) m) (Door js (max m v)) (Loads Peeks (NumberOf j)) v 18 v (names x.c x.k x.i m j x.v) _ (has_form a b 18 _ refl)
      (loads 1 j (Private 4) 5 (names x.c x.k x.i m j x.v) _ (bounded 1 _ refl) refl loop.0) reports refl refl
      (stopped a b n limit p own most high 60 19 (names x.c x.k x.i m j v) (Door js (max m v)) (lands.peeked a b n limit p own most high 55 x.c x.k x.i m j v js loop.0 low small (sym loop.1)))
      (ap (λ t. only t (Door (without j (j ∷ js)) (max m v))) (has-first j js) ∙ ap (λ l. Some (Door l (max m v))) (ap (λ l. without j (j ∷ l)) loop.1 ∙ without-first n p j ∙ sym loop.1))

  takes : (x : Names) (m v : ℕ) → m < limit → Step (Door [] m) (before 26 (names x.c (m + 1) x.i m x.j x.v)) (Stores Takes (NumberOf p) (m + 1)) v
  takes x m v low =
      stores (Door [] m) (Shutting Lock (m + 1)) (Stores Takes (NumberOf p) (m + 1)) v 26 (m + 1) (names x.c (m + 1) x.i m x.j x.v) 1 (Private 1) false (has_form a b 26 _ refl)
      (numbers (Private 1) (m + 1) (names x.c (m + 1) x.i m x.j x.v) refl (omega arith)) refl
      (lands_noted 27 (names x.c (m + 1) x.i m x.j x.v) (Shutting Lock (m + 1)) _ (Some (outers.Ready p)) None (runs.took a b me 58 (names x.c (m + 1) x.i m x.j x.v)) refl refl (record x { m = m }, refl))
      (rw (eqb_self p, lt-ltb m limit low, eqb_self (m + 1)))

  spends : (x : Names) (m v : ℕ) → limit ≤ m → Step (Door [] m) (before 22 (names x.c x.k x.i m x.j x.v)) (Stores Shuts (ChoosingOf p) 0) v
  spends x m v high =
      stores (Door [] m) Rest (Stores Shuts (ChoosingOf p) 0) v 22 0 (names x.c x.k x.i m x.j x.v) 0 (Number 0) false (has_form a b 22 _ refl)
      (marks 0 0 false (names x.c x.k x.i m x.j x.v) (bounded 0 _ refl) (omega arith)) refl
      (lands_noted 23 (names x.c x.k x.i m x.j x.v) Rest _ (Some (outers.Quit p)) (answer (Door [] m) Shuts 0) (runs.spent a b me 58 (names x.c x.k x.i m x.j x.v)) refl refl refl)
      (rw (eqb_self p, le-leb limit m high))

  shuts : (x : Names) (k v : ℕ) → Step (Shutting Lock k) (before 28 (names x.c k x.i x.m x.j x.v)) (Stores Shuts (ChoosingOf p) 0) v
  shuts x k v =
      stores (Shutting Lock k) (Wait k (others n p) None) (Stores Shuts (ChoosingOf p) 0) v 28 0 (names x.c k x.i x.m x.j x.v) 0 (Number 0) false (has_form a b 28 _ refl)
      (marks 0 0 false (names x.c k x.i x.m x.j x.v) (bounded 0 _ refl) (omega arith)) refl
      (stopped a b n limit p own most high 60 29 (names x.c k x.i x.m x.j x.v) (Wait k (others n p) None) (lands.wait_starts a b n limit p own most high 58 x.c k x.i x.m x.j x.v nothing_noted (above n p 0) refl))
      (rw (eqb_self p))

  recover_shuts : (x : Names) (k v : ℕ) → Step (Shutting Recover k) (before 46 (all_names x)) (Stores Shuts (ChoosingOf p) 0) v
  recover_shuts x k v =
      stores (Shutting Recover k) Rest (Stores Shuts (ChoosingOf p) 0) v 46 0 (all_names x) 0 (Number 0) false (has_form a b 46 _ refl)
      (marks 0 0 false (all_names x) (bounded 0 _ refl) (omega arith)) refl
      (lands_noted 47 (all_names x) Rest _ None (answer (Shutting Recover k) Shuts 0) (ends a.lines.items me 59 (local 47 (all_names x) nothing_noted) 5 (has_form a b 47 _ refl)) refl refl refl)
      (rw (eqb_self p))

  awaits : (d j name : ℕ) (store : List ℕ) (until : Condition) (bound : Option Expression) → HasBound a.declarations.items d bound → expression_value me store (Private 4) ≡ Some j → j < n
      → access_of a.declarations.items me store (record { word = record { declaration = d; index = Some (Private 4) }; action = Await name until; may_withdraw = true }) ≡ Some (access_with d j None)
  awaits d j name store until bound h e low = access_is d j (Private 4) (Await name until) true store bound None h e low (λ declaration is. refl) refl

  looks : (x : Names) (k j : ℕ) (js : List ℕ) (v : ℕ) (t : Bool) → (v == 0) ≡ t → IsLoop n p j js → Report (Loads Looks (ChoosingOf j)) v → Step (Wait k (j ∷ js) None) (before 30 (names x.c k x.i x.m j x.v)) (Loads Looks (ChoosingOf j)) v
  looks x k j js v true e loop reports =
      steps_on (Wait k (j ∷ js) None) (Wait k (j ∷ js) (Some j)) (Loads Looks (ChoosingOf j)) v 30 v (names x.c k x.i x.m j x.v) _ (has_form a b 30 _ refl)
      (awaits 0 j 0 (names x.c k x.i x.m j x.v) (Compare Equal (Private 0) (Number 0)) _ (bounded 0 _ refl) refl loop.0) reports (ap Some (eq_cmp v 0 ∙ e)) refl
      (lands_at 31 (names v k x.i x.m j x.v) (Wait k (j ∷ js) (Some j)) _ (has_form a b 31 _ refl) (record x { c = v }, refl, loop.0, ap (λ l. j ∷ l) loop.1))
      (rw (eqb_self j, e))
  looks x k j js v false e loop reports =
      blocks (Wait k (j ∷ js) None) (Loads Looks (ChoosingOf j)) v 30 v (names x.c k x.i x.m j x.v) _ (has_form a b 30 _ refl)
      (awaits 0 j 0 (names x.c k x.i x.m j x.v) (Compare Equal (Private 0) (Number 0)) _ (bounded 0 _ refl) refl loop.0) reports (ap Some (eq_cmp v 0 ∙ e)) refl refl refl
      (x, refl, loop) (rw (eqb_self j, e))

  passes_test : (x : Names) (k j v : ℕ) → passes me (names x.c k x.i x.m j v) (Await 5 (may_pass b.lock_boxes)) ≡ Some ((v == 0) || is_before k p v j)
  passes_test x k j v = or_test (is_eq (nat_cmp v 0)) (is_lt (ordering_then (nat_cmp k v) (nat_cmp p j))) ∙ ap (λ t. Some (t || is_lt (ordering_then (nat_cmp k v) (nat_cmp p j)))) (eq_cmp v 0) ∙ ap (λ t. Some ((v == 0) || t)) (pair_cmp k p v j)

  weighs : (x : Names) (k j : ℕ) (unpassed : List ℕ) (v : ℕ) (t : Bool) → ((v == 0) || is_before k p v j) ≡ t → j < n → unpassed ≡ j ∷ above n p (j + 1) → Report (Loads Weighs (NumberOf j)) v
      → Step (Wait k unpassed (Some j)) (before 31 (names x.c k x.i x.m j x.v)) (Loads Weighs (NumberOf j)) v
  weighs x k j unpassed v true e low is reports =
      steps_on (Wait k unpassed (Some j)) (Wait k (above n p (j + 1)) None) (Loads Weighs (NumberOf j)) v 31 v (names x.c k x.i x.m j x.v) _ (has_form a b 31 _ refl)
      (awaits 1 j 5 (names x.c k x.i x.m j x.v) (may_pass b.lock_boxes) _ (bounded 1 _ refl) refl low) reports (passes_test x k j v ∙ ap Some e) refl
      (stopped a b n limit p own most high 60 32 (names x.c k x.i x.m j v) (Wait k (above n p (j + 1)) None) (lands.passed a b n limit p own most high 58 x.c k x.i x.m j v (above n p (j + 1)) low refl))
      (rw (eqb_self j, e) (ap (λ l. Some (Wait k l None)) (ap (without j) is ∙ without-first n p j)))
  weighs x k j unpassed v false e low is reports =
      blocks (Wait k unpassed (Some j)) (Loads Weighs (NumberOf j)) v 31 v (names x.c k x.i x.m j x.v) _ (has_form a b 31 _ refl)
      (awaits 1 j 5 (names x.c k x.i x.m j x.v) (may_pass b.lock_boxes) _ (bounded 1 _ refl) refl low) reports (passes_test x k j v ∙ ap Some e) refl refl refl
      (x, refl, low, is) (rw (eqb_self j, e))

  enters : (x : Names) (k v : ℕ) → Step (Wait k [] None) (before 33 (names x.c k x.i x.m x.j x.v)) (Stores Marks (InsideOf p) 1) v
  enters x k v =
      stores (Wait k [] None) Inside (Stores Marks (InsideOf p) 1) v 33 1 (names x.c k x.i x.m x.j x.v) 2 (Number 1) true (has_form a b 33 _ refl)
      (marks 2 1 true (names x.c k x.i x.m x.j x.v) (bounded 2 _ refl) (omega arith)) refl
      (lands_noted 34 (names x.c k x.i x.m x.j x.v) Inside _ (Some (outers.Enter p)) (answer (Wait k [] None) Marks 1) (runs.entered a b me 58 (names x.c k x.i x.m x.j x.v)) refl refl refl)
      (rw (eqb_self p))

  leaves : (v : ℕ) → Step Leaving (before 36 no_names) (Stores Drops (NumberOf p) 0) v
  leaves v =
      stores Leaving (Unmarking Unlock) (Stores Drops (NumberOf p) 0) v 36 0 no_names 1 (Number 0) false (has_form a b 36 _ refl)
      (numbers (Number 0) 0 no_names refl (omega arith)) refl
      (lands_noted 37 no_names (Unmarking Unlock) _ (Some (outers.Leave p)) None (runs.left a b me 58 no_names) refl refl refl) (rw (eqb_self p))

  withdraws : (v : ℕ) → Step Withdrawing (before 57 no_names) (Stores Drops (NumberOf p) 0) v
  withdraws v =
      stores Withdrawing Rest (Stores Drops (NumberOf p) 0) v 57 0 no_names 1 (Number 0) false (has_form a b 57 _ refl)
      (numbers (Number 0) 0 no_names refl (omega arith)) refl
      (lands_noted 58 no_names Rest _ (Some (outers.Quit p)) (answer Withdrawing Drops 0) (runs.withdrew a b me 58 no_names) refl refl refl) (rw (eqb_self p))

  lock_unmarks : (x : Names) (v : ℕ) → Step (Unmarking Lock) (before 13 (all_names x)) (Stores Marks (InsideOf p) 0) v
  lock_unmarks x v =
      stores (Unmarking Lock) Opening (Stores Marks (InsideOf p) 0) v 13 0 (all_names x) 2 (Number 0) false (has_form a b 13 _ refl)
      (marks 2 0 false (all_names x) (bounded 2 _ refl) (omega arith)) refl
      (lands_at 14 (all_names x) Opening _ (has_form a b 14 _ refl) (x, refl)) (rw (eqb_self p))

  unlock_unmarks : (v : ℕ) → Step (Unmarking Unlock) (before 38 no_names) (Stores Marks (InsideOf p) 0) v
  unlock_unmarks v =
      stores (Unmarking Unlock) Rest (Stores Marks (InsideOf p) 0) v 38 0 no_names 2 (Number 0) false (has_form a b 38 _ refl)
      (marks 2 0 false no_names (bounded 2 _ refl) (omega arith)) refl
      (lands_noted 39 no_names Rest _ None (answer (Unmarking Unlock) Marks 0) (ends a.lines.items me 59 (local 39 no_names nothing_noted) 3 (has_form a b 39 _ refl)) refl refl refl) (rw (eqb_self p))

  recover_unmarks : (x : Names) (v : ℕ) → Step (Unmarking Recover) (before 55 (all_names x)) (Stores Marks (InsideOf p) 0) v
  recover_unmarks x v =
      stores (Unmarking Recover) Rest (Stores Marks (InsideOf p) 0) v 55 0 (all_names x) 2 (Number 0) false (has_form a b 55 _ refl)
      (marks 2 0 false (all_names x) (bounded 2 _ refl) (omega arith)) refl
      (lands_noted 56 (all_names x) Rest _ None (answer (Unmarking Recover) Marks 0) (ends a.lines.items me 59 (local 56 (all_names x) nothing_noted) 8 (has_form a b 56 _ refl)) refl refl refl) (rw (eqb_self p))

  at_process : (place : Place) (t s : AlgorithmProcess) → t ≡ s → StepIf place s (access limit p place) → StepIf place t (access limit p place)
  at_process place t s e h = subst (λ t. StepIf place t (access limit p place)) (sym e) h

  -- the text's process and the lock's make the same step
  pub steps_alike : (place : Place) (t : AlgorithmProcess) → Within limit place → Stands n limit p place t → StepIf place t (access limit p place)
  steps_alike Rest t low e = ap (λ t. under_way t.place) e
  steps_alike Dead t low e = ap (λ t. under_way t.place) e
  steps_alike Inside t low e = ap (λ t. under_way t.place) e
  steps_alike (Reread Lock []) t low e = at_process (Reread Lock []) t _ e (λ v fits reports. lock_choosing v reports)
  steps_alike (Reread Lock (c ∷ [])) t low e = at_process (Reread Lock (c ∷ [])) t _ e (λ v fits reports. lock_number c v reports)
  steps_alike (Reread Lock (c ∷ k ∷ [])) t low e = at_process (Reread Lock (c ∷ k ∷ [])) t _ e (λ v fits reports. lock_inside c k v fits.0 fits.1 reports)
  steps_alike (Reread Recover []) t low e = at_process (Reread Recover []) t _ e (λ v fits reports. recover_choosing v reports)
  steps_alike (Reread Recover (c ∷ [])) t low e = at_process (Reread Recover (c ∷ [])) t _ e (λ v fits reports. recover_number c v reports)
  steps_alike (Reread Recover (c ∷ k ∷ [])) t low e = at_process (Reread Recover (c ∷ k ∷ [])) t _ e (λ v fits reports. recover_inside c k v fits.0 fits.1 reports)
  steps_alike (Reread call seen) t low e = absurd e
  steps_alike Opening t low e = at_process Opening t _ e.1 (λ v fits reports. opens e.0 v)
  steps_alike (Door (j ∷ js) m) t low e = at_process (Door (j ∷ js) m) t _ e.1 (λ v fits reports. peeks e.0 j m js v low fits e.2 reports)
  steps_alike (Door [] m) t low e =
      elim e.1 [
        | inl spent ↦ let no : nat_lt m limit ≡ false = le-ltb m limit (omega (arith, spent.0)) in at_process (Door [] m) t _ spent.1 (rw no (λ v fits reports. spends e.0 m v (omega (arith, spent.0))))
        | inr more ↦ at_process (Door [] m) t _ more.1 (rw (lt-ltb m limit (below m low more.0)) (λ v fits reports. takes e.0 m v (below m low more.0)))
      ]
    where
      below : (m : ℕ) → m ≤ limit → (m ≡ limit → ⊥) → m < limit
      below m le ne = omega arith
  steps_alike (Shutting Lock k) t low e = at_process (Shutting Lock k) t _ e.1 (λ v fits reports. shuts e.0 k v)
  steps_alike (Shutting Recover k) t low e = at_process (Shutting Recover k) t _ e.1 (λ v fits reports. recover_shuts e.0 k v)
  steps_alike (Shutting call k) t low e = absurd e
  steps_alike (Wait k [] None) t low e = at_process (Wait k [] None) t _ e.1 (λ v fits reports. enters e.0 k v)
  steps_alike (Wait k (j ∷ js) None) t low e = at_process (Wait k (j ∷ js) None) t _ e.1 (λ v fits reports. looks e.0 k j js v (v == 0) refl e.2 reports)
  steps_alike (Wait k unpassed (Some j)) t low e = at_process (Wait k unpassed (Some j)) t _ e.1 (λ v fits reports. weighs e.0 k j unpassed v ((v == 0) || is_before k p v j) refl e.2 e.3 reports)
  steps_alike Leaving t low e = at_process Leaving t _ e (λ v fits reports. leaves v)
  steps_alike Withdrawing t low e = at_process Withdrawing t _ e (λ v fits reports. withdraws v)
  steps_alike (Unmarking Lock) t low e = at_process (Unmarking Lock) t _ e.1 (λ v fits reports. lock_unmarks e.0 v)
  steps_alike (Unmarking Unlock) t low e = at_process (Unmarking Unlock) t _ e (λ v fits reports. unlock_unmarks v)
  steps_alike (Unmarking Recover) t low e = at_process (Unmarking Recover) t _ e.1 (λ v fits reports. recover_unmarks e.0 v)
  steps_alike (Unmarking call) t low e = absurd e
