-- The fault of a call is the same before the gotos of calls lead to their labels.
use Rattle.std.proofs.Common.{◌≡◌, ◌⊎◌, ℕ, false, List, length, Some, None, slice_get, sym, ap, ◌∙◌, subst, inl, inr}
use Rattle.algorithms.specs.Faults.{fault_of}
use Rattle.algorithms.specs.declared.algorithm.AlgorithmCall.{AlgorithmCall}
use Rattle.algorithms.specs.declared.algorithm.AlgorithmCall.TheVariants.{Lock, Unlock, Recover, Withdraw}
use Rattle.algorithms.specs.declared.algorithm.Entries.{Entries}
use Rattle.algorithms.specs.declared.fault.AlgorithmFault.{AlgorithmFault}
use Rattle.algorithms.specs.declared.fault.ReadFault.{ReadFault}
use Rattle.algorithms.specs.declared.fault.ReadFault.TheVariants.{UnknownName, NotAssignable, BadLabel, BadCall}
use Rattle.algorithm_texts.specs.declared.lines.CallRead.{CallRead}
use Rattle.algorithm_texts.specs.Parts.{◌>>=◌}
use Rattle.algorithm_texts.specs.Drafts.{LineForm, PlacedLine, Drafted}
use Rattle.algorithm_texts.specs.FinishedDrafts.{begins_of, jumps_led, with_lines, call_led, call_in, led_where, kind_led, with_entries}
use Rattle.algorithm_texts.specs.Lawful.{KnowsRead, SetsNoLoop, LineFits, LinesFit, KindFits}
use Rattle.algorithm_texts.specs.TextFaults.{CallFits, KindCallFits, IsFaultOfLine, IsFaultOfCall, IsFaultOfKindCall, IsFaultOfWithdraw, lost_jump, number_at, unfit_kind}
use Rattle.algorithm_texts.specs.Usage.{fits, may_withdraw, uses, passes_at}
use Rattle.algorithm_texts.proofs.BlockTrees.{some_of}
use Rattle.algorithm_texts.proofs.CallFaults.{none_lost}
use Rattle.algorithm_texts.proofs.Fits.{Redirects, call_redirects, where_redirects}
use Rattle.algorithm_texts.proofs.RefusedCalls.{labels_before, fits_before}
use Rattle.std.proofs.lemmas.Option.{same_Some}

-- ---- one call

pub call_found : (d now : Drafted) (call : CallRead) → call_led d call ≡ Some now → lost_jump d call ≡ None
call_found d now call e =
    let y = some_of (jumps_led d.labels d.blocks call d.jumps d.lines) (λ lines. Some (with_lines lines d)) now e in
    none_lost d.labels d.blocks call d.jumps d.lines y.0 y.1

abbrev UnfitDeed : List LineForm → Drafted → CallRead → ℕ → ReadFault → Type 0
UnfitDeed forms d call at kind =
    (form : LineForm) × (slice_get forms at ≡ Some form) × (fits d.head.promises call.call form ≡ false) × (kind ≡ unfit_kind form)

abbrev UnfitIn : List LineForm → Drafted → CallRead → ℕ → ReadFault → Type 0
UnfitIn forms d call at kind =
    ((KnowsRead forms d.lasting (length d.names) call at → ⊥) × (kind ≡ UnknownName))
    ⊎ ((KnowsRead forms d.lasting (length d.names) call at × (SetsNoLoop forms (length d.names) call at → ⊥) × (kind ≡ NotAssignable))
    ⊎ (KnowsRead forms d.lasting (length d.names) call at × SetsNoLoop forms (length d.names) call at × UnfitDeed forms d call at kind))

line_before : (d : Drafted) (lines : List PlacedLine) (call : CallRead) (fault : AlgorithmFault) → uses lines ≡ uses d.lines
    → ((k : ℕ) → number_at lines k ≡ number_at d.lines k) → IsFaultOfLine (with_lines lines d) call fault → IsFaultOfLine d call fault
line_before d lines call fault same numbers h = record {
  at = h.at;
  first = record {
    fails = λ fit. h.first.fails (λ inside. subst (λ us. LineFits us d.head.promises d.lasting (length d.names) call h.at) (sym same) (fit inside));
    before = λ k less inside. subst (λ us. LineFits us d.head.promises d.lasting (length d.names) call k) same (h.first.before k less inside);
  };
  kind = h.kind;
  unfit = subst (λ us. UnfitIn us d call h.at h.kind) same h.unfit;
  named = h.named ∙ ap (λ (n : ℕ). fault_of n h.kind) (numbers h.at);
}

pub line_fault_before : (d now : Drafted) (call : CallRead) (fault : AlgorithmFault) → Redirects d now → IsFaultOfLine now call fault → IsFaultOfLine d call fault
line_fault_before d now call fault r h = line_before d r.lines call fault r.same r.numbers (subst (λ x. IsFaultOfLine x call fault) r.is h)

call_before : (d : Drafted) (lines : List PlacedLine) (call : CallRead) (fault : AlgorithmFault) → uses lines ≡ uses d.lines
    → ((k : ℕ) → number_at lines k ≡ number_at d.lines k) → IsFaultOfCall (with_lines lines d) call fault → IsFaultOfCall d call fault
call_before d lines call fault same numbers (inl label) = inl label
call_before d lines call fault same numbers (inr h) = elim h.1 [
  | inl jump ↦ inr (h.0, inl (jump.0, jump.1, jump.2 ∙ ap (λ (n : ℕ). fault_of n BadLabel) (numbers jump.0.place)))
  | inr line ↦ inr (h.0, inr (line.0, line_before d lines call fault same numbers line.1))
]

call_fits_before : (d : Drafted) (lines : List PlacedLine) (call : CallRead) → uses lines ≡ uses d.lines → CallFits (with_lines lines d) call → CallFits d call
call_fits_before d lines call same h = record {
  labels = h.labels;
  jumps = h.jumps;
  lines = λ at inside. subst (λ us. LineFits us d.head.promises d.lasting (length d.names) call at) same (h.lines at inside);
}

-- a call whose gotos are led, and whose lines fit
led_fits : (d now : Drafted) (call : CallRead) → call_led d call ≡ Some now → LinesFit now call → CallFits d call
led_fits d now call e h =
    let r = call_redirects d now call e in
    record {
      labels = labels_before d now call e h;
      jumps = call_found d now call e;
      lines = (fits_before d r.lines r.same call (subst (λ x. LinesFit x call) r.is h)).lines;
    }

-- ---- calls by their kinds

-- what was found of a kind before another kind's gotos were led
pub kind_fault_before : (kind other : AlgorithmCall) (d now : Drafted) (fault : AlgorithmFault) → kind_led other d ≡ Some now → IsFaultOfKindCall now fault kind
    → IsFaultOfKindCall d fault kind
kind_fault_before kind other d now fault e h =
    let r = where_redirects d now (call_in other d.calls) e in
    let k : IsFaultOfKindCall (with_lines r.lines d) fault kind = subst (λ x. IsFaultOfKindCall x fault kind) r.is h in
    (k.0, k.1, call_before d r.lines k.0 fault r.same r.numbers k.2)

pub kind_fits_before : (kind other : AlgorithmCall) (d now : Drafted) → kind_led other d ≡ Some now → KindCallFits now kind → KindCallFits d kind
kind_fits_before kind other d now e h =
    let r = where_redirects d now (call_in other d.calls) e in
    let k : KindCallFits (with_lines r.lines d) kind = subst (λ x. KindCallFits x kind) r.is h in
    λ call f. call_fits_before d r.lines call r.same (k call f)

pub kind_led_fits : (kind : AlgorithmCall) (d now : Drafted) → kind_led kind d ≡ Some now → KindFits now kind → KindCallFits d kind
kind_led_fits kind d now led fit = λ call e.
    let one : call_led d call ≡ Some now = sym (ap (led_where d) e) ∙ led in
    let r = call_redirects d now call one in
    led_fits d now call one (fit call (ap (λ x. call_in kind x.calls) r.is ∙ e))

withdraw_before : (d : Drafted) (lines : List PlacedLine) (fault : AlgorithmFault) → uses lines ≡ uses d.lines
    → ((k : ℕ) → number_at lines k ≡ number_at d.lines k) → IsFaultOfWithdraw (with_lines lines d) fault → IsFaultOfWithdraw d fault
withdraw_before d lines fault same numbers (inl h) = inl (
  h.0,
  record {
    at = h.1.at;
    first = record {
      fails = λ stays. h.1.first.fails (subst (λ us. passes_at may_withdraw us h.1.at ≡ false) (sym same) stays);
      before = λ k less. subst (λ us. passes_at may_withdraw us k ≡ false) same (h.1.first.before k less);
    };
    named = h.1.named ∙ ap (λ (n : ℕ). fault_of n BadCall) (numbers h.1.at);
  },
)
withdraw_before d lines fault same numbers (inr h) = inr (h.0, h.1, (λ at. subst (λ us. passes_at may_withdraw us at ≡ false) same (h.2 at)), h.3)

pub withdraw_fault_before : (other : AlgorithmCall) (d now : Drafted) (fault : AlgorithmFault) → kind_led other d ≡ Some now → IsFaultOfWithdraw now fault → IsFaultOfWithdraw d fault
withdraw_fault_before other d now fault e h =
    let r = where_redirects d now (call_in other d.calls) e in
    withdraw_before d r.lines fault r.same r.numbers (subst (λ x. IsFaultOfWithdraw x fault) r.is h)

-- ---- entries

abbrev with_all_entries : Entries → Drafted → Drafted
with_all_entries entries d = record d { head = record d.head { entries = entries } }

-- a draft with its entries is as it was otherwise, and both calls are there
pub entered : (d begun : Drafted) → with_entries d ≡ Some begun
    → (entries : Entries) × (begun ≡ with_all_entries entries d) × (lock : CallRead) × (unlock : CallRead) × (call_in Lock d.calls ≡ Some lock) × (call_in Unlock d.calls ≡ Some unlock)
entered d begun e =
    let a = some_of (call_in Lock d.calls) (λ lock. call_in Unlock d.calls >>= (λ unlock. Some (with_all_entries (record {
      lock = lock.«from»;
      unlock = unlock.«from»;
      recover = begins_of (call_in Recover d.calls);
      withdraw = begins_of (call_in Withdraw d.calls);
    }) d))) begun e in
    let b = some_of (call_in Unlock d.calls) (λ unlock. Some (with_all_entries (record {
      lock = a.0.«from»;
      unlock = unlock.«from»;
      recover = begins_of (call_in Recover d.calls);
      withdraw = begins_of (call_in Withdraw d.calls);
    }) d)) begun a.2 in
    let entries : Entries = record {
      lock = a.0.«from»;
      unlock = b.0.«from»;
      recover = begins_of (call_in Recover d.calls);
      withdraw = begins_of (call_in Withdraw d.calls);
    } in
    (entries, sym (same_Some (with_all_entries entries d) begun b.2), a.0, b.0, a.1, b.1)

call_entered : (d : Drafted) (entries : Entries) (call : CallRead) (fault : AlgorithmFault) → IsFaultOfCall (with_all_entries entries d) call fault → IsFaultOfCall d call fault
call_entered d entries call fault (inl label) = inl label
call_entered d entries call fault (inr h) = elim h.1 [
  | inl jump ↦ inr (h.0, inl (jump.0, jump.1, jump.2))
  | inr line ↦ inr (h.0, inr (line.0, record { at = line.1.at; first = line.1.first; kind = line.1.kind; unfit = line.1.unfit; named = line.1.named }))
]

pub kind_fault_entered : (kind : AlgorithmCall) (d begun : Drafted) (fault : AlgorithmFault) → with_entries d ≡ Some begun → IsFaultOfKindCall begun fault kind
    → IsFaultOfKindCall d fault kind
kind_fault_entered kind d begun fault e h =
    let s = entered d begun e in
    let k : IsFaultOfKindCall (with_all_entries s.0 d) fault kind = subst (λ x. IsFaultOfKindCall x fault kind) s.1 h in
    (k.0, k.1, call_entered d s.0 k.0 fault k.2)

pub kind_fits_entered : (kind : AlgorithmCall) (d begun : Drafted) → with_entries d ≡ Some begun → KindCallFits begun kind → KindCallFits d kind
kind_fits_entered kind d begun e h =
    let s = entered d begun e in
    let k : KindCallFits (with_all_entries s.0 d) kind = subst (λ x. KindCallFits x kind) s.1 h in
    λ call f. let c = k call f in record { labels = c.labels; jumps = c.jumps; lines = c.lines }

pub withdraw_fault_entered : (d begun : Drafted) (fault : AlgorithmFault) → with_entries d ≡ Some begun → IsFaultOfWithdraw begun fault → IsFaultOfWithdraw d fault
withdraw_fault_entered d begun fault e h =
    let s = entered d begun e in
    subst (λ x. IsFaultOfWithdraw x fault) s.1 h
