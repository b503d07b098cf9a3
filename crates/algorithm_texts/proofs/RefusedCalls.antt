-- Why the calls of a draft are not as is asked of them.
use Rattle.std.proofs.Common.{◌≡◌, ℕ, ◌-◌, ◌<◌, ◌≤◌, true, leb, ltb, List, length, reverse, Result, Ok, Err, Option, Some, sym, ap, ◌∙◌, subst, arith}
use Rattle.std.specs.Prelude.{OnErr, is_some}
use Rattle.std.specs.List.{All, list_any}
use Rattle.std.proofs.lemmas.Bool.{le-leb, lt-ltb}
use Rattle.std.proofs.lemmas.List.{get_or-reverse, length-reverse, reverse-reverse}
use Rattle.std.proofs.lemmas.Option.{same_Some}
use Rattle.algorithms.specs.declared.algorithm.AlgorithmCall.{AlgorithmCall}
use Rattle.algorithms.specs.declared.algorithm.AlgorithmCall.TheVariants.{Lock, Unlock, Recover, Withdraw}
use Rattle.algorithm_texts.specs.declared.lines.CallRead.{CallRead}
use Rattle.algorithm_texts.specs.Parts.{◌>>=◌}
use Rattle.algorithm_texts.specs.Drafts.{PlacedLine, Drafted}
use Rattle.algorithm_texts.specs.FinishedDrafts.{is_within, with_lines, call_led, call_in, begins_of, led_where, kind_led, with_entries, finished_draft}
use Rattle.algorithm_texts.specs.Lawful.{LabelsDiffer, LineFits, LinesFit, KindFits, CallsFit}
use Rattle.algorithm_texts.specs.Usage.{may_withdraw, uses}
use Rattle.algorithm_texts.proofs.BlockTrees.{some_of}
use Rattle.algorithm_texts.proofs.Fits.{and_true, call_redirects, where_redirects}

-- what holds is so where a call fails
pub on_err : {T E Q : Type 0} (r : Result T E) → Q → OnErr r Q
on_err (Ok x) q = tt
on_err (Err e) q = q

-- a place of a call
pub within : (call : CallRead) (at : ℕ) → call.«from» ≤ at → at < call.to → is_within (call.«from», call.to) at ≡ true
within call at a b = and_true (leb call.«from» at) (ltb at call.to) (le-leb call.«from» at a) (lt-ltb at call.to b)

-- what holds of each element holds so in the reversed list
pub All-reverse : {X : Type 0} (P : X → Type 0) (xs : List X) → All P xs → All P (reverse xs)
All-reverse P xs h = λ k d less.
    let size = length-reverse xs in
    let inside : k < length xs = omega (arith, size, less) in
    subst P (sym (get_or-reverse xs k d inside)) (h (length xs - 1 - k) d (omega (arith, inside)))

pub All-reversed : {X : Type 0} (P : X → Type 0) (xs : List X) → All P (reverse xs) → All P xs
All-reversed P xs h = subst (λ ys. All P ys) (reverse-reverse xs) (All-reverse P (reverse xs) h)

-- ---- one call

-- labels that differ in a draft whose gotos lead to their labels differ before
pub labels_before : (d now : Drafted) (call : CallRead) → call_led d call ≡ Some now → LinesFit now call → LabelsDiffer d.labels call
labels_before d now call e h =
    let r = call_redirects d now call e in
    subst (λ ls. LabelsDiffer ls call) (ap (λ x. x.labels) r.is) h.labels

pub labels_after : (d now : Drafted) (call : CallRead) → call_led d call ≡ Some now → LabelsDiffer d.labels call → LabelsDiffer now.labels call
labels_after d now call e h = subst (λ ls. LabelsDiffer ls call) (sym (ap (λ x. x.labels) ((call_redirects d now call e).is))) h

pub fits_before : (d : Drafted) (lines : List PlacedLine) → uses lines ≡ uses d.lines → (read : CallRead) → LinesFit (with_lines lines d) read → LinesFit d read
fits_before d lines same read h = record {
  labels = h.labels;
  lines = λ at inside. subst (λ us. LineFits us d.head.promises d.lasting (length d.names) read at) same (h.lines at inside);
}

-- what is asked of a call is so before gotos lead to their labels
pub kind_before : (kind other : AlgorithmCall) (d now : Drafted) → kind_led other d ≡ Some now → KindFits now kind → KindFits d kind
kind_before kind other d now e h =
    let r = where_redirects d now (call_in other d.calls) e in
    let k : KindFits (with_lines r.lines d) kind = subst (λ x. KindFits x kind) r.is h in
    λ read f. fits_before d r.lines r.same read (k read f)

-- the one call of a kind that is not as is asked
pub kind_refused : (d now : Drafted) (kind : AlgorithmCall) (found : CallRead) → call_in kind d.calls ≡ Some found
    → ((x : Drafted) → call_led d found ≡ Some x → LinesFit x found → ⊥) → kind_led kind d ≡ Some now → KindFits now kind → ⊥
kind_refused d now kind found e refuse led fit =
    let one : call_led d found ≡ Some now = sym (ap (led_where d) e) ∙ led in
    let r = call_redirects d now found one in
    refuse now one (fit found (ap (λ x. call_in kind x.calls) r.is ∙ e))

-- ---- all calls

abbrev pub after_unlock : Drafted → Option Drafted
after_unlock d = kind_led Recover d >>= kind_led Withdraw

abbrev pub after_lock : Drafted → Option Drafted
after_lock d = kind_led Unlock d >>= after_unlock

abbrev pub after_entries : Drafted → Option Drafted
after_entries d = kind_led Lock d >>= after_lock

-- what comes after a step that is made
pub after_step : {A B : Type 0} (o : Option A) (f : A → Option B) (x : A) (y : B) → o ≡ Some x → (o >>= f) ≡ Some y → f x ≡ Some y
after_step o f x y e h = sym (ap (λ r. r >>= f) e) ∙ h

pub before_unlocked : (kind : AlgorithmCall) (d final : Drafted) → after_unlock d ≡ Some final → KindFits final kind → KindFits d kind
before_unlocked kind d final e h =
    let s = some_of (kind_led Recover d) (kind_led Withdraw) final e in
    kind_before kind Recover d s.0 s.1 (kind_before kind Withdraw s.0 final s.2 h)

pub before_locked : (kind : AlgorithmCall) (d final : Drafted) → after_lock d ≡ Some final → KindFits final kind → KindFits d kind
before_locked kind d final e h =
    let s = some_of (kind_led Unlock d) after_unlock final e in
    kind_before kind Unlock d s.0 s.1 (before_unlocked kind s.0 final s.2 h)

-- a kind whose call is not as is asked
pub step_refused : (kind : AlgorithmCall) (d final : Drafted) (rest : Drafted → Option Drafted)
    → ((x : Drafted) → rest x ≡ Some final → KindFits final kind → KindFits x kind)
    → ((x : Drafted) → kind_led kind d ≡ Some x → KindFits x kind → ⊥) → (kind_led kind d >>= rest) ≡ Some final → KindFits final kind → ⊥
step_refused kind d final rest back refuse e h =
    let s = some_of (kind_led kind d) rest final e in
    refuse s.0 s.1 (back s.0 s.2 h)

kind_calls : (kind : AlgorithmCall) (d now : Drafted) → kind_led kind d ≡ Some now → now.calls ≡ d.calls
kind_calls kind d now e = ap (λ x. x.calls) ((where_redirects d now (call_in kind d.calls) e).is)

entries_calls : (d now : Drafted) → with_entries d ≡ Some now → now.calls ≡ d.calls
entries_calls d now e =
    let a = some_of (call_in Lock d.calls) (λ lock. call_in Unlock d.calls >>= (λ unlock. Some (record d {
      head = record d.head {
        entries = record {
          lock = lock.«from»;
          unlock = unlock.«from»;
          recover = begins_of (call_in Recover d.calls);
          withdraw = begins_of (call_in Withdraw d.calls);
        };
      };
    }))) now e in
    let b = some_of (call_in Unlock d.calls) (λ unlock. Some (record d {
      head = record d.head {
        entries = record {
          lock = a.0.«from»;
          unlock = unlock.«from»;
          recover = begins_of (call_in Recover d.calls);
          withdraw = begins_of (call_in Withdraw d.calls);
        };
      };
    })) now a.2 in
    ap (λ x. x.calls) (sym (same_Some (record d {
      head = record d.head {
        entries = record {
          lock = a.0.«from»;
          unlock = b.0.«from»;
          recover = begins_of (call_in Recover d.calls);
          withdraw = begins_of (call_in Withdraw d.calls);
        };
      };
    }) now b.2))

-- a draft that is finished has the calls that were read
pub finished_calls : (d final : Drafted) → finished_draft d ≡ Some final → final.calls ≡ d.calls
finished_calls d final e =
    let a = some_of (with_entries d) after_entries final e in
    let b = some_of (kind_led Lock a.0) after_lock final a.2 in
    let u = some_of (kind_led Unlock b.0) after_unlock final b.2 in
    let r = some_of (kind_led Recover u.0) (kind_led Withdraw) final u.2 in
    kind_calls Withdraw r.0 final r.2 ∙ kind_calls Recover u.0 r.0 r.1 ∙ kind_calls Unlock b.0 u.0 u.1 ∙ kind_calls Lock a.0 b.0 b.1 ∙ entries_calls d a.0 a.1

pub filled_before : (d final : Drafted) → finished_draft d ≡ Some final → CallsFit final → All (λ call. call.«from» < call.to) d.calls
filled_before d final e h = subst (λ cs. All (λ call. call.«from» < call.to) cs) (finished_calls d final e) h.filled

pub filled_after : (d begun lock unlock recover last : Drafted) → with_entries d ≡ Some begun → kind_led Lock begun ≡ Some lock → kind_led Unlock lock ≡ Some unlock
    → kind_led Recover unlock ≡ Some recover → kind_led Withdraw recover ≡ Some last → All (λ call. call.«from» < call.to) d.calls → All (λ call. call.«from» < call.to) last.calls
filled_after d begun lock unlock recover last a b u r w h =
    subst (λ cs. All (λ call. call.«from» < call.to) cs)
    (sym (kind_calls Withdraw recover last w ∙ kind_calls Recover unlock recover r ∙ kind_calls Unlock lock unlock u ∙ kind_calls Lock begun lock b ∙ entries_calls d begun a)) h

-- a withdraw that is not as is asked
pub withdraw_refused : (d now final : Drafted) → kind_led Withdraw d ≡ Some now → kind_led Withdraw d ≡ Some final
    → (is_some (call_in Withdraw now.calls) ≡ list_any (λ line. may_withdraw line.form) now.lines → ⊥) → CallsFit final → ⊥
withdraw_refused d now final e f refuse h =
    refuse (subst (λ x. is_some (call_in Withdraw x.calls) ≡ list_any (λ line. may_withdraw line.form) x.lines) (same_Some final now (sym f ∙ e)) h.withdraw)
