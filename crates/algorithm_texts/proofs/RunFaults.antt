-- Which rule of runs is broken first, and where.
use Rattle.std.proofs.Common.{◌≡◌, ℕ, ◌+◌, ◌<◌, ◌≤◌, Bool, true, false, leb, ltb, List, length, Result, Ok, Err, Option, Some, None, sym, subst, inl, inr, arith}
use Rattle.std.specs.Prelude.{OnErr, IfErr, IfSome, IsErrAnd, MatchOption}
use Rattle.std.proofs.lemmas.Bool.{both_ways, leb-true}
use Rattle.std.proofs.lemmas.Result.{err_from_is_err_and}
use Rattle.algorithms.specs.Faults.{fault_of}
use Rattle.algorithms.specs.declared.fault.AlgorithmFault.{AlgorithmFault}
use Rattle.algorithms.specs.declared.fault.ReadFault.TheVariants.{NeverReached, Unset, NoStep}
use Rattle.algorithm_texts.specs.declared.lines.CallRead.{CallRead}
use Rattle.algorithm_texts.specs.Drafts.{Drafted}
use Rattle.algorithm_texts.specs.FinishedDrafts.{is_in, is_within}
use Rattle.algorithm_texts.specs.Marks.{MarksReached, ReadsMarked, SeenMarked}
use Rattle.algorithm_texts.specs.Runs.{EachIsReached, LineReachedAt, NamesSetAt, StepFirstAt, ReadsUnset, IsReachedWithout, IsReachedSilently, is_own, is_seen}
use Rattle.algorithm_texts.specs.TextFaults.{OrMemory, IsFaultAtFirst, number_at}
use Rattle.algorithm_texts.specs.TextLines.{IsRefusalOf}
use Rattle.algorithm_texts.specs.Usage.{reads, uses, passes_at}
use Rattle.algorithm_texts.proofs.RunChecks.{passes_line_at, within_at}
use Rattle.algorithm_texts.proofs.RunMarks.{both_true, below_next}

-- ---- faults

pub or_memory : (fault : AlgorithmFault) (P Q : Type 0) → (P → Q) → OrMemory fault P → OrMemory fault Q
or_memory fault P Q f (inl e) = inl e
or_memory fault P Q f (inr h) = inr (f h)

-- what a part hands on is so of the whole
pub part_or_memory : {T : Type 0} (r : Result T AlgorithmFault) (fault : AlgorithmFault) (P Q : AlgorithmFault → Type 0) → IsErrAnd r (λ e. e ≡ fault)
    → (P fault → Q fault) → OrMemory fault (P fault) → IfErr r (λ e. OrMemory e (Q e))
part_or_memory r fault P Q is f h =
    let p = err_from_is_err_and r is in
    let now : OrMemory fault (Q fault) = or_memory fault (P fault) (Q fault) f h in
    subst (λ x. IfErr x (λ e. OrMemory e (Q e))) (sym p.1) (subst (λ e. OrMemory e (Q e)) (sym p.2) now)

-- two clauses of one error
pub both_errs : {T E P : Type 0} (r : Result T E) (Q R : E → Type 0) → ((e : E) → P → Q e → R e) → OnErr r P → IfErr r Q → IfErr r R
both_errs (Ok x) Q R f p q = tt
both_errs (Err e) Q R f p q = f e p q

pub err_named : {T E : Type 0} (r : Result T E) (fault : E) (P : E → Type 0) → IsErrAnd r (λ e. e ≡ fault) → P fault → IfErr r P
err_named r fault P is h =
    let p = err_from_is_err_and r is in
    subst (λ x. IfErr x P) (sym p.1) (subst P (sym p.2) h)

pub from_first : (call : CallRead) (at : ℕ) → is_within (call.«from», call.to) at ≡ true → call.«from» ≤ at
from_first call at h = leb-true call.«from» at (both_true (leb call.«from» at) (ltb at call.to) h).0

-- ---- lines that are reached

pub unreached : (d : Drafted) (call : CallRead) (marks : List Bool) (place : ℕ) (fault : AlgorithmFault) → MarksReached d call marks → call.«from» ≤ place → place < call.to
    → passes_at (is_own d.jumps place) (uses d.lines) place ≡ true → is_in marks place ≡ false
    → ((at : ℕ) → call.«from» ≤ at → at < place → passes_at (is_own d.jumps at) (uses d.lines) at ≡ true → is_in marks at ≡ true)
    → fault ≡ fault_of (number_at d.lines place) NeverReached → IsFaultAtFirst d.lines NeverReached (LineReachedAt d call) fault
unreached d call marks place fault reaches from inside own unmarked before named = record {
  at = place;
  first = record {
    fails = λ h.
        let line = passes_line_at d (is_own d.jumps place) place own in
        both_ways (is_in marks place) unmarked (reaches.all place (omega (arith, line)) (h (within_at call place from inside) own));
    before = λ k less within here. reaches.comes k (before k (from_first call k within) less here);
  };
  named = named;
}

pub unreached_refused : (d : Drafted) (call : CallRead) (fault : AlgorithmFault) → IsFaultAtFirst d.lines NeverReached (LineReachedAt d call) fault → IsRefusalOf fault (EachIsReached d call)
unreached_refused d call fault first = inr (λ all. first.first.fails (all first.at))

-- ---- names

-- the first place where a name is not set, of places that are marked
pub unset_before : (d : Drafted) (call : CallRead) (name : ℕ) (marks : List Bool)
    → ((at : ℕ) → at ≤ length d.lines → IsReachedWithout d call name at → is_in marks at ≡ true)
    → (o : Option ℕ) → IfSome o (λ at. (k : ℕ) → k < at → ReadsMarked d call name marks k → ⊥) → IfSome o (λ at. (k : ℕ) → k < at → ReadsUnset d call name k → ⊥)
unset_before d call name marks all None h = tt
unset_before d call name marks all (Some at) h = λ k less u.
    let line = passes_line_at d (reads name) k u.reads_it in
    h k less (record { within = u.within; reads_it = u.reads_it; marked = all k (omega (arith, line)) u.unset })

-- no name so far is read before this place where it is not set
abbrev pub NoneBefore : Drafted → CallRead → ℕ → ℕ → Type 0
NoneBefore d call names at = (name k : ℕ) → name < names → k < at → ReadsUnset d call name k → ⊥

names_before : (d : Drafted) (call : CallRead) (names : ℕ) (first : Option ℕ) (place : ℕ)
    → MatchOption first ((k at : ℕ) → k < names → ReadsUnset d call k at → ⊥) (λ at. (k : ℕ) × (k < names) × ReadsUnset d call k at)
    → IfSome first (NoneBefore d call names) → IfSome first (λ at. place ≤ at) → NoneBefore d call names place
names_before d call names None place none h le = λ k at less near. none k at less
names_before d call names (Some x) place some h le = λ k at less near. h k at less (omega (arith, near, le))

name_before : (d : Drafted) (call : CallRead) (name : ℕ) (second : Option ℕ) (place : ℕ)
    → MatchOption second ((at : ℕ) → ReadsUnset d call name at → ⊥) (λ at. ReadsUnset d call name at)
    → IfSome second (λ at. (k : ℕ) → k < at → ReadsUnset d call name k → ⊥) → IfSome second (λ at. place ≤ at)
    → (k : ℕ) → k < place → ReadsUnset d call name k → ⊥
name_before d call name None place none h le = λ k near. none k
name_before d call name (Some x) place some h le = λ k near. h k (omega (arith, near, le))

-- one name more
pub none_before : (d : Drafted) (call : CallRead) (first second now : Option ℕ) (name : ℕ)
    → MatchOption first ((k at : ℕ) → k < name → ReadsUnset d call k at → ⊥) (λ at. (k : ℕ) × (k < name) × ReadsUnset d call k at)
    → IfSome first (NoneBefore d call name)
    → MatchOption second ((at : ℕ) → ReadsUnset d call name at → ⊥) (λ at. ReadsUnset d call name at)
    → IfSome second (λ at. (k : ℕ) → k < at → ReadsUnset d call name k → ⊥)
    → IfSome now (λ place. IfSome first (λ at. place ≤ at) × IfSome second (λ at. place ≤ at))
    → IfSome now (NoneBefore d call (name + 1))
none_before d call first second None name mf f ms s least = tt
none_before d call first second (Some place) name mf f ms s least = λ k at less near.
    below_next (λ x. ReadsUnset d call x at → ⊥) 0 name (λ x a b. names_before d call name first place mf f least.0 x at b near)
    (name_before d call name second place ms s least.1 at near) k (omega arith) less

-- the first line that reads a name that is not set
pub unset_first : (d : Drafted) (call : CallRead) (name names place : ℕ) (fault : AlgorithmFault) → name < names → ReadsUnset d call name place → names ≡ length d.names
    → NoneBefore d call names place → fault ≡ fault_of (number_at d.lines place) Unset → IsFaultAtFirst d.lines Unset (NamesSetAt d call) fault
unset_first d call name names place fault less unset all before named = record {
  at = place;
  first = record {
    fails = λ h. h name (omega (arith, less, all)) unset;
    before = λ k near other within. before other k (omega (arith, within, all)) near;
  };
  named = named;
}

-- ---- ends and deeds

pub seen_first : (d : Drafted) (call : CallRead) (marks : List Bool) (place : ℕ) (fault : AlgorithmFault) → SeenMarked d call marks place
    → ((at : ℕ) → call.«from» ≤ at → at < place → SeenMarked d call marks at → ⊥)
    → fault ≡ fault_of (number_at d.lines place) NoStep → IsFaultAtFirst d.lines NoStep (λ at. SeenMarked d call marks at → ⊥) fault
seen_first d call marks place fault seen before named = record {
  at = place;
  first = record { fails = λ h. h seen; before = λ k less s. before k (from_first call k s.within) less s };
  named = named;
}

-- of marks that are exact
pub step_first : (d : Drafted) (call : CallRead) (marks : List Bool) (fault : AlgorithmFault) → ((at : ℕ) → is_in marks at ≡ true → IsReachedSilently d call at)
    → ((at : ℕ) → at ≤ length d.lines → IsReachedSilently d call at → is_in marks at ≡ true)
    → IsFaultAtFirst d.lines NoStep (λ at. SeenMarked d call marks at → ⊥) fault → IsFaultAtFirst d.lines NoStep (StepFirstAt d call) fault
step_first d call marks fault comes all f = record {
  at = f.at;
  first = record {
    fails = λ h. f.first.fails (λ s. h s.within s.seen (comes f.at s.marked));
    before = λ k less within seen r.
        let line = passes_line_at d is_seen k seen in
        f.first.before k less (record { within = within; seen = seen; marked = all k (omega (arith, line)) r });
  };
  named = f.named;
}
