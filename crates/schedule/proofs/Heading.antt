-- Where a text is not played at all, and the text that is replayed where it is known what will be read.
use Rattle.std.proofs.Common.{◌≡◌, ℕ, ◌+◌, ◌-◌, ◌^◌, min, List, [], ◌++◌, Option, Some, None, Result, Ok, Err, unwrap_or, refl, sym, ap, subst, ◌∙◌, ◌⊎◌, inl, inr, append-nil}
use Rattle.std.specs.Io.KnownBytes.{Consumes, IsAtEnd}
use Rattle.schedule.proofs.ReplaysCommon.{Refusal, number_of, cause, new_refusal, LineFault, Read, OutOfMemory, Tape, Scheduled, Silent, header_fault, layout_of, OfSchedule, OfText, Verdict, ReplayFault}
use Rattle.rmecore.specs.declared.refusal.Refusal.TheVariants as refusals
use Rattle.schedule.specs.Tapes.{Reading}
use Rattle.schedule.specs.Wholes.{ReplaysText, ReplaysBetween, Unread}

pub silent : (t : Tape) → Silent t t
silent t = record { taken = refl; fine = refl }

-- out of memory for a world, and nothing was written
pub no_memory : (t : Tape) (schedule : Scheduled) (o : Option Refusal) → o ≡ None → OfSchedule t t schedule o (Err OutOfMemory)
no_memory t schedule None fits = inr (silent t, refl)
no_memory t schedule (Some refusal) fits = absurd (cc)

-- a refusal is a cause, unless it is out of memory
is_cause : (e : Refusal) → ((e ≡ refusals.OutOfMemory) × (cause e ≡ None)) ⊎ (cause e ≡ Some e)
is_cause refusals.OutOfMemory = inl (refl, refl)
is_cause _ = inr refl

header_by : (t : Tape) (schedule : Scheduled) (e : Refusal) (o : Option Refusal) → o ≡ cause e → ((e ≡ refusals.OutOfMemory) × (cause e ≡ None)) ⊎ (cause e ≡ Some e)
    → OfSchedule t t schedule o (Err (header_fault (number_of e)))
header_by t schedule e o is (inl memory) = rw memory.0 (no_memory t schedule o (is ∙ memory.1))
header_by t schedule e o is (inr refused) = rw (is ∙ refused) (silent t, refl)

-- the header is refused
pub header_refused : (t : Tape) (schedule : Scheduled) (e : Refusal) (o : Option Refusal) → o ≡ cause e → OfSchedule t t schedule o (Err (header_fault (number_of e)))
header_refused t schedule e o is = header_by t schedule e o is (is_cause e)

-- the text that was read to its end is the one that was known to come
pub whole_text : (text read : List ℕ) (coming after : Option (List ℕ)) → coming ≡ Some text → Consumes coming after read → IsAtEnd after → read ≡ text
whole_text text read None after is all none = absurd (cc)
whole_text text read (Some xs) None is all none = absurd all
whole_text text read (Some xs) (Some ys) is all none =
    let whole : xs ≡ read = all ∙ ap (λ l. read ++ l) none ∙ append-nil read in
    let known : xs ≡ text = cc in
    sym whole ∙ known

-- a replay of a known text between a reader and a writer, which holds what was taken
pub replays_between : (text held : List ℕ) (old new : Reading) (first now : Tape) (after : Option (List ℕ)) (answer : Result Verdict ReplayFault) → first ≡ record { taken = held; failures = 0 } → after ≡ Some now.taken
    → ReplaysText text old new first now answer → ReplaysBetween text held (unwrap_or after []) answer
replays_between text held old new first now after answer is holds replayed =
    subst (λ (o : Option (List ℕ)). ReplaysBetween text held (unwrap_or o []) answer) (sym holds)
    (between (subst (λ (t : Tape). ReplaysText text old new t now answer) is replayed))
  where
    between : ReplaysText text old new (record { taken = held; failures = 0 }) now answer → ReplaysBetween text held now.taken answer
    between (inl ((_, inl read), none)) = inl (inl read.0, none.taken)
    between (inl ((_, inr memory), none)) = inl (inr memory.0, none.taken)
    between (inr replayed) = inr (now.failures, replayed)

-- the source has failed, or memory has run out
pub unread : (old new : Reading) (fault : ReplayFault) → new.ended ≡ old.ended → ((fault ≡ Read) × (new.failures ≡ min (old.failures + 1) (2 ^ 64 - 1))) ⊎ ((fault ≡ OutOfMemory) × (new.failures ≡ old.failures)) → Unread old new (Err fault)
unread old new fault unended (inl failed) = (unended, inl (ap Err failed.0, failed.1))
unread old new fault unended (inr memory) = (unended, inr (ap Err memory.0, memory.1))
