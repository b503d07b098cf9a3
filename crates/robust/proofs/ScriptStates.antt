-- At which states of a whole mailbox call a reply can come: but for the mending's, it is the task's.
use Rattle.std.proofs.Common.{◌≡◌, ℕ, ◌==◌, ◌&&◌, Bool, true, false, if◌then◌else◌, List, [], ◌∷◌, ◌++◌, length, Option, Some, None, All, unwrap_or, refl, sym, ap, ◌∙◌, subst}
use Rattle.robust.proofs.Common.{All-nil, All-cons, All-head, All-tail, Kind, Word, Data as DataAt, Place, Dead, Inside, next, place_after_start, Layout, Reply, Task, Answer, Mail, Call, Append, Lock, Unlock}
use Rattle.robust.proofs.Common.{Consistent, Recover, Close, Withdraw, answer_at, by_lock, by_reply, by_script, answer_by, ScriptState, Free, Doing, ProcessState, at_lock, process_after_script, only_process_state, moved_by}
use Rattle.robust.proofs.Common.{inside_only, begun_from, TakenStep, Setup, process_state_before, answers_from, and_call, starts, before, access_event, world_events, events_of_run, process_state_past, AllReplies, IsMendingReply, gone-append, by_kind}
use Rattle.robust.proofs.Common.{OfStart}
use Rattle.rmecore.specs.declared.kind.Kind.TheVariants.{Get as Gets, Put as Puts}
use Rattle.rmecore.specs.Machine.{answer}
use Rattle.redomail.specs.Tasks.{script, consistent}
use Rattle.rmeworld.specs.declared.purpose.Purpose.TheVariants.{Checking, Ruining, Mending, Working}
use Rattle.rmeworld.specs.Entered.{is_entry}
use Rattle.table_runs.proofs.Begun.{mends_consistent}
use Rattle.rmecore.specs.declared.core_call.CoreCall.TheVariants as core
use Rattle.rmecore.specs.declared.core_done.CoreDone.{CoreDone}
use Rattle.rmecore.specs.declared.core_done.CoreDone.TheVariants as ends
use Rattle.redomail.specs.Script.{Get as Asks, Put as Writes, Done, Script, tail}
use Rattle.redomail.specs.declared.reply.Reply.TheVariants as reply
use Rattle.redomail.specs.declared.task.Task.TheVariants as task
use Rattle.rmeworld.specs.declared.call.Call.TheVariants.{Get, Put}
use Rattle.rmeworld.specs.declared.purpose.Purpose.{Purpose}
use Rattle.rmeworld.specs.CallWalk.{and_answer}

-- nothing is in the empty list
pub none_in : {A : Type 0} (x : A) (front back : List A) → [] ≡ front ++ x ∷ back → ⊥
none_in x [] back e = absurd (cc)
none_in x (y ∷ ys) back e = absurd (let k : [] ≡ y ∷ (ys ++ x ∷ back) = e in cc)

-- of all tasks only this one may be under way here, and a mending has a mending's replies
abbrev pub Only : Task → ScriptState → Type 0
Only t Free = Unit {0}
Only t (Doing Checking left) = Unit {0}
Only t (Doing Ruining left) = Unit {0}
Only t (Doing Mending left) = AllReplies IsMendingReply left
Only t (Doing (Working u) left) = u ≡ t

-- a call that starts no other task
abbrev pub Brings : Task → Call → Type 0
Brings t (Append seq value) = task.Append seq value ≡ t
Brings t Close = task.Close ≡ t
Brings t (Get i) = ⊥
Brings t (Put i v) = ⊥
Brings t call = Unit {0}

-- the starts of some entries
pub each_start : (P : Call → Type 0) (mine : List TakenStep) → All P (starts mine) → All (λ (e : TakenStep). OfStart P e.step.start) mine
each_start P [] h = All-nil _
each_start P (e ∷ es) h = go e.step.start refl (each_start P es)
  where
    go : (o : Option Call) → e.step.start ≡ o → (All P (starts es) → All (λ (f : TakenStep). OfStart P f.step.start) es) → All (λ (f : TakenStep). OfStart P f.step.start) (e ∷ es)
    go None is later =
        let rest : All P (starts es) = subst (λ (o : Option Call). All P (and_call o (starts es))) is h in
        All-cons (λ (f : TakenStep). OfStart P f.step.start) e es (subst (OfStart P) (sym is) tt) (later rest)
    go (Some c) is later =
        let all : All P (c ∷ starts es) = subst (λ (o : Option Call). All P (and_call o (starts es))) is h in
        All-cons (λ (f : TakenStep). OfStart P f.step.start) e es (subst (OfStart P) (sym is) (All-head P c (starts es) all)) (later (All-tail P c (starts es) all))

module _ (t : Task) where
  abbrev At : Option ProcessState → ProcessState → Type 0
  At o d = Only t (unwrap_or o d).script_state

  only_settled : (b c : Bool) (purpose : Purpose) (left : Script Reply) → Only t (Doing purpose left) → Only t (process_after_script b c purpose left).script_state
  only_settled b c purpose (Done r) h = tt
  only_settled b c purpose _ h = h

  only_asked : (purpose : Purpose) (i v : ℕ) (rest : ℕ → Script Reply) → Only t (Doing purpose (Asks i rest)) → Only t (Doing purpose (rest v))
  only_asked Mending i v rest h = h v
  only_asked _ i v rest h = h

  only_written : (purpose : Purpose) (i v : ℕ) (rest : Script Reply) → Only t (Doing purpose (Writes i v rest)) → Only t (Doing purpose rest)
  only_written Mending i v rest h = h
  only_written _ i v rest h = h

  only_entered : (b : Bool) (left : Script Reply) → Only t (if b then Doing Checking left else Free)
  only_entered true left = tt
  only_entered false left = tt

  only_placed : (l : Layout) (p : ℕ) (s : Place) (b c : Bool) (o : Option Place) (d : ProcessState) → Only t d.script_state → At (at_lock l p s b c o) d
  only_placed l p s b c None d h = h
  only_placed l p s b c (Some u) d h = only_entered (is_entry s u) (script l p task.Check)

  only_if : (b : Bool) (process_state d : ProcessState) → Only t process_state.script_state → Only t d.script_state → At (only_process_state b process_state) d
  only_if true process_state d h k = h
  only_if false process_state d h k = k

  only_moved : (l : Layout) (limit p : ℕ) (s : Place) (b c : Bool) (e : ScriptState) (kind : Kind) (word : Word) (v : ℕ) (d : ProcessState) → Only t e → Only t d.script_state → At (moved_by l limit p s b c e kind word v) d
  only_moved l limit p s b c Free kind word v d h k = only_placed l p s b c (next l.procs limit p s kind word v) d k
  only_moved l limit p s b c (Doing purpose (Asks j rest)) Gets (DataAt i) v d h k = only_if (i == j) (process_after_script b c purpose (rest v)) d (only_settled b c purpose (rest v) (only_asked purpose j v rest h)) k
  only_moved l limit p s b c (Doing purpose (Writes j x rest)) Puts (DataAt i) v d h k = only_if ((i == j) && (v == x)) (process_after_script b c purpose rest) d (only_settled b c purpose rest (only_written purpose j x rest h)) k
  only_moved l limit p s b c _ _ _ v d h k = k

  only_inside : (s : Place) (b fits : Bool) (purpose : Purpose) (left : Script Reply) (d : ProcessState) → Only t (Doing purpose left) → Only t d.script_state → At (inside_only s b fits purpose left) d
  only_inside Inside b fits purpose left d h k = only_if fits (record { lock = Inside; mended = b; barred = false; script_state = Doing purpose left }) d h k
  only_inside _ b fits purpose left d h k = k

  pub only_begun : (l : Layout) (p : ℕ) (s : Place) (b : Bool) (e : ScriptState) (call : Call) (d : ProcessState) → Brings t call → Only t d.script_state → At (begun_from l p s b e call) d
  only_begun l p s b Free Lock d h k = only_placed l p s b false (place_after_start s core.Lock) d k
  only_begun l p s b Free Recover d h k = only_placed l p s b false (place_after_start s core.Recover) d k
  only_begun l p s b Free Withdraw d h k = only_placed l p s b false (place_after_start s core.Withdraw) d k
  only_begun l p s true Free Unlock d h k = only_placed l p s true false (place_after_start s core.Unlock) d k
  only_begun l p s false Free Unlock d h k = only_inside s false true Ruining (script l p task.Ruin) d tt k
  only_begun l p s true Free Consistent d h k = k
  only_begun l p s false Free Consistent d h k = only_inside s false true Mending (consistent l p) d (mends_consistent l p) k
  only_begun l p s b Free (Append seq value) d h k = only_inside s b (b && (length value == l.width)) (Working (task.Append seq value)) (script l p (task.Append seq value)) d h k
  only_begun l p s b Free Close d h k = only_inside s b b (Working task.Close) (script l p task.Close) d h k
  only_begun l p s b Free (Get i) d h k = absurd h
  only_begun l p s b Free (Put i v) d h k = absurd h
  only_begun l p s b (Doing purpose left) call d h k = k

  module _ (s : Setup) where
    only_before : (crashed : Bool) (o : Option Call) (p : ℕ) (process_state : ProcessState) → OfStart (Brings t) o → Only t process_state.script_state → Only t (process_state_past s process_state (before crashed o p)).script_state
    only_before true None p process_state h k = tt
    only_before true (Some call) p process_state h k = only_begun s.layout p Dead true Free call (record { lock = Dead; mended = true; barred = false; script_state = Free }) h tt
    only_before false None p process_state h k = k
    only_before false (Some call) p process_state h k = only_begun s.layout p process_state.lock process_state.mended process_state.script_state call process_state h k

    only_taken : (p : ℕ) (kind : Kind) (word : Word) (v : ℕ) (process_state : ProcessState) → Only t process_state.script_state → Only t (process_state_past s process_state (access_event p kind word v ∷ [])).script_state
    only_taken p kind word v process_state h =
        by_kind (λ k e. Only t (process_state_past s process_state (e ∷ [])).script_state) p word v h (λ k. only_moved s.layout s.limit p process_state.lock process_state.mended process_state.barred process_state.script_state k word v process_state h h) kind

    only_after : (process_state : ProcessState) (e : TakenStep) → Only t (process_state_before s process_state e).script_state → Only t (process_state_past s process_state (world_events e)).script_state
    only_after process_state e h =
        subst (λ (u : ProcessState). Only t u.script_state) (sym (gone-append s process_state (before e.step.crashed e.step.start e.by) (access_event e.by e.step.kind e.step.word e.value ∷ [])))
        (only_taken e.by e.step.kind e.step.word e.value (process_state_before s process_state e) h)

    -- one of these entries has this answer, where only this task may be under way
    pub record Answering (process_state : ProcessState) (mine : List TakenStep) (a : Answer) : Type 0 where
      pub front : List TakenStep
      pub entry : TakenStep
      pub back : List TakenStep
      pub is : mine ≡ front ++ entry ∷ back
      pub answer : answer_at (process_state_before s (process_state_past s process_state (events_of_run front)) entry) entry.step.kind entry.value ≡ Some a
      pub only : Only t (process_state_before s (process_state_past s process_state (events_of_run front)) entry).script_state

    later_on : (process_state : ProcessState) (e : TakenStep) (es : List TakenStep) (a : Answer) → Answering (process_state_past s process_state (world_events e)) es a → Answering process_state (e ∷ es) a
    later_on process_state e es a h =
        let same : process_state_past s (process_state_past s process_state (world_events e)) (events_of_run h.front) ≡ process_state_past s process_state (events_of_run (e ∷ h.front)) = sym (gone-append s process_state (world_events e) (events_of_run h.front)) in
        record {
          front = e ∷ h.front;
          entry = h.entry;
          back = h.back;
          is = ap (λ (l : List TakenStep). e ∷ l) h.is;
          answer = subst (λ (u : ProcessState). answer_at (process_state_before s u h.entry) h.entry.step.kind h.entry.value ≡ Some a) same h.answer;
          only = subst (λ (u : ProcessState). Only t (process_state_before s u h.entry).script_state) same h.only;
        }

    here_or_later : (process_state : ProcessState) (e : TakenStep) (es : List TakenStep) (a : Answer) (reports rest : List Answer) → Only t (process_state_before s process_state e).script_state → answers_from s process_state (e ∷ es) ≡ reports ++ a ∷ rest
        → ((more : List Answer) → answers_from s (process_state_past s process_state (world_events e)) es ≡ more ++ a ∷ rest → Answering process_state (e ∷ es) a) → Answering process_state (e ∷ es) a
    here_or_later process_state e es a reports rest only is later = go (answer_at (process_state_before s process_state e) e.step.kind e.value) refl reports is
      where
        others : List Answer
        others = answers_from s (process_state_past s process_state (world_events e)) es

        go : (o : Option Answer) → answer_at (process_state_before s process_state e) e.step.kind e.value ≡ o → (before_it : List Answer) → answers_from s process_state (e ∷ es) ≡ before_it ++ a ∷ rest → Answering process_state (e ∷ es) a
        go None none before_it k = later before_it (subst (λ (o : Option Answer). and_answer o others ≡ before_it ++ a ∷ rest) none k)
        go (Some b) some [] k =
            let whole : b ∷ others ≡ a ∷ rest = subst (λ (o : Option Answer). and_answer o others ≡ a ∷ rest) some k in
            let same : b ≡ a = cc in
            record { front = []; entry = e; back = es; is = refl; answer = some ∙ ap Some same; only = only }
        go (Some b) some (c ∷ cs) k =
            let whole : b ∷ others ≡ c ∷ (cs ++ a ∷ rest) = subst (λ (o : Option Answer). and_answer o others ≡ c ∷ (cs ++ a ∷ rest)) some k in
            later cs (let same : others ≡ cs ++ a ∷ rest = cc in same)

    pub find : (process_state : ProcessState) (e : TakenStep) (es : List TakenStep) (a : Answer) (reports rest : List Answer) → All (λ (f : TakenStep). OfStart (Brings t) f.step.start) es → Only t (process_state_before s process_state e).script_state
        → answers_from s process_state (e ∷ es) ≡ reports ++ a ∷ rest → Answering process_state (e ∷ es) a
    find process_state e [] a reports rest fine only is = here_or_later process_state e [] a reports rest only is (λ more k. absurd (none_in a more rest k))
    find process_state e (f ∷ fs) a reports rest fine only is =
        here_or_later process_state e (f ∷ fs) a reports rest only is (λ more k.
        later_on process_state e (f ∷ fs) a
        (find (process_state_past s process_state (world_events e)) f fs a more rest (All-tail (λ (g : TakenStep). OfStart (Brings t) g.step.start) f fs fine)
        (only_before f.step.crashed f.step.start f.by (process_state_past s process_state (world_events e)) (All-head (λ (g : TakenStep). OfStart (Brings t) g.step.start) f fs fine) (only_after process_state e only)) k))

-- the lock and the ruin check have no reply, and a mending has only a mending's
abbrev pub IsTasks : Reply → Type 0
IsTasks (reply.Mended repaired) = ⊥
IsTasks r = Unit {0}

lock_mails : (c : Bool) (o : Option CoreDone) (r : Reply) → by_lock c o ≡ Some (Mail r) → ⊥
lock_mails true (Some ends.Out) r e = absurd (cc)
lock_mails false (Some ends.Out) r e = absurd (cc)
lock_mails _ _ r e = absurd (cc)

check_mails : (reports : Reply) (b : Bool) (r : Reply) → by_reply Checking b reports ≡ Some (Mail r) → ⊥
check_mails (reply.Ruined true) b r e = absurd (cc)
check_mails _ true r e = absurd (cc)
check_mails _ false r e = absurd (cc)

mend_mails : (reports : Reply) (b : Bool) (r : Reply) → IsMendingReply reports → IsTasks r → by_reply Mending b reports ≡ Some (Mail r) → ⊥
mend_mails (reply.Mended x) b r h s e = subst IsTasks (let same : r ≡ reply.Mended x = cc in same) s
mend_mails (reply.Ruined x) b r h s e = absurd (cc)
mend_mails _ b r h s e = absurd h

checked : (b : Bool) (left : Script Reply) (r : Reply) → by_script Checking b left ≡ Some (Mail r) → ⊥
checked b (Done reports) r e = check_mails reports b r e
checked b _ r e = absurd (cc)

ruined : (b : Bool) (left : Script Reply) (r : Reply) → by_script Ruining b left ≡ Some (Mail r) → ⊥
ruined b (Done reports) r e = absurd (cc)
ruined b _ r e = absurd (cc)

mended : (b : Bool) (left : Script Reply) (r : Reply) → AllReplies IsMendingReply left → IsTasks r → by_script Mending b left ≡ Some (Mail r) → ⊥
mended b (Done reports) r h s e = mend_mails reports b r h s e
mended b _ r h s e = absurd (cc)

mends_tail : (left : Script Reply) (v : ℕ) → AllReplies IsMendingReply left → AllReplies IsMendingReply (tail left v)
mends_tail (Asks i rest) v h = h v
mends_tail _ v h = h

-- only the task's is
pub task_mails : (t : Task) (s : Place) (b c : Bool) (e : ScriptState) (kind : Kind) (v : ℕ) (r : Reply) → Only t e → IsTasks r → answer_by s b c e kind v ≡ Some (Mail r) → (left : Script Reply) × (e ≡ Doing (Working t) left)
task_mails t s b c Free kind v r h its e = absurd (lock_mails c (answer s kind v) r e)
task_mails t s b c (Doing Checking left) kind v r h its e = absurd (checked b (tail left v) r e)
task_mails t s b c (Doing Ruining left) kind v r h its e = absurd (ruined b (tail left v) r e)
task_mails t s b c (Doing Mending left) kind v r h its e = absurd (mended b (tail left v) r (mends_tail left v h) its e)
task_mails t s b c (Doing (Working u) left) kind v r h its e = (left, ap (λ (w : Task). Doing (Working w) left) h)
