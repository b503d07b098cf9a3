-- "Tasks", each as its script.
use Rattle.std.specs.Prelude.{ℕ, ◌+◌, true, false, ◌==◌, nat_lt, nat_le, if◌then◌else◌, List, [], ◌∷◌, ◌++◌, Option, Some, None}
use Rattle.redomail.specs.declared.reply.Reply.{Reply}
use Rattle.redomail.specs.declared.layout.Layout.{Layout}
use Rattle.redomail.specs.declared.task.Task.{Task}
use Rattle.redomail.specs.declared.task.Task.TheVariants as task
use Rattle.redomail.specs.declared.reply.Reply.TheVariants.{Stored, Already, OutOfOrder, Full, Closed, ClosedNow, AlreadyClosed, Mended, Word, Ruined}
use Rattle.redomail.specs.declared.reply.Reply.TheVariants as reply
use Rattle.redomail.specs.declared.record.Record.{Record}
use Rattle.redomail.specs.Layout.{saturate, board_at, last_at, place_at}
use Rattle.redomail.specs.Script.{Script, Get, Put, Done, puts, in_row, gets}

abbrev pub record_of : ℕ → ℕ → List ℕ → Record
record_of at seq value = record { at = at; seq = seq; value = value }

-- "Apply steps" of p's record: the entry, p's last number, count, and armed := 0.
abbrev pub apply_steps : Layout → ℕ → Record → List (ℕ × ℕ)
apply_steps l p r =
    in_row (place_at l r.at) (p ∷ r.seq ∷ r.value) ++ (last_at l p, r.seq) ∷ (2, saturate (r.at + 1)) ∷ (3, 0) ∷ []

-- Storing: the record, armed := 1 (the commit), the apply steps.
abbrev pub store_steps : Layout → ℕ → Record → List (ℕ × ℕ)
store_steps l p r = in_row 4 (r.at ∷ r.seq ∷ r.value) ++ (3, 1) ∷ apply_steps l p r

-- "Append" after its three gets: the first condition that holds decides. None: the message is stored
abbrev pub early_reply : (cap seq closed count last : ℕ) → Option Reply
early_reply cap seq closed count last =
    if seq == 0 then Some OutOfOrder
    else if nat_le seq last then Some Already
    else if nat_lt (last + 1) seq then Some OutOfOrder
    else if closed == 1 then Some Closed
    else if count == cap then Some Full
    else None

-- the reply at once, if there is one, or else the script
abbrev pub unless_replied : Option Reply → Script Reply → Script Reply
unless_replied None left = left
unless_replied (Some reply) left = Done reply

-- "Append" after its three gets: what is left of it
abbrev pub append_decision : Layout → ℕ → ℕ → List ℕ → ℕ → ℕ → ℕ → Script Reply
append_decision l p seq value closed count last =
    unless_replied (early_reply l.cap seq closed count last) (puts (store_steps l p (record_of count seq value)) (Done Stored))

-- "Append": the three gets, then the first condition that holds
abbrev pub append : Layout → ℕ → ℕ → List ℕ → Script Reply
append l p seq value =
    Get 1 (λ closed. Get 2 (λ count. Get (last_at l p) (λ last. append_decision l p seq value closed count last)))

-- the apply steps of a record that was read, and the reply
abbrev pub redo : Layout → ℕ → ℕ → ℕ → List ℕ → Script Reply
redo l p at seq value = puts (apply_steps l p (record_of at seq value)) (Done (Mended true))

-- "Repair"
abbrev pub repair : Layout → ℕ → Script Reply
repair l p =
    Get 3 (λ armed. if armed == 0 then Done (Mended false)
    else Get 4 (λ at. Get 5 (λ seq. gets 6 l.width [] (redo l p at seq))))

-- "Consistent": reports a ruined lock, else repairs.
abbrev pub consistent : Layout → ℕ → Script Reply
consistent l p = Get 0 (λ ruined. if ruined == 1 then Done (Ruined true) else repair l p)

-- "Close"
abbrev pub close : Script Reply
close = Get 1 (λ closed. if closed == 1 then Done AlreadyClosed else Put 1 1 (Done ClosedNow))

-- the script of each task
abbrev pub script : Layout → ℕ → Task → Script Reply
script l p (task.Append seq value) = append l p seq value
script l p task.Close = close
script l p task.Repair = repair l p
script l p (task.BoardGet i) = Get (board_at l i) (λ x. Done (Word x))
script l p (task.BoardPut i v) = Put (board_at l i) v (Done reply.Done)
script l p task.Ruin = Put 0 1 (Done reply.Done)
script l p task.Check = Get 0 (λ x. Done (Ruined (x == 1)))
