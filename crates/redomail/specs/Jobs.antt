-- The script that is left of a job, by its stage.
use Rattle.std.specs.Prelude.{◌≡◌, ℕ, ◌+◌, ◌-◌, ◌*◌, ◌<◌, ◌==◌, [], length, take, drop}
use Rattle.redomail.specs.declared.reply.Reply.{Reply}
use Rattle.redomail.specs.declared.layout.Layout.{Layout}
use Rattle.redomail.specs.declared.stage.JobStage.{JobStage}
use Rattle.redomail.specs.declared.stage.JobStage.TheVariants as stage
use Rattle.redomail.specs.declared.reply.Reply.TheVariants.{ClosedNow, Word, Ruined}
use Rattle.redomail.specs.declared.reply.Reply.TheVariants as reply
use Rattle.redomail.specs.Layout.{board_at, last_at}
use Rattle.redomail.specs.Script.{Script, Get, Put, Done, puts, gets}
use Rattle.redomail.specs.Tasks.{store_steps, append_decision, append, repair, consistent, redo, close}

-- the script that a stage leaves
abbrev pub left_at : Layout → ℕ → JobStage → Script Reply
left_at l p (stage.AskClosed seq value) = append l p seq value
left_at l p (stage.AskCount seq value closed) =
    Get 2 (λ count. Get (last_at l p) (λ last. append_decision l p seq value closed count last))
left_at l p (stage.AskLast seq value closed count) =
    Get (last_at l p) (λ last. append_decision l p seq value closed count last)
left_at l p stage.AskUsable = consistent l p
left_at l p stage.AskArmed = repair l p
left_at l p stage.AskAt = Get 4 (λ at. Get 5 (λ seq. gets 6 l.width [] (redo l p at seq)))
left_at l p (stage.AskSeq at) = Get 5 (λ seq. gets 6 l.width [] (redo l p at seq))
left_at l p (stage.AskValue at seq words read) =
    gets (6 + read) (l.width - read) (take read words) (redo l p at seq)
left_at l p (stage.Write r step answer) = puts (drop step (store_steps l p r)) (Done answer)
left_at l p stage.AskOpen = close
left_at l p stage.PutClosed = Put 1 1 (Done ClosedNow)
left_at l p (stage.GetBoard i) = Get (board_at l i) (λ x. Done (Word x))
left_at l p (stage.PutBoard i v) = Put (board_at l i) v (Done reply.Done)
left_at l p stage.PutRuined = Put 0 1 (Done reply.Done)
left_at l p stage.AskRuined = Get 0 (λ x. Done (Ruined (x == 1)))
left_at l p (stage.Ended answer) = Done answer

-- the width of the value in a stage. Without a value it is the layout's width
abbrev pub value_width : Layout → JobStage → ℕ
value_width l (stage.AskClosed seq value) = length value
value_width l (stage.AskCount seq value closed) = length value
value_width l (stage.AskLast seq value closed count) = length value
value_width l (stage.Write r step answer) = length r.value
value_width l _ = l.width

-- the size of a repair's buffer
abbrev pub buffer_width : JobStage → ℕ
buffer_width (stage.AskValue at seq words read) = length words
buffer_width _ = 8

-- the number of words read into it
abbrev pub words_read : JobStage → ℕ
words_read (stage.AskValue at seq words read) = read
words_read _ = 0

-- the number of puts done, while a record is stored
abbrev pub steps_done : JobStage → ℕ
steps_done (stage.Write r step answer) = step
steps_done _ = 0

-- the board index in a stage. Without one it is 0
abbrev pub board_index : JobStage → ℕ
board_index (stage.GetBoard i) = i
board_index (stage.PutBoard i v) = i
board_index _ = 0

-- The bounds of a stage's values for a layout.
pub record FitsStage (l : Layout) (x : JobStage) : Type 0 where
  pub value : value_width l x ≡ l.width
  pub buffer : buffer_width x ≡ 8
  pub read : words_read x < l.width
  pub step : steps_done x < 8 + 2 * l.width
  pub board : board_index x < 4
