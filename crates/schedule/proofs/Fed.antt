-- Lines at the front of a text, whose deeds are given to a judge.
use Rattle.std.proofs.Common.{◌≡◌, ℕ, ◌+◌, ◌-◌, ◌^◌, min, List, [], ◌∷◌, ◌++◌, Ok, refl, sym, ap, subst, ◌∙◌, append_assoc, arith, length-append, append-nil}
use Rattle.schedule.proofs.ReplaysCommon.{Deed, Kept, RunningVerdict, TraceStage, TraceHead, deed_at, first_running_verdict, running_judge, Hears, parts_of, trace_head_at, Stands, Fed, words_of}
use Rattle.schedule.specs.FirstLines.{BeginsWithItem}
use Rattle.schedule.specs.declared.replays.stage.TraceStage.TheVariants as stages
use Rattle.schedule.proofs.Heard.{hears_both}
use Rattle.schedule.proofs.Staging.{more_reads}

pub fed_none : (stage : TraceStage) (text : List ℕ) (number : ℕ) → Fed stage stage text text number number
fed_none stage text number = record {
  more = [];
  parts = refl;
  count = λ small. omega (arith, small);
  stands = λ lines stands. subst (λ ls. Stands stage ls) (sym (append-nil lines)) stands;
}

stands_more : (head : TraceHead) (judge now : Kept) (running_verdict later : RunningVerdict) (lines : List (List ℕ)) (line : List ℕ) (deed : Deed)
    → Hears (running_judge judge running_verdict) (deed ∷ []) (running_judge now later) → deed_at head.width (words_of line) ≡ Ok deed
    → Stands (stages.Judging head judge running_verdict) lines → Stands (stages.Judging head now later) (lines ++ line ∷ [])
stands_more head judge now running_verdict later lines line deed hears says known = (
  known.0 ++ deed ∷ [],
  more_reads trace_head_at (λ g. deed_at g.width) lines line head known.0 deed known.1 says,
  known.2,
  (known.3.0, known.3.1, hears_both (running_judge known.3.0 first_running_verdict) (running_judge judge running_verdict) (running_judge now later) known.0 (deed ∷ []) known.3.2 hears),
)

pub fed_more : (opening : TraceStage) (head : TraceHead) (judge now : Kept) (running_verdict later : RunningVerdict) (text rest after : List ℕ) (number count : ℕ) (deed : Deed)
    → BeginsWithItem (deed_at head.width) rest deed after → Hears (running_judge judge running_verdict) (deed ∷ []) (running_judge now later)
    → Fed opening (stages.Judging head judge running_verdict) text rest number count
    → Fed opening (stages.Judging head now later) text after number (min (count + 1) (2 ^ 64 - 1))
fed_more opening head judge now running_verdict later text rest after number count deed begins hears so_far =
    let line = begins.line in
    record {
      more = so_far.more ++ line ∷ [];
      parts = so_far.parts ∙ ap (λ (ps : List (List ℕ)). so_far.more ++ ps) begins.parts ∙ sym (append_assoc so_far.more (line ∷ []) (parts_of after));
      count = λ small. omega (arith, so_far.count small, length-append so_far.more (line ∷ []));
      stands = λ lines stands.
          let next = stands_more head judge now running_verdict later (lines ++ so_far.more) line deed hears begins.says (so_far.stands lines stands) in
          subst (λ ls. Stands (stages.Judging head now later) ls) (append_assoc lines so_far.more (line ∷ [])) next;
    }
