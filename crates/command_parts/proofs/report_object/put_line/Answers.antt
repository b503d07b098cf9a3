use Rattle.std.proofs.Common.{◌≡◌, ◌∙◌, ◌++◌, ℕ, List, OnOk, eqb, length, ap, subst}
use Rattle.command_parts.specs.ReportObjects.{string_text}
use Rattle.command_parts.proofs.ReportObjects.{empty_list, put_first, put_further, some_list}
use Rattle.command_parts.proofs.report_object.put_line.Goals as goal

pub returns-then-is_empty : goal.returns-then-is_empty
returns-then-is_empty c lines is =
    subst (λ (now : List ℕ). OnOk c.put_quoted.result (c.put_quoted.new.text.items ≡ now))
    (put_first lines c.args.line.now c.args.list.now.items is (empty_list c.args.list.now.items c.is_empty.result (c.is_empty.ensures ∙ ap (λ (xs : List ℕ). eqb (length xs) 0) c.as_slice.ensures.value) c.if-is_empty.true))
    c.put_quoted.ensures

pub returns : goal.returns
returns c lines is =
    subst (λ (now : List ℕ). OnOk c.put_quoted-2.result (c.put_quoted-2.new.text.items ≡ now))
    (ap (λ (before : List ℕ). before ++ string_text c.args.line.now) c.in_ok-push.ensures.items
    ∙ put_further lines c.args.line.now c.args.list.now.items is (some_list c.args.list.now.items c.is_empty.result (c.is_empty.ensures ∙ ap (λ (xs : List ℕ). eqb (length xs) 0) c.as_slice.ensures.value) c.if-is_empty.false))
    c.put_quoted-2.ensures
