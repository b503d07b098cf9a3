use Rattle.std.proofs.Common.{◌≡◌, ℕ, List, ◌++◌, append_assoc, codes, refl, subst}
use Rattle.schedule.proofs.Playing.{begins_further, begins_wider}
use Rattle.schedule.specs.Tapes.{Begins}
use Rattle.cli.specs.Report.{meaning_text}
use Rattle.cli.proofs.Telling.{on_err, on_err_too}
use Rattle.cli.specs.declared.explain.meaning.Meaning.{Meaning}
use Rattle.cli.proofs.explain.meaning_writer.tell.Goals as goal

-- what is written after the page, after the sentences, and after the name
abbrev after_page : List ℕ
after_page = codes ".\n"

abbrev after_text : Meaning → List ℕ
after_text meaning = codes "\nSee " ++ (meaning.page.now ++ after_page)

abbrev after_name : Meaning → List ℕ
after_name meaning = codes ": " ++ (meaning.text.now ++ after_text meaning)

whole : (meaning : Meaning) → meaning.name.now ++ after_name meaning ≡ meaning_text meaning
whole meaning = simp append_assoc refl

in_whole : (old new : List ℕ) (meaning : Meaning) → Begins old new (meaning.name.now ++ after_name meaning) → Begins old new (meaning_text meaning)
in_whole old new meaning h = subst (λ (text : List ℕ). Begins old new text) (whole meaning) h

pub returns-in_err-put-clause-beginning : goal.returns-in_err-put-clause-beginning
returns-in_err-put-clause-beginning g c =
    on_err c.from_residual.result _ (in_whole _ _ c.args.meaning.now (begins_wider _ _ c.args.meaning.now.name.now (after_name c.args.meaning.now) c.in_err-put.ensures.beginning))

pub returns-in_err-put-2-clause-beginning : goal.returns-in_err-put-2-clause-beginning
returns-in_err-put-2-clause-beginning g c =
    on_err c.from_residual-in_err-put-2.result _ (in_whole _ _ c.args.meaning.now (begins_further _ _ _ c.args.meaning.now.name.now (after_name c.args.meaning.now) c.in_ok-put.ensures.all
    (begins_wider _ _ (codes ": ") (c.args.meaning.now.text.now ++ after_text c.args.meaning.now) c.in_err-put-2.ensures.beginning)))

pub returns-in_err-put-3-clause-beginning : goal.returns-in_err-put-3-clause-beginning
returns-in_err-put-3-clause-beginning g c =
    on_err c.from_residual-in_err-put-3.result _ (in_whole _ _ c.args.meaning.now (begins_further _ _ _ c.args.meaning.now.name.now (after_name c.args.meaning.now) c.in_ok-put.ensures.all
    (begins_further _ _ _ (codes ": ") (c.args.meaning.now.text.now ++ after_text c.args.meaning.now) c.in_ok-put-2.ensures.all
    (begins_wider _ _ c.args.meaning.now.text.now (after_text c.args.meaning.now) c.in_err-put-3.ensures.beginning))))

pub returns-in_err-put-4-clause-beginning : goal.returns-in_err-put-4-clause-beginning
returns-in_err-put-4-clause-beginning g c =
    on_err c.from_residual-in_err-put-4.result _ (in_whole _ _ c.args.meaning.now (begins_further _ _ _ c.args.meaning.now.name.now (after_name c.args.meaning.now) c.in_ok-put.ensures.all
    (begins_further _ _ _ (codes ": ") (c.args.meaning.now.text.now ++ after_text c.args.meaning.now) c.in_ok-put-2.ensures.all
    (begins_further _ _ _ c.args.meaning.now.text.now (after_text c.args.meaning.now) c.in_ok-put-3.ensures.all
    (begins_wider _ _ (codes "\nSee ") (c.args.meaning.now.page.now ++ after_page) c.in_err-put-4.ensures.beginning)))))

pub returns-in_err-put-5-clause-beginning : goal.returns-in_err-put-5-clause-beginning
returns-in_err-put-5-clause-beginning g c =
    on_err c.from_residual-in_err-put-5.result _ (in_whole _ _ c.args.meaning.now (begins_further _ _ _ c.args.meaning.now.name.now (after_name c.args.meaning.now) c.in_ok-put.ensures.all
    (begins_further _ _ _ (codes ": ") (c.args.meaning.now.text.now ++ after_text c.args.meaning.now) c.in_ok-put-2.ensures.all
    (begins_further _ _ _ c.args.meaning.now.text.now (after_text c.args.meaning.now) c.in_ok-put-3.ensures.all
    (begins_further _ _ _ (codes "\nSee ") (c.args.meaning.now.page.now ++ after_page) c.in_ok-put-4.ensures.all
    (begins_wider _ _ c.args.meaning.now.page.now after_page c.in_err-put-5.ensures.beginning))))))

pub returns-clause-beginning : goal.returns-clause-beginning
returns-clause-beginning g c =
    on_err_too c.put-6.result _ _
    (λ last. in_whole _ _ c.args.meaning.now (
    begins_further _ _ _ c.args.meaning.now.name.now (after_name c.args.meaning.now) c.in_ok-put.ensures.all
    (begins_further _ _ _ (codes ": ") (c.args.meaning.now.text.now ++ after_text c.args.meaning.now) c.in_ok-put-2.ensures.all
    (begins_further _ _ _ c.args.meaning.now.text.now (after_text c.args.meaning.now) c.in_ok-put-3.ensures.all
    (begins_further _ _ _ (codes "\nSee ") (c.args.meaning.now.page.now ++ after_page) c.in_ok-put-4.ensures.all
    (begins_further _ _ _ c.args.meaning.now.page.now after_page c.in_ok-put-5.ensures.all last))))))
    c.put-6.ensures.beginning
