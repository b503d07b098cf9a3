use Rattle.std.proofs.Common.{rules, ◌≡◌, ◌++◌, length, ap, ◌∙◌, refl, sym, subst, inl, inr}
use Rattle.std.proofs.lemmas.Result.{err_from_is_err_and}
use Rattle.algorithm_explorer.specs.Boards.{search_state_of}
use Rattle.algorithm_explorer.specs.SearchStateWords.{search_state_words}
use Rattle.algorithm_commands.specs.AlgorithmStates.{algorithm_start}
use Rattle.command_parts.specs.StateTexts.{IsForm, words_of_form}
use Rattle.algorithm_commands.proofs.algorithm_states_command.states_of_algorithm.Goals as goal

-- there is no memory for the first key
pub returns-in_err-write_key-clause-ends : goal.returns-in_err-write_key-clause-ends
returns-in_err-write_key-clause-ends g c =
    let p = err_from_is_err_and c.from_residual-in_err-write_key.result c.from_residual-in_err-write_key.ensures.1 in
    rw (p.1, p.2) (inl (inr (refl, record { taken = refl; fine = refl }), refl))

-- no line has the form
pub returns-in_default-clause-ends : goal.returns-in_default-clause-ends
returns-in_default-clause-ends g c =
    let made = c.in_ok-here.ensures.made in
    let here = search_state_of c.in_ok-here.here in
    let key = c.in_ok-write_key.ensures.written ∙ ap (λ ws. ws ++ search_state_words here) c.new-key.ensures.items in
    let size : c.len.result ≡ length (search_state_words (algorithm_start c.args.algorithm c.args.args.now made.0)) = search (rules, c.len.ensures, ap length key, ap (λ s. length (search_state_words s)) made.2) in
    inl (inl (refl, inr (made.0, made.1, λ form. (rw c.in_default.is at c.form_of.ensures.none) refl (subst (λ n. IsForm (words_of_form c.args.args.now.stream c.args.args.now.search.procs n) c.args.args.now.stream.digits) (sym size) form)), record { taken = refl; fine = refl }), refl)

pub returns-clause-ends : goal.returns-clause-ends
returns-clause-ends g c =
    let made = c.in_ok-here.ensures.made in
    let here = search_state_of c.in_ok-here.here in
    let key = c.in_ok-write_key.ensures.written ∙ ap (λ ws. ws ++ search_state_words here) c.new-key.ensures.items in
    let size : c.len.result ≡ length (search_state_words (algorithm_start c.args.algorithm c.args.args.now made.0)) = search (rules, c.len.ensures, ap length key, ap (λ s. length (search_state_words s)) made.2) in
    inr (
      made.0,
      made.1,
      c.carry_out_tool.ensures.ends c.args.algorithm c.args.text.now made.0 (record {
        start_is = made.2;
        machine_is = search (rules, c.in_ok-machine.ensures, c.asked_calls-calls.ensures);
        words_are = (rw c.in-Some.is at c.form_of.ensures.words) ∙ ap (λ n. words_of_form c.args.args.now.stream c.args.args.now.search.procs n) size;
        digits_are = rw c.in-Some.is at c.form_of.ensures.digits;
      }),
    )
