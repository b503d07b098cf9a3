use Rattle.std.proofs.Common.{rules, ◌≡◌, ◌++◌, length, ap, ◌∙◌, refl, sym, subst, inl, inr}
use Rattle.crashlab.specs.space.SearchStateWords.{search_state_words}
use Rattle.lock_explorer.specs.Boards.{search_state_of}
use Rattle.lock_commands.specs.States.{start_of}
use Rattle.command_parts.specs.StateTexts.{IsForm, words_of_form}
use Rattle.lock_commands.proofs.states_command.states_command.Goals as goal

-- the words of the first key
pub carry_out_tool-requires-clause-words : goal.carry_out_tool-requires-clause-words
carry_out_tool-requires-clause-words g c =
    let here = search_state_of c.in_ok-here.here in
    let key = c.in_ok-write_key.ensures.written ∙ ap (λ ws. ws ++ search_state_words here) c.new-key.ensures.items in
    let size : c.len.result ≡ length (search_state_words (start_of c.args.args.now.search)) = search (rules, c.len.ensures, ap length key, ap (λ s. length (search_state_words s)) c.in_ok-here.ensures.made) in
    (rw c.in-Some.is at c.form_of.ensures.words) ∙ ap (λ n. words_of_form c.args.args.now.stream c.args.args.now.search.procs n) size

-- no line has the form
pub returns-in_default-clause-ends : goal.returns-in_default-clause-ends
returns-in_default-clause-ends g c =
    let here = search_state_of c.in_ok-here.here in
    let key = c.in_ok-write_key.ensures.written ∙ ap (λ ws. ws ++ search_state_words here) c.new-key.ensures.items in
    let size : c.len.result ≡ length (search_state_words (start_of c.args.args.now.search)) = search (rules, c.len.ensures, ap length key, ap (λ s. length (search_state_words s)) c.in_ok-here.ensures.made) in
    inl (refl, inr (λ form. (rw c.in_default.is at c.form_of.ensures.none) refl (subst (λ n. IsForm (words_of_form c.args.args.now.stream c.args.args.now.search.procs n) c.args.args.now.stream.digits) (sym size) form)), record { taken = refl; fine = refl }, refl)

pub returns-clause-ends : goal.returns-clause-ends
returns-clause-ends g c = inr (inr c.carry_out_tool.ensures.ends)
