use Rattle.std.proofs.Common.{◌≡◌, ◌≢◌, ◌∙◌, ℕ, suc, ◌+◌, [], ◌∷◌, ◌++◌, take, get_or, All, sym, ap, subst, arith}
use Rattle.std.proofs.Math.Seq.{take-suc}
use Rattle.std.proofs.lemmas.Bool.{false≢true}
use Rattle.std.proofs.lemmas.List.{take_all, get_or_default}
use Rattle.std.proofs.lemmas.List.Elements.{All-push}
use Rattle.schedule.specs.declared.lines.fault.LineFault.TheVariants.{NoHeader}
use Rattle.cli.specs.declared.explain.dictionary_entry.DictionaryEntry.{DictionaryEntry}
use Rattle.cli.specs.declared.explain.dictionary_entry.DictionaryEntry.TheVariants.{Fault}
use Rattle.cli.specs.Names.{name_of}
use Rattle.cli.proofs.explain.dictionary_entry.among.Goals as goal

pub loop-dictionary_entry-preserved : goal.loop-dictionary_entry-preserved
loop-dictionary_entry-preserved c =
    let dictionary_entries = c.args.dictionary_entries.now in
    let i = c.loop-dictionary_entry.dictionary_entry-index in
    let here = c.loop-dictionary_entry-test.true in
    let t : DictionaryEntry = get_or dictionary_entries i (Fault NoHeader) in
    let missed : name_of t ≢ c.args.name.now = λ e. false≢true (sym c.if-has_name.false ∙ c.has_name.ensures.1 (ap name_of (get_or_default dictionary_entries i _ (Fault NoHeader) here) ∙ e)) in
    let one : suc i ≡ i + 1 = omega arith in
    let more : take i dictionary_entries ++ t ∷ [] ≡ take (i + 1) dictionary_entries = sym (take-suc dictionary_entries i (Fault NoHeader) here) ∙ ap (λ (k : ℕ). take k dictionary_entries) one in
    let P : DictionaryEntry → Type 0 = λ dictionary_entry. name_of dictionary_entry ≢ c.args.name.now in
    subst (All P) more (All-push P (take i dictionary_entries) t c.loop-dictionary_entry.invariant missed)

pub returns-clause-none : goal.returns-clause-none
returns-clause-none c = λ none.
    subst (All (λ (dictionary_entry : DictionaryEntry). name_of dictionary_entry ≢ c.args.name.now)) (take_all c.loop-dictionary_entry.dictionary_entry-index c.args.dictionary_entries.now (omega (arith, c.loop-dictionary_entry-test.false))) c.loop-dictionary_entry.invariant
