-- The names of the entries, as faults, reports and pages spell them.
use Rattle.std.specs.Prelude.{ℕ, Option, Some, None, List, [], ◌∷◌, codes}
use Rattle.std.specs.Fmt.{decimal}
use Rattle.std.specs.List.{join_with_byte}
use Rattle.algorithms.specs.declared.fault.ReadFault.{ReadFault as AlgorithmFault}
use Rattle.algorithms.specs.declared.fault.ReadFault.TheVariants as texts
use Rattle.rmecore.specs.declared.found.Found.{Found}
use Rattle.rmecore.specs.declared.kind.Kind.{Kind}
use Rattle.rmecore.specs.declared.kind.Kind.TheVariants as kinds
use Rattle.rmecore.specs.Refused.{number_of as number_of_refusal}
use Rattle.redomail.specs.declared.reply.Reply.{Reply}
use Rattle.redomail.specs.declared.reply.Reply.TheVariants as replies
use Rattle.rmeworld.specs.declared.answer.Answer.TheVariants as answers
use Rattle.schedule.specs.Answers.{words_of_answer, words_of_reply}
use Rattle.schedule.specs.Numbers.{number_of as number_of_line}
use Rattle.schedule.specs.Verdicts.{number_of_fault}
use Rattle.cli.specs.declared.explain.algorithm_refused.AlgorithmRefused.{AlgorithmRefused}
use Rattle.cli.specs.declared.explain.algorithm_refused.AlgorithmRefused.TheVariants as alone
use Rattle.cli.specs.declared.explain.rule.Rule.{Rule}
use Rattle.cli.specs.declared.explain.rule.Rule.TheVariants as rules
use Rattle.cli.specs.declared.explain.dictionary_entry.DictionaryEntry.{DictionaryEntry}
use Rattle.cli.specs.declared.explain.dictionary_entry.DictionaryEntry.TheVariants.{Fault, Refused, AlgorithmRefused as AloneRefused, Rule as OfRule, Against, Answer as OfAnswer, Step, AlgorithmFault as OfAlgorithm}

-- the number of an image's rule, in the order of docs/dev/texts.md
abbrev pub number_of_rule : Rule → ℕ
number_of_rule rules.Form = 1
number_of_rule rules.Version = 2
number_of_rule rules.Sizes = 3
number_of_rule rules.Length = 4
number_of_rule rules.Rows = 5
number_of_rule rules.Inside = 6
number_of_rule rules.Heads = 7
number_of_rule rules.List = 8
number_of_rule rules.Record = 9

-- the number of what runs of an algorithm's text alone refuse
abbrev pub number_of_algorithm_refused : AlgorithmRefused → ℕ
number_of_algorithm_refused alone.OutOfRange = 16
number_of_algorithm_refused alone.NoSuchCall = 17
number_of_algorithm_refused alone.Malformed = 18

-- the number of a fault of an algorithm's text, in the order of docs/use/algorithms.md. Out of memory has none
abbrev pub number_of_algorithm_fault : AlgorithmFault → Option ℕ
number_of_algorithm_fault texts.NoHeader = Some 1
number_of_algorithm_fault texts.BadCharacter = Some 2
number_of_algorithm_fault texts.NoNewline = Some 3
number_of_algorithm_fault texts.BadForm = Some 4
number_of_algorithm_fault texts.NameTaken = Some 5
number_of_algorithm_fault texts.UnknownName = Some 6
number_of_algorithm_fault texts.TwoAccesses = Some 7
number_of_algorithm_fault texts.NotAssignable = Some 8
number_of_algorithm_fault texts.BadBlock = Some 9
number_of_algorithm_fault texts.BadLabel = Some 10
number_of_algorithm_fault texts.Unset = Some 11
number_of_algorithm_fault texts.Endless = Some 12
number_of_algorithm_fault texts.NoStep = Some 13
number_of_algorithm_fault texts.FallsOff = Some 14
number_of_algorithm_fault texts.BadDeed = Some 15
number_of_algorithm_fault texts.TooBig = Some 16
number_of_algorithm_fault texts.BadCall = Some 17
number_of_algorithm_fault texts.NeverReached = Some 18
number_of_algorithm_fault texts.OutOfMemory = None

abbrev pub words_of_algorithm_fault : Option ℕ → List (List ℕ)
words_of_algorithm_fault (Some number) = codes "algorithm" ∷ codes "fault" ∷ decimal number ∷ []
words_of_algorithm_fault None = codes "out" ∷ codes "of" ∷ codes "memory" ∷ []

-- out of memory has no number
abbrev pub words_of_refusal : Option ℕ → List (List ℕ)
words_of_refusal (Some number) = codes "refused" ∷ decimal number ∷ []
words_of_refusal None = codes "out" ∷ codes "of" ∷ codes "memory" ∷ []

-- the words of an answer line after the process. The board word that was read isn't part of the name
abbrev pub words_without : Reply → List (List ℕ)
words_without (replies.Word v) = codes "word" ∷ []
words_without reply = words_of_reply reply

-- the name of a kind of step
abbrev pub word_of_kind : Kind → List ℕ
word_of_kind kinds.Open = codes "open"
word_of_kind kinds.Peek = codes "peek"
word_of_kind kinds.Take = codes "take"
word_of_kind kinds.Shut = codes "shut"
word_of_kind kinds.Look = codes "look"
word_of_kind kinds.Weigh = codes "weigh"
word_of_kind kinds.Mark = codes "mark"
word_of_kind kinds.Drop = codes "drop"
word_of_kind kinds.Reread = codes "reread"
word_of_kind kinds.Get = codes "get"
word_of_kind kinds.Put = codes "put"
word_of_kind kinds.Glance = codes "glance"

-- the words of an entry's name
abbrev pub words_of : DictionaryEntry → List (List ℕ)
words_of (Fault fault) = codes "fault" ∷ decimal (number_of_line fault) ∷ []
words_of (Refused refusal) = words_of_refusal (number_of_refusal refusal)
words_of (AloneRefused refused) = words_of_refusal (Some (number_of_algorithm_refused refused))
words_of (OfRule rule) = codes "rule" ∷ decimal (number_of_rule rule) ∷ []
words_of (Against fault) = codes "against" ∷ decimal (number_of_fault fault) ∷ []
words_of (OfAnswer (answers.Mail reply)) = codes "answer" ∷ words_without reply
words_of (OfAnswer answer) = codes "answer" ∷ words_of_answer answer
words_of (Step kind) = codes "step" ∷ word_of_kind kind ∷ []
words_of (OfAlgorithm fault) = words_of_algorithm_fault (number_of_algorithm_fault fault)

-- the entry's name: its words with a space between two
abbrev pub name_of : DictionaryEntry → List ℕ
name_of dictionary_entry = join_with_byte 32 (words_of dictionary_entry)

-- the name of what `recover` finds
abbrev pub name_of_found : Found → List ℕ
name_of_found found = name_of (OfAnswer (answers.Found found))

-- the name of a task's reply
abbrev pub name_of_reply : Reply → List ℕ
name_of_reply reply = name_of (OfAnswer (answers.Mail reply))
