-- The words of a command line, from what `clap` says of them.
use Rattle.std.proofs.Common.{◌≡◌, ◌≢◌, ◌⊎◌, ◌∙◌, true, List, [], Option, Some, None, Result, Ok, Err, is_some, IsSomeAnd, IfSome, IfOk, IfErr, inl, inr, refl, sym, ap, subst, codes, option_map, Box}
use Rattle.std.specs.Box.{box_value}
use Rattle.std.proofs.lemmas.Bool.{false≢true}
use Rattle.clap.specs.Words.{Text, App, app_of, is_simple, has_subcommand, subcommand_of, subcommand_rows, subcommand_rows_of, subcommand_name_of, fault_of, HasKind, IsAmong, HasMatchesOf, IsParsedFrom}
use Rattle.clap.specs.Faults.{is_simple_and_free}
use Rattle.clap.specs.declared.builder.command.Command.{Command as Parser}
use Rattle.clap.specs.declared.error.Error.{Error}
use Rattle.clap.specs.declared.error.kind.ErrorKind.{ErrorKind}
use Rattle.clap.specs.declared.error.kind.ErrorKind.TheVariants as kinds
use Rattle.clap.specs.declared.parser.matches.ArgMatches.{ArgMatches}
use Rattle.clap.specs.declared.parser.matches.ArgMatches.TheViews.{out-ArgMatches, out-SubCommand}
use Rattle.clap.specs.declared.parser.matches.SubCommand.{SubCommand}
use Rattle.cli.specs.declared.arguments.args.Command.{Command}
use Rattle.cli.specs.declared.arguments.words.WordsFault.{WordsFault}
use Rattle.cli.specs.declared.arguments.words.WordsFault.TheVariants.{Help, Refused, BadVariant, BadSize, Unreadable, OutOfMemory}
use Rattle.cli.specs.CommandLine.{rmelab, IsParser}
use Rattle.cli.specs.Given.{Given}
use Rattle.cli.specs.ReadWords.{ReadsCommand, IsCommand, IsFault, IsName, TakesWords, IsWordsRefusal, IsAnsweredBy, HasBadWords, HasBadVariant, HasBadSize}
use Rattle.cli.proofs.Texts.{is_other}
use Rattle.cli.proofs.Stops.{named}

-- the table is one of which `clap` says what it reads and refuses
pub simple : is_simple rmelab ≡ true
simple = refl

pub simple_and_free : is_simple_and_free rmelab ≡ true
simple_and_free = refl

-- a text that is no command's name is none of the table's
pub unknown : (name : Text) → IsName name → name ≢ codes "replay" → name ≢ codes "run" → name ≢ codes "hunt" → name ≢ codes "explore" → name ≢ codes "cost" → name ≢ codes "export" → name ≢ codes "states" → name ≢ codes "judge"
    → name ≢ codes "draw" → name ≢ codes "shrink" → name ≢ codes "step" → name ≢ codes "explain" → ⊥
unknown name is replay run hunt explore cost export states judge draw shrink step explain =
    let no_replay = is_other (codes "replay") name (λ e. replay (sym e)) in
    let no_run = is_other (codes "run") name (λ e. run (sym e)) in
    let no_hunt = is_other (codes "hunt") name (λ e. hunt (sym e)) in
    let no_explore = is_other (codes "explore") name (λ e. explore (sym e)) in
    let no_cost = is_other (codes "cost") name (λ e. cost (sym e)) in
    let no_export = is_other (codes "export") name (λ e. export (sym e)) in
    let no_states = is_other (codes "states") name (λ e. states (sym e)) in
    let no_judge = is_other (codes "judge") name (λ e. judge (sym e)) in
    let no_draw = is_other (codes "draw") name (λ e. draw (sym e)) in
    let no_shrink = is_other (codes "shrink") name (λ e. shrink (sym e)) in
    let no_step = is_other (codes "step") name (λ e. step (sym e)) in
    let no_explain = is_other (codes "explain") name (λ e. explain (sym e)) in
    false≢true (rw (no_replay, no_run, no_hunt, no_explore, no_cost, no_export, no_states, no_judge, no_draw, no_shrink, no_step, no_explain) at is)

-- ---- what `clap` found

module _ {Z : Type 0} where
  found_in : (o : Option (Box SubCommand Z)) (name : Text) (given : Given) → Some name ≡ option_map (λ b. (out-SubCommand (box_value b)).name.now) o
      → Some given ≡ option_map (λ p. p.1) (subcommand_rows o) → subcommand_rows o ≡ Some (name, given)
  found_in None name given named rows = cc
  found_in (Some b) name given named rows = cc

  some_in : (o : Option (Box SubCommand Z)) → is_some (subcommand_rows o) ≡ is_some o
  some_in None = refl
  some_in (Some b) = refl

-- the command that `subcommand` of the matches gives
pub command_found : (m : ArgMatches) (name : Text) (given : Given) → Some name ≡ subcommand_name_of m
    → Some given ≡ option_map (λ p. p.1) (subcommand_rows (out-ArgMatches m).subcommand) → subcommand_rows_of m ≡ Some (name, given)
command_found m name given named rows = found_in (out-ArgMatches m).subcommand name given named rows

pub has_rows : (m : ArgMatches) → is_some (subcommand_rows_of m) ≡ has_subcommand m
has_rows m = some_in (out-ArgMatches m).subcommand

-- `clap` says these of the parser that reads the table
pub takes_words : (parser : Parser) (words : List Text) → IsParser rmelab parser
    → (is_simple_and_free (app_of parser) ≡ true → fault_of (app_of parser) words ≡ []) → fault_of rmelab words ≡ []
takes_words parser words is fine = subst (λ (a : App). fault_of a words ≡ []) is.0 (fine (ap is_simple_and_free is.0 ∙ simple_and_free))

pub finds_command : (parser : Parser) (m : ArgMatches) (words : List Text) → IsParser rmelab parser → HasMatchesOf (app_of parser) words m
    → subcommand_rows_of m ≡ subcommand_of rmelab words
finds_command parser m words is found = subst (λ (a : App). subcommand_rows_of m ≡ subcommand_of a words) is.0 (found (ap is_simple is.0 ∙ simple)).1

pub has_kind : (parser : Parser) (words : List Text) (error : Error) → IsParser rmelab parser
    → (is_simple_and_free (app_of parser) ≡ true → HasKind (fault_of (app_of parser) words) error) → HasKind (fault_of rmelab words) error
has_kind parser words error is kind = subst (λ (a : App). HasKind (fault_of a words) error) is.0 (kind (ap is_simple_and_free is.0 ∙ simple_and_free))

-- a command is required
pub has_command : (parser : Parser) (m : ArgMatches) → IsParser rmelab parser → IsParsedFrom parser m → has_subcommand m ≡ true
has_command parser m is parsed =
    (parsed.parsed (parsed.from.globals ∙ is.1)).checked.subcommand (parsed.from.needs_subcommand ∙ ap (λ (a : App). a.top.subcommand_required) is.0)

some_of : (P : Text × Given → Type 0) (o : Option (Text × Given)) → is_some o ≡ true → IfSome o P → IsSomeAnd o P
some_of P None some h = cc
some_of P (Some x) some h = h

pub command_named : (parser : Parser) (m : ArgMatches) (words : List Text) → IsParser rmelab parser → IsParsedFrom parser m
    → fault_of rmelab words ≡ [] → subcommand_rows_of m ≡ subcommand_of rmelab words → IsSomeAnd (subcommand_rows_of m) (λ command. IsName command.0)
command_named parser m words is parsed fine rows =
    some_of (λ command. IsName command.0) (subcommand_rows_of m) (has_rows m ∙ has_command parser m is parsed) (go (subcommand_rows_of m) (sym rows))
  where
    go : (o : Option (Text × Given)) → subcommand_of rmelab words ≡ o → IfSome o (λ command. IsName command.0)
    go None at = tt
    go (Some command) at = named words command fine at

-- ---- the answer

taken : (P : Text → Given → Type 0) (words : List Text) (command : Text × Given) → fault_of rmelab words ≡ [] → subcommand_of rmelab words ≡ Some command
    → P command.0 command.1 → TakesWords words P
taken P words command fine at h = (fine, subst (λ o. IsSomeAnd o (λ (c : Text × Given). P c.0 c.1)) (sym at) h)

refusal_of : (words : List Text) (command : Text × Given) (e : WordsFault) → fault_of rmelab words ≡ [] → subcommand_of rmelab words ≡ Some command
    → IsFault command.0 command.1 e → IsWordsRefusal words e
refusal_of words command (Help text) fine at h = absurd h
refusal_of words command (Refused text) fine at h = inl (taken HasBadWords words command fine at h)
refusal_of words command BadVariant fine at h = taken HasBadVariant words command fine at h
refusal_of words command BadSize fine at h = taken HasBadSize words command fine at h
refusal_of words command Unreadable fine at h = absurd h
refusal_of words command OutOfMemory fine at h = tt

pub command_answered : (words : List Text) (o : Option (Text × Given)) (result : Result Command WordsFault) → fault_of rmelab words ≡ [] → o ≡ subcommand_of rmelab words
    → IsSomeAnd o (λ command. ReadsCommand command.0 command.1 result)
    → IfOk result (λ command. TakesWords words (λ name given. IsCommand name given command)) × IfErr result (IsWordsRefusal words)
command_answered words None result fine at h = absurd h
command_answered words (Some c) (Ok command) fine at h = (taken (λ name given. IsCommand name given command) words c fine (sym at) h, tt)
command_answered words (Some c) (Err e) fine at h = (tt, refusal_of words c e fine (sym at) h)

pub error_answered : (words : List Text) (kind : ErrorKind) (fault : WordsFault) → (kind ≡ kinds.OutOfMemory) ⊎ IsAmong kind (fault_of rmelab words)
    → IsAnsweredBy kind fault → IsWordsRefusal words fault
error_answered words kind (Help text) (inl memory) (inl help) = cc
error_answered words kind (Help text) (inl memory) (inr help) = cc
error_answered words kind (Help text) (inr among) help = (kind, among, help)
error_answered words kind (Refused text) (inl memory) h = absurd (h.0 memory)
error_answered words kind (Refused text) (inr among) h = inr (kind, among, h.1)
error_answered words kind BadVariant from h = cc
error_answered words kind BadSize from h = cc
error_answered words kind Unreadable from h = cc
error_answered words kind OutOfMemory from h = tt
