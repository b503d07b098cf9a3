use Rattle.std.proofs.Common.{Err}
use Rattle.clap.specs.Words.{kind_of, subcommand_rows_of}
use Rattle.cli.specs.ReadWords.{texts_of}
use Rattle.cli.proofs.Answered.{variant_refused, size_refused}
use Rattle.cli.proofs.ReadWords.{takes_words, finds_command, command_named, command_answered, has_kind, error_answered}
use Rattle.cli.proofs.arguments.words.read_words.Goals as goal

pub command_in-requires : goal.command_in-requires
command_in-requires c =
    let words = texts_of c.args.words.now in
    let is = c.in_ok-parser.ensures in
    command_named c.in_ok-parser.field-0 c.in-Ok.matches words is c.in-Ok.ensures.parsed (takes_words _ words is c.in-Ok.ensures.kinds)
    (finds_command _ c.in-Ok.matches words is c.in-Ok.ensures.matches)

pub returns-in-Ok-clause-command : goal.returns-in-Ok-clause-command
returns-in-Ok-clause-command c =
    let words = texts_of c.args.words.now in
    let is = c.in_ok-parser.ensures in
    (command_answered words (subcommand_rows_of c.in-Ok.matches) c.command_in.result (takes_words _ words is c.in-Ok.ensures.kinds)
    (finds_command _ c.in-Ok.matches words is c.in-Ok.ensures.matches) c.command_in.ensures.reads).0

pub returns-in-Ok-clause-refused : goal.returns-in-Ok-clause-refused
returns-in-Ok-clause-refused c =
    let words = texts_of c.args.words.now in
    let is = c.in_ok-parser.ensures in
    (command_answered words (subcommand_rows_of c.in-Ok.matches) c.command_in.result (takes_words _ words is c.in-Ok.ensures.kinds)
    (finds_command _ c.in-Ok.matches words is c.in-Ok.ensures.matches) c.command_in.ensures.reads).1

pub returns-in-Ok-clause-variant : goal.returns-in-Ok-clause-variant
returns-in-Ok-clause-variant c = λ bad.
    let words = texts_of c.args.words.now in
    let is = c.in_ok-parser.ensures in
    let answered = command_answered words (subcommand_rows_of c.in-Ok.matches) c.command_in.result (takes_words _ words is c.in-Ok.ensures.kinds)
    (finds_command _ c.in-Ok.matches words is c.in-Ok.ensures.matches) c.command_in.ensures.reads in
    variant_refused words c.command_in.result bad answered.0 answered.1

pub returns-in-Ok-clause-size : goal.returns-in-Ok-clause-size
returns-in-Ok-clause-size c = λ bad.
    let words = texts_of c.args.words.now in
    let is = c.in_ok-parser.ensures in
    let answered = command_answered words (subcommand_rows_of c.in-Ok.matches) c.command_in.result (takes_words _ words is c.in-Ok.ensures.kinds)
    (finds_command _ c.in-Ok.matches words is c.in-Ok.ensures.matches) c.command_in.ensures.reads in
    size_refused words c.command_in.result bad c.command_in.ensures.sized answered.0 answered.1

pub returns-in_ok-fault_of_error-in-Err-clause-refused : goal.returns-in_ok-fault_of_error-in-Err-clause-refused
returns-in_ok-fault_of_error-in-Err-clause-refused c =
    let words = texts_of c.args.words.now in
    error_answered words (kind_of c.in-Err.error) c.in_ok-fault_of_error-in-Err.field-0 (has_kind _ words c.in-Err.error c.in_ok-parser.ensures c.in-Err.ensures.kinds)
    c.in_ok-fault_of_error-in-Err.ensures

pub returns-in_ok-fault_of_error-in-Err-clause-variant : goal.returns-in_ok-fault_of_error-in-Err-clause-variant
returns-in_ok-fault_of_error-in-Err-clause-variant c = λ bad.
    let words = texts_of c.args.words.now in
    variant_refused words (Err c.in_ok-fault_of_error-in-Err.field-0) bad tt
    (error_answered words (kind_of c.in-Err.error) c.in_ok-fault_of_error-in-Err.field-0 (has_kind _ words c.in-Err.error c.in_ok-parser.ensures c.in-Err.ensures.kinds)
    c.in_ok-fault_of_error-in-Err.ensures)

pub returns-in_ok-fault_of_error-in-Err-clause-size : goal.returns-in_ok-fault_of_error-in-Err-clause-size
returns-in_ok-fault_of_error-in-Err-clause-size c = λ bad.
    let words = texts_of c.args.words.now in
    size_refused words (Err c.in_ok-fault_of_error-in-Err.field-0) bad tt tt
    (error_answered words (kind_of c.in-Err.error) c.in_ok-fault_of_error-in-Err.field-0 (has_kind _ words c.in-Err.error c.in_ok-parser.ensures c.in-Err.ensures.kinds)
    c.in_ok-fault_of_error-in-Err.ensures)
