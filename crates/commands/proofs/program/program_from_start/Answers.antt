use Rattle.std.proofs.Common.{subst}
use Rattle.schedule.specs.Tapes.{Reading}
use Rattle.command_parts.specs.Devices.{devices}
use Rattle.commands.specs.Programs.{IsProgram}
use Rattle.commands.proofs.program.program_from_start.Goals as goal

pub returns : goal.returns
returns g c is =
    record {
      new = g.R.Source.reading c.program.new.input;
      blank = g.W.Sink.tape c.args.out.now;
      written = g.W.Sink.tape c.program.new.out;
      said = g.E.Sink.tape c.args.err.now;
      says = g.E.Sink.tape c.program.new.err;
      is =
          subst
          (λ (old : Reading). IsProgram c.args.words (devices old (g.F.Folder.used c.args.folder.now) (g.W.Sink.tape c.args.out.now))
          (devices (g.R.Source.reading c.program.new.input) (g.F.Folder.used c.program.new.folder) (g.W.Sink.tape c.program.new.out))
          (g.E.Sink.tape c.args.err.now) (g.E.Sink.tape c.program.new.err) c.program.result)
          is c.program.ensures;
    }
