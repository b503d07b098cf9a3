use Rattle.std.proofs.Common.{is_some}
use Rattle.cli.specs.FilesNamed.{save_of}
use Rattle.commands.proofs.Finishing.{fine_end, whole_end}
use Rattle.commands.proofs.program.execute_and_save.Goals as goal

pub returns : goal.returns
returns g c =
    record {
      used = g.F.Folder.used c.execute-ended.new.folder;
      output = g.W.Sink.tape c.execute-ended.new.out;
      ended = c.execute-ended.result;
      opens_all =
          fine_end c.args.command.now (g.F.Folder.used c.execute-ended.new.folder) (g.F.Folder.used c.finish.new.folder)
          (g.W.Sink.tape c.execute-ended.new.out) (g.W.Sink.tape c.finish.new.out) c.execute-ended.result c.finish.result _
          c.finish.ensures.finishes (rw c.finish.ensures.opened c.execute-ended.ensures.all);
      opens_some = rw c.finish.ensures.opened c.execute-ended.ensures.opened;
      unsaved = λ no. record { names = c.execute-ended.ensures.saved no; texts = c.execute-ended.ensures.texts no };
      session = c.execute-ended.ensures.session;
      whole =
          whole_end c.args.command.now (g.F.Folder.used c.execute-ended.new.folder) (g.F.Folder.used c.finish.new.folder)
          (g.W.Sink.tape c.args.out.now) (g.W.Sink.tape c.execute-ended.new.out) (g.W.Sink.tape c.finish.new.out) (is_some (save_of c.args.command.now))
          c.execute-ended.result c.finish.result c.finish.ensures.finishes c.execute-ended.ensures.ended;
      apart = c.execute-ended.ensures.apart;
      on_input = c.execute-ended.ensures.on_input;
      on_file = c.execute-ended.ensures.on_file;
      finishes = c.finish.ensures.finishes;
    }
