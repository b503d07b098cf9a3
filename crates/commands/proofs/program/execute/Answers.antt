use Rattle.std.proofs.Common.{◌∙◌, option_copied}
use Rattle.commands.proofs.Sessions.{in_folder, copied_some}
use Rattle.commands.proofs.program.execute.Goals as goal

-- a session as `carry_out` says, over the texts that were read
pub returns-clause-session : goal.returns-clause-session
returns-clause-session g c is =
    in_folder c.args.command.now (option_copied c.as_deref-in-None.result) (option_copied c.as_deref-first.result)
    (g.F.Folder.used c.args.folder.now) (g.F.Folder.used c.start_text.new.folder) (g.F.Folder.used c.carry_out.new.folder)
    (g.R.Source.reading c.args.input.now) (g.R.Source.reading c.carry_out.new.r)
    (g.W.Sink.tape c.args.out.now) (g.W.Sink.tape c.carry_out.new.w) c.carry_out.result
    (copied_some c.as_deref-in-None.result ∙ c.as_deref-in-None.ensures.variant ∙ c.in_ok-image.ensures.named)
    (copied_some c.as_deref-first.result ∙ c.as_deref-first.ensures.variant ∙ c.in_ok-start.ensures.named)
    (c.start_text.ensures.saved ∙ c.image_text.ensures.saved) (c.start_text.ensures.texts ∙ c.image_text.ensures.texts) (c.carry_out.ensures.session is)
