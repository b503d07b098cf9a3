use Rattle.std.proofs.Common.{rules, refl}
use Rattle.command_parts.proofs.Holding.{kept_by}
use Rattle.command_parts.proofs.conversation.keep.Goals as goal

pub returns-clause-kept : goal.returns-clause-kept
returns-clause-kept g c =
    kept_by (g.F.Folder.used c.args.folder.now) (g.F.Folder.used c.save.new.self) c.args.file.now c.args.text.now.items c.is_ok.result
    (record {
      name = c.in_ok-name.name;
      named = search rules;
      names = c.save.ensures.saved;
      bytes = c.args.text.now;
      spelled = refl;
      texts = c.save.ensures.texts;
      opened = c.save.ensures.opened;
    })
