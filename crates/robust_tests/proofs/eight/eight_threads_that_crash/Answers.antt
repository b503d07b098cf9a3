use Rattle.std.proofs.Common.{◌∙◌}
use Rattle.robust.proofs.Worked.{one_arena}
use Rattle.robust_tests.proofs.eight.eight_threads_that_crash.Goals as goal

pub gathered_all-image-requires : goal.gathered_all-image-requires
gathered_all-image-requires g c =
    let s = c.made-members.ensures in
    one_arena s.0 s.1 c.in_ok-members.members.items (c.in_ok-members.ensures ∙ s.2)
