use Rattle.std.proofs.Common.{append_assoc}
use Rattle.merger.proofs.merge.Merge.show.Goals as goal

pub returns : goal.returns
returns g c = let h = c.in_ok-format.ensures.ok in simp append_assoc (cc h)
