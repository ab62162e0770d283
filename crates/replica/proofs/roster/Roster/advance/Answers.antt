use Rattle.std.proofs.Common.{ap, ◌∙◌}
use Rattle.edits.specs.declared.clock.Pair.{Pair}
use Rattle.replica.proofs.Places.{advanced_at, advanced_none}
use Rattle.replica.proofs.roster.Roster.advance.Goals as goal

pub returns-in-Ok : goal.returns-in-Ok
returns-in-Ok c =
    let at = c.in-Ok.ensures in
    advanced_at c.args.id c.args.self.now.pairs.items c.in-Ok.place _ c.args.self.now.ascending at.1 at.2 (ap (λ (p : Pair). p.editor) c.index_mut.ensures.value ∙ at.2 _)

pub returns-in_default : goal.returns-in_default
returns-in_default c = advanced_none c.args.id c.args.self.now.pairs.items c.in_default.ensures.0
