use Rattle.std.proofs.Common.{◌<◌, ◌≤◌, length, vec_items, inl, refl, rules}
use Rattle.tree.proofs.Places.{any_from_at, ascending_after}
use Rattle.tree.proofs.index.Index.add.Goals as goal

pub invariant_of-self-clause-ascending : goal.invariant_of-self-clause-ascending
invariant_of-self-clause-ascending c =
    let in_range : c.in-Err.at ≤ length (vec_items c.args.self.now.places) = search rules in
    rw c.insert.ensures.items (ascending_after _ c.args.self.now.ascending _ c.in-Err.at (record { id = c.args.id; slot = c.args.slot }) in_range c.in-Err.ensures.gap)

-- the identifier has a place already
pub returns-in_default-clause-places : goal.returns-in_default-clause-places
returns-in_default-clause-places c =
    let within : c.in_default.field-0 < length (vec_items c.args.self.now.places) = search rules in
    inl (any_from_at _ _ c.in_default.field-0 (record { id = c.args.id; slot = c.args.slot }) within c.in_default.ensures.found, refl)
