use Rattle.std.proofs.Common.{◌<◌, vec_items, length, Some, ap, sym, ◌∙◌, rules}
use Rattle.std.specs.Option.{option_map}
use Rattle.tree.specs.declared.index.Place.{Place}
use Rattle.tree.proofs.Lookups.{found, not_in_gap}
use Rattle.tree.proofs.index.Index.find.Goals as goal

pub returns-in-Ok-clause-value : goal.returns-in-Ok-clause-value
returns-in-Ok-clause-value c =
    let place = c.index.result.now in
    let within : c.in-Ok.at < length (vec_items c.args.self.now.places) = search rules in
    let there = found c.args.id (vec_items c.args.self.now.places) c.in-Ok.at place c.args.self.now.ascending within c.in-Ok.ensures.found in
    ap (λ (p : Place). Some p.slot) c.index.ensures ∙ ap (option_map (λ (p : Place). p.slot)) (sym there)

pub returns-in-Err-clause-value : goal.returns-in-Err-clause-value
returns-in-Err-clause-value c = ap (option_map (λ (p : Place). p.slot)) (sym (not_in_gap c.args.id _ _ c.in-Err.ensures.gap))
