use Rattle.std.proofs.Common.{◌≡◌, ◌+◌, true, sym, ap, ◌∙◌, Some, rules, arith}
use Rattle.std.proofs.lemmas.Result.{MatchResult-weaker}
use Rattle.edits.specs.declared.id.Id.{Id}
use Rattle.edits.specs.Clocks.{pairs_of, clock_kept}
use Rattle.edits.specs.Pairs.{counting}
use Rattle.formats.specs.Expanded.{further}
use Rattle.formats.proofs.Later.{some_editor, some_number, clock_is_kept, room, later_stamp, later_parent}
use Rattle.formats.proofs.expanding.later.Goals as goal

pub returns-in_err-clock : goal.returns-in_err-clock
returns-in_err-clock g c = grind (arith, room)

pub returns : goal.returns
returns g c =
    let id = c.args.id in
    let i = c.args.i in
    let x = c.args.clock.now in
    let y = c.in_ok-clock.clock in
    let some : c.counting.result ≡ Some y = grind arith in
    let bef : c.in_ok-before.before ≡ further id i = c.in_ok-before.ensures in
    let next : c.in_ok-id.id ≡ further id (i + 1) = grind arith in
    let value = rw some at c.counting.ensures.value in
    let kept = rw some at c.counting.ensures.kept in
    let counts : pairs_of y ≡ counting id.editor (id.number + i) (pairs_of x) = value ∙ ap (λ (b : Id). counting b.editor b.number (pairs_of x)) bef in
    MatchResult-weaker c.insertion.result c.insertion.ensures
    (λ e h. rw (sym next, sym counts, sym bef) h)
    (λ f h. (
      h.0,
      λ from le.
          let y_kept : clock_kept y ≡ true = kept (search (rules, some_editor id x from)) (search (rules, some_number id x from)) (clock_is_kept id x from) in
          h.1 (rw next (later_stamp id x from i y counts y_kept)) (rw bef (later_parent id x from i y counts)),
    ))
