use Rattle.std.proofs.Common.{arith}
use Rattle.std.proofs.lemmas.Result.{MatchResult-weaker}
use Rattle.merger.proofs.tables.table_of.Goals as goal

pub returns : goal.returns
returns g c =
    let merge = c.in_ok-settled.settled in
    let kept = c.in_ok-settled.ensures in
    MatchResult-weaker c.show.result c.show.ensures
    (λ table shown. (c.requires, (merge.replica, merge.reading, kept.0, kept.1, shown)))
    (λ fault h long. absurd (omega arith))
