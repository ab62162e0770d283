use Rattle.std.proofs.Common.{◌≡◌, ◌+◌, Ok, rules}
use Rattle.formats.specs.Kept.{raw}
use Rattle.formats.specs.Records.{record_at}
use Rattle.formats.proofs.Whole.{record_whole}
use Rattle.formats.proofs.reading.read_record.Goals as goal

pub returns : goal.returns
returns g c =
    let width = g.K.Kind.WIDTH in
    let unpacked = g.K.Kind.unpacked in
    let input = c.args.input.now in
    let behind : c.byte-2.new.self.at ≡ c.args.at.now + 2 = search rules in
    let reads : record_at width unpacked c.args.format input c.args.at.now ≡ Ok (raw c.in_ok-record.record, c.fields.new.self.at) = search rules in
    (search rules, search rules, search rules, search rules, record_whole width unpacked c.args.format input c.args.at.now _ _ reads)
