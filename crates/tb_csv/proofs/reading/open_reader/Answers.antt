use Rattle.std.proofs.Common.{refl, inr}
use Rattle.csv.specs.Reading.{strip_bom}
use Rattle.tb_csv.specs.Promise.Records.{lines_of}
use Rattle.tb_csv.proofs.reading.open_reader.Goals as goal

pub returns : goal.returns
unfolding lines_of
returns c =
    let f = c.from_reader.ensures in
    let d = c.delimiter.ensures in
    let x = c.flexible.ensures in
    let h = c.has_headers.ensures in
    let n = c.new.ensures in
    (rw (d, x, h, n.trim) at f.trim, inr (inr (rw (d, x, h) at f.has_headers, f.headers)), rw (d, x, h, n.config) at f.config, strip_bom c.args.text.now, f.source, rw f.state refl)
