use Rattle.tb_csv.specs.Promise.Records.{form}
use Rattle.csv.specs.Records.{fields_of}
use Rattle.tb_csv.proofs.Left.{read_left}
use Rattle.tb_csv.proofs.reading.next_record.Goals as goal

pub returns : goal.returns
returns c separator turns records h =
    let e = c.read_byte_record.ensures in
    read_left (form separator) turns records c.args.reader.now c.read_byte_record.new.self (fields_of c.read_byte_record.new.row) c.read_byte_record.result c.map_err.result _ h e.ready e.reads c.map_err.ensures.cases
