use Rattle.tb_json.proofs.OneToOne.{text_of_one_to_one, IsWritable-table_of}
use Rattle.tb_json.proofs.laws.text_one_to_one.Goals as goal

pub returns : goal.returns
returns c = record { one_to_one = text_of_one_to_one; columns = IsWritable-table_of }
