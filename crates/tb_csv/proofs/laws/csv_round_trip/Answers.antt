use Rattle.tb_csv.proofs.TableBack.{round_trip}
use Rattle.tb_csv.proofs.laws.csv_round_trip.Goals as goal

pub returns : goal.returns
returns c = round_trip
