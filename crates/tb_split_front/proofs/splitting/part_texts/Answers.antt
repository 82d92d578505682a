use Rattle.tb_frame.specs.Promise.Table.{table_of}
use Rattle.tb_split_front.proofs.Written.{refused_settles, texts_given, texts_settle}
use Rattle.tb_split_front.proofs.splitting.part_texts.Goals as goal

pub returns-in-Ok-clause-settles : goal.returns-in-Ok-clause-settles
returns-in-Ok-clause-settles g c =
    texts_settle c.args.separator c.args.call.now (table_of c.args.table) c.in-Ok.tables.items c.in-Ok.ensures.tables c.in-Ok.ensures.some c.texts_of.result c.texts_of.ensures c.in-Ok.ensures.settles

pub returns-in-Ok-clause-texts : goal.returns-in-Ok-clause-texts
returns-in-Ok-clause-texts g c =
    texts_given c.args.separator c.args.call.now (table_of c.args.table) c.in-Ok.tables.items c.in-Ok.ensures.tables c.in-Ok.ensures.some c.texts_of.result c.texts_of.ensures

pub returns-in-Err-clause-settles : goal.returns-in-Err-clause-settles
returns-in-Err-clause-settles g c =
    refused_settles c.args.call.now (table_of c.args.table) c.in-Err.error c.refused.result c.refused.ensures c.in-Err.ensures.settles
