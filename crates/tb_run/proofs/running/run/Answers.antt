-- Each arm has a text that is due, and replies with it.
use Rattle.tb_run.proofs.Frame.{usage_is_due, sample_is_due, answer_is_due, replied_whole, replied_part, no_read_fault, no_want, replied_well, replied_done, replied_for}
use Rattle.std.proofs.Common.{refl}
use Rattle.tb_run.proofs.Exactly.{replied_exactly}
use Rattle.tb_run.proofs.running.run.Goals as goal

pub returns-in-Unknown-clause-answered : goal.returns-in-Unknown-clause-answered
returns-in-Unknown-clause-answered g c = replied_whole g.K.Sink.is_exact _ _ _ _ _ _ _ _ _ _ (usage_is_due _ _ c.in-Unknown.ensures) c.reply.ensures.ends

pub returns-in-Unknown-clause-write_fault : goal.returns-in-Unknown-clause-write_fault
returns-in-Unknown-clause-write_fault g c = replied_part g.K.Sink.is_exact _ _ _ _ _ _ _ _ _ _ (usage_is_due _ _ c.in-Unknown.ensures) c.reply.ensures.ends

pub returns-in-Ok-respond-clause-answered : goal.returns-in-Ok-respond-clause-answered
returns-in-Ok-respond-clause-answered g c = replied_whole g.K.Sink.is_exact _ _ _ _ _ _ _ _ _ _ (answer_is_due _ _ _ _ _ _ _ c.in-Reads.ensures refl c.in-Ok-respond.ensures.due) c.reply_text.ensures.ends

pub returns-in-Ok-respond-clause-write_fault : goal.returns-in-Ok-respond-clause-write_fault
returns-in-Ok-respond-clause-write_fault g c = replied_part g.K.Sink.is_exact _ _ _ _ _ _ _ _ _ _ (answer_is_due _ _ _ _ _ _ _ c.in-Reads.ensures refl c.in-Ok-respond.ensures.due) c.reply_text.ensures.ends

pub returns-in-Ok-respond-clause-read_fault : goal.returns-in-Ok-respond-clause-read_fault
returns-in-Ok-respond-clause-read_fault g c fault = absurd (no_read_fault g.K.Sink.is_exact _ _ _ _ _ _ _ _ _ _ (answer_is_due _ _ _ _ _ _ _ c.in-Reads.ensures refl c.in-Ok-respond.ensures.due) c.reply_text.ensures.ends fault)

pub returns-in-Ok-respond-clause-out_of_memory : goal.returns-in-Ok-respond-clause-out_of_memory
returns-in-Ok-respond-clause-out_of_memory g c want = absurd (no_want g.K.Sink.is_exact _ _ _ _ _ _ _ _ _ _ (answer_is_due _ _ _ _ _ _ _ c.in-Reads.ensures refl c.in-Ok-respond.ensures.due) c.reply_text.ensures.ends want)

pub returns-in-Unknown-clause-writes_well : goal.returns-in-Unknown-clause-writes_well
returns-in-Unknown-clause-writes_well g c = replied_well g.K.Sink.is_exact _ _ _ _ _ _ _ c.reply.ensures.ends

pub returns-in-Ok-respond-clause-writes_well : goal.returns-in-Ok-respond-clause-writes_well
returns-in-Ok-respond-clause-writes_well g c = replied_well g.K.Sink.is_exact _ _ _ _ _ _ _ c.reply_text.ensures.ends

pub returns-in-Unknown-clause-complete : goal.returns-in-Unknown-clause-complete
returns-in-Unknown-clause-complete g c valid read_calm calm = replied_done g.K.Sink.is_exact _ _ _ _ _ _ _ _ _ _ (usage_is_due _ _ c.in-Unknown.ensures) c.reply.ensures.ends valid calm

pub returns-in-Ok-respond-clause-complete : goal.returns-in-Ok-respond-clause-complete
returns-in-Ok-respond-clause-complete g c valid read_calm calm = replied_done g.K.Sink.is_exact _ _ _ _ _ _ _ _ _ _ (answer_is_due _ _ _ _ _ _ _ c.in-Reads.ensures refl c.in-Ok-respond.ensures.due) c.reply_text.ensures.ends valid calm

pub returns-in-Unknown-clause-done : goal.returns-in-Unknown-clause-done
returns-in-Unknown-clause-done g c = replied_for g.K.Sink.is_exact _ _ _ _ _ _ _ _ _ _ (usage_is_due _ (g.S.Source.left c.args.source.now) c.in-Unknown.ensures) c.reply.ensures.ends

pub returns-in-Ok-respond-clause-done : goal.returns-in-Ok-respond-clause-done
returns-in-Ok-respond-clause-done g c = replied_for g.K.Sink.is_exact _ _ _ _ _ _ _ _ _ _ (answer_is_due _ _ _ _ _ _ _ c.in-Reads.ensures refl c.in-Ok-respond.ensures.due) c.reply_text.ensures.ends

-- a sample reads nothing, and always has a text

pub returns-in-Ok-clause-answered : goal.returns-in-Ok-clause-answered
returns-in-Ok-clause-answered g c = replied_whole g.K.Sink.is_exact _ _ _ _ _ _ _ _ _ _ (sample_is_due _ _ _ _ _ c.in-Sample.ensures c.as_str.ensures.value c.in-Ok.ensures) c.reply-in-Ok.ensures.ends

pub returns-in-Ok-clause-write_fault : goal.returns-in-Ok-clause-write_fault
returns-in-Ok-clause-write_fault g c = replied_part g.K.Sink.is_exact _ _ _ _ _ _ _ _ _ _ (sample_is_due _ _ _ _ _ c.in-Sample.ensures c.as_str.ensures.value c.in-Ok.ensures) c.reply-in-Ok.ensures.ends

pub returns-in-Ok-clause-read_fault : goal.returns-in-Ok-clause-read_fault
returns-in-Ok-clause-read_fault g c fault = absurd (no_read_fault g.K.Sink.is_exact _ _ _ _ _ _ _ _ _ _ (sample_is_due _ _ (g.S.Source.left c.args.source.now) _ _ c.in-Sample.ensures c.as_str.ensures.value c.in-Ok.ensures) c.reply-in-Ok.ensures.ends fault)

pub returns-in-Ok-clause-out_of_memory : goal.returns-in-Ok-clause-out_of_memory
returns-in-Ok-clause-out_of_memory g c want = absurd (no_want g.K.Sink.is_exact _ _ _ _ _ _ _ _ _ _ (sample_is_due _ _ (g.S.Source.left c.args.source.now) _ _ c.in-Sample.ensures c.as_str.ensures.value c.in-Ok.ensures) c.reply-in-Ok.ensures.ends want)

pub returns-in-Ok-clause-writes_well : goal.returns-in-Ok-clause-writes_well
returns-in-Ok-clause-writes_well g c = replied_well g.K.Sink.is_exact _ _ _ _ _ _ _ c.reply-in-Ok.ensures.ends

pub returns-in-Ok-clause-complete : goal.returns-in-Ok-clause-complete
returns-in-Ok-clause-complete g c valid read_calm calm = replied_done g.K.Sink.is_exact _ _ _ _ _ _ _ _ _ _ (sample_is_due _ _ _ _ _ c.in-Sample.ensures c.as_str.ensures.value c.in-Ok.ensures) c.reply-in-Ok.ensures.ends valid calm

pub returns-in-Ok-clause-done : goal.returns-in-Ok-clause-done
returns-in-Ok-clause-done g c = replied_for g.K.Sink.is_exact _ _ _ _ _ _ _ _ _ _ (sample_is_due _ _ (g.S.Source.left c.args.source.now) _ _ c.in-Sample.ensures c.as_str.ensures.value c.in-Ok.ensures) c.reply-in-Ok.ensures.ends

-- each status exactly where it comes

pub returns-in-Unknown-clause-exactly : goal.returns-in-Unknown-clause-exactly
returns-in-Unknown-clause-exactly g c =
    replied_exactly c.args.words.now _ _ _ _ g.S.Source.is_exact g.K.Sink.is_exact _ _ _ _ _ _ _ (usage_is_due _ _ c.in-Unknown.ensures) c.reply.ensures.ends (λ _. refl)

pub returns-in-Ok-respond-clause-exactly : goal.returns-in-Ok-respond-clause-exactly
returns-in-Ok-respond-clause-exactly g c =
    replied_exactly c.args.words.now _ _ _ _ g.S.Source.is_exact g.K.Sink.is_exact _ _ _ _ _ _ _ (answer_is_due _ _ _ _ _ _ _ c.in-Reads.ensures refl c.in-Ok-respond.ensures.due) c.reply_text.ensures.ends
    c.in-Ok-respond.ensures.count.1

pub returns-in-Ok-clause-exactly : goal.returns-in-Ok-clause-exactly
returns-in-Ok-clause-exactly g c =
    replied_exactly c.args.words.now _ _ _ _ g.S.Source.is_exact g.K.Sink.is_exact _ _ _ _ _ _ _ (sample_is_due _ _ _ _ _ c.in-Sample.ensures c.as_str.ensures.value c.in-Ok.ensures) c.reply-in-Ok.ensures.ends (λ _. refl)
