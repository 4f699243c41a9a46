use Rattle.c_api.proofs.captions.retimer_text.Goals as goal

pub returns : goal.returns
returns c = c.retime.ensures
