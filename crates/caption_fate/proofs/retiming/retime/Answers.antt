use native.Mathlib.Omega.{arith}
use Rattle.spec_caption.proofs.caption_fate.DecideLaws.{kept_all, fits}
use Rattle.caption_fate.proofs.retiming.retime.Goals as goal

pub overflow_add-last : goal.overflow_add-last
overflow_add-last c = let p = c.requires.b_value in let x = c.args.x in let k = fits x.source x.output x.duration c.args.a c.args.b p.0 p.1 p.2 in omega arith

pub overflow_add-from : goal.overflow_add-from
overflow_add-from c = let p = c.requires.b_value in let x = c.args.x in let k = fits x.source x.output x.duration c.args.a c.args.b p.0 p.1 p.2 in omega arith

pub overflow_sub-to : goal.overflow_sub-to
overflow_sub-to c = let p = c.requires.b_value in let x = c.args.x in let k = fits x.source x.output x.duration c.args.a c.args.b p.0 p.1 p.2 in omega arith

pub overflow_add-to : goal.overflow_add-to
overflow_add-to c = let p = c.requires.b_value in let x = c.args.x in let k = fits x.source x.output x.duration c.args.a c.args.b p.0 p.1 p.2 in omega arith

pub returns : goal.returns
returns c = search kept_all depth 14
