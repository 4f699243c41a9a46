use Rattle.spec_cue.specs.block_cue.BlockThrough.{number_in}
use Rattle.spec_cue.proofs.block_cue.WriteLaws.{warn_none, warn_number}
use Rattle.block_cue.proofs.BlockForms.{warn_two}
use Rattle.block_cue.proofs.srt.warn.Goals as goal

pub returns : goal.returns
returns c = warn_number c.args.lost c.args.stamped (number_in c.args.site.last c.args.site.above c.args.site.block.now) _ _ c.args.warnings.now _ c.number_in-line.ensures (warn_two _ _ _ _ _ _ _ _ _ _ c.requires.0 c.warn_at-at.ensures c.warn_at.ensures)

pub returns-then-not-stamped : goal.returns-then-not-stamped
returns-then-not-stamped c = warn_none _ _ _ _ c.requires.0 c.if-not-lost.true c.if-not-stamped.true
