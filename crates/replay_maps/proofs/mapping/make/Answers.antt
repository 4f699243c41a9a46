use mathlib.Core.Path.{sym}
use lib.Seq.{length-take-le}
use native.Mathlib.Omega.{arith}
use Rattle.replay_maps.proofs.MadeLaws.{number_made}
use Rattle.replay_maps.proofs.mapping.make.Goals as goal

pub slice_bounds-make-end : goal.slice_bounds-make-end
slice_bounds-make-end c = sym (length-take-le _ _ (omega arith))

pub returns : goal.returns
returns c = search number_made
