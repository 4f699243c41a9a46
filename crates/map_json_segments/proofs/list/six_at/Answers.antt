use mathlib.Core.Path.{refl}
use Rattle.map_json_segments.proofs.ListLaws.{six_stored}
use Rattle.map_json_segments.proofs.list.six_at.Goals as goal

pub returns : goal.returns
returns c = six_stored c.args.at 6 _ _ c.args.map.now c.copy_from_slice.ensures.after refl
