use Rattle.map_json_segments.proofs.SlotLaws.{slot_said, slot_unsaid}
use Rattle.map_json_segments.proofs.number.slot_of.Goals as goal

pub returns-in-Some : goal.returns-in-Some
returns-in-Some c = search slot_said

pub returns-in-None : goal.returns-in-None
returns-in-None c = search slot_unsaid
