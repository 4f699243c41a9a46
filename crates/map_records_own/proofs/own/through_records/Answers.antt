use Rattle.spec_map.proofs.segmap.MapLaws.{short_map, short_work}
use Rattle.spec_records.proofs.map_records_own.ThroughLaws.{short_through, enough_through, enough_bytes, enough_flat}
use Rattle.map_records_own.proofs.own.through_records.Goals as goal

pub returns-then-flat-clause-value : goal.returns-then-flat-clause-value
returns-then-flat-clause-value c = search short_through

pub returns-then-flat-clause-work_after : goal.returns-then-flat-clause-work_after
returns-then-flat-clause-work_after c = search short_work

pub returns-then-flat-clause-flat_after : goal.returns-then-flat-clause-flat_after
returns-then-flat-clause-flat_after c = search short_map

pub returns-clause-value : goal.returns-clause-value
returns-clause-value c = search enough_through

pub returns-clause-work_after : goal.returns-clause-work_after
returns-clause-work_after c = search enough_bytes

pub returns-clause-flat_after : goal.returns-clause-flat_after
returns-clause-flat_after c = search enough_flat
