use Rattle.map_json_read.proofs.WalkLaws.{walk_path, walk_list, walk_other, walk_none_named}
use Rattle.map_json_read.proofs.walk.walk_after.Goals as goal

pub returns-in_default : goal.returns-in_default
returns-in_default c = search walk_none_named

pub returns-in-Input : goal.returns-in-Input
returns-in-Input c = search walk_path

pub returns-in-Segments : goal.returns-in-Segments
returns-in-Segments c = search walk_list

pub returns-in_default-h : goal.returns-in_default-h
returns-in_default-h c = search (walk_other, c.in_default-h.not-Input, c.in_default-h.not-Segments)
