use Rattle.spec_json.proofs.json.SpaceLaws.{space_found, space_again}
use Rattle.json_values.proofs.RunLaws.{spaces_all}
use Rattle.json_values.proofs.space.spaces.Goals as goal

pub returns-then-not-is_space : goal.returns-then-not-is_space
returns-then-not-is_space c = search space_found

pub loop-i-preserved : goal.loop-i-preserved
loop-i-preserved c = search space_again

pub returns : goal.returns
returns c = search spaces_all
