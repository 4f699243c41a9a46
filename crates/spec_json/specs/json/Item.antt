-- An item of a row in its parts.
use Rattle.std.specs.Prelude.{◌≡◌, List, ℕ, drop}
use Rattle.spec_json.specs.declared.json.Item.{Item}
use Rattle.spec_json.specs.json.Value.{value_width}
use Rattle.spec_json.specs.json.Walk.{lead_width, item_width}

pub record ItemOf (d b : ℕ) (s : List ℕ) (r : Item) : Type 0 where
  pub lead_is : r.lead ≡ lead_width b s
  pub width_is : r.width ≡ value_width d (drop r.lead s)
  pub whole_is : r.whole ≡ item_width b (value_width d) s
