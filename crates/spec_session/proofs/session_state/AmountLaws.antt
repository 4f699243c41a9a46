-- 17: the tests of config and columns, one by one.
use mathlib.Core.Path.{◌≡◌, sym, ◌∙◌}
use mathlib.Core.Bool.{Bool, true, false}
use Prim.Native.Nat.{◌≤◌, ◌<◌}
use lib.Dec.{ltb}
use borrow.Author.Tests.{lt-ltb, le-ltb}
use Rattle.spec_base.specs.base.Limits.{most_columns}
use Rattle.spec_time.specs.caption_time.Kind.{kind_bad}
use Rattle.spec_time.specs.caption_time.Convert.{timescale_bad}
use Rattle.spec_caption.specs.declared.caption_fate.Config.{Config}
use Rattle.spec_ass.specs.declared.ass_columns.Columns.{Columns}
use Rattle.spec_machine.specs.session_counts.Session.{config_bad}
use Rattle.spec_machine.specs.kinds.Kit.{columns_bad}

module _ (c : Config) (a : Bool) (e : a ≡ kind_bad c.kind) where
  pub no_kind : a ≡ true → true ≡ config_bad c
  no_kind p = let k : kind_bad c.kind ≡ true = sym e ∙ p in rw k

  pub by_timescale : (b : Bool) → a ≡ false → b ≡ timescale_bad c.timescale → b ≡ config_bad c
  by_timescale b p q = let k : kind_bad c.kind ≡ false = sym e ∙ p in rw k q

module _ (c : Columns) where
  pub columns_many : most_columns < c.columns → true ≡ columns_bad c
  unfolding columns_bad
  columns_many p = rw (lt-ltb most_columns c.columns p)

  pub start_past : c.columns ≤ most_columns → c.columns < c.start → true ≡ columns_bad c
  unfolding columns_bad
  start_past p q = rw (le-ltb most_columns c.columns p, lt-ltb c.columns c.start q)

  pub end_past : c.columns ≤ most_columns → c.start ≤ c.columns → ltb c.columns c.«end» ≡ columns_bad c
  unfolding columns_bad
  end_past p q = rw (le-ltb most_columns c.columns p, le-ltb c.columns c.start q)
