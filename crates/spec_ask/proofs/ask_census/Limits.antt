-- The refusals in plain numbers, from both sides: 15, then 28 for a map that 2.12 does not admit, whatever else is asked; then 16 for the kind, a length or a count above 36,000,000;
-- else 0. N = 0 is no exception.
use mathlib.Core.Path.{◌≡◌}
use mathlib.Core.Bool.{true, false}
use mathlib.Core.List.{List}
use Prim.Native.Nat.{ℕ, ◌≤◌}
use borrow.Author.Tests.{le-leb, lt-leb}
use Rattle.spec_base.specs.base.Refusal.{◌or_else◌, fault_unless}
use Rattle.spec_time.specs.caption_time.Kind.{kind_bad}
use Rattle.spec_time.specs.caption_time.Convert.{timescale_bad}
use Rattle.spec_map.specs.segment.Segment.{segments_of, map_bad}
use Rattle.spec_ask.specs.ask_order.Ascending.{ascends}
use Rattle.spec_ask.specs.ask_census.Census.{most_starts, census_number}

module _ (m : List ℕ) (T kind L N : ℕ) where
  pub timescale_first : timescale_bad T ≡ true → census_number m T kind L N ≡ 15
  unfolding census_number ◌or_else◌ fault_unless
  timescale_first e = rw e

  module _ (gT : timescale_bad T ≡ false) where
    pub map_first : map_bad m ≡ true → census_number m T kind L N ≡ 15
    unfolding census_number ◌or_else◌ fault_unless
    map_first e = rw (gT, e)

    module _ (gm : map_bad m ≡ false) where
      pub not_admitted : ascends (segments_of m) ≡ false → census_number m T kind L N ≡ 28
      unfolding census_number ◌or_else◌ fault_unless
      not_admitted e = rw (gT, gm, e)

      module _ (ga : ascends (segments_of m) ≡ true) where
        pub bad_kind : kind_bad kind ≡ true → census_number m T kind L N ≡ 16
        unfolding census_number ◌or_else◌ fault_unless
        bad_kind e = rw (gT, gm, ga, e)

        module _ (gk : kind_bad kind ≡ false) where
          pub too_long_lem : 36000001 ≤ L → census_number m T kind L N ≡ 16
          unfolding census_number ◌or_else◌ fault_unless
          too_long_lem h = rw (gT, gm, ga, gk, lt-leb L most_starts h)

          pub too_many : L ≤ 36000000 → 36000001 ≤ N → census_number m T kind L N ≡ 16
          unfolding census_number ◌or_else◌ fault_unless
          too_many h n = rw (gT, gm, ga, gk, le-leb L most_starts h, lt-leb N most_starts n)

          pub taken : L ≤ 36000000 → N ≤ 36000000 → census_number m T kind L N ≡ 0
          unfolding census_number ◌or_else◌ fault_unless
          taken h n = rw (gT, gm, ga, gk, le-leb L most_starts h, le-leb N most_starts n)
