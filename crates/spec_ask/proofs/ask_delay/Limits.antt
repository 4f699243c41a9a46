-- The refusals in plain numbers, from both sides: 29 for budget 0 and for 4,097 captions, whatever the kind and the times are; 16 for the kind, half a caption or a late
-- time with 4,096; else 0.
use mathlib.Core.Path.{◌≡◌}
use mathlib.Core.Bool.{true, false}
use mathlib.Core.List.{List}
use Prim.Native.Nat.{ℕ, ◌/◌, ◌%◌, ◌≤◌, ◌<◌}
use native.Mathlib.Omega.{arith}
use lib.Dec.{leb}
use lib.ListN.{length}
use borrow.Author.Tests.{le-leb, lt-leb, eq-eqb, ne_eqb}
use Rattle.spec_base.specs.base.Refusal.{◌or_else◌, fault_unless}
use Rattle.spec_time.specs.caption_time.Kind.{kind_bad}
use Rattle.spec_time.specs.caption_time.Convert.{timescale_bad}
use Rattle.spec_map.specs.segment.Segment.{map_bad}
use Rattle.spec_ask.specs.ask_delay.Loss.{most_captions, any_late, delay_number}

module _ (m : List ℕ) (T kind : ℕ) (cs : List ℕ) (budget : ℕ) where
  pub timescale_first : timescale_bad T ≡ true → delay_number m T kind cs budget ≡ 15
  unfolding delay_number ◌or_else◌ fault_unless
  timescale_first e = rw e

  module _ (gT : timescale_bad T ≡ false) where
    pub map_first : map_bad m ≡ true → delay_number m T kind cs budget ≡ 15
    unfolding delay_number ◌or_else◌ fault_unless
    map_first e = rw (gT, e)

    module _ (gm : map_bad m ≡ false) where
      pub no_budget : budget < 1 → delay_number m T kind cs budget ≡ 29
      unfolding delay_number ◌or_else◌ fault_unless
      no_budget h = rw (gT, gm, lt-leb 1 budget h)

      module _ (gb : 1 ≤ budget) where
        pub too_many : 8194 ≤ length cs → delay_number m T kind cs budget ≡ 29
        unfolding delay_number ◌or_else◌ fault_unless
        too_many h = rw (gT, gm, le-leb 1 budget gb, lt-leb (length cs / 2) most_captions (omega (arith, h)))

        module _ (few : length cs ≤ 8193) where
          many : leb (length cs / 2) most_captions ≡ true
          many = le-leb (length cs / 2) most_captions (omega (arith, few))

          pub bad_kind : kind_bad kind ≡ true → delay_number m T kind cs budget ≡ 16
          unfolding delay_number ◌or_else◌ fault_unless
          bad_kind e = rw (gT, gm, le-leb 1 budget gb, many, e)

          module _ (gk : kind_bad kind ≡ false) where
            pub half : length cs % 2 ≡ 1 → delay_number m T kind cs budget ≡ 16
            unfolding delay_number ◌or_else◌ fault_unless
            half e = rw (gT, gm, le-leb 1 budget gb, many, gk, ne_eqb (length cs % 2) 0 (λ z. omega (arith, e, z)))

            pub late : length cs % 2 ≡ 0 → any_late cs ≡ true → delay_number m T kind cs budget ≡ 16
            unfolding delay_number ◌or_else◌ fault_unless
            late e l = rw (gT, gm, le-leb 1 budget gb, many, gk, eq-eqb (length cs % 2) 0 e, l)

            pub taken : length cs % 2 ≡ 0 → any_late cs ≡ false → delay_number m T kind cs budget ≡ 0
            unfolding delay_number ◌or_else◌ fault_unless
            taken e l = rw (gT, gm, le-leb 1 budget gb, many, gk, eq-eqb (length cs % 2) 0 e, l)
