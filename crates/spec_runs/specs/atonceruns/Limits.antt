-- The limits of `retimer_text` from both sides, in plain numbers, and the order of its refusals.
use Rattle.std.specs.Prelude.{◌≡◌, [], ◌∷◌}
use Rattle.spec_runs.specs.one_call.Text.{lengths_fault, refused_with}

pub record Limits : Type 0 where
  -- three bytes of output for a byte of text and 32,768 more: of 1,000 bytes 35,768
  pub output_least : lengths_fault 1000 35768 4429 7 ≡ 0
  pub output_short : lengths_fault 1000 35767 4429 7 ≡ 16
  pub output_empty : lengths_fault 0 32768 4096 7 ≡ 0
  pub output_empty_short : lengths_fault 0 32767 4096 7 ≡ 16
  -- a place for three bytes, rounded down, and 4,096 more: of 1,000 bytes 4,429
  pub places_short : lengths_fault 1000 35768 4428 7 ≡ 16
  pub places_of_two : lengths_fault 2 32774 4096 7 ≡ 0
  pub places_of_three : lengths_fault 3 32777 4096 7 ≡ 16
  pub places_empty_short : lengths_fault 0 32768 4095 7 ≡ 16
  -- seven told numbers
  pub told_short : lengths_fault 1000 35768 4429 6 ≡ 16
  -- a text of at most 2^30 bytes
  pub text_most : lengths_fault 1073741824 3221258240 357918037 7 ≡ 0
  pub text_next : lengths_fault 1073741825 9000000000 9000000000 7 ≡ 16
  -- T from 1 to 1,000,000,000 (15), before the kind and the lengths (16); the kinds are 0, 1 and 2
  pub timescale_none : refused_with 3 0 [] 0 0 0 0 ≡ 15
  pub timescale_least : refused_with 0 1 [] 0 32768 4096 7 ≡ 0
  pub timescale_most : refused_with 0 1000000000 [] 0 32768 4096 7 ≡ 0
  pub timescale_next : refused_with 0 1000000001 [] 0 32768 4096 7 ≡ 15
  pub kind_most : refused_with 2 1 [] 0 32768 4096 7 ≡ 0
  pub kind_next : refused_with 3 1 [] 0 32768 4096 7 ≡ 16
  -- a map of one number is none (15), before the kind
  pub map_before_kind : refused_with 3 1 (0 ∷ []) 0 0 0 0 ≡ 15
