-- Which field of a map a key names: each name against its number.
use mathlib.Core.Path.{◌≡◌, refl}
use mathlib.Core.Bool.{false, not}
use mathlib.Core.List.{List}
use Prim.Native.Nat.{ℕ}
use lib.Dec.{eqb}
use Rattle.spec_text.specs.pattern.Find.{equals}
use Rattle.spec_map_json.specs.map_json_write.Names.{timescale_name, rate_num_name, rate_den_name, input_name, frames_name, segments_name}
use Rattle.spec_map_json.specs.map_json_write.Reads.{is_known}
use Rattle.map_json_segments.proofs.NameLaws.{test_1, test_2, test_3, test_4, test_5, test_6, test_none, other}
use Rattle.map_json_read.specs.Slots.{head_named}

-- ---- two names
timescale_rate_num : equals rate_num_name timescale_name ≡ false
unfolding equals
timescale_rate_num = refl

timescale_rate_den : equals rate_den_name timescale_name ≡ false
unfolding equals
timescale_rate_den = refl

rate_num_rate_den : equals rate_den_name rate_num_name ≡ false
unfolding equals
rate_num_rate_den = refl

timescale_input : equals input_name timescale_name ≡ false
unfolding equals
timescale_input = refl

rate_num_input : equals input_name rate_num_name ≡ false
unfolding equals
rate_num_input = refl

rate_den_input : equals input_name rate_den_name ≡ false
unfolding equals
rate_den_input = refl

timescale_frames : equals frames_name timescale_name ≡ false
unfolding equals
timescale_frames = refl

rate_num_frames : equals frames_name rate_num_name ≡ false
unfolding equals
rate_num_frames = refl

rate_den_frames : equals frames_name rate_den_name ≡ false
unfolding equals
rate_den_frames = refl

input_frames : equals frames_name input_name ≡ false
unfolding equals
input_frames = refl

timescale_segments : equals segments_name timescale_name ≡ false
unfolding equals
timescale_segments = refl

rate_num_segments : equals segments_name rate_num_name ≡ false
unfolding equals
rate_num_segments = refl

rate_den_segments : equals segments_name rate_den_name ≡ false
unfolding equals
rate_den_segments = refl

input_segments : equals segments_name input_name ≡ false
unfolding equals
input_segments = refl

frames_segments : equals segments_name frames_name ≡ false
unfolding equals
frames_segments = refl

-- ---- the names of a map
module _ (n : List ℕ) where
  pub head_1 : eqb (head_named n) 1 ≡ equals timescale_name n
  unfolding head_named
  head_1 = test_1 (equals timescale_name n) (equals rate_num_name n) (equals rate_den_name n) (equals input_name n) (equals frames_name n) (equals segments_name n)

  pub head_2 : eqb (head_named n) 2 ≡ equals rate_num_name n
  unfolding head_named
  head_2 = test_2 (equals timescale_name n) (equals rate_num_name n) (equals rate_den_name n) (equals input_name n) (equals frames_name n) (equals segments_name n) (other timescale_name rate_num_name n timescale_rate_num)

  pub head_3 : eqb (head_named n) 3 ≡ equals rate_den_name n
  unfolding head_named
  head_3 = test_3 (equals timescale_name n) (equals rate_num_name n) (equals rate_den_name n) (equals input_name n) (equals frames_name n) (equals segments_name n) (other timescale_name rate_den_name n timescale_rate_den) (other rate_num_name rate_den_name n rate_num_rate_den)

  pub head_4 : eqb (head_named n) 4 ≡ equals input_name n
  unfolding head_named
  head_4 = test_4 (equals timescale_name n) (equals rate_num_name n) (equals rate_den_name n) (equals input_name n) (equals frames_name n) (equals segments_name n) (other timescale_name input_name n timescale_input) (other rate_num_name input_name n rate_num_input) (other rate_den_name input_name n rate_den_input)

  pub head_5 : eqb (head_named n) 5 ≡ equals frames_name n
  unfolding head_named
  head_5 = test_5 (equals timescale_name n) (equals rate_num_name n) (equals rate_den_name n) (equals input_name n) (equals frames_name n) (equals segments_name n) (other timescale_name frames_name n timescale_frames) (other rate_num_name frames_name n rate_num_frames) (other rate_den_name frames_name n rate_den_frames) (other input_name frames_name n input_frames)

  pub head_6 : eqb (head_named n) 6 ≡ equals segments_name n
  unfolding head_named
  head_6 = test_6 (equals timescale_name n) (equals rate_num_name n) (equals rate_den_name n) (equals input_name n) (equals frames_name n) (equals segments_name n) (other timescale_name segments_name n timescale_segments) (other rate_num_name segments_name n rate_num_segments) (other rate_den_name segments_name n rate_den_segments) (other input_name segments_name n input_segments) (other frames_name segments_name n frames_segments)

  pub head_known : not (eqb (head_named n) 0) ≡ is_known n
  unfolding head_named
  head_known = test_none (equals timescale_name n) (equals rate_num_name n) (equals rate_den_name n) (equals input_name n) (equals frames_name n) (equals segments_name n)
