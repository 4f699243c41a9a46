-- The fields of a map's text gathered in one walk: its numbers by slots, whether its path and its list were seen, and the depth of the others.
use Rattle.std.specs.Prelude.{ℕ, Bool, true, false, ◌&&◌, ◌||◌, not, cond, List, [], eqb, ltb, Option, None, Some}
use Rattle.spec_base.specs.base.Limits.{most_frame}
use Rattle.spec_text.specs.pattern.Find.{equals}
use Rattle.spec_json.specs.json.Value.{is_value}
use Rattle.spec_json.specs.json.Member.{Member}
use Rattle.spec_map_json.specs.map_json_write.Names.{timescale_name, rate_num_name, rate_den_name, input_name, frames_name, segments_name}
use Rattle.spec_map_json.specs.map_json_write.Reads.{is_known}
use Rattle.map_json_segments.specs.declared.number.Slot.TheVariants.{Missing}
use Rattle.map_json_segments.specs.Slots.{is_given, given, slot_with, slot_after}
use Rattle.map_json_read.specs.declared.fields.Head.{Head}
use Rattle.map_json_read.specs.declared.fields.Head.TheVariants.{Timescale, RateNum, RateDen, Input, Frames, Segments}
use Rattle.map_json_read.specs.declared.fields.Heads.{Heads}
use Rattle.map_json_read.specs.declared.fields.HeadSlots.{HeadSlots}

-- which field of a map a name is; 0: none
unfoldable pub head_named : List ℕ → ℕ
head_named n =
    cond (equals timescale_name n) 1 (cond (equals rate_num_name n) 2 (cond (equals rate_den_name n) 3 (cond (equals input_name n) 4 (cond (equals frames_name n) 5 (cond (equals segments_name n) 6 0)))))

abbrev pub head_number : Option Head → ℕ
head_number None = 0
head_number (Some Timescale) = 1
head_number (Some RateNum) = 2
head_number (Some RateDen) = 3
head_number (Some Input) = 4
head_number (Some Frames) = 5
head_number (Some Segments) = 6

-- the numbers of a map, and whether its other members are at most 8 deep
abbrev pub no_heads : HeadSlots
no_heads = record { timescale = Missing; rate_num = Missing; rate_den = Missing; frames = Missing; path = false; list = false; shallow = true }

-- whether a field was seen, and its value: the first, and nothing behind a second
unfoldable pub seen_after : (name : List ℕ) → Bool → Member → Bool
seen_after n k m = cond (equals n m.name) true k

unfoldable pub kept_after : (name : List ℕ) → Bool → List ℕ → Member → List ℕ
kept_after n k v m = cond (equals n m.name) (cond k [] m.value) v

unfoldable pub heads_after : HeadSlots → Member → HeadSlots
heads_after x m =
    record {
      timescale = slot_after timescale_name most_frame x.timescale m;
      rate_num = slot_after rate_num_name most_frame x.rate_num m;
      rate_den = slot_after rate_den_name most_frame x.rate_den m;
      frames = slot_after frames_name most_frame x.frames m;
      path = seen_after input_name x.path m;
      list = seen_after segments_name x.list m;
      shallow = x.shallow && (is_known m.name || is_value 8 m.value);
    }

-- the same by which field a key names
unfoldable pub heads_by : (n : ℕ) → HeadSlots → (v : List ℕ) → HeadSlots
heads_by n x v =
    record {
      timescale = cond (eqb n 1) (slot_with most_frame x.timescale v) x.timescale;
      rate_num = cond (eqb n 2) (slot_with most_frame x.rate_num v) x.rate_num;
      rate_den = cond (eqb n 3) (slot_with most_frame x.rate_den v) x.rate_den;
      frames = cond (eqb n 5) (slot_with most_frame x.frames v) x.frames;
      path = cond (eqb n 4) true x.path;
      list = cond (eqb n 6) true x.list;
      shallow = x.shallow && (not (eqb n 0) || is_value 8 v);
    }

-- they, with the path's value and the list
pub record Walked : Type 0 where
  pub heads : HeadSlots
  pub path : List ℕ
  pub list : List ℕ

abbrev pub none_walked : Walked
none_walked = record { heads = no_heads; path = []; list = [] }

unfoldable pub walked_after : Walked → Member → Walked
walked_after x m =
    record { heads = heads_after x.heads m; path = kept_after input_name x.heads.path x.path m; list = kept_after segments_name x.heads.list x.list m }

-- the numbers in them, and whether all are there and no other member is too deep
unfoldable pub word_of : ℕ → ℕ
word_of v = cond (ltb most_frame v) 0 v

abbrev pub heads_good : HeadSlots → Bool
heads_good x = (is_given x.timescale && (is_given x.rate_num && is_given x.rate_den)) && (is_given x.frames && x.shallow)

abbrev pub heads_in : HeadSlots → Heads
heads_in x = record { timescale = word_of (given x.timescale); rate_num = word_of (given x.rate_num); rate_den = word_of (given x.rate_den); frames = word_of (given x.frames) }
