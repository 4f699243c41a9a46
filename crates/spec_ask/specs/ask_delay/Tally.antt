-- The losses of every try, side by side.
use Rattle.std.specs.Prelude.{◌≡◌, List, ℕ, ◌≤◌, ◌<◌, length, get_or}
use Rattle.spec_map.specs.declared.segment.Segment.{Segment}
use Rattle.spec_caption.specs.declared.caption_fate.Config.{Config}
use Rattle.spec_ask.specs.ask_delay.Delay.{delay_of}
use Rattle.spec_ask.specs.ask_delay.Loss.{count_lost, loss_of}
use Rattle.spec_ask.specs.ask_delay.Paint.{lost_by}

abbrev pub config_with : (kind T : ℕ) → Config
config_with kind T = record { kind = kind; timescale = T }

abbrev pub AtMost : (tries most : ℕ) → List ℕ → Type 0
AtMost tries most l = (k : ℕ) → k < tries → get_or l k 0 ≤ most

abbrev pub Zeros : (tries : ℕ) → List ℕ → Type 0
Zeros tries l = (k : ℕ) → k < tries → get_or l k 0 ≡ 0

-- one caption, S to E, counted by its grades
pub record Counted (grades : List ℕ) (S E tries : ℕ) (l l' : List ℕ) : Type 0 where
  pub size : length l' ≡ length l
  pub counts : (k : ℕ) → k < tries → get_or l' k 0 ≡ count_lost (lost_by grades S E (delay_of k)) (get_or l k 0)

-- all captions counted
pub record Losses (c : Config) (m : List Segment) (cs : List ℕ) (tries : ℕ) (l : List ℕ) : Type 0 where
  pub size : length l ≡ 12001
  pub counts : (k : ℕ) → k < tries → get_or l k 0 ≡ loss_of c m (delay_of k) cs
