-- Request 2.14 said of delays and not of places: the order 0, 1, −1, 2, −2 and so on, and the first delay in it that loses least.
use Rattle.std.specs.Prelude.{◌≡◌, List, ℕ, zero, suc, ◌+◌, ◌*◌, ◌≤◌, ◌<◌, ℤ, pos, negsuc}
use Rattle.spec_map.specs.declared.segment.Segment.{Segment}
use Rattle.spec_map.specs.segment.Segment.{segments_of}
use Rattle.spec_caption.specs.declared.caption_fate.Config.{Config}
use Rattle.spec_ask.specs.declared.ask_delay.Delay.{Delay}
use Rattle.spec_ask.specs.ask_delay.Delay.{delay_of}
use Rattle.spec_ask.specs.ask_delay.Loss.{loss_of, delay_number}
use Rattle.spec_ask.specs.ask_delay.Tally.{config_with}
use Rattle.spec_ask.specs.ask_delay.BestDelay.{delay_answer}

-- the place of a delay in that order, from 0
abbrev pub place_of : ℤ → ℕ
place_of (pos zero) = 0
place_of (pos (suc n)) = 2 * n + 1
place_of (negsuc n) = 2 * n + 2

-- every integer has one place, and every place is one integer's
pub record EachOnce : Type 0 where
  pub named : (d : ℤ) → delay_of (place_of d) ≡ d
  pub placed : (k : ℕ) → place_of (delay_of k) ≡ k

-- "Every other tried delay loses at least as many, and equal ones come later"
pub record LeastDelay (c : Config) (m : List Segment) (cs : List ℕ) (a : Delay) : Type 0 where
  pub tried : place_of a.delay < a.tried
  pub others : (d : ℤ) → place_of d < a.tried → (a.loss ≤ loss_of c m d cs) × (loss_of c m d cs ≤ a.loss → place_of a.delay ≤ place_of d)

-- every answer that is not refused tells such a delay
abbrev pub LeastAnswered : Type 0
LeastAnswered =
    (m : List ℕ) (T kind : ℕ) (cs : List ℕ) (budget : ℕ) → delay_number m T kind cs budget ≡ 0
    → LeastDelay (config_with kind T) (segments_of m) cs (delay_answer m T kind cs budget)
