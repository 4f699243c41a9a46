-- Request 2.14, the answer: the delay that loses least among those tried, what it loses, how many were tried, and how far off it can be.
use Rattle.std.specs.Prelude.{◌≡◌, cond, List, ℕ, ◌+◌, ◌-◌, ◌≤◌, eqb, ℤ, pos}
use Rattle.spec_map.specs.declared.segment.Segment.{Segment}
use Rattle.spec_map.specs.segment.Segment.{segments_of}
use Rattle.spec_caption.specs.declared.caption_fate.Config.{Config}
use Rattle.spec_ask.specs.declared.ask_delay.Delay.{Delay}
use Rattle.spec_ask.specs.ask_delay.Delay.{delay_of}
use Rattle.spec_ask.specs.ask_delay.Loss.{loss_of, floor_of, best_try, Least, tried_of, delay_number}
use Rattle.spec_ask.specs.ask_delay.Tally.{config_with}

abbrev pub refused_delay : (number : ℕ) → Delay
refused_delay n = record { number = n; delay = pos 0; loss = 0; tried = 0; off = 0 }

-- the try at place k
unfoldable pub found_delay : Config → List Segment → (captions : List ℕ) → (k tried : ℕ) → Delay
found_delay c m cs k t =
    record {
      number = 0;
      delay = delay_of k;
      loss = loss_of c m (delay_of k) cs;
      tried = t;
      off = loss_of c m (delay_of k) cs - floor_of c m cs;
    }

unfoldable pub delay_answer : (map : List ℕ) → (T kind : ℕ) → (captions : List ℕ) → (budget : ℕ) → Delay
delay_answer m T kind cs budget =
    cond (eqb (delay_number m T kind cs budget) 0)
    (found_delay (config_with kind T) (segments_of m) cs (best_try (config_with kind T) (segments_of m) cs (tried_of budget - 1)) (tried_of budget))
    (refused_delay (delay_number m T kind cs budget))

-- ---- in plain words. "Report the delay, its loss": `named`, `loses`. "Every other tried delay loses at least as many, and equal ones come later": `least`.
-- "How far off is the loss less a count of captions that no delay can save": `counted`. "No delay at all, tried or not, loses fewer": `off`, for every
-- integer.
pub record Right (c : Config) (m : List Segment) (cs : List ℕ) (a : Delay) : Type 0 where
  pub place : ℕ
  pub named : a.delay ≡ delay_of place
  pub loses : a.loss ≡ loss_of c m a.delay cs
  pub least : Least c m cs a.tried place
  pub counted : a.off + floor_of c m cs ≡ a.loss
  pub off : (d : ℤ) → a.loss ≤ loss_of c m d cs + a.off
