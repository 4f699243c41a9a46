-- The first of the tries that lose least, from their losses.
use Rattle.std.specs.Prelude.{cond, List, ℕ, zero, suc, ◌+◌, ◌-◌, ltb, get_or}
use Rattle.spec_map.specs.declared.segment.Segment.{Segment}
use Rattle.spec_caption.specs.declared.caption_fate.Config.{Config}
use Rattle.ask_delay.specs.declared.choosing.Chosen.{Chosen}
use Rattle.spec_ask.specs.ask_delay.Delay.{delay_of}
use Rattle.spec_ask.specs.ask_delay.Loss.{loss_of, best_try}

abbrev pub chosen : (place loss tried : ℕ) → Chosen
chosen p n t = record { place = p; loss = n; tried = t }

unfoldable pub better_of : Chosen → ℕ → Chosen
better_of b n = cond (ltb n b.loss) (chosen b.tried n (b.tried + 1)) (chosen b.place b.loss (b.tried + 1))

-- the place of the first least of the losses 0 to k
unfoldable pub best_in : List ℕ → (k : ℕ) → ℕ
best_in l zero = 0
best_in l (suc k) = cond (ltb (get_or l (suc k) 0) (get_or l (best_in l k) 0)) (suc k) (best_in l k)

unfoldable pub chosen_in : List ℕ → (tries : ℕ) → Chosen
chosen_in l t = chosen (best_in l (t - 1)) (get_or l (best_in l (t - 1)) 0) t

-- the same of a list of captions
unfoldable pub chosen_of : Config → List Segment → (captions : List ℕ) → (tries : ℕ) → Chosen
chosen_of c m cs t = chosen (best_try c m cs (t - 1)) (loss_of c m (delay_of (best_try c m cs (t - 1))) cs) t
