-- The tries gone through: the first of those that lose least.
use mathlib.Core.Path.{◌≡◌, refl, sym, ap, ap₂, ◌∙◌}
use mathlib.Core.Bool.{Bool, true, false, cond}
use mathlib.Core.List.{List}
use Prim.Native.Nat.{ℕ, zero, suc, ◌+◌, ◌-◌, ◌≤◌, ◌<◌}
use native.Mathlib.Omega.{arith}
use lib.Dec.{ltb}
use lib.ListN.{length, get_or}
use borrow.Author.Tests.{lt-ltb, le-ltb}
use Rattle.spec_base.proofs.base.Laws.{yes!, no! }
use Rattle.spec_map.specs.declared.segment.Segment.{Segment}
use Rattle.spec_caption.specs.declared.caption_fate.Config.{Config}
use Rattle.ask_delay.specs.declared.choosing.Chosen.{Chosen}
use Rattle.spec_ask.specs.ask_delay.Delay.{delay_of}
use Rattle.spec_ask.specs.ask_delay.Loss.{loss_of, best_try}
use Rattle.spec_ask.specs.ask_delay.Tally.{Losses}
use Rattle.ask_delay.specs.Choice.{chosen, better_of, best_in, chosen_in, chosen_of}
use Rattle.spec_ask.proofs.ask_delay.Best.{best_least}

pub better_yes : (b : Chosen) (n : ℕ) → n < b.loss → chosen b.tried n (b.tried + 1) ≡ better_of b n
unfolding better_of
better_yes b n h = yes! _ (lt-ltb n b.loss h) refl

pub better_no : (b : Chosen) (n : ℕ) → b.loss ≤ n → chosen b.place b.loss (b.tried + 1) ≡ better_of b n
unfolding better_of
better_no b n h = no! _ (le-ltb n b.loss h) refl

pub record Choosing (l : List ℕ) (tries : ℕ) (b : Chosen) : Type 0 where
  pub least : 1 ≤ b.tried
  pub most : b.tried ≤ tries
  pub best : b ≡ chosen_in l b.tried

pub choose_start : (l : List ℕ) (tries : ℕ) → 1 ≤ tries → Choosing l tries (chosen 0 (get_or l 0 0) 1)
unfolding chosen_in best_in
choose_start l tries h = record { least = omega arith; most = h; best = refl }

-- one try more
chosen_suc : (l : List ℕ) (k : ℕ) → chosen_in l (suc k) ≡ chosen (best_in l k) (get_or l (best_in l k) 0) (suc k)
unfolding chosen_in
chosen_suc l k = let z : suc k - 1 ≡ k = omega arith in ap (λ (n : ℕ). chosen (best_in l n) (get_or l (best_in l n) 0) (suc k)) z

better_next : (l : List ℕ) (k : ℕ) → better_of (chosen (best_in l k) (get_or l (best_in l k) 0) (suc k)) (get_or l (suc k) 0)
    ≡ chosen (best_in l (suc k)) (get_or l (best_in l (suc k)) 0) (suc (suc k))
unfolding better_of best_in
better_next l k = go (best_in l k) (ltb (get_or l (suc k) 0) (get_or l (best_in l k) 0))
  where
    go : (p : ℕ) (t : Bool)
        → cond t (chosen (suc k) (get_or l (suc k) 0) (suc k + 1)) (chosen p (get_or l p 0) (suc k + 1))
        ≡ chosen (cond t (suc k) p) (get_or l (cond t (suc k) p) 0) (suc (suc k))
    go p true = ap (λ (n : ℕ). chosen (suc k) (get_or l (suc k) 0) n) (omega arith)
    go p false = ap (λ (n : ℕ). chosen p (get_or l p 0) n) (omega arith)

step : (l : List ℕ) (k : ℕ) → better_of (chosen_in l (suc k)) (get_or l (suc k) 0) ≡ chosen_in l (suc (suc k))
step l k = ap (λ (b : Chosen). better_of b (get_or l (suc k) 0)) (chosen_suc l k) ∙ better_next l k ∙ sym (chosen_suc l (suc k))

step_at : (l : List ℕ) (t : ℕ) → 1 ≤ t → better_of (chosen_in l t) (get_or l t 0) ≡ chosen_in l (t + 1)
step_at l zero h = absurd (omega arith)
step_at l (suc k) h = step l k ∙ ap (chosen_in l) (omega arith)

pub better_tried : (b : Chosen) (n : ℕ) → (better_of b n).tried ≡ b.tried + 1
unfolding better_of
better_tried b n = go (ltb n b.loss)
  where
    go : (t : Bool) → (cond t (chosen b.tried n (b.tried + 1)) (chosen b.place b.loss (b.tried + 1))).tried ≡ b.tried + 1
    go true = refl
    go false = refl

module _ (l : List ℕ) (tries : ℕ) (b : Chosen) (g : Choosing l tries b) where
  pub choose_index : b.tried < tries → length l ≡ 12001 → tries ≤ 12001 → b.tried < length l
  choose_index h n t = omega arith

  pub choose_room : tries ≤ 12001 → b.tried ≤ 12001
  choose_room t = omega (arith, g.most)

  pub choose_less : (b' : Chosen) → b.tried < tries → b' ≡ better_of b (get_or l b.tried 0) → tries - b'.tried < tries - b.tried
  choose_less b' h e =
      let z : b'.tried ≡ b.tried + 1 = ap (λ (x : Chosen). x.tried) e ∙ better_tried b (get_or l b.tried 0) in
      omega (arith, z)

  pub choose_again : (b' : Chosen) → b.tried < tries → b' ≡ better_of b (get_or l b.tried 0) → Choosing l tries b'
  choose_again b' h e =
      let z : b'.tried ≡ b.tried + 1 = ap (λ (x : Chosen). x.tried) e ∙ better_tried b (get_or l b.tried 0) in
      record {
        least = omega (arith, z);
        most = omega (arith, z);
        best =
            e ∙ ap (λ (x : Chosen). better_of x (get_or l b.tried 0)) g.best ∙ step_at l b.tried g.least ∙ sym (ap (chosen_in l) z);
      }

  pub choose_end : tries ≤ b.tried → b ≡ chosen_in l tries
  choose_end h = let z : b.tried ≡ tries = omega (arith, g.most) in g.best ∙ ap (chosen_in l) z

-- ---- the losses are those of the captions
module _ (c : Config) (m : List Segment) (cs : List ℕ) (tries : ℕ) (l : List ℕ) (w : Losses c m cs tries l) where
  same_best : (k : ℕ) → k < tries → best_in l k ≡ best_try c m cs k
  unfolding best_in best_try
  same_best zero h = refl
  same_best (suc k) h =
      let e : best_in l k ≡ best_try c m cs k = same_best k (omega arith) in
      let p : best_try c m cs k < tries = omega (arith, (best_least c m cs k).tried) in
      let q : get_or l (best_in l k) 0 ≡ loss_of c m (delay_of (best_try c m cs k)) cs = ap (λ (n : ℕ). get_or l n 0) e ∙ w.counts (best_try c m cs k) p in
      ap₂ (λ (t : Bool) (n : ℕ). cond t (suc k) n) (ap₂ ltb (w.counts (suc k) h) q) e

  pub chosen_same : (b : Chosen) → 1 ≤ tries → b ≡ chosen_in l tries → b ≡ chosen_of c m cs tries
  unfolding chosen_in chosen_of
  chosen_same b h e =
      let s : best_in l (tries - 1) ≡ best_try c m cs (tries - 1) = same_best (tries - 1) (omega arith) in
      let p : best_try c m cs (tries - 1) < tries = omega (arith, (best_least c m cs (tries - 1)).tried) in
      e ∙ ap₂ (λ (x y : ℕ). chosen x y tries) s (ap (λ (n : ℕ). get_or l n 0) s ∙ w.counts (best_try c m cs (tries - 1)) p)
