-- Every integer has one place among the delays (`each_once`), and what is told, said of delays and not of places (`least_answered`).
use mathlib.Core.Path.{◌≡◌, refl, ap, ◌∙◌}
use mathlib.Core.Bool.{Bool, true, false, cond, true≢false}
use mathlib.Core.List.{List}
use Prim.Native.Nat.{ℕ, zero, suc, ◌+◌, ◌*◌, ◌/◌, ◌%◌, ◌≤◌, ◌<◌}
use native.Mathlib.Omega.{arith}
use lib.Dec.{eqb, ltb}
use lib.IntN.{ℤ, pos, negsuc, neg_ℤ}
use borrow.Author.Tests.{eq-eqb, ne_eqb, eqb-true, ltb-true, ltb-false}
use Rattle.spec_map.specs.declared.segment.Segment.{Segment}
use Rattle.spec_map.specs.segment.Segment.{segments_of}
use Rattle.spec_caption.specs.declared.caption_fate.Config.{Config}
use Rattle.spec_ask.specs.declared.ask_delay.Delay.{Delay}
use Rattle.spec_ask.specs.ask_delay.Delay.{delay_of}
use Rattle.spec_ask.specs.ask_delay.Loss.{loss_of}
use Rattle.spec_ask.specs.ask_delay.Tally.{config_with}
use Rattle.spec_ask.specs.ask_delay.BestDelay.{delay_answer, Right}
use Rattle.spec_ask.specs.ask_delay.Order.{place_of, EachOnce, LeastDelay, LeastAnswered}
use Rattle.ask_delay.proofs.TheDelay.{answer_right}

pub at_place : (d : ℤ) → delay_of (place_of d) ≡ d
unfolding delay_of
at_place (pos zero) = refl
at_place (pos (suc n)) =
    let h : (2 * n + 1) / 2 + 1 ≡ suc n = omega arith in
    rw (eq-eqb ((2 * n + 1) % 2) 1 (omega arith)) (ap pos h)
at_place (negsuc n) =
    let h : (2 * n + 2) / 2 ≡ suc n = omega arith in
    rw (ne_eqb ((2 * n + 2) % 2) 1 (λ z. omega (arith, z))) (ap (λ (k : ℕ). neg_ℤ (pos k)) h)

up : (n k : ℕ) → k ≡ suc n → place_of (pos k) ≡ 2 * n + 1
up n k e = ap (λ (j : ℕ). place_of (pos j)) e

down : (h : ℕ) → place_of (neg_ℤ (pos h)) ≡ 2 * h
down zero = refl
down (suc n) = omega arith

even : (n : ℕ) → n < 2 → eqb n 1 ≡ false → n ≡ 0
even zero h e = refl
even (suc zero) h e = absurd (true≢false e)
even (suc (suc n)) h e = absurd (omega (arith, h))

pub place_back : (k : ℕ) → place_of (delay_of k) ≡ k
unfolding delay_of
place_back k = go (eqb (k % 2) 1) refl
  where
    go : (t : Bool) → eqb (k % 2) 1 ≡ t → place_of (cond t (pos (k / 2 + 1)) (neg_ℤ (pos (k / 2)))) ≡ k
    go true e =
        let z : k % 2 ≡ 1 = eqb-true (k % 2) 1 e in
        let s : k / 2 + 1 ≡ suc (k / 2) = omega arith in
        let p : 2 * (k / 2) + 1 ≡ k = omega arith in
        up (k / 2) (k / 2 + 1) s ∙ p
    go false e =
        let z : k % 2 ≡ 0 = even (k % 2) (omega arith) e in
        let p : 2 * (k / 2) ≡ k = omega arith in
        down (k / 2) ∙ p

pub each_once : EachOnce
each_once = record { named = at_place; placed = place_back }

-- ---- the delay that is told
pub least_of : (c : Config) (m : List Segment) (cs : List ℕ) (a : Delay) → Right c m cs a → LeastDelay c m cs a
least_of c m cs a r =
    let p : place_of a.delay ≡ r.place = ap place_of r.named ∙ place_back r.place in
    record {
      tried = omega (arith, p, r.least.tried);
      others = λ d h.
          let e : loss_of c m (delay_of (place_of d)) cs ≡ loss_of c m d cs = ap (λ (x : ℤ). loss_of c m x cs) (at_place d) in
          let l : a.loss ≡ loss_of c m (delay_of r.place) cs = r.loses ∙ ap (λ (x : ℤ). loss_of c m x cs) r.named in
          (omega (arith, e, l, r.least.least (place_of d) h), λ q. earlier d p e l q);
    }
  where
    earlier : (d : ℤ) → place_of a.delay ≡ r.place → loss_of c m (delay_of (place_of d)) cs ≡ loss_of c m d cs → a.loss ≡ loss_of c m (delay_of r.place) cs
        → loss_of c m d cs ≤ a.loss → place_of a.delay ≤ place_of d
    earlier d p e l q = go (ltb (place_of d) r.place) refl
      where
        go : (t : Bool) → ltb (place_of d) r.place ≡ t → place_of a.delay ≤ place_of d
        go true x = absurd (omega (arith, e, l, q, r.least.first (place_of d) (ltb-true (place_of d) r.place x)))
        go false x = omega (arith, p, ltb-false (place_of d) r.place x)

pub least_answered : LeastAnswered
least_answered m T kind cs budget e = least_of (config_with kind T) (segments_of m) cs (delay_answer m T kind cs budget) (answer_right m T kind cs budget e)
