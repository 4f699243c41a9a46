-- REQUEST 2.14, proved of the answer: `answer_right`, where nothing is refused, and `no_captions`.
use mathlib.Core.Path.{◌≡◌, refl, sym, ap, subst, ◌∙◌}
use mathlib.Core.Logic.{◌⊎◌, inl, inr}
use mathlib.Core.Bool.{Bool, true, false, cond}
use mathlib.Core.List.{List, []}
use Prim.Native.Nat.{ℕ, zero, suc, ◌-◌, ◌≤◌, ◌<◌}
use native.Mathlib.Omega.{arith}
use lib.Dec.{eqb}
use lib.IntN.{pos}
use mir.Syntax.{w64}
use mir.Val.{to_z, of_z}
use mir.ValLaws.{to_z-of_z}
use borrow.Author.Tests.{eq-eqb, ne_eqb}
use Rattle.spec_base.proofs.base.RefusalNumbers.{else_numbers, unless_numbers}
use Rattle.spec_base.proofs.base.Laws.{yes! }
use Rattle.spec_time.specs.caption_time.Kind.{units_of}
use Rattle.spec_time.proofs.caption_time.Limits.{units_low}
use Rattle.spec_map.specs.declared.segment.Segment.{Segment}
use Rattle.spec_map.specs.segment.Segment.{segments_of}
use Rattle.spec_caption.specs.declared.caption_fate.Config.{Config}
use Rattle.spec_ask.specs.declared.ask_delay.Delay.{Delay}
use Rattle.spec_ask.specs.ask_delay.Delay.{delay_of, Near}
use Rattle.spec_ask.specs.ask_delay.Loss.{loss_of, floor_of, best_try, Least, tried_of, delay_number}
use Rattle.spec_ask.specs.ask_delay.Tally.{config_with}
use Rattle.spec_ask.specs.ask_delay.BestDelay.{refused_delay, found_delay, delay_answer, Right}
use Rattle.spec_ask.proofs.ask_delay.NearLaws.{near_try, sfits}
use Rattle.spec_ask.proofs.ask_delay.Best.{best_least}
use Rattle.spec_ask.proofs.ask_delay.Floor.{floor}
use Rattle.ask_delay.proofs.AnswerLaws.{delay_taken}

answer_is : (m : List ℕ) (T kind : ℕ) (cs : List ℕ) (budget : ℕ) → delay_number m T kind cs budget ≡ 0
    → found_delay (config_with kind T) (segments_of m) cs (best_try (config_with kind T) (segments_of m) cs (tried_of budget - 1)) (tried_of budget) ≡ delay_answer m T kind cs budget
unfolding delay_answer
answer_is m T kind cs budget e = yes! _ (eq-eqb (delay_number m T kind cs budget) 0 e) refl

found_right : (c : Config) → 0 < units_of c.kind → (m : List Segment) (cs : List ℕ) (t : ℕ) → 1 ≤ t → Right c m cs (found_delay c m cs (best_try c m cs (t - 1)) t)
unfolding found_delay
found_right c u m cs t h =
    let k = best_try c m cs (t - 1) in
    let s : suc (t - 1) ≡ t = omega arith in
    record {
      place = k;
      named = refl;
      loses = refl;
      least = subst (λ (n : ℕ). Least c m cs n k) s (best_least c m cs (t - 1));
      counted = omega (arith, floor c u m (delay_of k) cs);
      off = λ d. omega (arith, floor c u m d cs);
    }

tried_some : (budget : ℕ) → 1 ≤ budget → 1 ≤ tried_of budget
unfolding tried_of
tried_some budget h = omega arith

tries_most : (budget : ℕ) → tried_of budget ≤ 12001
unfolding tried_of
tries_most budget = omega arith

pub answer_right : (m : List ℕ) (T kind : ℕ) (cs : List ℕ) (budget : ℕ) → delay_number m T kind cs budget ≡ 0
    → Right (config_with kind T) (segments_of m) cs (delay_answer m T kind cs budget)
answer_right m T kind cs budget e =
    let k = delay_taken m T kind cs budget e in
    subst (Right (config_with kind T) (segments_of m) cs) (answer_is m T kind cs budget e)
    (found_right (config_with kind T) (omega (arith, units_low kind k.known)) (segments_of m) cs (tried_of budget) (tried_some budget k.some))

-- ---- the delay told lies within 6000 units, refused or not
near_answer : (m : List ℕ) (T kind : ℕ) (cs : List ℕ) (budget : ℕ) → Near (delay_answer m T kind cs budget).delay
unfolding delay_answer found_delay
near_answer m T kind cs budget = go (eqb (delay_number m T kind cs budget) 0) refl
  where
    c : Config
    c = config_with kind T

    k : ℕ
    k = best_try c (segments_of m) cs (tried_of budget - 1)

    few : tried_of budget ≤ 12001
    few = tries_most budget

    go : (t : Bool) → eqb (delay_number m T kind cs budget) 0 ≡ t
        → Near (cond t (found_delay c (segments_of m) cs k (tried_of budget)) (refused_delay (delay_number m T kind cs budget))).delay
    go true e = near_try k (delay_of k) refl (omega (arith, few, (best_least c (segments_of m) cs (tried_of budget - 1)).tried))
    go false e = omega arith

-- and so does a signed local that holds it
pub near_told : (m : List ℕ) (T kind : ℕ) (cs : List ℕ) (budget : ℕ) (a : Delay) → a ≡ delay_answer m T kind cs budget → Near (to_z w64 (of_z w64 a.delay))
near_told m T kind cs budget a e =
    let n : Near a.delay = subst (λ (x : Delay). Near x.delay) (sym e) (near_answer m T kind cs budget) in
    subst Near (sym (to_z-of_z w64 a.delay (sfits a.delay n))) n

-- ---- no captions: delay 0, loss 0, off 0
best_none : (c : Config) (m : List Segment) (k : ℕ) → best_try c m [] k ≡ 0
unfolding best_try loss_of
best_none c m zero = refl
best_none c m (suc k) = best_none c m k

pub no_captions : (m : List ℕ) (T kind budget : ℕ) → delay_number m T kind [] budget ≡ 0
    → ◌≡◌ {A = Delay} (delay_answer m T kind [] budget) (record { number = 0; delay = pos 0; loss = 0; tried = tried_of budget; off = 0 })
unfolding found_delay loss_of floor_of delay_of
no_captions m T kind budget e =
    sym (answer_is m T kind [] budget e) ∙ ap (λ (k : ℕ). found_delay (config_with kind T) (segments_of m) [] k (tried_of budget)) (best_none (config_with kind T) (segments_of m) (tried_of budget - 1))

-- ---- refusals: the number and zeros, and the numbers that there are
pub refused_zeros : (m : List ℕ) (T kind : ℕ) (cs : List ℕ) (budget : ℕ) → (delay_number m T kind cs budget ≡ 0 → ⊥)
    → delay_answer m T kind cs budget ≡ refused_delay (delay_number m T kind cs budget)
unfolding delay_answer
refused_zeros m T kind cs budget n = rw (ne_eqb (delay_number m T kind cs budget) 0 n)

abbrev Given : ℕ → Type 0
Given k = (k ≡ 0) ⊎ (k ≡ 15) ⊎ (k ≡ 16) ⊎ (k ≡ 29)

pub delay_numbers : (m : List ℕ) (T kind : ℕ) (cs : List ℕ) (budget : ℕ)
    → Given (delay_number m T kind cs budget)
unfolding delay_number
delay_numbers m T kind cs budget =
    let none = unless_numbers Given (inl refl) in
    let or = else_numbers Given in
    or _ _ (none _ 15 (inr (inl refl)))
    (or _ _ (none _ 15 (inr (inl refl)))
    (or _ _ (none _ 29 (inr (inr (inr refl))))
    (or _ _ (none _ 29 (inr (inr (inr refl))))
    (or _ _ (none _ 16 (inr (inr (inl refl))))
    (or _ _ (none _ 16 (inr (inr (inl refl))))
    (none _ 16 (inr (inr (inl refl)))))))))
