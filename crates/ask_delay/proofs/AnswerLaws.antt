-- Laws of the answer: its refusals, and the delay found.
use mathlib.Core.Path.{◌≡◌, refl, sym, ap, ◌∙◌}
use mathlib.Core.Bool.{Bool, true, false, cond, not, ◌||◌}
use mathlib.Core.List.{List, [], ◌∷◌}
use Prim.Native.Nat.{ℕ, ◌-◌, ◌/◌, ◌%◌, ◌≤◌}
use native.Mathlib.Omega.{arith}
use mir.Syntax.{w64}
use mir.Val.{to_z, of_z}
use lib.Dec.{ltb, eqb, leb}
use lib.IntN.{ℤ}
use lib.ListN.{length}
use borrow.Author.Tests.{eq-eqb, ne_eqb, leb-true, eqb-true, not-true}
use Rattle.std.specs.List.{list_any}
use Rattle.spec_base.specs.base.Limits.{most_units}
use Rattle.spec_base.specs.base.Refusal.{fault_unless}
use Rattle.spec_base.proofs.base.RefusalLaws.{held, else_zero}
use Rattle.spec_base.proofs.base.Laws.{yes!, no! }
use Rattle.spec_time.specs.caption_time.Kind.{kind_bad}
use Rattle.spec_time.specs.caption_time.Convert.{timescale_bad}
use Rattle.spec_time.proofs.caption_time.Limits.{units_low}
use Rattle.spec_map.specs.segment.Segment.{segments_of, map_bad}
use Rattle.spec_caption.specs.declared.caption_fate.Config.{Config}
use Rattle.ask_delay.specs.declared.choosing.Chosen.{Chosen}
use Rattle.spec_ask.specs.declared.ask_delay.Delay.{Delay}
use Rattle.spec_ask.specs.ask_delay.Delay.{delay_of}
use Rattle.spec_ask.specs.ask_delay.Loss.{most_captions, loss_of, floor_of, best_try, any_late, tried_of, delay_number}
use Rattle.spec_ask.specs.ask_delay.Tally.{config_with}
use Rattle.ask_delay.specs.Choice.{chosen_of}
use Rattle.spec_ask.specs.ask_delay.BestDelay.{refused_delay, found_delay, delay_answer}
use Rattle.spec_ask.proofs.ask_delay.NearLaws.{bits_back}
use Rattle.spec_ask.proofs.ask_delay.Best.{best_least}
use Rattle.spec_ask.proofs.ask_delay.Floor.{floor}

-- ---- a time past the limit
pub late_any : (ts : List ℕ) → any_late ts ≡ list_any (ltb most_units) ts
unfolding any_late
late_any [] = refl
late_any (t ∷ ts) = go (ltb most_units t) (late_any ts)
  where
    go : (b : Bool) → any_late ts ≡ list_any (ltb most_units) ts → cond b true (any_late ts) ≡ (b || list_any (ltb most_units) ts)
    go true e = refl
    go false e = e

-- ---- what is not refused
pub record Taken (m : List ℕ) (T kind : ℕ) (cs : List ℕ) (budget : ℕ) : Type 0 where
  pub timescale : timescale_bad T ≡ false
  pub map : map_bad m ≡ false
  pub some : 1 ≤ budget
  pub few : length cs ≤ 8192
  pub known : kind_bad kind ≡ false
  pub late : any_late cs ≡ false

pub delay_taken : (m : List ℕ) (T kind : ℕ) (cs : List ℕ) (budget : ℕ) → delay_number m T kind cs budget ≡ 0 → Taken m T kind cs budget
unfolding delay_number
delay_taken m T kind cs budget e =
    let a = else_zero (fault_unless (not (timescale_bad T)) 15) _ e in
    let b = else_zero (fault_unless (not (map_bad m)) 15) _ a.1 in
    let c = else_zero (fault_unless (leb 1 budget) 29) _ b.1 in
    let d = else_zero (fault_unless (leb (length cs / 2) most_captions) 29) _ c.1 in
    let f = else_zero (fault_unless (not (kind_bad kind)) 16) _ d.1 in
    let g = else_zero (fault_unless (eqb (length cs % 2) 0) 16) _ f.1 in
    let half : length cs / 2 ≤ 4096 = leb-true (length cs / 2) most_captions (held _ 29 (λ z. omega arith) d.0) in
    let even : length cs % 2 ≡ 0 = eqb-true (length cs % 2) 0 (held _ 16 (λ z. omega arith) g.0) in
    record {
      timescale = not-true _ (held _ 15 (λ z. omega arith) a.0);
      map = not-true _ (held _ 15 (λ z. omega arith) b.0);
      some = leb-true 1 budget (held _ 29 (λ z. omega arith) c.0);
      few = omega arith;
      known = not-true _ (held _ 16 (λ z. omega arith) f.0);
      late = not-true _ (held _ 16 (λ z. omega arith) g.1);
    }

pub delay_refused : (m : List ℕ) (T kind : ℕ) (cs : List ℕ) (budget r : ℕ) → r ≡ delay_number m T kind cs budget → (r ≡ 0 → ⊥) → refused_delay r ≡ delay_answer m T kind cs budget
unfolding delay_answer
delay_refused m T kind cs budget r e n = no! _ (ne_eqb (delay_number m T kind cs budget) 0 (λ z. n (e ∙ z))) (ap refused_delay e)

module _ (m : List ℕ) (T kind : ℕ) (cs : List ℕ) (budget r : ℕ) (e : r ≡ delay_number m T kind cs budget) (z : r ≡ 0) where
  k : Taken m T kind cs budget
  k = delay_taken m T kind cs budget (sym e ∙ z)

  abbrev c : Config
  c = config_with kind T

  pub asks_timescale : timescale_bad T ≡ false
  asks_timescale = k.timescale

  pub asks_map : map_bad m ≡ false
  asks_map = k.map

  pub asks_few : length cs ≤ 8192
  asks_few = k.few

  pub asks_kind : kind_bad kind ≡ false
  asks_kind = k.known

  pub asks_late : any_late cs ≡ false
  asks_late = k.late

  module _ (tries : ℕ) (et : tries ≡ tried_of budget) where
    pub asks_one : 1 ≤ tries
    unfolding tried_of
    asks_one = omega (arith, k.some)

    pub asks_most : tries ≤ 12001
    unfolding tried_of
    asks_most = omega arith

    abbrev p : ℕ
    p = best_try c (segments_of m) cs (tries - 1)

    module _ (b : Chosen) (eb : b ≡ chosen_of c (segments_of m) cs tries) where
      place_is : b.place ≡ p
      unfolding chosen_of
      place_is = ap (λ (x : Chosen). x.place) eb

      loss_is : b.loss ≡ loss_of c (segments_of m) (delay_of p) cs
      unfolding chosen_of
      loss_is = ap (λ (x : Chosen). x.loss) eb

      tried_is : b.tried ≡ tries
      unfolding chosen_of
      tried_is = ap (λ (x : Chosen). x.tried) eb

      pub place_near : b.place ≤ 12000
      place_near = omega (arith, place_is, asks_one, asks_most, (best_least c (segments_of m) cs (tries - 1)).tried)

      module _ (f : ℕ) (ef : f ≡ floor_of c (segments_of m) cs) where
        pub floor_under : f ≤ b.loss
        floor_under = omega (arith, loss_is, floor c (omega (arith, units_low kind k.known)) (segments_of m) (delay_of p) cs)

        -- the delay, read back from its bits
        pub found : (d : ℤ) → d ≡ delay_of b.place
            → ◌≡◌ {A = Delay} (record { number = 0; delay = to_z w64 (of_z w64 d); loss = b.loss; tried = b.tried; off = b.loss - f }) (delay_answer m T kind cs budget)
        unfolding delay_answer found_delay
        found d ed = yes! _ (eq-eqb (delay_number m T kind cs budget) 0 (sym e ∙ z)) (rw (bits_back b.place d ed place_near, ed, place_is, loss_is, tried_is, ef, et))
