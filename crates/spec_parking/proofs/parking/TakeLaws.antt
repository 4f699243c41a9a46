-- Laws of `take_up`.
use Prim.Native.Nat.{ℕ}
use mathlib.Core.Path.{◌≡◌, refl, ap, sym, ◌∙◌}
use mathlib.Core.Bool.{Bool, true, false, ◌&&◌, not}
use mathlib.Core.List.{List}
use native.Mathlib.Omega.{arith}
use lib.Dec.{eqb, leb}
use lib.ListN.{length, replicate, length-replicate}
use borrow.Author.Tests.{le-leb}
use Rattle.spec_base.specs.base.Limits.{most_held}
use Rattle.spec_base.specs.base.Refusal.{◌or_else◌, fault_unless}
use Rattle.spec_machine.specs.session_counts.Session.{no_session}
use Rattle.spec_machine.specs.kinds.Kit.{kit}
use Rattle.spec_session.specs.declared.session_state.Session.{Session}
use Rattle.spec_session.specs.session_state.View.{padded, stored, foreign_of}
use Rattle.spec_parked_blocks.specs.parked_blocks.Sealed.{room_length, is_row, unsealed}
use Rattle.spec_parking.specs.declared.parking.TakenUp.{TakenUp}
use Rattle.spec_parking.specs.parking.Parked.{is_parked, session_in}
use Rattle.spec_parking.specs.parking.Parkings.{take_number, TakesUp}

pub none_is : ◌≡◌ {A = Session} (record {
  config = record { kind = 0; timescale = 1 };
  ended = true;
  outcome = 0;
  taken = 0;
  lines = 0;
  counts = record { shifted = 0; clipped = 0; dropped = 0; passed = 0 };
  columns = record { events = false; columns = 0; start = 0; «end» = 0 };
  held_len = 0;
  held = replicate most_held 0;
}) (stored (no_session kit))
unfolding stored padded
none_is = refl

abbrev Refused : ℕ → TakenUp
Refused k = record { number = k; session = stored (no_session kit) }

pub refused_is : (k : ℕ) (s : Session) → s ≡ stored (no_session kit) → ◌≡◌ {A = TakenUp} (record { number = k; session = s }) (Refused k)
refused_is k s e = λ i. record { number = k; session = e i }

module _ (b : List ℕ) where
  unsound : is_parked b ≡ false → 27 ≡ take_number b
  unfolding take_number fault_unless ◌or_else◌
  unsound e = rw e

  sound : is_parked b ≡ true → (f : Bool) → foreign_of (session_in b) ≡ f → (fault_unless (not f) 17) ≡ take_number b
  unfolding take_number fault_unless ◌or_else◌
  sound e f g = rw (e, g)

  no_row : is_row b ≡ false → is_parked b ≡ false
  unfolding is_parked
  no_row e = rw e

  refused : (k : ℕ) (r : TakenUp) → r ≡ Refused k → k ≡ take_number b → eqb k 0 ≡ false → TakesUp b r
  refused k r e n z = rw e (record { number = n; session = rw z refl })

  row_false : (u : Bool) → u ≡ unsealed b (length (replicate {A = ℕ} room_length 0)) → u ≡ false → is_row b ≡ false
  row_false u e f = sym (and_true (is_row b)) ∙ ap (λ (t : Bool). is_row b && t) (sym enough) ∙ sym e ∙ f
    where
      enough : leb room_length (length (replicate {A = ℕ} room_length 0)) ≡ true
      enough = le-leb room_length (length (replicate {A = ℕ} room_length 0)) (omega (arith, length-replicate {A = ℕ} room_length 0))

      and_true : (t : Bool) → t && true ≡ t
      and_true true = refl
      and_true false = refl

  pub take_unsealed : (r : TakenUp) (u : Bool) → u ≡ unsealed b (length (replicate {A = ℕ} room_length 0)) → u ≡ false → r ≡ Refused 27 → TakesUp b r
  take_unsealed r u h k e = refused 27 r e (unsound (no_row (row_false u h k))) refl

  pub take_27 : (r : TakenUp) (t : Bool) → t ≡ is_parked b → t ≡ false → r ≡ Refused 27 → TakesUp b r
  take_27 r t p h e = refused 27 r e (unsound (sym p ∙ h)) refl

  module _ (t : Bool) (p : t ≡ is_parked b) (h : t ≡ true) (s : Session) (q : s ≡ session_in b) (f : Bool) (g : f ≡ foreign_of s) where
    same : (u : Bool) → f ≡ u → foreign_of (session_in b) ≡ u
    same u k = ap foreign_of (sym q) ∙ sym g ∙ k

    pub take_17 : (r : TakenUp) → f ≡ true → r ≡ Refused 17 → TakesUp b r
    unfolding fault_unless
    take_17 r k e = refused 17 r e (sound (sym p ∙ h) true (same true k)) refl

    pub take_0 : f ≡ false → TakesUp b (record { number = 0; session = s })
    unfolding fault_unless
    take_0 k = record { number = sound (sym p ∙ h) false (same false k); session = q }
