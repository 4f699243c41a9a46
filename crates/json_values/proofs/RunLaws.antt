-- White space and digits at the head of a text, and the digits of a number, as the loops have them.
use mathlib.Core.Path.{◌≡◌, refl, sym, ap, subst, ◌∙◌}
use mathlib.Core.Bool.{Bool, true, false, cond, not, ◌&&◌, true≢false}
use mathlib.Core.List.{List}
use Prim.Native.Nat.{ℕ, suc, ◌+◌, ◌-◌, ◌*◌, ◌/◌, ◌≤◌, ◌<◌}
use native.Mathlib.Omega.{arith}
use native.Mathlib.Numerals.{add-one}
use borrow.Author.Tests.{not-true, not-false, ltb-true, ltb-false, leb-true, leb-false, eqb-false}
use lib.Dec.{eqb, leb, ltb}
use lib.ListN.{length, drop, get_or}
use lib.Seq.{drop-cons}
use Rattle.std.specs.Char.{is_ascii_digit}
use Rattle.spec_base.proofs.base.Laws.{leb_not}
use Rattle.spec_text.specs.text.Number.{digit, digits, value_from}
use Rattle.spec_text.proofs.text.Laws.{digit_some, value_again}
use Rattle.std.specs.Prelude.{Some, None}
use Rattle.spec_json.specs.json.Space.{spaces}
use Rattle.spec_json.specs.json.Num.{digit_run}
use Rattle.spec_json.specs.json.Plain.{leads_zero, plain_of}
use Rattle.spec_json.proofs.json.SpaceLaws.{space_all}
use Rattle.spec_json.proofs.json.NumberLaws.{run_all, plain_low, plain_high, plain_small, plain_over, plain_value}

pub digit_is : (b : ℕ) → is_ascii_digit b ≡ digit b
unfolding digit
digit_is b = ap (λ (t : Bool). t && leb b 57) (leb_not 48 b) ∙ go (ltb b 48)
  where
    go : (t : Bool) → (not t && leb b 57) ≡ cond t false (leb b 57)
    go true = refl
    go false = refl

module _ (s : List ℕ) (i : ℕ) (f : Bool) (inv : digit_run s ≡ i + digit_run (drop i s)) (h : i < length s) (e : f ≡ is_ascii_digit (get_or s i 0)) where
  pub digit_found : not f ≡ true → i ≡ digit_run s
  unfolding digit_run
  digit_found q = let z : digit_run (drop i s) ≡ 0 = rw (drop-cons s i 0 h, sym (digit_is (get_or s i 0)), sym e ∙ not-true f q) in omega arith

  pub digit_again : not f ≡ false → digit_run s ≡ i + 1 + digit_run (drop (i + 1) s)
  unfolding digit_run
  digit_again q =
      let z : digit_run (drop i s) ≡ suc (digit_run (drop (suc i) s)) = rw (drop-cons s i 0 h, sym (digit_is (get_or s i 0)), sym e ∙ not-false f q) in
      rw add-one (omega arith)

pub digits_all : (s : List ℕ) (i : ℕ) → digit_run s ≡ i + digit_run (drop i s) → length s ≤ i → i ≤ length s → length s ≡ digit_run s
digits_all s i inv h k = let z = run_all s i inv h in omega arith

pub spaces_all : (s : List ℕ) (i : ℕ) → spaces s ≡ i + spaces (drop i s) → length s ≤ i → i ≤ length s → length s ≡ spaces s
spaces_all s i inv h k = let z = space_all s i inv h in omega arith

-- a byte that is no digit
pub plain_other : (most : ℕ) (s : List ℕ) (i : ℕ) (f : Bool) → digits s ≡ digits (drop i s) → i < length s → f ≡ is_ascii_digit (get_or s i 0) → not f ≡ true → None ≡ plain_of most s
plain_other most s i f inv h e q = go (ltb (get_or s i 0) 0x30) (leb (get_or s i 0) 0x39) refl refl
  where
    d : digit (get_or s i 0) ≡ false
    d = sym (digit_is (get_or s i 0)) ∙ sym e ∙ not-true f q

    go : (t u : Bool) → ltb (get_or s i 0) 0x30 ≡ t → leb (get_or s i 0) 0x39 ≡ u → None ≡ plain_of most s
    go true u l k = plain_low most s i inv h (ltb-true _ _ l)
    go false false l k = plain_high most s i inv h (leb-false _ _ k)
    go false true l k = absurd (true≢false (sym (digit_some (get_or s i 0) (ltb-false _ _ l) (leb-true _ _ k)) ∙ d))

pub plain_end : (most : ℕ) (s : List ℕ) (i v : ℕ) (e f : Bool) → e ≡ eqb (length s) 0 → e ≡ false → f ≡ leads_zero s → f ≡ false → digits s ≡ digits (drop i s) → value_from 0 s ≡ value_from v (drop i s) → v ≤ most → length s ≤ i → Some v ≡ plain_of most s
plain_end most s i v e f g h l z w d k j = plain_value most s i v f (eqb-false _ _ (sym g ∙ h)) l z w d k j

-- the value d of a digit
module _ (s : List ℕ) (i v d : ℕ) (inv : value_from 0 s ≡ value_from v (drop i s)) (h : i < length s) (e : d ≡ get_or s i 0 - 0x30) where
  pub value_next : value_from 0 s ≡ value_from (v * 10 + d) (drop (i + 1) s)
  value_next = value_again s i v inv h ∙ ap (λ (x : ℕ). value_from (v * 10 + x) (drop (i + 1) s)) (sym e)

  pub digit_small : (most : ℕ) → most < d → None ≡ plain_of most s
  digit_small most k = plain_small most s i v inv h (subst (λ (x : ℕ). most < x) e k)

  pub digit_over : (most : ℕ) → d ≤ most → (most - d) / 10 < v → None ≡ plain_of most s
  digit_over most j k = plain_over most s i v inv h (subst (λ (x : ℕ). x ≤ most) e j) (subst (λ (x : ℕ). (most - x) / 10 < v) e k)
