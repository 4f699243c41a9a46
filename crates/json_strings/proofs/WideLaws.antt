-- Laws of the loops over characters: what is left behind one is shorter, and names taken from the front.
use mathlib.Core.Path.{◌≡◌, refl, sym, ap, ◌∙◌}
use mathlib.Core.Bool.{Bool, true, false, not}
use mathlib.Core.List.{List}
use Prim.Native.Nat.{ℕ, ◌+◌, ◌-◌, ◌<◌, ◌≤◌}
use native.Mathlib.Omega.{arith}
use borrow.Author.Tests.{not-true, not-false, eq-eqb, ne_eqb}
use lib.Dec.{eqb}
use lib.ListN.{length, drop, length-drop}
use Rattle.std.proofs.Common.{Option, None, Some, MatchOption, is_some}
use Rattle.spec_base.proofs.base.Laws.{yes!, no! }
use Rattle.spec_text.specs.pattern.Find.{starts, equals}
use Rattle.spec_json.specs.json.Str.{char_wide, char_bytes, chars_bytes}
use Rattle.spec_json.proofs.json.CharsLaws.{are_other, are_again, name_done}
use Rattle.spec_json.proofs.json.StringLaws.{char_in, char_size}

pub wide_less : (t u : List ℕ) (w : ℕ) → u ≡ drop w t → w ≡ char_wide t → (w ≡ 0 → ⊥) → length u < length t
wide_less t u w d e h = let a = char_in t in let b : length u ≡ length t - w = simp length-drop at (ap length d) in omega arith

pub wide_further : (s t : List ℕ) (at w : ℕ) → t ≡ drop at s → w ≡ char_wide t → (w ≡ 0 → ⊥) → length s - (at + w) < length s - at
wide_further s t at w d e h = let a = char_in t in let b : length t ≡ length s - at = simp length-drop at (ap length d) in omega arith

-- the bytes of a character taken from the front of a name
module _ (s t n v : List ℕ) (w : ℕ) (inv : equals n (chars_bytes s 0) ≡ equals v (chars_bytes t 0)) (ew : w ≡ char_wide t) (h : w ≡ 0 → ⊥) where
  pub stripped_none : starts (char_bytes t) v ≡ false → false ≡ equals n (chars_bytes s 0)
  stripped_none e = are_other s t n v w 0 inv ew h (no! _ e refl) refl

  pub stripped_some : (u x : List ℕ) → starts (char_bytes t) v ≡ true → u ≡ drop w t → x ≡ drop (length (char_bytes t)) v → equals n (chars_bytes s 0) ≡ equals x (chars_bytes u 0)
  stripped_some u x e du dx = are_again s t n v w (length (char_bytes t)) inv ew h (yes! _ e refl) u x (λ z. let a = (char_size t w ew h).0 in omega arith) du dx

-- the end of a name: nothing is left of the text but what begins with no character
none_is : (r : Option ℕ) (f : Bool) (p : ℕ) → is_some r ≡ not f → MatchOption r (p ≡ 0) (λ w. (w ≡ p) × (w ≡ 0 → ⊥)) → f ≡ eqb p 0
none_is None f p e m = not-false f (sym e) ∙ sym (eq-eqb p 0 m)
none_is (Some w) f p e m = not-true f (sym e) ∙ sym (ne_eqb p 0 (λ z. m.1 (m.0 ∙ z)))

pub name_end : (s n t : List ℕ) (i : ℕ) (f : Bool) (r : Option ℕ) → equals n (chars_bytes s 0) ≡ equals (drop i n) (chars_bytes (drop i s) 0)
    → length n ≤ i → i ≤ length n → t ≡ drop (length n) s → is_some r ≡ not f → MatchOption r (char_wide t ≡ 0) (λ w. (w ≡ char_wide t) × (w ≡ 0 → ⊥)) → f ≡ equals n (chars_bytes s 0)
name_end s n t i f r inv h k d e m =
    let j : length n ≡ i = omega arith in
    none_is r f (char_wide t) e m ∙ name_done s n i 0 inv (char_wide t) h (ap char_wide (d ∙ ap (λ (x : ℕ). drop x s) j))
