-- Laws of lines that name a section.
use mathlib.Core.Path.{◌≡◌, refl, sym, ap, ◌∙◌}
use mathlib.Core.Bool.{Bool, true, false, cond}
use mathlib.Core.List.{List, [], ◌∷◌}
use Prim.Native.Nat.{ℕ, zero, suc, ◌-◌, ◌≤◌, ◌<◌}
use borrow.Author.Tests.{lt-ltb, le-ltb, eq-eqb, ne_eqb}
use lib.Dec.{ltb, eqb}
use lib.ListN.{length, take, drop, get_or}
use Rattle.spec_text.specs.pattern.Find.{equals}
use Rattle.spec_text.specs.whitespace.White.{keep_from, trim_head, trim_tail, trim}
use Rattle.spec_ass.specs.ass_columns.Section.{events_name, bracketed, inside}

pub section_short : (t : List ℕ) → length t < 2 → false ≡ bracketed t
unfolding bracketed
section_short t h = rw (lt-ltb (length t) 2 h)

pub section_other : (t : List ℕ) (a : ℕ) → 2 ≤ length t → a ≡ get_or t 0 0 → (a ≡ 91 → ⊥) → false ≡ bracketed t
unfolding bracketed
section_other t a h e n = rw (le-ltb (length t) 2 h, ne_eqb (get_or t 0 0) 91 (λ z. n (e ∙ z)))

pub section_last : (t : List ℕ) (a b : ℕ) → 2 ≤ length t → a ≡ get_or t 0 0 → a ≡ 91 → b ≡ get_or t (length t - 1) 0 → eqb b 93 ≡ bracketed t
unfolding bracketed
section_last t a b h e n eb = rw (le-ltb (length t) 2 h, eq-eqb (get_or t 0 0) 91 (sym e ∙ n), eb)

pub section_name : (t r n : List ℕ) (k : ℕ) (f : Bool) → r ≡ drop 1 t → k ≡ length t - 2 → n ≡ take k r → f ≡ equals events_name n → f ≡ equals events_name (inside t)
unfolding inside
section_name t r n k f er ek en ef = rw (ef, en, ek, er)

-- ---- a text that does not begin with `[` is no section's, however much of it is taken
front_other : (s : List ℕ) (k : ℕ) → (get_or s 0 0 ≡ 91 → ⊥) → false ≡ bracketed (take k s)
unfolding bracketed
front_other s zero n = refl
front_other [] (suc k) n = refl
front_other (b ∷ s) (suc k) n = rw (ne_eqb b 91 n) (both (ltb (suc (length (take k s))) 2))
  where
    both : (t : Bool) → false ≡ cond t false false
    both true = refl
    both false = refl

pub section_none : (s : List ℕ) (a : ℕ) → a ≡ get_or s 0 0 → (a ≡ 91 → ⊥) → false ≡ bracketed (trim_tail s)
unfolding trim_tail
section_none s a e n = front_other s (keep_from s (length s) 0) (λ z. n (e ∙ z))

-- trimmed at the head, then at the end
pub trim_by : (t s u : List ℕ) → s ≡ trim_head t → u ≡ trim_tail s → u ≡ trim t
unfolding trim
trim_by t s u es eu = eu ∙ ap trim_tail es
