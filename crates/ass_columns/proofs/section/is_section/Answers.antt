use mathlib.Core.Path.{◌≡◌}
use mathlib.Core.Bool.{true, false}
use mathlib.Core.List.{List}
use Prim.Native.Nat.{ℕ, ◌≤◌, ◌-◌}
use lib.ListN.{length, get_or}
use mathlib.Core.Path.{refl}
use Rattle.spec_ass.specs.ass_columns.Section.{bracketed}
use Rattle.spec_ass.proofs.ass_columns.SectionLaws.{section_short, section_other, section_last}
use borrow.Author.Tests.{eq-eqb, ne_eqb}
use mathlib.Core.Path.{sym, ◌∙◌}
use Rattle.ass_columns.proofs.section.is_section.Goals as goal

both : (t : List ℕ) → 2 ≤ length t → get_or t 0 0 ≡ 91 → get_or t (length t - 1) 0 ≡ 93 → true ≡ bracketed t
both t h a b = sym (eq-eqb _ 93 b) ∙ section_last t _ _ h refl a refl

no_start : (t : List ℕ) → 2 ≤ length t → (get_or t 0 0 ≡ 91 → ⊥) → false ≡ bracketed t
no_start t h n = section_other t _ h refl n

no_end : (t : List ℕ) → 2 ≤ length t → get_or t 0 0 ≡ 91 → (get_or t (length t - 1) 0 ≡ 93 → ⊥) → false ≡ bracketed t
no_end t h a n = sym (ne_eqb _ 93 n) ∙ section_last t _ _ h refl a refl

pub returns-in-91 : goal.returns-in-91
returns-in-91 c = search both

pub returns-in_default : goal.returns-in_default
returns-in_default c = search section_short

pub returns-in_default-2 : goal.returns-in_default-2
returns-in_default-2 c = search no_end

pub returns-in_default-3 : goal.returns-in_default-3
returns-in_default-3 c = search no_start
