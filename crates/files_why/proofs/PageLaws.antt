-- Laws of the page's number.
use mathlib.Core.Path.{◌≡◌, refl, ap, ◌∙◌}
use mathlib.Core.List.{List}
use Prim.Native.Nat.{ℕ, ◌≤◌, ◌<◌}
use native.Mathlib.Omega.{arith}
use lib.Dec.{leb}
use lib.ListN.{length}
use borrow.Author.Tests.{lt-ltb, le-ltb}
use Rattle.spec_base.specs.base.Limits.{most_work}
use Rattle.spec_base.specs.base.Refusal.{fault_unless}
use Rattle.spec_base.proofs.base.Laws.{yes!, no! }
use Rattle.spec_base.proofs.base.Refusals.{last_over, last_under}
use Rattle.spec_base.proofs.base.RefusalLaws.{else_here, else_next}
use Rattle.spec_map.specs.declared.segmap.Made.{Made}
use Rattle.spec_map.specs.segmap.Map.{map_of, made_of}
use Rattle.files_map.specs.Printed.{printed_number}
use Rattle.files_why.specs.Page.{page_number}

large_number : (s l : List ℕ) → 65536 < length s → 11 ≡ printed_number s l
unfolding printed_number
large_number s l h = yes! _ (lt-ltb 65536 (length s) h) refl

pub page_large : (s l t : List ℕ) → 65536 < length s → 11 ≡ page_number s l t
unfolding page_number
page_large s l t h = else_here _ _ 11 (large_number s l h) (λ z. omega (arith, z))

-- what was made, with the places that were lent
module _ (s l t : List ℕ) (n w : ℕ) (r : Made) (e : r ≡ made_of (map_of s l 0 n w)) (q : n ≡ 6144) (u : w ≡ most_work) (h : length s ≤ 65536) where
  map_number_lem : r.number ≡ (map_of s l 0 6144 most_work).number
  unfolding made_of
  map_number_lem = ap (λ (x : Made). x.number) (e ∙ ap made_of (ap (λ (x : ℕ). map_of s l 0 x w) q ∙ ap (map_of s l 0 6144) u))

  made_number_lem : r.number ≡ printed_number s l
  unfolding printed_number
  made_number_lem = no! _ (le-ltb 65536 (length s) h) map_number_lem

  pub page_refused : (r.number ≡ 0 → ⊥) → r.number ≡ page_number s l t
  unfolding page_number
  page_refused z = else_here _ _ r.number made_number_lem z

  module _ (z : r.number ≡ 0) where
    behind : (v : ℕ) → v ≡ fault_unless (leb (length t) 65536) 16 → v ≡ page_number s l t
    unfolding page_number
    behind v p = else_next _ _ r.number v made_number_lem z p

    pub page_long : 65536 < length t → 16 ≡ page_number s l t
    page_long k = behind 16 (last_over (length t) 65536 16 k)

    pub page_told : length t ≤ 65536 → 0 ≡ page_number s l t
    page_told k = behind 0 (last_under (length t) 65536 16 k)
