-- Laws of a whole list for the crates above: its number is from document 01's table, and where that is 0, what its ranges keep to.
use mathlib.Core.Path.{◌≡◌, refl, sym, ap, subst, ◌∙◌}
use mathlib.Core.Logic.{◌⊎◌, inl, inr, ⊎_elim}
use mathlib.Core.Bool.{Bool, true, false}
use mathlib.Core.List.{List, [], ◌∷◌}
use Prim.Native.Nat.{ℕ, zero, suc, ◌+◌, ◌*◌, ◌≤◌, ◌<◌}
use native.Mathlib.Omega.{arith}
use borrow.Author.Tests.{le-leb, lt-leb, eq-eqb, ne_eqb}
use lib.Dec.{leb}
use lib.ListN.{length, take, get_or}
use Rattle.spec_base.specs.base.Limits.{most_list_bytes, most_trims, most_places, most_frame}
use Rattle.spec_base.specs.base.Refusal.{◌or_else◌, fault_unless}
use Rattle.spec_base.specs.base.Put.{put}
use Rattle.spec_base.proofs.base.Laws.{yes!, no! }
use Rattle.spec_base.proofs.base.RefusalLaws.{else_zero, else_none, unless_held}
use Rattle.spec_base.proofs.base.PutLaws.{take_put}
use Rattle.spec_text.specs.utf8.Utf8.{utf8}
use Rattle.spec_text.specs.text.Line.{blank}
use Rattle.spec_trim.specs.trim.TrimList.{tokens_of, list_tokens, tokens_number, head_number, list_number, range_count, ranges_of, list_answer, parse_number, parse_of, range_places}
use Rattle.spec_trim.proofs.trim.TokensLaws.{Ascending, zero_taken, number_table, tokens_one}
use Rattle.spec_base.proofs.base.RefusalNumbers.{else_numbers, unless_numbers}

-- ---- the numbers
abbrev pub OfList : ℕ → Type 0
OfList n = (n ≡ 0) ⊎ (((2 ≤ n) × (n ≤ 7)) ⊎ (n ≡ 20))

-- a list's number is 0, 2 to 7 or 20
pub list_number_table : (s : List ℕ) → OfList (list_number s)
unfolding list_number head_number
list_number_table s =
    else_numbers OfList _ _
    (else_numbers OfList _ _ (unless_numbers OfList (inl refl) (leb (length s) most_list_bytes) 7 (inr (inl (omega arith, omega arith)))) (unless_numbers OfList (inl refl) (utf8 s) 20 (inr (inr refl))))
    (⊎_elim (λ e. inl e) (λ h. inr (inl h)) (number_table most_trims 0 (list_tokens s)))

-- it is never 1, which a blank list had in document 01
pub never_1 : (s : List ℕ) → list_number s ≡ 1 → ⊥
never_1 s e = ⊎_elim (λ (z : list_number s ≡ 0). omega (arith, e, z)) (λ h. ⊎_elim (λ (k : (2 ≤ list_number s) × (list_number s ≤ 7)). omega (arith, e, k.0)) (λ (z : list_number s ≡ 20). omega (arith, e, z)) h) (list_number_table s)

-- with lent places also 16
pub parse_number_table : (s : List ℕ) (lent : ℕ) → (parse_number s lent ≡ 16) ⊎ OfList (parse_number s lent)
unfolding parse_number
parse_number_table s lent =
    else_numbers (λ (n : ℕ). (n ≡ 16) ⊎ OfList n) _ _ (unless_numbers (λ (n : ℕ). (n ≡ 16) ⊎ OfList n) (inr (inl refl)) (leb most_places lent) 16 (inl refl)) (inr (list_number_table s))

-- ---- a list whose number is 0
tokens_zero : (s : List ℕ) → list_number s ≡ 0 → tokens_number most_trims 0 (list_tokens s) ≡ 0
unfolding list_number
tokens_zero s z = (else_zero (head_number s) _ z).1

-- a list that is not blank has its tokens, one at least; a blank one has none
pub list_some : (s : List ℕ) → blank s ≡ false → list_tokens s ≡ tokens_of s
unfolding list_tokens
list_some s e = rw e

pub list_none : (s : List ℕ) → blank s ≡ true → list_tokens s ≡ []
unfolding list_tokens
list_none s e = rw e

pub none_blank_lem : (s : List ℕ) → range_count s ≡ 0 → blank s ≡ true
unfolding range_count
none_blank_lem s z = go (blank s) refl
  where
    go : (t : Bool) → blank s ≡ t → blank s ≡ true
    go true e = e
    go false e = absurd (omega (arith, z, ap length (list_some s e), tokens_one s))

-- it has at most 1,024 ranges, two numbers each
pub range_count_most : (s : List ℕ) → list_number s ≡ 0 → range_count s ≤ most_trims
unfolding range_count
range_count_most s z = (zero_taken most_trims 0 (list_tokens s) (tokens_zero s z)).0

pub ranges_length : (s : List ℕ) → list_number s ≡ 0 → length (ranges_of s) ≡ 2 * range_count s
unfolding range_count ranges_of
ranges_length s z = (zero_taken most_trims 0 (list_tokens s) (tokens_zero s z)).1

-- its ranges ascend
pub ranges_ascending : (s : List ℕ) → list_number s ≡ 0 → Ascending 0 (ranges_of s)
unfolding ranges_of
ranges_ascending s z = (zero_taken most_trims 0 (list_tokens s) (tokens_zero s z)).2

-- ---- the same by a range's place i: its start is below its end, and the next range starts there or above
ascending_start : (prev : ℕ) (l : List ℕ) (i : ℕ) → Ascending prev l → 2 * i + 1 < length l → get_or l (2 * i) 0 < get_or l (2 * i + 1) 0
ascending_start prev [] i h k = absurd (omega arith)
ascending_start prev (a ∷ []) i h k = absurd h
ascending_start prev (a ∷ e ∷ r) zero h k = h.1
ascending_start prev (a ∷ e ∷ r) (suc i) h k =
    let p : 2 * suc i ≡ suc (suc (2 * i)) = omega arith in
    let q : 2 * suc i + 1 ≡ suc (suc (2 * i + 1)) = omega arith in
    subst (λ (m : ℕ). get_or (a ∷ e ∷ r) m 0 < get_or (a ∷ e ∷ r) (2 * suc i + 1) 0) (sym p)
    (subst (λ (m : ℕ). get_or (a ∷ e ∷ r) (suc (suc (2 * i))) 0 < get_or (a ∷ e ∷ r) m 0) (sym q) (ascending_start e r i h.3 (omega arith)))

ascending_next : (prev : ℕ) (l : List ℕ) (i : ℕ) → Ascending prev l → 2 * (i + 1) < length l → get_or l (2 * i + 1) 0 ≤ get_or l (2 * (i + 1)) 0
ascending_next prev [] i h k = absurd (omega arith)
ascending_next prev (a ∷ []) i h k = absurd h
ascending_next prev (a ∷ e ∷ []) zero h k = absurd (omega arith)
ascending_next prev (a ∷ e ∷ b ∷ []) zero h k = absurd h.3
ascending_next prev (a ∷ e ∷ b ∷ f ∷ r) zero h k = h.3.0
ascending_next prev (a ∷ e ∷ r) (suc i) h k =
    let p : 2 * (suc i + 1) ≡ suc (suc (2 * (i + 1))) = omega arith in
    let q : 2 * suc i + 1 ≡ suc (suc (2 * i + 1)) = omega arith in
    rw (p, q) (ascending_next e r i h.3 (omega arith))

ascending_frame : (prev : ℕ) (l : List ℕ) (j : ℕ) → Ascending prev l → get_or l j 0 ≤ most_frame
ascending_frame prev [] j h = omega arith
ascending_frame prev (a ∷ []) j h = absurd h
ascending_frame prev (a ∷ e ∷ r) zero h = omega (arith, h.1, h.2)
ascending_frame prev (a ∷ e ∷ r) (suc zero) h = h.2
ascending_frame prev (a ∷ e ∷ r) (suc (suc j)) h = ascending_frame e r j h.3

pub range_start_below : (s : List ℕ) (i : ℕ) → list_number s ≡ 0 → i < range_count s → get_or (ranges_of s) (2 * i) 0 < get_or (ranges_of s) (2 * i + 1) 0
range_start_below s i z h = ascending_start 0 (ranges_of s) i (ranges_ascending s z) (omega (arith, ranges_length s z))

pub range_next_above : (s : List ℕ) (i : ℕ) → list_number s ≡ 0 → i + 1 < range_count s → get_or (ranges_of s) (2 * i + 1) 0 ≤ get_or (ranges_of s) (2 * (i + 1)) 0
range_next_above s i z h = ascending_next 0 (ranges_of s) i (ranges_ascending s z) (omega (arith, ranges_length s z))

-- every number of a range is below 2^32
pub range_frame : (s : List ℕ) (j : ℕ) → list_number s ≡ 0 → get_or (ranges_of s) j 0 ≤ most_frame
range_frame s j z = ascending_frame 0 (ranges_of s) j (ranges_ascending s z)

-- ---- the call, with places enough
pub parse_lent : (s : List ℕ) (lent : ℕ) → most_places ≤ lent → parse_number s lent ≡ list_number s
unfolding parse_number
parse_lent s lent h = else_none _ (unless_held 16 (le-leb most_places lent h))

pub parse_short : (s : List ℕ) (lent : ℕ) → lent < most_places → parse_number s lent ≡ 16
unfolding parse_number fault_unless ◌or_else◌
parse_short s lent h = rw (lt-leb most_places lent h)

pub parse_number_lem : (s : List ℕ) (lent : ℕ) → (parse_of s lent).number ≡ parse_number s lent
unfolding parse_of list_answer
parse_number_lem s lent = refl

pub answered_count : (s : List ℕ) (n : ℕ) → n ≡ 0 → (list_answer n s).count ≡ range_count s
unfolding list_answer
answered_count s n e = sym (yes! _ (eq-eqb n 0 e) refl)

pub places_written : (s l : List ℕ) → most_places ≤ length l → list_number s ≡ 0 → range_places s l ≡ put (ranges_of s) l
unfolding range_places
places_written s l h z = sym (yes! _ (eq-eqb _ 0 (parse_lent s (length l) h ∙ z)) refl)

pub places_kept : (s l : List ℕ) → (parse_number s (length l) ≡ 0 → ⊥) → range_places s l ≡ l
unfolding range_places
places_kept s l h = sym (no! _ (ne_eqb _ 0 h) refl)

-- the first numbers of the places are the ranges
pub places_front : (s l : List ℕ) → most_places ≤ length l → list_number s ≡ 0 → take (2 * range_count s) (range_places s l) ≡ ranges_of s
places_front s l h z =
    ap (λ (n : ℕ). take n (range_places s l)) (sym (ranges_length s z)) ∙ ap (take (length (ranges_of s))) (places_written s l h z) ∙ take_put (ranges_of s) l
