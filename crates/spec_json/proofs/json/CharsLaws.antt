-- Laws of the characters of a string, as the loops over them have them.
use mathlib.Core.Path.{◌≡◌, refl, sym, ap, ◌∙◌}
use mathlib.Core.Bool.{Bool, true, false, cond, true≢false}
use mathlib.Core.List.{List, [], ◌∷◌, ◌++◌, append_assoc}
use Prim.Native.Nat.{ℕ, zero, suc, ◌+◌, ◌-◌, ◌^◌, ◌≤◌, ◌<◌}
use native.Mathlib.Omega.{arith}
use borrow.Author.Tests.{eq-eqb, ne_eqb, eqb-true, eqb-false}
use lib.Dec.{eqb}
use lib.ListN.{length, take, drop, get_or, length-drop, length-append, drop_of_length-le, take-append-drop}
use lib.Seq.{get_or-drop, drop-drop, take_at, drop_at, take_all, length-take-le}
use Rattle.spec_base.specs.base.Width.{by_width}
use Rattle.spec_base.specs.base.Put.{put, placed, placed_length, placed_at, place_after}
use Rattle.spec_base.proofs.base.Laws.{yes!, no! }
use Rattle.spec_base.proofs.base.PutLaws.{then_placed, put_nil, length_put, length_yes, placed_yes, not_copied}
use Rattle.spec_text.specs.pattern.Find.{starts, equals}
use Rattle.spec_json.specs.json.Space.{more, joined}
use Rattle.spec_json.specs.json.Str.{char_wide, char_bytes, chars_width, chars_bytes, string_width, string_bytes}
use Rattle.spec_json.proofs.json.NumberLaws.{more_some}
use Rattle.spec_json.proofs.json.StringLaws.{char_in, char_size, wide_low, wide_quote, wide_one}

-- ---- widths that are none, and sums
pub joined_zero : (x : ℕ) → joined 0 x ≡ x
joined_zero zero = refl
joined_zero (suc x) = omega arith

pub joined_more : (k x : ℕ) → more (joined k x) ≡ joined (suc k) x
joined_more k zero = refl
joined_more k (suc x) = go (k + suc x) refl
  where
    go : (y : ℕ) → k + suc x ≡ y → more y ≡ suc k + suc x
    go zero e = absurd (omega arith)
    go (suc y) e = omega arith

pub joined_twice : (a b x : ℕ) → joined a (joined b x) ≡ joined (a + b) x
joined_twice a b zero = refl
joined_twice a b (suc x) = go (b + suc x) refl
  where
    go : (y : ℕ) → b + suc x ≡ y → joined a y ≡ a + b + suc x
    go zero e = absurd (omega arith)
    go (suc y) e = omega arith

-- ---- the width of characters
skip_width : (s : List ℕ) (k : ℕ) → chars_width s k ≡ joined k (chars_width (drop k s) 0)
unfolding chars_width
skip_width [] zero = refl
skip_width [] (suc k) = refl
skip_width (b ∷ s) zero = sym (joined_zero _)
skip_width (b ∷ s) (suc k) = ap more (skip_width s k) ∙ joined_more k (chars_width (drop k s) 0)

width_quote : (s : List ℕ) → get_or s 0 0 ≡ 0x22 → chars_width s 0 ≡ 1
unfolding chars_width
width_quote [] e = absurd (omega arith)
width_quote (b ∷ s) e = go (eqb b 0x22) (eq-eqb b 0x22 e)
  where
    go : (t : Bool) → t ≡ true → ◌≡◌ {A = ℕ} (elim t [ true ↦ 1 | false ↦ by_width (char_wide (b ∷ s)) 0 (λ k. more (chars_width s k)) ]) 1
    go true e = refl
    go false e = absurd (true≢false (sym e))

width_stop : (s : List ℕ) → char_wide s ≡ 0 → (get_or s 0 0 ≡ 0x22 → ⊥) → chars_width s 0 ≡ 0
unfolding chars_width
width_stop [] w h = refl
width_stop (b ∷ s) w h = go (eqb b 0x22) (char_wide (b ∷ s)) (ne_eqb b 0x22 h) w
  where
    go : (t : Bool) (n : ℕ) → t ≡ false → n ≡ 0 → ◌≡◌ {A = ℕ} (elim t [ true ↦ 1 | false ↦ by_width n 0 (λ k. more (chars_width s k)) ]) 0
    go true n e f = absurd (true≢false e)
    go false zero e f = refl
    go false (suc n) e f = absurd (omega arith)

not_quote : (s : List ℕ) (w : ℕ) → w ≡ char_wide s → (w ≡ 0 → ⊥) → get_or s 0 0 ≡ 0x22 → ⊥
not_quote s w e h q = h (e ∙ sym (wide_quote s (get_or s 0 0) refl q))

open_width : (b : ℕ) (s : List ℕ) (k : ℕ) → (b ≡ 0x22 → ⊥) → char_wide (b ∷ s) ≡ suc k → chars_width (b ∷ s) 0 ≡ more (chars_width s k)
unfolding chars_width
open_width b s k h e = go (eqb b 0x22) (char_wide (b ∷ s)) (ne_eqb b 0x22 h) e
  where
    go : (t : Bool) (n : ℕ) → t ≡ false → n ≡ suc k → ◌≡◌ {A = ℕ} (elim t [ true ↦ 1 | false ↦ by_width n 0 (λ k. more (chars_width s k)) ]) (more (chars_width s k))
    go true n e f = absurd (true≢false e)
    go false zero e f = absurd (omega arith)
    go false (suc n) e f = ap (λ (j : ℕ). more (chars_width s j)) (omega arith)

width_step : (s : List ℕ) (w : ℕ) → w ≡ char_wide s → (w ≡ 0 → ⊥) → chars_width s 0 ≡ joined w (chars_width (drop w s) 0)
width_step s zero e h = absurd (h refl)
width_step [] (suc k) e h = absurd (let z = char_in [] in omega arith)
width_step (b ∷ s) (suc k) e h =
    open_width b s k (not_quote (b ∷ s) (suc k) e h) (sym e) ∙ ap more (skip_width s k) ∙ joined_more k (chars_width (drop k s) 0)

module _ (s t : List ℕ) (at w : ℕ) (inv : chars_width s 0 ≡ joined at (chars_width (drop at s) 0)) (dt : t ≡ drop at s) (ew : w ≡ char_wide t) where
  pub chars_quote : (b : ℕ) → w ≡ 0 → b ≡ get_or t 0 0 → b ≡ 0x22 → at + 1 ≡ chars_width s 0
  chars_quote b z e h = sym (inv ∙ ap (joined at) (ap (λ (x : List ℕ). chars_width x 0) (sym dt) ∙ width_quote t (sym e ∙ h)))

  pub chars_stop : (b : ℕ) → w ≡ 0 → b ≡ get_or t 0 0 → (b ≡ 0x22 → ⊥) → 0 ≡ chars_width s 0
  chars_stop b z e h = sym (inv ∙ ap (joined at) (ap (λ (x : List ℕ). chars_width x 0) (sym dt) ∙ width_stop t (sym ew ∙ z) (λ q. h (e ∙ q))))

  pub chars_again : (w ≡ 0 → ⊥) → chars_width s 0 ≡ joined (at + w) (chars_width (drop (at + w) s) 0)
  chars_again h =
      inv ∙ ap (joined at) (ap (λ (x : List ℕ). chars_width x 0) (sym dt) ∙ width_step t w ew h ∙ ap (λ (x : List ℕ). joined w (chars_width x 0)) (ap (drop w) dt ∙ drop-drop w at s))
      ∙ joined_twice at w (chars_width (drop (at + w) s) 0)

  pub chars_in : at ≤ length s → at + w ≤ length s
  chars_in h = let a = char_in t in let b : length t ≡ length s - at = ap length dt ∙ length-drop at s in omega arith

  pub chars_fits : at ≤ length s → length s < 2 ^ 64 → at + w < 2 ^ 64
  chars_fits h l = let a = chars_in h in omega arith

-- the same at a place
pub wide_at : (s t : List ℕ) (at w : ℕ) → t ≡ drop at s → w ≡ char_wide t → w ≡ char_wide (drop at s)
wide_at s t at w dt e = e ∙ ap char_wide dt

module _ (s : List ℕ) (at b : ℕ) (e : b ≡ get_or s at 0) where
  head_at : b ≡ get_or (drop at s) 0 0
  head_at = e ∙ ap (λ (k : ℕ). get_or s k 0) (omega arith) ∙ sym (get_or-drop at s 0 0)

  pub at_low : b < 0x20 → 0 ≡ char_wide (drop at s)
  at_low h = wide_low (drop at s) b head_at h

  pub at_quote : b ≡ 0x22 → 0 ≡ char_wide (drop at s)
  at_quote h = wide_quote (drop at s) b head_at h

  pub at_one : 0x20 ≤ b → (b ≡ 0x22 → ⊥) → (b ≡ 0x5C → ⊥) → 1 ≡ char_wide (drop at s)
  at_one h q r = wide_one (drop at s) b head_at h q r

module _ (s : List ℕ) (at w : ℕ) (inv : chars_width s 0 ≡ joined at (chars_width (drop at s) 0)) (ew : w ≡ char_wide (drop at s)) where
  pub at_closed : w ≡ 0 → get_or s at 0 ≡ 0x22 → at + 1 ≡ chars_width s 0
  at_closed z h = chars_quote s (drop at s) at w inv refl ew (get_or s at 0) z (head_at s at (get_or s at 0) refl) h

  pub at_stop : w ≡ 0 → (get_or s at 0 ≡ 0x22 → ⊥) → 0 ≡ chars_width s 0
  at_stop z h = chars_stop s (drop at s) at w inv refl ew (get_or s at 0) z (head_at s at (get_or s at 0) refl) h

  pub at_again : (w ≡ 0 → ⊥) → chars_width s 0 ≡ joined (at + w) (chars_width (drop (at + w) s) 0)
  at_again h = chars_again s (drop at s) at w inv refl ew h

  pub at_in : at ≤ length s → at + w ≤ length s
  at_in h = chars_in s (drop at s) at w inv refl ew h

  pub at_fits : at ≤ length s → length s < 2 ^ 64 → at + w < 2 ^ 64
  at_fits h l = chars_fits s (drop at s) at w inv refl ew h l

pub chars_end : (s : List ℕ) (at : ℕ) → chars_width s 0 ≡ joined at (chars_width (drop at s) 0) → length s ≤ at → 0 ≡ chars_width s 0
unfolding chars_width
chars_end s at inv h = sym (inv ∙ ap (λ (x : List ℕ). joined at (chars_width x 0)) (drop_of_length-le s h))

pub chars_le : (s : List ℕ) (k : ℕ) → chars_width s k ≤ length s
unfolding chars_width
chars_le [] k = omega arith
chars_le (b ∷ s) (suc k) = more_le (chars_width s k) (chars_le s k)
  where
    more_le : (n : ℕ) → n ≤ length s → more n ≤ suc (length s)
    more_le zero h = omega arith
    more_le (suc n) h = omega arith
chars_le (b ∷ s) zero = go (eqb b 0x22) (char_wide (b ∷ s)) (λ k. chars_le s k)
  where
    more_le : (n : ℕ) → n ≤ length s → more n ≤ suc (length s)
    more_le zero h = omega arith
    more_le (suc n) h = omega arith

    go : (t : Bool) (w : ℕ) → ((k : ℕ) → chars_width s k ≤ length s) → elim t [ true ↦ 1 | false ↦ by_width w 0 (λ k. more (chars_width s k)) ] ≤ suc (length s)
    go true w ih = omega arith
    go false zero ih = omega arith
    go false (suc k) ih = more_le (chars_width s k) (ih k)

-- ---- strings
pub string_none : (s : List ℕ) (b : ℕ) → b ≡ get_or s 0 0 → (b ≡ 0x22 → ⊥) → 0 ≡ string_width s
unfolding string_width
string_none s b e h = no! _ (ne_eqb _ _ (λ q. h (e ∙ q))) refl

module _ (s t : List ℕ) (b n : ℕ) (e : b ≡ get_or s 0 0) (h : b ≡ 0x22) (d : t ≡ drop 1 s) (en : n ≡ chars_width t 0) where
  pub string_bad : n ≡ 0 → 0 ≡ string_width s
  unfolding string_width
  string_bad z = yes! _ (eq-eqb _ _ (sym e ∙ h)) (ap more (sym z ∙ en ∙ ap (λ (x : List ℕ). chars_width x 0) d))

  pub string_some : (n ≡ 0 → ⊥) → n + 1 ≡ string_width s
  unfolding string_width
  string_some z = yes! _ (eq-eqb _ _ (sym e ∙ h)) (more_some n z ∙ ap more (en ∙ ap (λ (x : List ℕ). chars_width x 0) d))

  pub string_fits : length s < 2 ^ 64 → n + 1 < 2 ^ 64
  string_fits l = let a = chars_le t 0 in let q : length t ≡ length s - 1 = ap length d ∙ length-drop 1 s in omega arith

pub string_le : (s : List ℕ) → string_width s ≤ length s
unfolding string_width
string_le [] = omega arith
string_le (b ∷ s) = go (eqb b 0x22) (chars_width s 0) (chars_le s 0)
  where
    go : (t : Bool) (n : ℕ) → n ≤ length s → cond t (more n) 0 ≤ suc (length s)
    go true zero h = omega arith
    go true (suc n) h = omega arith
    go false n h = omega arith

-- ---- the bytes of characters
skip_bytes : (s : List ℕ) (k : ℕ) → chars_bytes s k ≡ chars_bytes (drop k s) 0
unfolding chars_bytes
skip_bytes [] zero = refl
skip_bytes [] (suc k) = refl
skip_bytes (b ∷ s) zero = refl
skip_bytes (b ∷ s) (suc k) = skip_bytes s k

pub bytes_stop : (s : List ℕ) → char_wide s ≡ 0 → chars_bytes s 0 ≡ []
unfolding chars_bytes
bytes_stop [] w = refl
bytes_stop (b ∷ s) w = go (eqb b 0x22) (char_wide (b ∷ s)) w
  where
    go : (t : Bool) (n : ℕ) → n ≡ 0 → ◌≡◌ {A = List ℕ} (elim t [ true ↦ [] | false ↦ by_width n [] (λ k. char_bytes (b ∷ s) ++ chars_bytes s k) ]) []
    go true n e = refl
    go false zero e = refl
    go false (suc n) e = absurd (omega arith)

open_bytes_lem : (b : ℕ) (s : List ℕ) (k : ℕ) → (b ≡ 0x22 → ⊥) → char_wide (b ∷ s) ≡ suc k → chars_bytes (b ∷ s) 0 ≡ char_bytes (b ∷ s) ++ chars_bytes s k
unfolding chars_bytes
open_bytes_lem b s k h e = go (eqb b 0x22) (char_wide (b ∷ s)) (ne_eqb b 0x22 h) e
  where
    go : (t : Bool) (n : ℕ) → t ≡ false → n ≡ suc k → ◌≡◌ {A = List ℕ} (elim t [ true ↦ [] | false ↦ by_width n [] (λ k. char_bytes (b ∷ s) ++ chars_bytes s k) ]) (char_bytes (b ∷ s) ++ chars_bytes s k)
    go true n e f = absurd (true≢false e)
    go false zero e f = absurd (omega arith)
    go false (suc n) e f = ap (λ (j : ℕ). char_bytes (b ∷ s) ++ chars_bytes s j) (omega arith)

pub bytes_step : (s : List ℕ) (w : ℕ) → w ≡ char_wide s → (w ≡ 0 → ⊥) → chars_bytes s 0 ≡ char_bytes s ++ chars_bytes (drop w s) 0
bytes_step s zero e h = absurd (h refl)
bytes_step [] (suc k) e h = absurd (let z = char_in [] in omega arith)
bytes_step (b ∷ s) (suc k) e h =
    open_bytes_lem b s k (not_quote (b ∷ s) (suc k) e h) (sym e) ∙ ap (λ (x : List ℕ). char_bytes (b ∷ s) ++ x) (skip_bytes s k)

bytes_none : (t : List ℕ) → length t ≤ 0 → chars_bytes t 0 ≡ []
unfolding chars_bytes
bytes_none [] h = refl
bytes_none (b ∷ t) h = absurd (omega arith)

bytes_on : (t u : List ℕ) (w : ℕ) → w ≡ char_wide t → (w ≡ 0 → ⊥) → u ≡ drop w t → chars_bytes t 0 ≡ char_bytes t ++ chars_bytes u 0
bytes_on t u w e h d = bytes_step t w e h ∙ ap (λ (x : List ℕ). char_bytes t ++ chars_bytes x 0) (sym d)

-- how many
pub size_stop : (s t : List ℕ) (n w : ℕ) → length (chars_bytes s 0) ≡ n + length (chars_bytes t 0) → w ≡ char_wide t → w ≡ 0 → n ≡ length (chars_bytes s 0)
size_stop s t n w inv e h = let z : length (chars_bytes t 0) ≡ 0 = ap length (bytes_stop t (sym e ∙ h)) in omega arith

pub size_end : (s t : List ℕ) (n : ℕ) → length (chars_bytes s 0) ≡ n + length (chars_bytes t 0) → length t ≤ 0 → n ≡ length (chars_bytes s 0)
size_end s t n inv h = let z : length (chars_bytes t 0) ≡ 0 = ap length (bytes_none t h) in omega arith

module _ (s t : List ℕ) (n w : ℕ) (k : ℕ) (ew : w ≡ char_wide t) (h : w ≡ 0 → ⊥) (ek : k ≡ length (char_bytes t)) where
  pub size_again : (u : List ℕ) → length (chars_bytes s 0) ≡ n + length (chars_bytes t 0) → u ≡ drop w t → length (chars_bytes s 0) ≡ n + k + length (chars_bytes u 0)
  size_again u inv d =
      let z : length (chars_bytes t 0) ≡ length (char_bytes t) + length (chars_bytes u 0) = ap length (bytes_on t u w ew h d) ∙ length-append (char_bytes t) (chars_bytes u 0) in
      omega arith

  pub size_most : (u : List ℕ) → n + length t ≤ length s → u ≡ drop w t → n + k + length u ≤ length s
  size_most u inv d =
      let a = (char_size t w ew h).1 in
      let b = char_in t in
      let l : length u ≡ length t - w = ap length d ∙ length-drop w t in
      omega arith

  pub size_fits : n + length t ≤ length s → length s < 2 ^ 64 → n + k < 2 ^ 64
  size_fits inv l = let a = (char_size t w ew h).1 in let b = char_in t in omega arith

pub size_is : (s t : List ℕ) (n : ℕ) → t ≡ drop 1 s → n ≡ length (chars_bytes t 0) → n ≡ length (string_bytes s)
unfolding string_bytes
size_is s t n d e = e ∙ ap (λ (x : List ℕ). length (chars_bytes x 0)) d

-- ---- written one after the other: X is all of them, t what is left to read
pub record Into (X t l₀ l : List ℕ) (at : ℕ) : Type 0 where
  pub within : at ≤ length X
  pub left : drop at X ≡ chars_bytes t 0
  pub done : l ≡ put (take at X) l₀
  pub room : length X ≤ length l₀

pub into_start : (s l : List ℕ) → length (chars_bytes s 0) ≤ length l → Into (chars_bytes s 0) s l l 0
into_start s l h = record { within = omega arith; left = refl; done = sym (put_nil l); room = h }

cut : (X v y : List ℕ) (at n : ℕ) → at ≤ length X → drop at X ≡ v ++ y → n ≡ length (take at X ++ v) → (take at X ++ v ≡ take n X) × (drop n X ≡ y) × (n ≤ length X)
cut X v y at n h e en =
    let x : (take at X ++ v) ++ y ≡ X = append_assoc (take at X) v y ∙ ap (λ (z : List ℕ). take at X ++ z) (sym e) ∙ take-append-drop at X in
    let l : length X ≡ length (take at X ++ v) + length y = ap length (sym x) ∙ length-append (take at X ++ v) y in
    (sym (ap (take n) (sym x) ∙ take_at (take at X ++ v) y n (sym en)), ap (drop n) (sym x) ∙ drop_at (take at X ++ v) y n (sym en), omega arith)

pub into_again : (X t u l₀ l l' : List ℕ) (at n w : ℕ) → Into X t l₀ l at → w ≡ char_wide t → (w ≡ 0 → ⊥) → n ≡ place_after at (char_bytes t) l → l' ≡ placed_at at (char_bytes t) l → u ≡ drop w t → Into X u l₀ l' n
into_again X t u l₀ l l' at n w i e h p p' d =
    let v : List ℕ = char_bytes t in
    let o : drop at X ≡ v ++ chars_bytes u 0 = i.left ∙ bytes_on t u w e h d in
    let lt : length (take at X) ≡ at = length-take-le at X i.within in
    let ld : length X - at ≡ length v + length (chars_bytes u 0) = sym (length-drop at X) ∙ ap length o ∙ length-append v (chars_bytes u 0) in
    let la : length (take at X ++ v) ≡ length (take at X) + length v = length-append (take at X) v in
    let wi : at ≤ length X = i.within in
    let ro : length X ≤ length l₀ = i.room in
    let q : (l' ≡ put (take at X ++ v) l₀) × (n ≡ length (take at X ++ v)) = then_placed at n (take at X) v l₀ l l' i.done (sym lt) (omega arith) p p' in
    let c : (take at X ++ v ≡ take n X) × (drop n X ≡ chars_bytes u 0) × (n ≤ length X) = cut X v (chars_bytes u 0) at n wi o q.1 in
    record { within = c.2; left = c.1; done = q.0 ∙ ap (λ (z : List ℕ). put z l₀) c.0; room = i.room }

into_done : (X t l₀ l : List ℕ) (at : ℕ) → Into X t l₀ l at → chars_bytes t 0 ≡ [] → (at ≡ length X) × (l ≡ put X l₀)
into_done X t l₀ l at i e =
    let z : length X - at ≡ 0 = sym (length-drop at X) ∙ ap length (i.left ∙ e) in
    let w : at ≤ length X = i.within in
    let n : at ≡ length X = omega arith in
    let x : take at X ≡ X = take_all at X (omega arith) in
    (n, i.done ∙ ap (λ (y : List ℕ). put y l₀) x)

pub into_stop : (X t l₀ l : List ℕ) (at w : ℕ) → Into X t l₀ l at → w ≡ char_wide t → w ≡ 0 → at ≡ length X
into_stop X t l₀ l at w i e h = (into_done X t l₀ l at i (bytes_stop t (sym e ∙ h))).0

pub into_stop_2 : (X t l₀ l : List ℕ) (at w : ℕ) → Into X t l₀ l at → w ≡ char_wide t → w ≡ 0 → l ≡ put X l₀
into_stop_2 X t l₀ l at w i e h = (into_done X t l₀ l at i (bytes_stop t (sym e ∙ h))).1

pub into_end : (X t l₀ l : List ℕ) (at : ℕ) → Into X t l₀ l at → length t ≤ 0 → at ≡ length X
into_end X t l₀ l at i h = (into_done X t l₀ l at i (bytes_none t h)).0

pub into_end_2 : (X t l₀ l : List ℕ) (at : ℕ) → Into X t l₀ l at → length t ≤ 0 → l ≡ put X l₀
into_end_2 X t l₀ l at i h = (into_done X t l₀ l at i (bytes_none t h)).1

pub into_length : (X t l₀ l : List ℕ) (at : ℕ) → Into X t l₀ l at → length l ≡ length l₀
into_length X t l₀ l at i =
    let w : at ≤ length X = i.within in
    let r : length X ≤ length l₀ = i.room in
    let n : length (take at X) ≡ at = length-take-le at X w in
    ap length i.done ∙ length_put (take at X) l₀ (omega arith)

pub string_short : (s l : List ℕ) (n : ℕ) → n ≡ length (string_bytes s) → length l < n → 0 ≡ placed_length (string_bytes s) l
string_short s l n e h = (not_copied (string_bytes s) l (omega arith)).0

pub string_short_2 : (s l : List ℕ) (n : ℕ) → n ≡ length (string_bytes s) → length l < n → l ≡ placed (string_bytes s) l
string_short_2 s l n e h = (not_copied (string_bytes s) l (omega arith)).1

pub string_room : (s t l : List ℕ) (n : ℕ) → n ≡ length (string_bytes s) → n ≤ length l → t ≡ drop 1 s → length (chars_bytes t 0) ≤ length l
unfolding string_bytes
string_room s t l n e h d = let q = size_is s t (length (chars_bytes t 0)) d refl in omega arith

bytes_are : (s t : List ℕ) → t ≡ drop 1 s → chars_bytes t 0 ≡ string_bytes s
unfolding string_bytes
bytes_are s t d = ap (λ (x : List ℕ). chars_bytes x 0) d

module _ (s t l : List ℕ) (n : ℕ) (e : n ≡ length (string_bytes s)) (h : n ≤ length l) (d : t ≡ drop 1 s) where
  pub string_count : (m : ℕ) → m ≡ length (chars_bytes t 0) → m ≡ placed_length (string_bytes s) l
  string_count m p = p ∙ ap length (bytes_are s t d) ∙ sym (length_yes (string_bytes s) l (omega arith))

  pub string_written : (l' : List ℕ) → l' ≡ put (chars_bytes t 0) l → l' ≡ placed (string_bytes s) l
  string_written l' p = p ∙ ap (λ (x : List ℕ). put x l) (bytes_are s t d) ∙ sym (placed_yes (string_bytes s) l (omega arith))

-- ---- compared with a name
empty_is : (v : List ℕ) → eqb (length v) 0 ≡ equals v []
unfolding equals
empty_is [] = refl
empty_is (b ∷ v) = ne_eqb (length (b ∷ v)) 0 (λ e. omega arith)

begins_yes : (p v q : List ℕ) → starts p v ≡ true → equals v (p ++ q) ≡ equals (drop (length p) v) q
unfolding equals starts
begins_yes [] v q e = refl
begins_yes (x ∷ p) [] q e = absurd (true≢false (sym e))
begins_yes (x ∷ p) (y ∷ v) q e = go (eqb x y) refl e (begins_yes p v q)
  where
    go : (t : Bool) → eqb x y ≡ t → cond t (starts p v) false ≡ true → (starts p v ≡ true → equals v (p ++ q) ≡ equals (drop (length p) v) q)
        → cond (eqb y x) (equals v (p ++ q)) false ≡ equals (drop (length p) v) q
    go true f g ih = sym (yes! _ (eq-eqb y x (sym (eqb-true x y f))) (sym (ih g)))
    go false f g ih = absurd (true≢false (sym g))

begins_no : (p v q : List ℕ) → starts p v ≡ false → equals v (p ++ q) ≡ false
unfolding equals starts
begins_no [] v q e = absurd (true≢false e)
begins_no (x ∷ p) [] q e = refl
begins_no (x ∷ p) (y ∷ v) q e = go (eqb x y) refl e (begins_no p v q)
  where
    go : (t : Bool) → eqb x y ≡ t → cond t (starts p v) false ≡ false → (starts p v ≡ false → equals v (p ++ q) ≡ false)
        → cond (eqb y x) (equals v (p ++ q)) false ≡ false
    go true f g ih = sym (yes! _ (eq-eqb y x (sym (eqb-true x y f))) (sym (ih g)))
    go false f g ih = sym (no! _ (ne_eqb y x (λ r. eqb-false x y f (sym r))) refl)

pub are_stop : (s t n v : List ℕ) (w : ℕ) → equals n (chars_bytes s 0) ≡ equals v (chars_bytes t 0) → w ≡ char_wide t → w ≡ 0 → eqb (length v) 0 ≡ equals n (chars_bytes s 0)
are_stop s t n v w inv e h = empty_is v ∙ ap (equals v) (sym (bytes_stop t (sym e ∙ h))) ∙ sym inv

pub are_end : (s t n v : List ℕ) → equals n (chars_bytes s 0) ≡ equals v (chars_bytes t 0) → length t ≤ 0 → eqb (length v) 0 ≡ equals n (chars_bytes s 0)
are_end s t n v inv h = empty_is v ∙ ap (equals v) (sym (bytes_none t h)) ∙ sym inv

module _ (s t n v : List ℕ) (w k : ℕ) (inv : equals n (chars_bytes s 0) ≡ equals v (chars_bytes t 0)) (ew : w ≡ char_wide t) (h : w ≡ 0 → ⊥) (ek : k ≡ cond (starts (char_bytes t) v) (length (char_bytes t)) 0) where
  pub are_other : k ≡ 0 → false ≡ equals n (chars_bytes s 0)
  are_other z = go (starts (char_bytes t) v) refl ek
    where
      go : (f : Bool) → starts (char_bytes t) v ≡ f → k ≡ cond f (length (char_bytes t)) 0 → false ≡ equals n (chars_bytes s 0)
      go true q e = absurd (let a = (char_size t w ew h).0 in omega arith)
      go false q e = sym (inv ∙ ap (equals v) (bytes_step t w ew h) ∙ begins_no (char_bytes t) v (chars_bytes (drop w t) 0) q)

  pub are_again : (u x : List ℕ) → (k ≡ 0 → ⊥) → u ≡ drop w t → x ≡ drop k v → equals n (chars_bytes s 0) ≡ equals x (chars_bytes u 0)
  are_again u x z du dx = go (starts (char_bytes t) v) refl ek
    where
      go : (f : Bool) → starts (char_bytes t) v ≡ f → k ≡ cond f (length (char_bytes t)) 0 → equals n (chars_bytes s 0) ≡ equals x (chars_bytes u 0)
      go true q e =
          inv ∙ ap (equals v) (bytes_on t u w ew h du) ∙ begins_yes (char_bytes t) v (chars_bytes u 0) q
          ∙ ap (λ (y : List ℕ). equals y (chars_bytes u 0)) (ap (λ (j : ℕ). drop j v) (sym e) ∙ sym dx)
      go false q e = absurd (z e)

-- byte by byte
no_more : equals [] [] ≡ true
unfolding equals
no_more = refl

longer : (p q : List ℕ) → 1 ≤ length p → equals [] (p ++ q) ≡ false
unfolding equals
longer [] q h = absurd (omega arith)
longer (x ∷ p) q h = refl

some_more : (t : List ℕ) (w : ℕ) → w ≡ char_wide t → (w ≡ 0 → ⊥) → equals [] (chars_bytes t 0) ≡ false
some_more t w e h = ap (equals []) (bytes_step t w e h) ∙ longer (char_bytes t) (chars_bytes (drop w t) 0) (char_size t w e h).0

head_stop : (v : List ℕ) → 0 < length v → equals v [] ≡ false
unfolding equals
head_stop [] h = absurd (omega arith)
head_stop (y ∷ v) h = refl

none_stop : (t v : List ℕ) → char_wide t ≡ 0 → 0 < length v → equals v (chars_bytes t 0) ≡ false
none_stop t v e h = ap (equals v) (bytes_stop t e) ∙ head_stop v h

pub plain_bytes : (x : ℕ) (t : List ℕ) → (x ≡ 0x5C → ⊥) → char_bytes (x ∷ t) ≡ x ∷ []
unfolding char_bytes
plain_bytes x t h = sym (no! _ (ne_eqb x 0x5C h) refl)

head_is : (x y : ℕ) (v r : List ℕ) → equals (y ∷ v) (x ∷ r) ≡ cond (eqb y x) (equals v r) false
unfolding equals
head_is x y v r = refl

head_other : (t v : List ℕ) → (get_or t 0 0 ≡ 0x5C → ⊥) → 0 < length v → (get_or t 0 0 ≡ get_or v 0 0 → ⊥) → equals v (chars_bytes t 0) ≡ false
head_other t [] h l d = absurd (omega arith)
head_other [] (y ∷ v) h l d = ap (equals (y ∷ v)) (bytes_none [] (omega arith)) ∙ head_stop (y ∷ v) l
head_other (x ∷ t) (y ∷ v) h l d = go (char_wide (x ∷ t)) refl
  where
    go : (w : ℕ) → w ≡ char_wide (x ∷ t) → equals (y ∷ v) (chars_bytes (x ∷ t) 0) ≡ false
    go zero e = none_stop (x ∷ t) (y ∷ v) (sym e) l
    go (suc w) e =
        ap (equals (y ∷ v)) (bytes_step (x ∷ t) (suc w) e (λ z. omega arith) ∙ ap (λ (p : List ℕ). p ++ chars_bytes (drop (suc w) (x ∷ t)) 0) (plain_bytes x t h))
        ∙ head_is x y v (chars_bytes (drop (suc w) (x ∷ t)) 0) ∙ sym (no! _ (ne_eqb y x (λ q. d (sym q))) refl)

head_same : (t v : List ℕ) → 1 ≡ char_wide t → (get_or t 0 0 ≡ 0x5C → ⊥) → 0 < length v → get_or t 0 0 ≡ get_or v 0 0 → equals v (chars_bytes t 0) ≡ equals (drop 1 v) (chars_bytes (drop 1 t) 0)
head_same t [] e h l q = absurd (omega arith)
head_same [] (y ∷ v) e h l q = absurd (let z = char_in [] in omega arith)
head_same (x ∷ t) (y ∷ v) e h l q =
    ap (equals (y ∷ v)) (bytes_step (x ∷ t) 1 e (λ z. omega arith) ∙ ap (λ (p : List ℕ). p ++ chars_bytes t 0) (plain_bytes x t h))
    ∙ head_is x y v (chars_bytes t 0) ∙ sym (yes! _ (eq-eqb y x (sym q)) refl)

module _ (s n : List ℕ) (i c : ℕ) (inv : equals n (chars_bytes s 0) ≡ equals (drop i n) (chars_bytes (drop i s) 0)) where
  pub name_left : i < length n → 0 < length (drop i n)
  name_left l = let z : length (drop i n) ≡ length n - i = length-drop i n in omega arith

  name_head : get_or n i 0 ≡ get_or (drop i n) 0 0
  name_head = head_at n i (get_or n i 0) refl

  pub name_decoded : (t v : List ℕ) (r : Bool) → t ≡ drop i s → v ≡ drop i n → r ≡ equals v (chars_bytes t 0) → r ≡ equals n (chars_bytes s 0)
  name_decoded t v r et ev e = e ∙ ap (λ (x : List ℕ). equals x (chars_bytes t 0)) ev ∙ ap (λ (x : List ℕ). equals (drop i n) (chars_bytes x 0)) et ∙ sym inv

  module _ (l : i < length n) (ec : c ≡ get_or s i 0) where
    pub name_low : c < 0x20 → false ≡ equals n (chars_bytes s 0)
    name_low h = sym (inv ∙ none_stop (drop i s) (drop i n) (sym (at_low s i c ec h)) (name_left l))

    pub name_quote : c ≡ 0x22 → false ≡ equals n (chars_bytes s 0)
    name_quote h = sym (inv ∙ none_stop (drop i s) (drop i n) (sym (at_quote s i c ec h)) (name_left l))

    module _ (b : c ≡ 0x5C → ⊥) where
      not_back : get_or (drop i s) 0 0 ≡ 0x5C → ⊥
      not_back q = b (head_at s i c ec ∙ q)

      pub name_other : (c ≡ get_or n i 0 → ⊥) → false ≡ equals n (chars_bytes s 0)
      name_other d = sym (inv ∙ head_other (drop i s) (drop i n) not_back (name_left l) (λ q. d (head_at s i c ec ∙ q ∙ sym name_head)))

      pub name_again : 0x20 ≤ c → (c ≡ 0x22 → ⊥) → c ≡ get_or n i 0 → equals n (chars_bytes s 0) ≡ equals (drop (i + 1) n) (chars_bytes (drop (i + 1) s) 0)
      name_again h q d =
          inv ∙ head_same (drop i s) (drop i n) (at_one s i c ec h q b) not_back (name_left l) (sym (head_at s i c ec) ∙ d ∙ name_head)
          ∙ ap (λ (x : List ℕ). equals x (chars_bytes (drop 1 (drop i s)) 0)) (drop-drop 1 i n) ∙ ap (λ (x : List ℕ). equals (drop (i + 1) n) (chars_bytes x 0)) (drop-drop 1 i s)

  pub name_done : (w : ℕ) → length n ≤ i → w ≡ char_wide (drop i s) → eqb w 0 ≡ equals n (chars_bytes s 0)
  name_done w l e = go w e ∙ sym (inv ∙ ap (λ (x : List ℕ). equals x (chars_bytes (drop i s) 0)) (drop_of_length-le n l))
    where
      go : (w : ℕ) → w ≡ char_wide (drop i s) → eqb w 0 ≡ equals [] (chars_bytes (drop i s) 0)
      go zero e = sym (ap (equals []) (bytes_stop (drop i s) (sym e)) ∙ no_more)
      go (suc w) e = ne_eqb (suc w) 0 (λ z. omega arith) ∙ sym (some_more (drop i s) (suc w) e (λ z. omega arith))

pub name_is : (s t n : List ℕ) (f : Bool) → t ≡ drop 1 s → f ≡ equals n (chars_bytes t 0) → f ≡ equals n (string_bytes s)
unfolding string_bytes
name_is s t n f d e = e ∙ ap (λ (x : List ℕ). equals n (chars_bytes x 0)) d
