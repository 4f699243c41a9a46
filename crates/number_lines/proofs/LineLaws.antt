-- Laws of a line of numbers.
use mathlib.Core.Path.{◌≡◌, refl, sym, ap, ◌∙◌}
use mathlib.Core.Bool.{Bool, true, false, cond}
use mathlib.Core.List.{List, [], ◌∷◌, ◌++◌, append_assoc}
use Prim.Native.Nat.{ℕ, suc, ◌+◌, ◌-◌, ◌≤◌, ◌<◌, ◌^◌}
use native.Mathlib.Omega.{arith}
use lib.Dec.{leb}
use borrow.Author.Tests.{le-leb, lt-leb, leb-true, leb-false}
use lib.Seq.{length-take-le}
use Rattle.std.proofs.lemmas.List.{drop_all, drop_more}
use lib.ListN.{length, take, drop, get_or, replicate, length-append, length-replicate}
use Rattle.spec_base.specs.base.Put.{put, put_at, placed, placed_length, placed_at, place_after}
use Rattle.spec_base.proofs.base.PutLaws.{put_at_front, put_at_put, put_at_nil, then_put, at_yes, after_yes, placed_yes, placed_no, length_yes, length_no, tail_back, length_put}
use Rattle.spec_base.proofs.base.PartLaws.{rest_length}
use Rattle.spec_time.specs.caption_stamp.Write.{pad, width}
use Rattle.spec_time.proofs.caption_stamp.Pad.{pad_length}
use Rattle.spec_json.specs.json.Quote.{decimal}
use Rattle.number_lines.specs.Line.{spaced, numbers_text, line_text, printed_length}

-- a piece behind a piece
pub put_at_then : (at : ℕ) (v w l : List ℕ) → at ≤ length l → put_at (at + length v) w (put_at at v l) ≡ put_at at (v ++ w) l
put_at_then at v w l h =
    let n : at + length v ≡ length (take at l ++ v) = sym (length-append (take at l) v ∙ ap (λ (k : ℕ). k + length v) (length-take-le at l h)) in
    ap (put_at (at + length v) w) (put_at_front v l at h)
    ∙ put_at_put (at + length v) (take at l ++ v) w l n
    ∙ ap (λ (x : List ℕ). put x l) (append_assoc (take at l) v w)
    ∙ sym (put_at_front (v ++ w) l at h)

pub length_put_at : (at : ℕ) (v l : List ℕ) → at + length v ≤ length l → length (put_at at v l) ≡ length l
length_put_at at v l h =
    let n : length (take at l ++ v) ≡ at + length v = length-append (take at l) v ∙ ap (λ (k : ℕ). k + length v) (length-take-le at l (omega arith)) in
    ap length (put_at_front v l at (omega arith)) ∙ length_put (take at l ++ v) l (omega arith)

pub spaced_length : (n : ℕ) → length (spaced n) ≡ suc (width n)
unfolding spaced decimal
spaced_length n = ap suc (pad_length (width n) n)

numbers_cons : (ns : List ℕ) (i : ℕ) → i < length ns → numbers_text (drop i ns) ≡ spaced (get_or ns i 0) ++ numbers_text (drop (i + 1) ns)
unfolding numbers_text
numbers_cons ns i h = ap numbers_text (drop_more ns i 0 h)

numbers_length : (ns : List ℕ) (i : ℕ) → i < length ns → length (numbers_text (drop i ns)) ≡ suc (width (get_or ns i 0)) + length (numbers_text (drop (i + 1) ns))
numbers_length ns i h =
    ap length (numbers_cons ns i h) ∙ length-append (spaced (get_or ns i 0)) (numbers_text (drop (i + 1) ns))
    ∙ ap (λ (k : ℕ). k + length (numbers_text (drop (i + 1) ns))) (spaced_length (get_or ns i 0))

numbers_none : (ns : List ℕ) (i : ℕ) → length ns ≤ i → numbers_text (drop i ns) ≡ []
unfolding numbers_text
numbers_none ns i h = ap numbers_text (drop_all i ns h)

-- ---- a number behind a space
spaced_from : (at from n : ℕ) (l : List ℕ) → at + length (spaced n) ≤ length l → from ≡ place_after at (32 ∷ []) l → from ≡ at + 1
spaced_from at from n l h e = e ∙ after_yes at (32 ∷ []) l (omega (arith, spaced_length n))

pub spaced_room : (at from n : ℕ) (l l₁ : List ℕ) → at + length (spaced n) ≤ length l → from ≡ place_after at (32 ∷ []) l → l₁ ≡ placed_at at (32 ∷ []) l → from ≤ length l₁
spaced_room at from n l l₁ h e f =
    let a : from ≡ at + 1 = spaced_from at from n l h e in
    let b : at + 1 ≤ length l = omega (arith, spaced_length n) in
    let d : length l₁ ≡ length l = ap length (f ∙ at_yes at (32 ∷ []) l b) ∙ length_put_at at (32 ∷ []) l b in
    omega arith

pub spaced_after : (at from w n : ℕ) (l : List ℕ) → at + length (spaced n) ≤ length l → w ≡ width n → from ≡ place_after at (32 ∷ []) l → from + w ≡ at + length (spaced n)
spaced_after at from w n l h q e = let a : from ≡ at + 1 = spaced_from at from n l h e in omega (arith, spaced_length n)

pub spaced_sum : (at from w n : ℕ) (l : List ℕ) → at + length (spaced n) ≤ length l → w ≡ width n → from ≡ place_after at (32 ∷ []) l → length l < 2 ^ 64 → from + w < 2 ^ 64
spaced_sum at from w n l h q e b = let a : from + w ≡ at + length (spaced n) = spaced_after at from w n l h q e in omega arith

pub spaced_put : (at from w n : ℕ) (l l₁ t : List ℕ) → at + length (spaced n) ≤ length l → w ≡ width n → from ≡ place_after at (32 ∷ []) l → l₁ ≡ placed_at at (32 ∷ []) l
    → t ≡ placed (pad w n) (take (length l₁ - from) (drop from l₁)) → take from l₁ ++ (t ++ drop (length l₁ - from) (drop from l₁)) ≡ put_at at (spaced n) l
unfolding spaced decimal
spaced_put at from w n l l₁ t h q e f g =
    let s : suc (length (pad (width n) n)) ≡ suc (width n) = ap suc (pad_length (width n) n) in
    let b : at + 1 ≤ length l = omega arith in
    let a : from ≡ at + 1 = e ∙ after_yes at (32 ∷ []) l b in
    let p : l₁ ≡ put_at at (32 ∷ []) l = f ∙ at_yes at (32 ∷ []) l b in
    let d : length l₁ ≡ length l = ap length p ∙ length_put_at at (32 ∷ []) l b in
    let k : length (pad w n) ≡ w = pad_length w n in
    let r : length (pad w n) ≤ length (take (length l₁ - from) (drop from l₁)) = omega (arith, rest_length from l₁) in
    tail_back from (pad w n) l₁ t (g ∙ placed_yes (pad w n) _ r)
    ∙ ap (λ (x : List ℕ). put_at from (pad w n) x) p
    ∙ ap (λ (x : ℕ). put_at x (pad w n) (put_at at (32 ∷ []) l)) a
    ∙ ap (λ (x : ℕ). put_at (at + 1) (pad x n) (put_at at (32 ∷ []) l)) q
    ∙ put_at_then at (32 ∷ []) (pad (width n) n) l (omega arith)

-- ---- all numbers
pub next_room : (p x i : ℕ) (ns out : List ℕ) → p + length (numbers_text (drop i ns)) ≤ length out → i < length ns → x ≡ get_or ns i 0 → p + length (spaced x) ≤ length out
next_room p x i ns out h s e =
    let k : length (spaced x) ≡ suc (width (get_or ns i 0)) = spaced_length x ∙ ap (λ (y : ℕ). suc (width y)) e in
    omega (arith, numbers_length ns i s)

pub next_place : (p q x m i : ℕ) (ns : List ℕ) → p + length (numbers_text (drop i ns)) ≡ m → i < length ns → x ≡ get_or ns i 0 → q ≡ p + length (spaced x)
    → q + length (numbers_text (drop (i + 1) ns)) ≡ m
next_place p q x m i ns h s e a =
    let k : length (spaced x) ≡ suc (width (get_or ns i 0)) = spaced_length x ∙ ap (λ (y : ℕ). suc (width y)) e in
    omega (arith, numbers_length ns i s)

pub next_fits : (p q x i : ℕ) (ns out out₁ : List ℕ) → p + length (numbers_text (drop i ns)) ≤ length out → i < length ns → x ≡ get_or ns i 0 → q ≡ p + length (spaced x)
    → out₁ ≡ put_at p (spaced x) out → q + length (numbers_text (drop (i + 1) ns)) ≤ length out₁
next_fits p q x i ns out out₁ h s e a b =
    let k : length out₁ ≡ length out = ap length b ∙ length_put_at p (spaced x) out (next_room p x i ns out h s e) in
    let n : q + length (numbers_text (drop (i + 1) ns)) ≡ p + length (numbers_text (drop i ns)) = next_place p q x _ i ns refl s e a in
    omega arith

pub next_long : (p x i : ℕ) (ns out out₀ out₁ : List ℕ) → p + length (numbers_text (drop i ns)) ≤ length out → i < length ns → x ≡ get_or ns i 0 → out₁ ≡ put_at p (spaced x) out
    → length out ≡ length out₀ → length out₁ ≡ length out₀
next_long p x i ns out out₀ out₁ h s e b l = ap length b ∙ length_put_at p (spaced x) out (next_room p x i ns out h s e) ∙ l

pub next_put : (p q x i : ℕ) (ns out out₁ v : List ℕ) → p + length (numbers_text (drop i ns)) ≤ length out → put_at p (numbers_text (drop i ns)) out ≡ v → i < length ns → x ≡ get_or ns i 0
    → q ≡ p + length (spaced x) → out₁ ≡ put_at p (spaced x) out → put_at q (numbers_text (drop (i + 1) ns)) out₁ ≡ v
next_put p q x i ns out out₁ v r h s e a b =
    ap (λ (y : List ℕ). put_at q (numbers_text (drop (i + 1) ns)) y) b
    ∙ ap (λ (y : ℕ). put_at y (numbers_text (drop (i + 1) ns)) (put_at p (spaced x) out)) a
    ∙ put_at_then p (spaced x) (numbers_text (drop (i + 1) ns)) out (omega arith)
    ∙ ap (λ (y : ℕ). put_at p (spaced y ++ numbers_text (drop (i + 1) ns)) out) e
    ∙ ap (λ (y : List ℕ). put_at p y out) (sym (numbers_cons ns i s))
    ∙ h

pub last_place : (p m i : ℕ) (ns : List ℕ) → length ns ≤ i → p + length (numbers_text (drop i ns)) ≡ m → p ≡ m
last_place p m i ns h e = let k : length (numbers_text (drop i ns)) ≡ 0 = ap length (numbers_none ns i h) in omega arith

pub last_put : (p i : ℕ) (ns out v : List ℕ) → length ns ≤ i → put_at p (numbers_text (drop i ns)) out ≡ v → out ≡ v
last_put p i ns out v h e = sym (put_at_nil p out) ∙ ap (λ (y : List ℕ). put_at p y out) (sym (numbers_none ns i h)) ∙ e

-- ---- whether they fit
fewer : (a b k : ℕ) → k ≤ b → leb (k + a) b ≡ leb a (b - k)
fewer a b k h = go (leb a (b - k)) refl
  where
    go : (t : Bool) → leb a (b - k) ≡ t → leb (k + a) b ≡ t
    go true e = le-leb (k + a) b (omega (arith, leb-true a (b - k) e))
    go false e = lt-leb (k + a) b (omega (arith, leb-false a (b - k) e))

pub fits_next : (left w x i : ℕ) (r : Bool) (ns : List ℕ) → leb (length (numbers_text (drop i ns))) left ≡ r → i < length ns → x ≡ get_or ns i 0 → w ≡ width x → w < left
    → leb (length (numbers_text (drop (i + 1) ns))) (left - 1 - w) ≡ r
fits_next left w x i r ns h s e f l =
    let n : width (get_or ns i 0) ≡ w = sym (f ∙ ap width e) in
    let k : length (numbers_text (drop i ns)) ≡ suc w + length (numbers_text (drop (i + 1) ns)) = omega (arith, numbers_length ns i s) in
    let z : left - 1 - w ≡ left - suc w = omega arith in
    ap (leb (length (numbers_text (drop (i + 1) ns)))) z
    ∙ sym (fewer (length (numbers_text (drop (i + 1) ns))) left (suc w) l)
    ∙ ap (λ (y : ℕ). leb y left) (sym k)
    ∙ h

pub fits_not : (left w x i : ℕ) (r : Bool) (ns : List ℕ) → leb (length (numbers_text (drop i ns))) left ≡ r → i < length ns → x ≡ get_or ns i 0 → w ≡ width x → left ≤ w → false ≡ r
fits_not left w x i r ns h s e f l =
    let n : width (get_or ns i 0) ≡ w = sym (f ∙ ap width e) in
    sym (lt-leb (length (numbers_text (drop i ns))) left (omega (arith, numbers_length ns i s))) ∙ h

pub fits_last : (left i : ℕ) (r : Bool) (ns : List ℕ) → leb (length (numbers_text (drop i ns))) left ≡ r → length ns ≤ i → true ≡ r
fits_last left i r ns h e =
    let k : length (numbers_text (drop i ns)) ≡ 0 = ap length (numbers_none ns i e) in
    sym (le-leb (length (numbers_text (drop i ns))) left (omega arith)) ∙ h

-- ---- the line
line_length_lem : (name ns : List ℕ) → length (line_text name ns) ≡ length name + length (numbers_text ns) + 1
unfolding line_text
line_length_lem name ns = length-append (name ++ numbers_text ns) (0x0A ∷ []) ∙ ap (λ (k : ℕ). k + 1) (length-append name (numbers_text ns))

pub name_after : (a : ℕ) (name ns l : List ℕ) → length (line_text name ns) ≤ length l → a ≡ placed_length name l → a ≡ length name
name_after a name ns l h e = e ∙ length_yes name l (omega (arith, line_length_lem name ns))

name_put : (name ns l l₁ : List ℕ) → length (line_text name ns) ≤ length l → l₁ ≡ placed name l → l₁ ≡ put name l
name_put name ns l l₁ h e = e ∙ placed_yes name l (omega (arith, line_length_lem name ns))

name_long : (name ns l l₁ : List ℕ) → length (line_text name ns) ≤ length l → l₁ ≡ placed name l → length l₁ ≡ length l
name_long name ns l l₁ h e = ap length (name_put name ns l l₁ h e) ∙ length_put name l (omega (arith, line_length_lem name ns))

pub numbers_room : (a : ℕ) (name ns l l₁ : List ℕ) → length (line_text name ns) ≤ length l → a ≡ placed_length name l → l₁ ≡ placed name l → a + length (numbers_text ns) ≤ length l₁
numbers_room a name ns l l₁ h e f =
    let x = name_after a name ns l h e in
    let y = name_long name ns l l₁ h f in
    omega (arith, line_length_lem name ns)

numbers_put : (a : ℕ) (name ns l l₁ l₂ : List ℕ) → length (line_text name ns) ≤ length l → a ≡ placed_length name l → l₁ ≡ placed name l → l₂ ≡ put_at a (numbers_text ns) l₁
    → l₂ ≡ put (name ++ numbers_text ns) l
numbers_put a name ns l l₁ l₂ h e f g = then_put a name (numbers_text ns) l l₁ l₂ (name_put name ns l l₁ h f) (name_after a name ns l h e) g

pub whole_after : (a b r : ℕ) (name ns l l₁ l₂ : List ℕ) → length (line_text name ns) ≤ length l → a ≡ placed_length name l → l₁ ≡ placed name l
    → b ≡ a + length (numbers_text ns) → l₂ ≡ put_at a (numbers_text ns) l₁ → r ≡ place_after b (10 ∷ []) l₂ → r ≡ length (line_text name ns)
whole_after a b r name ns l l₁ l₂ h e f p g q =
    let x = name_after a name ns l h e in
    let n : length (name ++ numbers_text ns) ≡ length name + length (numbers_text ns) = length-append name (numbers_text ns) in
    let y : length l₂ ≡ length l = ap length (numbers_put a name ns l l₁ l₂ h e f g) ∙ length_put (name ++ numbers_text ns) l (omega (arith, line_length_lem name ns)) in
    let z : b + 1 ≤ length l₂ = omega (arith, line_length_lem name ns) in
    q ∙ after_yes b (10 ∷ []) l₂ z ∙ omega (arith, line_length_lem name ns)

pub whole_put : (a b : ℕ) (name ns l l₁ l₂ l₃ : List ℕ) → length (line_text name ns) ≤ length l → a ≡ placed_length name l → l₁ ≡ placed name l
    → b ≡ a + length (numbers_text ns) → l₂ ≡ put_at a (numbers_text ns) l₁ → l₃ ≡ placed_at b (10 ∷ []) l₂ → l₃ ≡ put (line_text name ns) l
unfolding line_text
whole_put a b name ns l l₁ l₂ l₃ h e f p g q =
    let k : length ((name ++ numbers_text ns) ++ (0x0A ∷ [])) ≡ length (name ++ numbers_text ns) + 1 = length-append (name ++ numbers_text ns) (0x0A ∷ []) in
    let n : length (name ++ numbers_text ns) ≡ length name + length (numbers_text ns) = length-append name (numbers_text ns) in
    let x : a ≡ length name = e ∙ length_yes name l (omega arith) in
    let w : l₁ ≡ put name l = f ∙ placed_yes name l (omega arith) in
    let v : l₂ ≡ put (name ++ numbers_text ns) l = then_put a name (numbers_text ns) l l₁ l₂ w x g in
    let y : length l₂ ≡ length l = ap length v ∙ length_put (name ++ numbers_text ns) l (omega arith) in
    let z : b + 1 ≤ length l₂ = omega arith in
    then_put b (name ++ numbers_text ns) (10 ∷ []) l l₂ l₃ v (omega arith) (q ∙ at_yes b (10 ∷ []) l₂ z)

-- ---- all or nothing
pub line_room : (f : Bool) (name ns l : List ℕ) → length name < length l → f ≡ leb (length (numbers_text ns)) (length l - length name - 1) → f ≡ true → length (line_text name ns) ≤ length l
line_room f name ns l h e t = omega (arith, line_length_lem name ns, leb-true (length (numbers_text ns)) (length l - length name - 1) (sym e ∙ t))

pub line_yes_length : (f : Bool) (r : ℕ) (name ns l : List ℕ) → length name < length l → f ≡ leb (length (numbers_text ns)) (length l - length name - 1) → f ≡ true
    → r ≡ length (line_text name ns) → r ≡ placed_length (line_text name ns) l
line_yes_length f r name ns l h e t q = q ∙ sym (length_yes (line_text name ns) l (line_room f name ns l h e t))

pub line_yes : (f : Bool) (name ns l l₁ : List ℕ) → length name < length l → f ≡ leb (length (numbers_text ns)) (length l - length name - 1) → f ≡ true
    → l₁ ≡ put (line_text name ns) l → l₁ ≡ placed (line_text name ns) l
line_yes f name ns l l₁ h e t q = q ∙ sym (placed_yes (line_text name ns) l (line_room f name ns l h e t))

line_over : (f : Bool) (name ns l : List ℕ) → length name < length l → f ≡ leb (length (numbers_text ns)) (length l - length name - 1) → f ≡ false → length l < length (line_text name ns)
line_over f name ns l h e t = omega (arith, line_length_lem name ns, leb-false (length (numbers_text ns)) (length l - length name - 1) (sym e ∙ t))

pub line_no_length : (f : Bool) (name ns l : List ℕ) → length name < length l → f ≡ leb (length (numbers_text ns)) (length l - length name - 1) → f ≡ false
    → 0 ≡ placed_length (line_text name ns) l
line_no_length f name ns l h e t = sym (length_no (line_text name ns) l (line_over f name ns l h e t))

pub line_no : (f : Bool) (name ns l : List ℕ) → length name < length l → f ≡ leb (length (numbers_text ns)) (length l - length name - 1) → f ≡ false
    → l ≡ placed (line_text name ns) l
line_no f name ns l h e t = sym (placed_no (line_text name ns) l (line_over f name ns l h e t))

pub short_length : (name ns l : List ℕ) → length l ≤ length name → 0 ≡ placed_length (line_text name ns) l
short_length name ns l h = sym (length_no (line_text name ns) l (omega (arith, line_length_lem name ns)))

pub short_line : (name ns l : List ℕ) → length l ≤ length name → l ≡ placed (line_text name ns) l
short_line name ns l h = sym (placed_no (line_text name ns) l (omega (arith, line_length_lem name ns)))

-- ---- printed
pub printed : (r : ℕ) (name ns : List ℕ) → r ≡ placed_length (line_text name ns) (replicate 512 0) → r ≡ printed_length name ns
unfolding placed_length printed_length
printed r name ns e = e ∙ ap (λ (k : ℕ). cond (leb (length (line_text name ns)) k) (length (line_text name ns)) 0) (length-replicate {A = ℕ} 512 0)
