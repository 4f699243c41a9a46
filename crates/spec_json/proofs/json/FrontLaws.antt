-- A scalar is as wide in the front of a text that holds it.
use Prim.Native.Nat.{ℕ, zero, suc, ◌+◌, ◌-◌, ◌≤◌, ◌<◌}
use mathlib.Core.Path.{◌≡◌, refl, sym, ap, subst, ◌∙◌}
use mathlib.Core.Bool.{Bool, true, false, cond, true≢false}
use mathlib.Core.List.{List, [], ◌∷◌}
use native.Mathlib.Omega.{arith}
use native.Mathlib.Nat.{suc-sub-suc, zero-sub, sub-zero}
use lib.Dec.{eqb, ltb}
use lib.ListN.{length, take, drop}
use lib.Seq.{take-nil, get_or-take}
use Rattle.spec_base.specs.base.Ascii.{ascii}
use Rattle.spec_base.specs.base.Width.{by_width}
use Rattle.spec_text.specs.pattern.Find.{starts}
use Rattle.spec_text.specs.text.Number.{digit}
use Rattle.spec_json.specs.json.Space.{is_space, spaces, more}
use Rattle.spec_json.specs.json.Str.{hex_word, is_high, is_low, pair_follows, unicode_width, unicode_point}
use Rattle.spec_json.specs.json.Num.{digit_run, int_width, minus_width, frac_width, sign_width, signed, is_exp, exp_width, tail_width, number_width}
use Rattle.spec_json.specs.json.Value.{literal_width}

-- a width that is the same in every front that holds it, and one that is so where it is not 0
abbrev pub Keeps : (List ℕ → ℕ) → Type 0
Keeps f = (s : List ℕ) (n : ℕ) → f s ≤ n → f (take n s) ≡ f s

abbrev pub Front : (List ℕ → ℕ) → Type 0
Front f = (s : List ℕ) (n k : ℕ) → f s ≡ suc k → suc k ≤ n → f (take n s) ≡ suc k

pub drop_front : (a n : ℕ) (s : List ℕ) → drop a (take n s) ≡ take (n - a) (drop a s)
drop_front zero n s = ap (λ (j : ℕ). take j s) (sym (sub-zero n))
drop_front (suc a) zero s = ap (λ (j : ℕ). take j (drop (suc a) s)) (sym (zero-sub (suc a)))
drop_front (suc a) (suc n) [] = sym (take-nil (suc n - suc a))
drop_front (suc a) (suc n) (b ∷ s) = drop_front a n s ∙ ap (λ (j : ℕ). take j (drop a s)) (sym (suc-sub-suc n a))

-- the same behind the first `a` bytes
pub keeps_at : (f : List ℕ → ℕ) → Keeps f → (s : List ℕ) (n a : ℕ) → f (drop a s) ≤ n - a → f (drop a (take n s)) ≡ f (drop a s)
keeps_at f keep s n a h = ap f (drop_front a n s) ∙ keep (drop a s) (n - a) h

pub front_at : (f : List ℕ → ℕ) → Front f → (s : List ℕ) (n a k : ℕ) → f (drop a s) ≡ suc k → suc k ≤ n - a → f (drop a (take n s)) ≡ suc k
front_at f front s n a k e h = ap f (drop_front a n s) ∙ front (drop a s) (n - a) k e h

-- ---- white space and digits
pub spaces_keep : Keeps spaces
unfolding spaces
spaces_keep [] n h = ap spaces (take-nil n)
spaces_keep (b ∷ s) zero h = let z : spaces (b ∷ s) ≡ 0 = omega arith in sym z
spaces_keep (b ∷ s) (suc n) h = go (is_space b) h (spaces_keep s n)
  where
    go : (t : Bool) → cond t (suc (spaces s)) 0 ≤ suc n → (spaces s ≤ n → spaces (take n s) ≡ spaces s) → cond t (suc (spaces (take n s))) 0 ≡ cond t (suc (spaces s)) 0
    go true h ih = ap suc (ih (omega arith))
    go false h ih = refl

run_keep : Keeps digit_run
unfolding digit_run
run_keep [] n h = ap digit_run (take-nil n)
run_keep (b ∷ s) zero h = let z : digit_run (b ∷ s) ≡ 0 = omega arith in sym z
run_keep (b ∷ s) (suc n) h = go (digit b) h (run_keep s n)
  where
    go : (t : Bool) → cond t (suc (digit_run s)) 0 ≤ suc n → (digit_run s ≤ n → digit_run (take n s) ≡ digit_run s) → cond t (suc (digit_run (take n s))) 0 ≡ cond t (suc (digit_run s)) 0
    go true h ih = ap suc (ih (omega arith))
    go false h ih = refl

-- ---- numbers
int_keep : Keeps int_width
unfolding int_width digit_run
int_keep [] n h = ap int_width (take-nil n)
int_keep (b ∷ s) zero h = let z : int_width (b ∷ s) ≡ 0 = omega arith in sym z
int_keep (b ∷ s) (suc n) h = go (eqb b 0x30) h
  where
    go : (t : Bool) → cond t 1 (digit_run (b ∷ s)) ≤ suc n → cond t 1 (digit_run (take (suc n) (b ∷ s))) ≡ cond t 1 (digit_run (b ∷ s))
    go true h = refl
    go false h = run_keep (b ∷ s) (suc n) h

pub more_most : (x n : ℕ) → more x ≤ suc n → x ≤ n
more_most zero n h = omega arith
more_most (suc x) n h = omega arith

frac_keep : Keeps frac_width
unfolding frac_width
frac_keep [] n h = ap frac_width (take-nil n)
frac_keep (b ∷ s) zero h = let z : frac_width (b ∷ s) ≡ 0 = omega arith in sym z
frac_keep (b ∷ s) (suc n) h = go (eqb b 0x2E) h
  where
    go : (t : Bool) → cond t (more (digit_run s)) 0 ≤ suc n → cond t (more (digit_run (take n s))) 0 ≡ cond t (more (digit_run s)) 0
    go true h = ap more (run_keep s n (more_most (digit_run s) n h))
    go false h = refl

signed_most : (k r n : ℕ) → signed k r ≤ suc n → r ≤ n - k
signed_most k zero n h = omega arith
signed_most k (suc r) n h = omega arith

signed_none : (k r : ℕ) → signed k r ≤ 1 → 0 ≡ signed k r
signed_none k zero h = refl
signed_none k (suc r) h = absurd (omega arith)

abbrev exp_tail_lem : List ℕ → ℕ
exp_tail_lem s = signed (sign_width s) (digit_run (drop (sign_width s) s))

exp_tail : (s : List ℕ) (n : ℕ) → exp_tail_lem s ≤ suc n → exp_tail_lem (take n s) ≡ exp_tail_lem s
unfolding digit_run
exp_tail s zero h = signed_none (sign_width s) (digit_run (drop (sign_width s) s)) h
exp_tail [] (suc n) h = refl
exp_tail (c ∷ s) (suc n) h =
    ap (signed (sign_width (c ∷ s))) (keeps_at digit_run run_keep (c ∷ s) (suc n) (sign_width (c ∷ s)) (signed_most (sign_width (c ∷ s)) (digit_run (drop (sign_width (c ∷ s)) (c ∷ s))) (suc n) h))

exp_keep : Keeps exp_width
unfolding exp_width is_exp
exp_keep [] n h = ap exp_width (take-nil n)
exp_keep (b ∷ s) zero h = let z : exp_width (b ∷ s) ≡ 0 = omega arith in sym z
exp_keep (b ∷ s) (suc n) h = go (is_exp b) h
  where
    go : (t : Bool) → cond t (exp_tail_lem s) 0 ≤ suc n → cond t (exp_tail_lem (take n s)) 0 ≡ cond t (exp_tail_lem s) 0
    go true h = exp_tail s n h
    go false h = refl

tail_keep : Keeps tail_width
tail_keep s n h =
    let f : frac_width (take n s) ≡ frac_width s = frac_keep s n (omega arith) in
    let e : exp_width (drop (frac_width s) (take n s)) ≡ exp_width (drop (frac_width s) s) = keeps_at exp_width exp_keep s n (frac_width s) (omega arith) in
    ap (λ (x : ℕ). x + exp_width (drop x (take n s))) f ∙ ap (λ (x : ℕ). frac_width s + x) e

pub number_with : (s : List ℕ) (m k : ℕ) → minus_width s ≡ m → int_width (drop m s) ≡ suc k → number_width s ≡ m + suc k + tail_width (drop (m + suc k) s)
unfolding number_width
number_with s m k e f =
    subst (λ (x : ℕ). by_width (int_width (drop x s)) 0 (λ k. x + suc k + tail_width (drop (x + suc k) s)) ≡ m + suc k + tail_width (drop (m + suc k) s)) (sym e)
    (ap (λ (y : ℕ). by_width y 0 (λ k. m + suc k + tail_width (drop (m + suc k) s))) f)

number_none : (s : List ℕ) → int_width (drop (minus_width s) s) ≡ 0 → number_width s ≡ 0
unfolding number_width
number_none s e = ap (λ (y : ℕ). by_width y 0 (λ k. minus_width s + suc k + tail_width (drop (minus_width s + suc k) s))) e

minus_front : (s : List ℕ) (n : ℕ) → 0 < n → minus_width (take n s) ≡ minus_width s
minus_front s n h = ap (λ (b : ℕ). cond (eqb b 0x2D) 1 0) (get_or-take n s 0 0 h)

pub number_front : Front number_width
number_front s n k e h = go (int_width (drop (minus_width s) s)) refl
  where
    go : (j : ℕ) → int_width (drop (minus_width s) s) ≡ j → number_width (take n s) ≡ suc k
    go zero q = absurd (omega (arith, number_none s q))
    go (suc j) q =
        let m = minus_width s in
        let w : number_width s ≡ m + suc j + tail_width (drop (m + suc j) s) = number_with s m j refl q in
        let a : int_width (drop m (take n s)) ≡ suc j = keeps_at int_width int_keep s n m (omega arith) ∙ q in
        let b : tail_width (drop (m + suc j) (take n s)) ≡ tail_width (drop (m + suc j) s) = keeps_at tail_width tail_keep s n (m + suc j) (omega arith) in
        number_with (take n s) m j (minus_front s n (omega arith)) a ∙ ap (λ (x : ℕ). m + suc j + x) b ∙ sym w ∙ e

-- ---- literals
starts_yes : (p s : List ℕ) (n : ℕ) → starts p s ≡ true → length p ≤ n → starts p (take n s) ≡ true
unfolding starts
starts_yes [] s n e h = refl
starts_yes (a ∷ p) [] n e h = absurd (true≢false (sym e))
starts_yes (a ∷ p) (b ∷ s) zero e h = absurd (omega arith)
starts_yes (a ∷ p) (b ∷ s) (suc n) e h = go (eqb a b) e (λ q. starts_yes p s n q (omega arith))
  where
    go : (t : Bool) → cond t (starts p s) false ≡ true → (starts p s ≡ true → starts p (take n s) ≡ true) → cond t (starts p (take n s)) false ≡ true
    go true q ih = ih q
    go false q ih = q

starts_no : (p s : List ℕ) (n : ℕ) → starts p s ≡ false → starts p (take n s) ≡ false
unfolding starts
starts_no [] s n e = e
starts_no (a ∷ p) [] n e = ap (starts (a ∷ p)) (take-nil n)
starts_no (a ∷ p) (b ∷ s) zero e = refl
starts_no (a ∷ p) (b ∷ s) (suc n) e = go (eqb a b) e (starts_no p s n)
  where
    go : (t : Bool) → cond t (starts p s) false ≡ false → (starts p s ≡ false → starts p (take n s) ≡ false) → cond t (starts p (take n s)) false ≡ false
    go true q ih = ih q
    go false q ih = refl

pub literal_keep : Keeps literal_width
unfolding literal_width
literal_keep s n h = go (starts (ascii "true") s) (starts (ascii "null") s) (starts (ascii "false") s) refl refl refl h
  where
    go : (x y z : Bool) → starts (ascii "true") s ≡ x → starts (ascii "null") s ≡ y → starts (ascii "false") s ≡ z → cond x 4 (cond y 4 (cond z 5 0)) ≤ n
        → literal_width (take n s) ≡ cond x 4 (cond y 4 (cond z 5 0))
    go true y z p q r h = rw (starts_yes (ascii "true") s n p h)
    go false true z p q r h = rw (starts_no (ascii "true") s n p, starts_yes (ascii "null") s n q h)
    go false false true p q r h = rw (starts_no (ascii "true") s n p, starts_no (ascii "null") s n q, starts_yes (ascii "false") s n r h)
    go false false false p q r h = rw (starts_no (ascii "true") s n p, starts_no (ascii "null") s n q, starts_no (ascii "false") s n r)

-- ---- a character, and the bytes that it stands for
word_front : (s : List ℕ) (n : ℕ) → 4 ≤ n → hex_word (take n s) ≡ hex_word s
unfolding hex_word
word_front s n h = rw (get_or-take n s 0 0 (omega arith), get_or-take n s 1 0 (omega arith), get_or-take n s 2 0 (omega arith), get_or-take n s 3 0 (omega arith))

word_front_6 : (s : List ℕ) (n : ℕ) → 10 ≤ n → hex_word (drop 6 (take n s)) ≡ hex_word (drop 6 s)
word_front_6 s n h = ap hex_word (drop_front 6 n s) ∙ word_front (drop 6 s) (n - 6) (omega arith)

pair_front : (s : List ℕ) (n : ℕ) → 10 ≤ n → pair_follows (take n s) ≡ pair_follows s
pair_front s n h = rw (get_or-take n s 4 0 (omega arith), get_or-take n s 5 0 (omega arith), word_front_6 s n h)

-- s stands behind `\u`
pub unicode_least : (s : List ℕ) (k : ℕ) → unicode_width s ≡ suc k → 5 ≤ k
unfolding unicode_width
unicode_least s k = go (ltb (hex_word s) 65536) (is_high (hex_word s)) (pair_follows s) (is_low (hex_word s))
  where
    go : (x y z t : Bool) → cond x (cond y (cond z 12 0) (cond t 0 6)) 0 ≡ suc k → 5 ≤ k
    go true true true t w = omega arith
    go true true false t w = absurd (omega arith)
    go true false z true w = absurd (omega arith)
    go true false z false w = omega arith
    go false y z t w = absurd (omega arith)

module _ (s : List ℕ) (n k : ℕ) (e : unicode_width s ≡ suc k) (h : suc k ≤ n + 2) where
  abbrev Wide : (x y z t : Bool) → ℕ
  Wide x y z t = cond x (cond y (cond z 12 0) (cond t 0 6)) 0

  pub unicode_front : unicode_width (take n s) ≡ suc k
  unfolding unicode_width
  unicode_front = go (ltb (hex_word s) 65536) (is_high (hex_word s)) (pair_follows s) (is_low (hex_word s)) refl refl refl refl e
    where
      go : (x y z t : Bool) → ltb (hex_word s) 65536 ≡ x → is_high (hex_word s) ≡ y → pair_follows s ≡ z → is_low (hex_word s) ≡ t → Wide x y z t ≡ suc k → unicode_width (take n s) ≡ suc k
      go true true true t p q r u w = rw (word_front s n (omega arith), pair_front s n (omega arith), p, q, r) w
      go true true false t p q r u w = absurd (omega arith)
      go true false z true p q r u w = absurd (omega arith)
      go true false z false p q r u w = rw (word_front s n (omega arith), p, q, u) w
      go false y z t p q r u w = absurd (omega arith)

  pub point_front : unicode_point (take n s) ≡ unicode_point s
  unfolding unicode_width unicode_point
  point_front = go (ltb (hex_word s) 65536) (is_high (hex_word s)) (pair_follows s) (is_low (hex_word s)) refl refl refl refl e
    where
      go : (x y z t : Bool) → ltb (hex_word s) 65536 ≡ x → is_high (hex_word s) ≡ y → pair_follows s ≡ z → is_low (hex_word s) ≡ t → Wide x y z t ≡ suc k → unicode_point (take n s) ≡ unicode_point s
      go true true true t p q r u w = rw (word_front s n (omega arith), word_front_6 s n (omega arith))
      go true true false t p q r u w = absurd (omega arith)
      go true false z true p q r u w = absurd (omega arith)
      go true false z false p q r u w = rw (word_front s n (omega arith), q)
      go false y z t p q r u w = absurd (omega arith)
