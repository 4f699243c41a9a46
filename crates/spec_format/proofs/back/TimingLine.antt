-- A timing line that was written, read again: the times, and what is trailing. The start may have 9,999 hours, the end as many as its kind reads again.
use mathlib.Core.Path.{◌≡◌, refl, sym, ap, subst, ◌∙◌}
use mathlib.Core.Bool.{true, false}
use mathlib.Core.Logic.{◌⊎◌, inl, inr}
use mathlib.Core.List.{List, [], ◌∷◌, ◌++◌, append_assoc, append-nil}
use Prim.Native.Nat.{ℕ, zero, suc, ◌+◌, ◌*◌, ◌/◌, ◌%◌, ◌≤◌, ◌<◌}
use native.Mathlib.Omega.{arith}
use borrow.Author.Tests.{lt-ltb, le-ltb, lt-leb, ne_eqb}
use lib.Seq.{take_at, drop_at}
use lib.ListN.{length, take, drop, length-append}
use Rattle.std.specs.Prelude.{Option}
use Rattle.spec_text.specs.pattern.Find.{starts, first, contains, up_to, past}
use Rattle.spec_text.specs.whitespace.White.{white, white_high, trim_head, trim_tail, trim}
use Rattle.spec_text.specs.text.Line.{text_of, terminator_of, has_lf}
use Rattle.spec_text.specs.unicode.Encode.{Scalar}
use Rattle.spec_text.proofs.unicode.Encoding.{head_white, head_other}
use Rattle.spec_text.proofs.unicode.Trailing.{enc_1, tail_white}
use Rattle.spec_time.specs.declared.caption_stamp.Stamp.{Stamp}
use Rattle.spec_time.specs.caption_time.Kind.{kind_bad, units_of, fraction_digits, hour_digits}
use Rattle.spec_time.specs.caption_stamp.Read.{stamp, time_in}
use Rattle.spec_time.specs.caption_stamp.Write.{pad, widest, text_with, time_text}
use Rattle.spec_time.proofs.caption_stamp.Written.{text_some, text_10}
use Rattle.spec_caption.specs.caption_fate.Says.{cue}
use Rattle.spec_cue.specs.block_timing.Style.{end_in, stamps_in, style_of}
use Rattle.spec_cue.specs.block_timing.Arrow.{arrow, after_arrow}
use Rattle.spec_cue.specs.block_cue.Block.{written_arrow, block_frame, block_cue, both_say, end_text, trailing, timing_line_says, says}

-- ---- the bytes of a written time: digits, `:`, and `,` or `.`
abbrev pub Plain : List ℕ → Type 0
Plain [] = Unit {0}
Plain (b ∷ s) = ((44 ≤ b) × ((b ≤ 58) × (b ≡ 45 → ⊥))) × Plain s

plain_append : (xs ys : List ℕ) → Plain xs → Plain ys → Plain (xs ++ ys)
plain_append [] ys p q = q
plain_append (x ∷ xs) ys p q = (p.0, plain_append xs ys p.1 q)

plain_pad : (k n : ℕ) → Plain (pad k n)
unfolding pad
plain_pad zero n = tt
plain_pad (suc k) n = plain_append (pad k (n / 10)) ((48 + n % 10) ∷ []) (plain_pad k (n / 10)) ((omega arith, (omega arith, λ e. omega arith)), tt)

plain_part : (c k n : ℕ) → 44 ≤ c → c ≤ 58 → (c ≡ 45 → ⊥) → Plain (c ∷ pad k n)
plain_part c k n a b d = ((a, (b, d)), plain_pad k n)

-- a comma or a point
abbrev pub TimeMark : ℕ → Type 0
TimeMark k = (k ≡ 44) ⊎ (k ≡ 46)

plain_mark : (k frac n : ℕ) → TimeMark k → Plain (k ∷ pad frac n)
plain_mark k frac n (inl e) = plain_part k frac n (omega (arith, e)) (omega (arith, e)) (λ q. omega (arith, e, q))
plain_mark k frac n (inr e) = plain_part k frac n (omega (arith, e)) (omega (arith, e)) (λ q. omega (arith, e, q))

plain_with : (U frac least k units : ℕ) → TimeMark k → Plain (text_with U frac least k units)
unfolding text_with
plain_with U frac least k units hk =
    let h = units / U / 60 / 60 in
    let q1 : List ℕ = pad (widest least h) h in
    let q2 : List ℕ = 58 ∷ pad 2 (units / U / 60 % 60) in
    let q3 : List ℕ = 58 ∷ pad 2 (units / U % 60) in
    let q4 : List ℕ = k ∷ pad frac (units % U) in
    let p2 : Plain q2 = plain_part 58 2 _ (omega arith) (omega arith) (λ e. omega arith) in
    let p3 : Plain q3 = plain_part 58 2 _ (omega arith) (omega arith) (λ e. omega arith) in
    plain_append (q1 ++ q2 ++ q3) q4 (plain_append (q1 ++ q2) q3 (plain_append q1 q2 (plain_pad (widest least h) h) p2) p3) (plain_mark k frac (units % U) hk)

pub plain_text : (kind : ℕ) → kind_bad kind ≡ false → (k : ℕ) → TimeMark k → (units : ℕ) → Plain (time_text kind k units)
plain_text kind g k hk units = subst Plain (sym (text_some kind k units g)) (plain_with (units_of kind) (fraction_digits kind) (hour_digits kind) k units hk)

-- ---- what a kind of blocks brings: the marks that it reads, written times read back, and where an end that is written ends
pub record Blocked (kind : ℕ) (Mark : ℕ → Type 0) (most : ℕ) : Type 0 where
  pub good : kind_bad kind ≡ false
  pub either : (k : ℕ) → Mark k → TimeMark k
  pub seen : (n k : ℕ) (text : List ℕ) → time_in kind text ≡ stamp n k → Mark k
  pub back : (k : ℕ) → Mark k → (n : ℕ) → n < 36000000 * units_of kind → time_in kind (time_text kind k n) ≡ stamp n k
  pub most_low : most ≤ 36000000 * units_of kind
  pub ends : (k : ℕ) → Mark k → (n : ℕ) → n < most → (r : List ℕ) → end_in kind (time_text kind k n ++ drop (end_in kind r) r) ≡ length (time_text kind k n)

-- ---- the arrow behind them
first_plain : (xs r : List ℕ) → Plain xs → first arrow (xs ++ r) ≡ length xs + first arrow r
unfolding first starts
first_plain [] r p = omega arith
first_plain (b ∷ xs) r p = rw (ne_eqb 45 b (λ e. p.0.1.1 (sym e))) (omega (arith, first_plain xs r p.1))

first_arrow : (r : List ℕ) → first arrow (written_arrow ++ r) ≡ 1
unfolding first starts
first_arrow r = refl

-- ---- White_Space about them
plain_white : (u : ℕ) → 44 ≤ u → u ≤ 58 → white u ≡ false
unfolding white white_high
plain_white u l h =
    rw (le-ltb u 9 (omega arith), lt-leb u 13 (omega arith), ne_eqb u 32 (λ e. omega arith), ne_eqb u 0x85 (λ e. omega arith), ne_eqb u 0xA0 (λ e. omega arith), ne_eqb u 0x1680 (λ e. omega arith), lt-ltb u 0x2000 (omega arith))

scalar : (u : ℕ) → u ≤ 58 → Scalar u
scalar u h = record { below = omega arith; plain = λ a b. omega arith }

head_plain : (xs r : List ℕ) → Plain xs → 0 < length xs → trim_head (xs ++ r) ≡ xs ++ r
head_plain [] r p h = absurd (omega arith)
head_plain (u ∷ xs) r p h =
    subst (λ (e : List ℕ). trim_head (e ++ (xs ++ r)) ≡ e ++ (xs ++ r)) (sym (enc_1 u (omega (arith, p.0.1.0))))
    (head_other u (scalar u p.0.1.0) (xs ++ r) (plain_white u p.0.0 p.0.1.0))

space_white : white 32 ≡ true
unfolding white
space_white = refl

head_space : (r : List ℕ) → trim_head (32 ∷ r) ≡ trim_head r
head_space r = subst (λ (e : List ℕ). trim_head (e ++ r) ≡ trim_head r) (sym (enc_1 32 (omega arith))) (head_white 32 (scalar 32 (omega arith)) r space_white)

tail_space : (xs : List ℕ) → trim_tail (xs ++ 32 ∷ []) ≡ trim_tail xs
tail_space xs = subst (λ (e : List ℕ). trim_tail (xs ++ e) ≡ trim_tail xs) (sym (enc_1 32 (omega arith))) (tail_white 32 (scalar 32 (omega arith)) xs space_white)

trim_space : (xs : List ℕ) → Plain xs → 0 < length xs → trim (xs ++ 32 ∷ []) ≡ trim xs
unfolding trim
trim_space xs p h =
    let e : trim_head xs ≡ xs = ap trim_head (sym (append-nil xs)) ∙ head_plain xs [] p h ∙ append-nil xs in
    ap trim_tail (head_plain xs (32 ∷ []) p h) ∙ tail_space xs ∙ ap trim_tail (sym e)

same_trim : (kind : ℕ) (a b : List ℕ) → trim a ≡ trim b → time_in kind a ≡ time_in kind b
unfolding time_in
same_trim kind a b e = rw e

-- ---- the text of a written timing line: start, arrow, end, trailing text
abbrev pub line_text : (kind i j s e : ℕ) → (trailing : List ℕ) → List ℕ
line_text kind i j s e t = time_text kind i s ++ (written_arrow ++ (time_text kind j e ++ t))

module _ (kind : ℕ) (Mark : ℕ → Type 0) (most : ℕ) (K : Blocked kind Mark most) (i j : ℕ) (hi : Mark i) (hj : Mark j) (s e : ℕ) (t : List ℕ) where
  start_plain : Plain (time_text kind i s)
  start_plain = plain_text kind K.good i (K.either i hi) s

  stop_plain : Plain (time_text kind j e)
  stop_plain = plain_text kind K.good j (K.either j hj) e

  written_first : first arrow (line_text kind i j s e t) ≡ length (time_text kind i s) + 1
  written_first = first_plain (time_text kind i s) _ start_plain ∙ ap (λ (n : ℕ). length (time_text kind i s) + n) (first_arrow (time_text kind j e ++ t))

  pub arrow_back : contains arrow (line_text kind i j s e t) ≡ true
  unfolding contains
  arrow_back =
      let n : length (line_text kind i j s e t) ≡ length (time_text kind i s) + (5 + length (time_text kind j e ++ t)) = length-append (time_text kind i s) (written_arrow ++ (time_text kind j e ++ t)) ∙ omega arith in
      lt-ltb (first arrow (line_text kind i j s e t)) (length (line_text kind i j s e t)) (omega (arith, written_first))

  up_back : up_to arrow (line_text kind i j s e t) ≡ time_text kind i s ++ 32 ∷ []
  unfolding up_to
  up_back =
      let r : List ℕ = 45 ∷ 45 ∷ 62 ∷ 32 ∷ (time_text kind j e ++ t) in
      let x : line_text kind i j s e t ≡ (time_text kind i s ++ 32 ∷ []) ++ r = sym (append_assoc (time_text kind i s) (32 ∷ []) r) in
      let n : length (time_text kind i s ++ 32 ∷ []) ≡ length (time_text kind i s) + 1 = length-append (time_text kind i s) (32 ∷ []) in
      rw written_first (ap (take (length (time_text kind i s) + 1)) x ∙ take_at (time_text kind i s ++ 32 ∷ []) r _ n)

  past_back : past arrow (line_text kind i j s e t) ≡ 32 ∷ (time_text kind j e ++ t)
  unfolding past
  past_back =
      let w : List ℕ = 32 ∷ 45 ∷ 45 ∷ 62 ∷ [] in
      let r : List ℕ = 32 ∷ (time_text kind j e ++ t) in
      let x : line_text kind i j s e t ≡ (time_text kind i s ++ w) ++ r = sym (append_assoc (time_text kind i s) w r) in
      let n : length (time_text kind i s ++ w) ≡ length (time_text kind i s) + 1 + 3 = length-append (time_text kind i s) w ∙ omega arith in
      rw written_first (ap (drop (length (time_text kind i s) + 1 + 3)) x ∙ drop_at (time_text kind i s ++ w) r _ n)

  after_back : after_arrow (line_text kind i j s e t) ≡ time_text kind j e ++ t
  unfolding after_arrow
  after_back = ap trim_head past_back ∙ head_space (time_text kind j e ++ t) ∙ head_plain (time_text kind j e) t stop_plain (omega (arith, text_10 kind j e K.good))

  -- the start
  pub start_back : s < 36000000 * units_of kind → time_in kind (up_to arrow (line_text kind i j s e t)) ≡ stamp s i
  start_back h =
      ap (time_in kind) up_back ∙ same_trim kind (time_text kind i s ++ 32 ∷ []) (time_text kind i s) (trim_space (time_text kind i s) start_plain (omega (arith, text_10 kind i s K.good))) ∙ K.back i hi s h

  module _ (h : e < most) (ends : end_in kind (time_text kind j e ++ t) ≡ length (time_text kind j e)) where
    end_back : end_text (style_of kind) (line_text kind i j s e t) ≡ time_text kind j e
    end_back = rw (after_back, ends) (take_at (time_text kind j e) t _ refl)

    -- the end, and what is trailing
    pub stop_back : time_in kind (end_text (style_of kind) (line_text kind i j s e t)) ≡ stamp e j
    stop_back = ap (time_in kind) end_back ∙ K.back j hj e (omega (arith, K.most_low))

    pub trailing_back : trailing (style_of kind) (line_text kind i j s e t) ≡ t
    trailing_back = rw (after_back, ends) (drop_at (time_text kind j e) t _ refl)

    -- a line with that text says the times, and its frame is as it was
    pub line_back : (n : ℕ) (b x a l : List ℕ) → s < 36000000 * units_of kind → text_of l ≡ line_text kind i j s e t → terminator_of l ≡ x
        → timing_line_says (style_of kind) n b l a ≡ says (cue (block_cue n s i e j (stamps_in kind a) (block_frame b t x a)))
    unfolding timing_line_says
    line_back n b x a l hs et ex =
        ap (λ (y : List ℕ). both_say n (stamps_in kind a) (block_frame b (trailing (style_of kind) y) (terminator_of l) a) (time_in kind (up_to arrow y)) (time_in kind (end_text (style_of kind) y))) et ∙
        ap (λ (y : List ℕ). both_say n (stamps_in kind a) (block_frame b (trailing (style_of kind) (line_text kind i j s e t)) y a) (time_in kind (up_to arrow (line_text kind i j s e t))) (time_in kind (end_text (style_of kind) (line_text kind i j s e t)))) ex ∙
        ap (λ (y : List ℕ). both_say n (stamps_in kind a) (block_frame b y x a) (time_in kind (up_to arrow (line_text kind i j s e t))) (time_in kind (end_text (style_of kind) (line_text kind i j s e t)))) trailing_back ∙
        ap (λ (y : Option Stamp). both_say n (stamps_in kind a) (block_frame b t x a) y (time_in kind (end_text (style_of kind) (line_text kind i j s e t)))) (start_back hs) ∙
        ap (λ (y : Option Stamp). both_say n (stamps_in kind a) (block_frame b t x a) (stamp s i) y) stop_back

-- no LF stands in a plain text
pub lf_plain : (xs : List ℕ) → Plain xs → has_lf xs ≡ false
unfolding has_lf
lf_plain [] p = refl
lf_plain (b ∷ xs) p = rw (ne_eqb b 10 (λ e. omega (arith, p.0.0))) (lf_plain xs p.1)
