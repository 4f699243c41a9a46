-- RFC 8259, section 6: numbers; and the plain digits that document 02 asks of a known field.
--     number = [ minus ] int [ frac ] [ exp ]      int = zero / ( digit1-9 *DIGIT )
--     frac = decimal-point 1*DIGIT                 exp = e [ minus / plus ] 1*DIGIT
-- The longest number at the head of the text is taken: what may follow one is no digit, point or letter.
use Rattle.std.specs.Prelude.{ℕ, zero, suc, ◌+◌, Bool, true, false, ◌&&◌, ◌||◌, cond, List, [], ◌∷◌, eqb, leb, get_or, drop}
use Rattle.spec_base.specs.base.Width.{by_width}
use Rattle.spec_text.specs.text.Number.{digit, digits, value_from}
use Rattle.spec_text.specs.text.Line.{is_empty}
use Rattle.spec_json.specs.json.Space.{more}

-- how many digits s begins with
unfoldable pub digit_run : List ℕ → ℕ
digit_run [] = 0
digit_run (b ∷ s) = cond (digit b) (suc (digit_run s)) 0

unfoldable pub int_width : List ℕ → ℕ
int_width s = cond (eqb (get_or s 0 0) 0x30) 1 (digit_run s)

abbrev pub minus_width : List ℕ → ℕ
minus_width s = cond (eqb (get_or s 0 0) 0x2D) 1 0

unfoldable pub frac_width : List ℕ → ℕ
frac_width s = cond (eqb (get_or s 0 0) 0x2E) (more (digit_run (drop 1 s))) 0

abbrev pub sign_width : List ℕ → ℕ
sign_width s = cond (eqb (get_or s 0 0) 0x2D) 1 (cond (eqb (get_or s 0 0) 0x2B) 1 0)

abbrev pub signed : (sign run : ℕ) → ℕ
signed k zero = 0
signed k (suc n) = suc (k + suc n)

unfoldable pub is_exp : ℕ → Bool
is_exp b = eqb b 0x65 || eqb b 0x45

unfoldable pub exp_width : List ℕ → ℕ
exp_width s =
    cond (is_exp (get_or s 0 0))
    (signed (sign_width (drop 1 s)) (digit_run (drop (sign_width (drop 1 s)) (drop 1 s))))
    0

abbrev pub tail_width : List ℕ → ℕ
tail_width s = frac_width s + exp_width (drop (frac_width s) s)

unfoldable pub number_width : List ℕ → ℕ
number_width s = by_width (int_width (drop (minus_width s) s)) 0 (λ k. minus_width s + suc k + tail_width (drop (minus_width s + suc k) s))

-- ---- a known field: digits alone, no zero before another digit, at most `most`
unfoldable pub is_plain : (most : ℕ) → List ℕ → Bool
is_plain most [] = false
is_plain most (b ∷ s) = digits (b ∷ s) && (cond (eqb b 0x30) (is_empty s) true && leb (value_from 0 (b ∷ s)) most)
