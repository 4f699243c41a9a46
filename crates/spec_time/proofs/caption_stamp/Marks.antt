-- A comma or a point in an SRT time: it is the time that the text says with one of the two, and with a comma it is document 01's.
use mathlib.Core.Path.{◌≡◌, refl, sym, ap, ◌∙◌}
use mathlib.Core.Bool.{Bool, true, false}
use mathlib.Core.Logic.{◌⊎◌, inl, inr, ⊎_elim}
use mathlib.Core.List.{List, [], ◌∷◌}
use Prim.Native.Nat.{ℕ, zero, suc, ◌+◌, ◌-◌}
use native.Mathlib.Omega.{arith}
use borrow.Author.Tests.{ltb-false}
use lib.ListN.{length, drop, length-drop}
use Rattle.std.specs.Prelude.{Option, Some, None}
use Rattle.spec_base.specs.base.Limits.{most_hours, most_minutes, most_seconds}
use Rattle.spec_text.specs.text.Number.{natural, unsigned, number}
use Rattle.spec_text.specs.whitespace.White.{white, white_high, trim}
use Rattle.spec_text.specs.pattern.Find.{first, contains, up_to, past}
use Rattle.spec_text.specs.pattern.Piece.{comma}
use Rattle.spec_text.proofs.pattern.Free.{Free, none_free}
use Rattle.spec_time.specs.caption_time.Kind.{kind_bad, units_of}
use Rattle.spec_time.specs.caption_stamp.Read.{stamp, colon, mark_in, time_from, time_with, time_in}
use Rattle.spec_time.proofs.caption_stamp.Reading.{not_at}
use Rattle.spec_time.proofs.caption_stamp.ReadFree.{with_free}

-- what stands behind the second colon of a text, trimmed
abbrev tail_of_lem : List ℕ → List ℕ
tail_of_lem text = past colon (past colon (trim text))

-- ---- where no mark stands there is no time
no_number : (k : ℕ) (s : List ℕ) → length s ≡ 0 → number k s ≡ None
unfolding number natural unsigned
no_number k [] e = refl
no_number k (b ∷ s) e = absurd (omega arith)

past_none : (c : ℕ) (s : List ℕ) → contains (c ∷ []) s ≡ false → length (past (c ∷ []) s) ≡ 0
unfolding contains past
past_none c s e = length-drop (first (c ∷ []) s + 1) s ∙ omega (arith, ltb-false (first (c ∷ []) s) (length s) e)

fractionless : (U mark : ℕ) (h m s : Option ℕ) → time_from U mark h m s None ≡ None
fractionless U mark (Some h) (Some m) (Some s) = refl
fractionless U mark (Some h) (Some m) None = refl
fractionless U mark (Some h) None s = refl
fractionless U mark None m s = refl

markless : (U mark : ℕ) (t : List ℕ) → contains (mark ∷ []) (past colon (past colon t)) ≡ false → time_with U mark t ≡ None
unfolding time_with
markless U mark t e =
    let r = past colon (past colon t) in
    ap
    (time_from U mark (number most_hours (up_to colon t)) (number most_minutes (up_to colon (past colon t))) (number most_seconds (up_to (mark ∷ []) r)))
    (no_number (U - 1) (past (mark ∷ []) r) (past_none mark r e)) ∙
    fractionless U mark (number most_hours (up_to colon t)) (number most_minutes (up_to colon (past colon t))) (number most_seconds (up_to (mark ∷ []) r))

-- ---- with a comma, and without a point, it reads as document 01 has it
comma_as_before : (text : List ℕ) → contains comma (tail_of_lem text) ≡ true → time_in 1 text ≡ time_with 1000 44 (trim text)
unfolding time_in mark_in kind_bad units_of
comma_as_before text e = rw e

comma_less : (text : List ℕ) → contains comma (tail_of_lem text) ≡ false → time_in 1 text ≡ time_with 1000 46 (trim text)
unfolding time_in mark_in kind_bad units_of
comma_less text e = rw e

pointless_as_before : (text : List ℕ) → contains (46 ∷ []) (tail_of_lem text) ≡ false → time_in 1 text ≡ time_with 1000 44 (trim text)
pointless_as_before text e = go (contains comma (tail_of_lem text)) refl
  where
    go : (b : Bool) → contains comma (tail_of_lem text) ≡ b → time_in 1 text ≡ time_with 1000 44 (trim text)
    go true c = comma_as_before text c
    go false c = comma_less text c ∙ markless 1000 46 (trim text) e ∙ sym (markless 1000 44 (trim text) c)

-- ---- what reads with one of the marks is read so
comma_read : (n k : ℕ) (text : List ℕ) → time_with 1000 44 (trim text) ≡ stamp n k → time_in 1 text ≡ stamp n k
comma_read n k text e = go (contains comma (tail_of_lem text)) refl
  where
    go : (b : Bool) → contains comma (tail_of_lem text) ≡ b → time_in 1 text ≡ stamp n k
    go true c = comma_as_before text c ∙ e
    go false c = not_at (sym (markless 1000 44 (trim text) c) ∙ e)

drop_free : (c k : ℕ) (s : List ℕ) → Free c s → Free c (drop k s)
drop_free c zero s f = f
drop_free c (suc k) [] f = tt
drop_free c (suc k) (b ∷ s) f = drop_free c k s f.1

past_rest : (c : ℕ) (p s : List ℕ) → Free c s → Free c (past p s)
unfolding past
past_rest c p s f = drop_free c (first p s + length p) s f

comma_other : white 44 ≡ false
unfolding white white_high
comma_other = refl

point_read : (n k : ℕ) (text : List ℕ) → time_with 1000 46 (trim text) ≡ stamp n k → time_in 1 text ≡ stamp n k
point_read n k text e =
    let f : Free 44 (trim text) = with_free 44 (omega arith) comma_other (λ b l h q. omega arith) (λ q. omega arith) (λ q. omega arith) 1000 n 46 k (trim text) (λ q. omega arith) e in
    comma_less text (none_free 44 [] (tail_of_lem text) (past_rest 44 colon (past colon (trim text)) (past_rest 44 colon (trim text) f))) ∙ e

-- an SRT time reads exactly where its text reads with a comma or with a point, and says the same
either_mark : (n k : ℕ) (text : List ℕ)
    → (time_in 1 text ≡ stamp n k → (time_with 1000 44 (trim text) ≡ stamp n k) ⊎ (time_with 1000 46 (trim text) ≡ stamp n k))
    × ((time_with 1000 44 (trim text) ≡ stamp n k) ⊎ (time_with 1000 46 (trim text) ≡ stamp n k) → time_in 1 text ≡ stamp n k)
either_mark n k text = (go (contains comma (tail_of_lem text)) refl, λ o. ⊎_elim (comma_read n k text) (point_read n k text) o)
  where
    go : (b : Bool) → contains comma (tail_of_lem text) ≡ b → time_in 1 text ≡ stamp n k → (time_with 1000 44 (trim text) ≡ stamp n k) ⊎ (time_with 1000 46 (trim text) ≡ stamp n k)
    go true c e = inl (sym (comma_as_before text c) ∙ e)
    go false c e = inr (sym (comma_less text c) ∙ e)
