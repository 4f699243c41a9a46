-- Laws of WebVTT's leaves: the end time, times inside a cue, the first line.
use mathlib.Core.Path.{◌≡◌, refl, sym, ap, ◌∙◌}
use mathlib.Core.Bool.{Bool, true, false, cond}
use mathlib.Core.List.{List, [], ◌∷◌}
use Prim.Native.Nat.{ℕ, zero, suc, ◌+◌, ◌≤◌, ◌<◌}
use native.Mathlib.Omega.{arith}
use borrow.Author.Tests.{eq-eqb, ne_eqb}
use lib.Dec.{eqb}
use lib.ListN.{length, get_or, drop, length-drop}
use Rattle.spec_base.proofs.base.Laws.{yes!, no! }
use Rattle.spec_text.specs.pattern.Find.{starts, first}
use Rattle.spec_text.specs.pattern.Piece.{onto_first}
use Rattle.spec_text.specs.text.Number.{digit}
use Rattle.spec_text.specs.text.Line.{is_empty, text_of, lines_of}
use Rattle.spec_cue.specs.block_timing.Style.{blank_in, vtt_end, stamp_head, stamp_in}
use Rattle.spec_cue.specs.block_timing.Header.{webvtt, parts_word, is_header, nothing_yet, header_due}
use Rattle.spec_text.proofs.text.LineLaws.{empty_zero}

-- ---- blank
pub blank_two : (kind : ℕ) (l t : List ℕ) → (kind ≡ 1 → ⊥) → kind ≡ 2 → t ≡ text_of l → eqb (length t) 0 ≡ blank_in kind l
unfolding blank_in
blank_two kind l t a b e = no! _ (ne_eqb kind 1 a) (yes! _ (eq-eqb kind 2 b) (empty_zero t ∙ ap is_empty e))

-- ---- the end time
pub vtt_space : (r : List ℕ) (a b : ℕ) → a ≡ first (32 ∷ []) r → b ≡ first (9 ∷ []) r → a < b → a ≡ vtt_end r
unfolding vtt_end
vtt_space r a b ea eb h = omega arith

pub vtt_tab : (r : List ℕ) (a b : ℕ) → a ≡ first (32 ∷ []) r → b ≡ first (9 ∷ []) r → b ≤ a → b ≡ vtt_end r
unfolding vtt_end
vtt_tab r a b ea eb h = omega arith

-- ---- times inside a cue
pub head_one : (s : List ℕ) (a b : ℕ) (t : Bool) → a ≡ get_or s 0 0 → a ≡ 60 → b ≡ get_or s 1 0 → t ≡ digit b → t ≡ stamp_head s
unfolding stamp_head
head_one s a b t ea h eb et = yes! _ (eq-eqb (get_or s 0 0) 60 (sym ea ∙ h)) (et ∙ ap digit eb)

pub head_none : (s : List ℕ) (a : ℕ) → a ≡ get_or s 0 0 → (a ≡ 60 → ⊥) → false ≡ stamp_head s
unfolding stamp_head
head_none s a ea h = no! _ (ne_eqb (get_or s 0 0) 60 (λ z. h (ea ∙ z))) refl

at : (s : List ℕ) (i : ℕ) → i < length s → stamp_in (drop i s) ≡ cond (stamp_head (drop i s)) true (stamp_in (drop (suc i) s))
unfolding stamp_in
at [] i h = absurd (omega arith)
at (b ∷ s) zero h = refl
at (b ∷ s) (suc i) h = at s i (omega arith)

pub in_found : (s d : List ℕ) (i : ℕ) (t : Bool) → stamp_in s ≡ stamp_in (drop i s) → i < length s → d ≡ drop i s → t ≡ stamp_head d → t ≡ true → true ≡ stamp_in s
in_found s d i t inv h ed et p = sym (inv ∙ at s i h ∙ sym (yes! _ (ap stamp_head (sym ed) ∙ sym et ∙ p) refl))

pub in_again : (s d : List ℕ) (i : ℕ) (t : Bool) → stamp_in s ≡ stamp_in (drop i s) → i < length s → d ≡ drop i s → t ≡ stamp_head d → t ≡ false → stamp_in s ≡ stamp_in (drop (i + 1) s)
in_again s d i t inv h ed et p =
    let k : suc i ≡ i + 1 = omega arith in
    inv ∙ at s i h ∙ sym (no! _ (ap stamp_head (sym ed) ∙ sym et ∙ p) refl) ∙ ap (λ (j : ℕ). stamp_in (drop j s)) k

none_left : (s : List ℕ) → length s ≡ 0 → stamp_in s ≡ false
unfolding stamp_in
none_left [] e = refl
none_left (b ∷ s) e = absurd (omega arith)

pub in_none : (s : List ℕ) (i : ℕ) → stamp_in s ≡ stamp_in (drop i s) → length s ≤ i → false ≡ stamp_in s
in_none s i inv h = sym (inv ∙ none_left (drop i s) (simp length-drop (omega arith)))

-- ---- the first line
pub word_none : (s : List ℕ) → length s ≡ 0 → true ≡ parts_word s
word_none [] e = refl
word_none (b ∷ s) e = absurd (omega arith)

pub word_space : (s : List ℕ) → (length s ≡ 0 → ⊥) → get_or s 0 0 ≡ 32 → true ≡ parts_word s
word_space [] n e = absurd (n refl)
word_space (b ∷ s) n e = rw (eq-eqb b 32 e)

pub word_tab : (s : List ℕ) → (length s ≡ 0 → ⊥) → (get_or s 0 0 ≡ 32 → ⊥) → eqb (get_or s 0 0) 9 ≡ parts_word s
word_tab [] n e = absurd (n refl)
word_tab (b ∷ s) n e = rw (ne_eqb b 32 e)

pub header_some : (l t d : List ℕ) (s w : Bool) → t ≡ text_of l → s ≡ starts webvtt t → s ≡ true → d ≡ drop 6 t → w ≡ parts_word d → w ≡ is_header l
unfolding is_header
header_some l t d s w et es p ed ew = rw (sym et, sym es, p, sym ed) ew

pub header_other : (l t : List ℕ) (s : Bool) → t ≡ text_of l → s ≡ starts webvtt t → s ≡ false → false ≡ is_header l
unfolding is_header
header_other l t s et es p = rw (sym et, sym es, p)

onto_some : (n b : ℕ) (ls : List (List ℕ)) → nothing_yet n (onto_first b ls) ≡ false
onto_some zero b [] = refl
onto_some zero b (l ∷ ls) = refl
onto_some (suc n) b ls = refl

lines_some : (b : ℕ) (s : List ℕ) → nothing_yet 0 (lines_of (b ∷ s)) ≡ false
unfolding lines_of
lines_some b s = go (eqb b 10)
  where
    go : (t : Bool) → nothing_yet 0 (cond t ((b ∷ []) ∷ lines_of s) (onto_first b (lines_of s))) ≡ false
    go true = refl
    go false = onto_some 0 b (lines_of s)

bytes_yet : (s : List ℕ) → eqb (length s) 0 ≡ nothing_yet 0 (lines_of s)
unfolding lines_of
bytes_yet [] = refl
bytes_yet (b ∷ s) = ne_eqb (length (b ∷ s)) 0 (λ e. omega arith) ∙ sym (lines_some b s)

pub due_kind : (kind n : ℕ) (s : List ℕ) → (kind ≡ 2 → ⊥) → false ≡ header_due kind n (lines_of s)
unfolding header_due
due_kind kind n s h = rw (ne_eqb kind 2 h)

pub due_lines : (kind n : ℕ) (s : List ℕ) → kind ≡ 2 → (n ≡ 0 → ⊥) → false ≡ header_due kind n (lines_of s)
unfolding header_due
due_lines kind zero s k h = absurd (h refl)
due_lines kind (suc n) s k h = rw (eq-eqb kind 2 k)

pub due_bytes : (kind n : ℕ) (s : List ℕ) → kind ≡ 2 → n ≡ 0 → eqb (length s) 0 ≡ header_due kind n (lines_of s)
unfolding header_due
due_bytes kind n s k h = rw (eq-eqb kind 2 k, h) (bytes_yet s)
