-- WebVTT: the first line, then blocks, as the plain reader reads them.
use mathlib.Core.Path.{◌≡◌, refl, ap, ◌∙◌}
use mathlib.Core.Bool.{Bool, true, false, cond, ◌&&◌, ◌||◌}
use mathlib.Core.List.{List, [], ◌∷◌, ◌++◌}
use Prim.Native.Nat.{ℕ, ◌+◌}
use lib.Dec.{eqb, leb}
use lib.ListN.{length, drop}
use Rattle.spec_base.specs.base.Limits.{most_line}
use Rattle.spec_base.specs.base.Refusal.{◌or_else◌, fault_unless}
use Rattle.spec_text.specs.utf8.Utf8.{utf8}
use Rattle.spec_text.specs.pattern.Find.{starts, equals}
use Rattle.spec_text.specs.text.Line.{text_of}
use Rattle.spec_caption.specs.caption_fate.Says.{stays, not_utf8, bad_header}
use Rattle.spec_cue.specs.block_timing.Header.{webvtt, parts_word, is_header, header_due}
use Rattle.spec_format.specs.whole.Srt.{blocks_of}
use Rattle.spec_machine.specs.session_counts.Machine.{Machine, Says, faulty, says}
use Rattle.spec_machine.specs.session_counts.Reader.{Reading, fails, ◌⊕◌, read_line, read_close}
use Rattle.spec_machine.specs.kinds.Takes.{State, blank_state, head_takes, takes, ends, machine_of}
use Rattle.spec_machine.proofs.kinds.KindLaws.{takes_vtt, ends_vtt}
use Rattle.promise.specs.Plain.{line_fault, unless_fault, headed, head_fault, vtt_read, blocks_read}
use Rattle.promise.proofs.Bare.{passed, end_of, read_all}
use Rattle.promise.proofs.PlainAss.{rest_behind, ending}
use Rattle.promise.proofs.PlainBlocks.{due_past, block_lines_lem}
use Rattle.spec_sheet.proofs.sheet_permutation.NamingLaws.{eqb_turn}

-- ---- the reader's rule for the first line is the machine's: a word parted by nothing, a space or a tab
same_word : (w t : List ℕ) → (starts w t && parts_word (drop (length w) t)) ≡ (equals w t || (starts (w ++ 32 ∷ []) t || starts (w ++ 9 ∷ []) t))
unfolding starts equals
same_word [] [] = refl
same_word [] (b ∷ t) = rw (eqb_turn 32 b, eqb_turn 9 b) (go (eqb b 32) (eqb b 9))
  where
    go : (x y : Bool) → (x || y) ≡ (cond x true false || cond y true false)
    go true y = refl
    go false true = refl
    go false false = refl
same_word (a ∷ w) [] = refl
same_word (a ∷ w) (b ∷ t) = go (eqb a b) (same_word w t)
  where
    go : (x : Bool) → (starts w t && parts_word (drop (length w) t)) ≡ (equals w t || (starts (w ++ 32 ∷ []) t || starts (w ++ 9 ∷ []) t))
        → (cond x (starts w t) false && parts_word (drop (length w) t)) ≡ (cond x (equals w t) false || (cond x (starts (w ++ 32 ∷ []) t) false || cond x (starts (w ++ 9 ∷ []) t) false))
    go true e = e
    go false e = refl

pub header_headed : (l : List ℕ) → is_header l ≡ headed (text_of l)
unfolding is_header headed
header_headed l = same_word webvtt (text_of l)

-- ---- the machine at the first line
abbrev M : Machine State
M = machine_of 2

due_first : header_due 2 0 [] ≡ true
unfolding header_due
due_first = refl

takes_first : (l : List ℕ) → takes 2 blank_state 0 l ≡ cond (utf8 l) (cond (headed (text_of l)) (says blank_state (stays l ∷ [])) (faulty bad_header)) (faulty not_utf8)
unfolding head_takes
takes_first l = takes_vtt blank_state 0 l ∙ rw (due_first, header_headed l)

pub ends_first : ends 2 blank_state 0 ≡ faulty bad_header
ends_first = ends_vtt blank_state 0 ∙ rw due_first

head_checks : (a b h : Bool) (l : List ℕ) (after : State → Reading)
    → read_line M a (cond b (cond h (says blank_state (stays l ∷ [])) (faulty bad_header)) (faulty not_utf8)) after
    ≡ unless_fault ((fault_unless a 19 or_else fault_unless b 20) or_else fault_unless h 24) ((stays l ∷ []) ⊕ after blank_state)
unfolding fault_unless ◌or_else◌
head_checks true true true l after = refl
head_checks true true false l after = refl
head_checks true false h l after = refl
head_checks false b h l after = refl

head_line : (x : ℕ) (l : List ℕ) (after : State → Reading)
    → read_line M (leb (x + length l) most_line) (takes 2 blank_state 0 l) after ≡ unless_fault (head_fault x l) ((stays l ∷ []) ⊕ after blank_state)
unfolding head_fault line_fault
head_line x l after =
    ap (λ (y : Says State). read_line M (leb (x + length l) most_line) y after) (takes_first l)
    ∙ head_checks (leb (x + length l) most_line) (utf8 l) (headed (text_of l)) l after

-- ---- all lines
none_read : (f : Bool) (x : ℕ) (r : List ℕ) → end_of M f x r blank_state 0 ≡ cond f (fails 24) (ending f x [] r)
none_read true x r = ap (read_close M) ends_first
none_read false x r = refl

pub vtt_lines : (f : Bool) (ls : List (List ℕ)) (x : ℕ) (r : List ℕ) → read_all M f x ls r blank_state 0 ≡ vtt_read f (ending f x ls r) x ls
unfolding vtt_read
vtt_lines f [] x r = none_read f x r
vtt_lines f (l ∷ ls) x r =
    head_line x l (λ t. read_all M f 0 ls r t 1)
    ∙ ap (λ (w : Reading). unless_fault (head_fault x l) ((stays l ∷ []) ⊕ w))
    (block_lines_lem 1 f ls 0 1 r (due_past 2 0 [])
    ∙ ap (λ (i : ℕ). blocks_read 2 f (fails i) 0 1 (blocks_of 2 ls)) (rest_behind f x l ls r))

-- ---- the first line passes with its checks
head_passes : (a b h : Bool) (l : List ℕ)
    → (a && passed (cond b (cond h (says blank_state (stays l ∷ [])) (faulty bad_header)) (faulty not_utf8))) ≡ eqb ((fault_unless a 19 or_else fault_unless b 20) or_else fault_unless h 24) 0
unfolding fault_unless ◌or_else◌
head_passes true true true l = refl
head_passes true true false l = refl
head_passes true false h l = refl
head_passes false b h l = refl

pub vtt_first_lem : (x : ℕ) (l : List ℕ) → (leb (x + length l) most_line && passed (takes 2 blank_state 0 l)) ≡ eqb (head_fault x l) 0
unfolding head_fault line_fault
vtt_first_lem x l =
    ap (λ (y : Says State). leb (x + length l) most_line && passed y) (takes_first l)
    ∙ head_passes (leb (x + length l) most_line) (utf8 l) (headed (text_of l)) l
