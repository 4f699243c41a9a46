-- ASS: the lines of a text, read one after the other by the machine, are what the plain reader reads.
use mathlib.Core.Path.{◌≡◌, refl, ap, ◌∙◌}
use mathlib.Core.Bool.{Bool, true, false, cond, ◌&&◌}
use mathlib.Core.List.{List, [], ◌∷◌}
use Prim.Native.Nat.{ℕ, suc, ◌+◌}
use native.Mathlib.Omega.{arith}
use lib.Dec.{eqb, leb}
use lib.ListN.{length}
use Rattle.spec_base.specs.base.Limits.{most_line}
use Rattle.spec_base.specs.base.Refusal.{◌or_else◌, fault_unless}
use Rattle.spec_text.specs.utf8.Utf8.{utf8}
use Rattle.spec_text.specs.whitespace.White.{trim}
use Rattle.spec_text.specs.text.Line.{text_of}
use Rattle.spec_caption.specs.caption_fate.Says.{not_utf8}
use Rattle.spec_ass.specs.declared.ass_columns.Columns.{Columns}
use Rattle.spec_ass.specs.ass_line.Line.{LineSays, text_says, line_says, faulty as lineFaulty, says as line_said}
use Rattle.spec_ass.specs.ass_columns.Section.{bracketed}
use Rattle.spec_machine.specs.session_counts.Machine.{Machine, Says, faulty}
use Rattle.spec_machine.specs.session_counts.Reader.{Reading, fails, ◌⊕◌, read_line, read_close}
use Rattle.spec_machine.specs.kinds.Takes.{State, no_columns, blank_state, of_line, line_takes, takes, machine_of}
use Rattle.promise.specs.Plain.{line_fault, unless_fault, line_then, ass_read, rest_fault}
use Rattle.spec_machine.proofs.kinds.KindLaws.{takes_ass, ends_ass}
use Rattle.promise.proofs.Bare.{passed, end_of, read_all}

-- a rest behind a line
pub rest_behind : (f : Bool) (x : ℕ) (l : List ℕ) (ls : List (List ℕ)) (r : List ℕ) → rest_fault f 0 ls r ≡ rest_fault f x (l ∷ ls) r
rest_behind true x l ls r = refl
rest_behind false x l [] r = let e : 0 + length r ≡ length r = omega arith in ap (λ (k : ℕ). fault_unless (leb k most_line) 19) e
rest_behind false x l (k ∷ ls) r = refl

-- the end, as the plain reader has it
abbrev pub ending : (finished : Bool) → (x : ℕ) → List (List ℕ) → List ℕ → Reading
ending f x ls r = fails (rest_fault f x ls r)

abbrev M : Machine State
M = machine_of 0

said_then_lem : (s : State) (x : LineSays) (after : State → Reading) (g : Columns → Reading)
    → ((c : Columns) → after (record { columns = c; block = s.block }) ≡ g c) → read_line M true (of_line s x) after ≡ line_then x g
said_then_lem s (lineFaulty f) after g h = refl
said_then_lem s (line_said c p) after g h = ap (λ (r : Reading). (p ∷ []) ⊕ r) (h c)

-- a line by its checks
checks : (a b : Bool) (s : State) (x : LineSays) (after : State → Reading) (g : Columns → Reading)
    → ((c : Columns) → after (record { columns = c; block = s.block }) ≡ g c)
    → read_line M a (cond b (of_line s x) (faulty not_utf8)) after ≡ unless_fault (fault_unless a 19 or_else fault_unless b 20) (line_then x g)
unfolding fault_unless ◌or_else◌
checks true true s x after g h = said_then_lem s x after g h
checks true false s x after g h = refl
checks false b s x after g h = refl

one_line : (x : ℕ) (s : State) (n : ℕ) (l : List ℕ) (after : State → Reading) (g : Columns → Reading)
    → ((c : Columns) → after (record { columns = c; block = s.block }) ≡ g c)
    → read_line M (leb (x + length l) most_line) (takes 0 s n l) after ≡ unless_fault (line_fault x l) (line_then (line_says s.columns n l) g)
unfolding line_fault line_takes
one_line x s n l after g h =
    ap (λ (y : Says State). read_line M (leb (x + length l) most_line) y after) (takes_ass s n l)
    ∙ checks (leb (x + length l) most_line) (utf8 l) s (line_says s.columns n l) after g h

end_read : (f : Bool) (x : ℕ) (r : List ℕ) (s : State) (n : ℕ) → end_of M f x r s n ≡ ending f x [] r
end_read true x r s n = ap (read_close M) (ends_ass s n)
end_read false x r s n = refl

pub ass_lines : (f : Bool) (ls : List (List ℕ)) (x : ℕ) (r : List ℕ) (s : State) (n : ℕ)
    → read_all M f x ls r s n ≡ ass_read (ending f x ls r) x s.columns n ls
unfolding ass_read
ass_lines f [] x r s n = end_read f x r s n
ass_lines f (l ∷ ls) x r s n =
    one_line x s n l (λ t. read_all M f 0 ls r t (suc n)) (λ c. ass_read (ending f x (l ∷ ls) r) 0 c (suc n) ls)
    (λ c. ass_lines f ls 0 r (record { columns = c; block = s.block }) (suc n)
    ∙ ap (λ (k : ℕ). ass_read (fails k) 0 c (suc n) ls) (rest_behind f x l ls r))

-- ---- the first line has no time to read, so that it passes with its checks
abbrev line_good : LineSays → Bool
line_good (lineFaulty f) = false
line_good (line_said c p) = true

good_either : (t : Bool) (x y : LineSays) → line_good x ≡ true → line_good y ≡ true → line_good (cond t x y) ≡ true
good_either true x y a b = a
good_either false x y a b = b

first_good : (n : ℕ) (l : List ℕ) → line_good (line_says no_columns n l) ≡ true
unfolding line_says text_says
first_good n l = good_either (bracketed (trim (text_of l))) _ _ refl refl

of_line_passed : (s : State) (x : LineSays) → passed (of_line s x) ≡ line_good x
of_line_passed s (lineFaulty f) = refl
of_line_passed s (line_said c p) = refl

passes_by : (a b : Bool) (x : LineSays) → line_good x ≡ true
    → (a && passed (cond b (of_line blank_state x) (faulty not_utf8))) ≡ eqb (fault_unless a 19 or_else fault_unless b 20) 0
unfolding fault_unless ◌or_else◌
passes_by true true x g = of_line_passed blank_state x ∙ g
passes_by true false x g = refl
passes_by false b x g = refl

pub ass_first_lem : (x : ℕ) (l : List ℕ) → (leb (x + length l) most_line && passed (takes 0 blank_state 0 l)) ≡ eqb (line_fault x l) 0
unfolding line_fault line_takes
ass_first_lem x l =
    ap (λ (y : Says State). leb (x + length l) most_line && passed y) (takes_ass blank_state 0 l)
    ∙ passes_by (leb (x + length l) most_line) (utf8 l) (line_says no_columns 0 l) (first_good 0 l)
