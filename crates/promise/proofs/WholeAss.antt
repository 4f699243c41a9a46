-- A whole ASS text and the plain reader: the same parts without a fault, and before one.
use mathlib.Core.Path.{◌≡◌, refl, sym, ap, ap₂, subst, ◌∙◌}
use mathlib.Core.Bool.{Bool, true, ◌&&◌}
use mathlib.Core.List.{List, [], ◌∷◌, ◌++◌, append-nil}
use Prim.Native.Nat.{ℕ, zero, suc, ◌+◌, ◌<◌}
use native.Mathlib.Omega.{arith}
use lib.Dec.{eqb}
use Rattle.spec_base.specs.base.Refusal.{◌or_else◌}
use Rattle.spec_base.proofs.base.Laws.{and_true}
use Rattle.spec_text.specs.text.Line.{lines_of, line_count}
use Rattle.spec_caption.specs.caption_fate.Says.{Part, Fault, long_line, not_utf8, long_block, bad_time, bad_header, fault_number}
use Rattle.spec_caption.specs.caption_fate.Bom.{starts_bom, behind_bom, bom_written}
use Rattle.spec_ass.specs.declared.ass_columns.Columns.{Columns}
use Rattle.spec_ass.specs.ass_line.Line.{LineSays, line_says, faulty as lineFaulty, says as line_said}
use Rattle.spec_ass.specs.ass_line.AssThrough.{columns_after}
use Rattle.spec_ass.specs.ass_columns.Columns.{no_columns}
use Rattle.spec_format.specs.whole.Ass.{said_then, lines_said, columns_behind, ass_said}
use Rattle.spec_machine.specs.session_counts.Reader.{Reading, fails}
use Rattle.promise.specs.Plain.{bom_length, line_fault, unless_fault, line_then, ass_read, bom_behind, lines_say, opened, bom_back, plain_read}
use Rattle.promise.specs.Whole.{AssWhole, time_fault, AssStops, AssBefore}
use Rattle.promise.proofs.PlainBlocks.{mark_zero}

-- ---- lines, cut where the reader stops
abbrev read : (x : ℕ) → Columns → (n : ℕ) → List (List ℕ) → Reading
read x c n ls = ass_read (fails 0) x c n ls

record Cut (x : ℕ) (c : Columns) (n : ℕ) (ls : List (List ℕ)) : Type 0 where
  before : List (List ℕ)
  rest : List (List ℕ)
  cut : ls ≡ before ++ rest
  passes : (read x c n before).fault ≡ 0
  parts : (read x c n ls).parts ≡ lines_said c n before
  stops : AssStops (bom_behind x before) (columns_behind c n before) (n + line_count before) rest (read x c n ls).fault

stops_same : (rest : List (List ℕ)) (x y : ℕ) (c d : Columns) (n m k j : ℕ) → x ≡ y → c ≡ d → n ≡ m → k ≡ j → AssStops x c n rest k → AssStops y d m rest j
stops_same rest x y c d n m k j p q r s h =
    subst (λ (i : ℕ). AssStops y d m rest i) s
    (subst (λ (i : ℕ). AssStops y d i rest k) r
    (subst (λ (i : Columns). AssStops y i n rest k) q
    (subst (λ (i : ℕ). AssStops i c n rest k) p h)))

pub number_positive : (f : Fault) → 0 < fault_number f
number_positive long_line = omega arith
number_positive not_utf8 = omega arith
number_positive long_block = omega arith
number_positive bad_time = omega arith
number_positive bad_header = omega arith

module _ (x : ℕ) (c : Columns) (n : ℕ) (l : List ℕ) where
  read_line_lem : (ls : List (List ℕ)) (k : ℕ) (s : LineSays) → line_fault x l ≡ k → line_says c n l ≡ s
      → read x c n (l ∷ ls) ≡ unless_fault k (line_then s (λ d. read 0 d (suc n) ls))
  unfolding ass_read
  read_line_lem ls k s e f =
      ap (λ (i : ℕ). unless_fault i (line_then (line_says c n l) (λ d. read 0 d (suc n) ls))) e
      ∙ ap (λ (i : LineSays). unless_fault k (line_then i (λ d. read 0 d (suc n) ls))) f

  said_line : (ls : List (List ℕ)) (s : LineSays) → line_says c n l ≡ s → lines_said c n (l ∷ ls) ≡ said_then s (λ d. lines_said d (suc n) ls)
  unfolding lines_said
  said_line ls s e = ap (λ (i : LineSays). said_then i (λ d. lines_said d (suc n) ls)) e

  columns_line : (ls : List (List ℕ)) (s : LineSays) → line_says c n l ≡ s → columns_behind c n (l ∷ ls) ≡ columns_behind (columns_after c s) (suc n) ls
  unfolding columns_behind
  columns_line ls s e = ap (λ (i : LineSays). columns_behind (columns_after c i) (suc n) ls) e

  -- a line with a fault
  here : (ls : List (List ℕ)) (k : ℕ) → read x c n (l ∷ ls) ≡ fails (suc k) → line_fault x l or_else time_fault (line_says c n l) ≡ suc k → Cut x c n (l ∷ ls)
  unfolding ass_read lines_said columns_behind
  here ls k e f =
      let z : 0 < suc k = omega arith in
      let m : n ≡ n + 0 = omega arith in
      record {
        before = [];
        rest = l ∷ ls;
        cut = refl;
        passes = refl;
        parts = ap (λ (r : Reading). r.parts) e;
        stops =
            stops_same (l ∷ ls) x x c c n (n + 0) (suc k) (read x c n (l ∷ ls)).fault refl refl m (sym (ap (λ (r : Reading). r.fault) e))
            (sym f, z);
      }

  -- a line without one
  behind : (ls : List (List ℕ)) (d : Columns) (p : Part) → line_fault x l ≡ 0 → line_says c n l ≡ line_said d p → Cut 0 d (suc n) ls → Cut x c n (l ∷ ls)
  behind ls d p e f r =
      let m : suc n + line_count r.before ≡ n + suc (line_count r.before) = omega arith in
      record {
        before = l ∷ r.before;
        rest = r.rest;
        cut = ap (λ (k : List (List ℕ)). l ∷ k) r.cut;
        passes = ap (λ (k : Reading). k.fault) (read_line_lem r.before 0 (line_said d p) e f) ∙ r.passes;
        parts =
            ap (λ (k : Reading). k.parts) (read_line_lem ls 0 (line_said d p) e f)
            ∙ ap (λ (k : List Part). p ∷ k) r.parts
            ∙ sym (said_line r.before (line_said d p) f);
        stops =
            stops_same r.rest (bom_behind 0 r.before) 0 (columns_behind d (suc n) r.before) (columns_behind c n (l ∷ r.before))
            (suc n + line_count r.before) (n + suc (line_count r.before)) (read 0 d (suc n) ls).fault (read x c n (l ∷ ls)).fault
            (mark_zero r.before) (sym (columns_line r.before (line_said d p) f)) m
            (sym (ap (λ (k : Reading). k.fault) (read_line_lem ls 0 (line_said d p) e f))) r.stops;
      }

  by_line : (ls : List (List ℕ)) (k : ℕ) (s : LineSays) → line_fault x l ≡ k → line_says c n l ≡ s → ((d : Columns) → Cut 0 d (suc n) ls) → Cut x c n (l ∷ ls)
  unfolding ◌or_else◌
  by_line ls (suc k) s e f ih = here ls k (read_line_lem ls (suc k) s e f) (ap (λ (i : ℕ). i or_else time_fault (line_says c n l)) e)
  by_line ls zero (line_said d p) e f ih = behind ls d p e f (ih d)
  by_line ls zero (lineFaulty g) e f ih = by_number (fault_number g) refl (number_positive g)
    where
      by_number : (k : ℕ) → fault_number g ≡ k → 0 < k → Cut x c n (l ∷ ls)
      by_number zero q h = absurd (omega arith)
      by_number (suc k) q h =
          here ls k (read_line_lem ls 0 (lineFaulty g) e f ∙ ap fails q)
          (ap (λ (i : ℕ). i or_else time_fault (line_says c n l)) e ∙ ap time_fault f ∙ q)

cut_lines : (ls : List (List ℕ)) (x : ℕ) (c : Columns) (n : ℕ) → Cut x c n ls
unfolding ass_read lines_said
cut_lines [] x c n = record { before = []; rest = []; cut = refl; passes = refl; parts = refl; stops = refl }
cut_lines (l ∷ ls) x c n = by_line x c n l ls (line_fault x l) (line_says c n l) refl refl (λ d. cut_lines ls 0 d (suc n))

-- ---- the text
pub ass_before : (text : List ℕ) → AssBefore text
unfolding plain_read lines_say
ass_before text =
    let r = cut_lines (lines_of (behind_bom text)) (bom_length text) no_columns 0 in
    let m : 0 + line_count r.before ≡ line_count r.before = omega arith in
    record {
      before = r.before;
      rest = r.rest;
      cut = r.cut;
      passes = r.passes;
      parts = ap (λ (ps : List Part). bom_back 0 true text ++ ps) r.parts;
      stops = subst (λ (i : ℕ). AssStops (bom_behind (bom_length text) r.before) (columns_behind no_columns 0 r.before) i r.rest (plain_read 0 true text).fault) m r.stops;
    }

-- without a fault nothing is left behind the cut, and a BOM was written back
rest_none : (x : ℕ) (c : Columns) (n k : ℕ) (rest : List (List ℕ)) → AssStops x c n rest k → k ≡ 0 → rest ≡ []
rest_none x c n k [] h e = refl
rest_none x c n k (l ∷ ls) h e = absurd (let z : 0 < k = h.1 in omega arith)

pub no_fault : (k : ℕ) (r : Reading) → (unless_fault k r).fault ≡ 0 → k ≡ 0
no_fault zero r e = refl
no_fault (suc k) r e = e

opened_all : (x : ℕ) (ls : List (List ℕ)) → (read x no_columns 0 ls).fault ≡ 0 → opened 0 true x ls ≡ true
unfolding ass_read
opened_all x [] e = refl
opened_all x (l ∷ ls) e = ap (λ (k : ℕ). eqb k 0) (no_fault (line_fault x l) (line_then (line_says no_columns 0 l) (λ d. read 0 d 1 ls)) e)

pub mark_back : (b o : Bool) → o ≡ true → bom_written (b && o) ≡ bom_written b
mark_back b o e = ap (λ (t : Bool). bom_written (b && t)) e ∙ ap bom_written (and_true b)

pub ass_whole : AssWhole
unfolding plain_read lines_say ass_said
ass_whole text e =
    let r = ass_before text in
    let none = rest_none (bom_behind (bom_length text) r.before) (columns_behind no_columns 0 r.before) (line_count r.before) (plain_read 0 true text).fault r.rest r.stops e in
    let all : lines_of (behind_bom text) ≡ r.before = r.cut ∙ ap (λ (k : List (List ℕ)). r.before ++ k) none ∙ append-nil r.before in
    r.parts
    ∙ ap₂ (λ (a b : List Part). a ++ b)
    (mark_back (starts_bom text) (opened 0 true (bom_length text) (lines_of (behind_bom text))) (opened_all (bom_length text) (lines_of (behind_bom text)) e))
    (ap (lines_said no_columns 0) (sym all))
