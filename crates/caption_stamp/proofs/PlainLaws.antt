-- Laws of times in the form that most texts have: digits alone, and a colon or mark at each place where one is due.
use Prim.Native.Nat.{ℕ, zero, suc, ◌+◌, ◌-◌, ◌*◌, ◌≤◌}
use mathlib.Core.Path.{◌≡◌, refl, ap, sym, ◌∙◌}
use mathlib.Core.Bool.{Bool, true, false, cond}
use mathlib.Core.List.{List, [], ◌∷◌, ◌++◌}
use lib.ListN.{length, get_or, length-append}
use native.Mathlib.Omega.{arith}
use borrow.Author.Tests.{eq-eqb, lt-ltb}
use Rattle.std.specs.Prelude.{IfSome}
use Rattle.std.proofs.Common.{Option, None, Some}
use Rattle.spec_base.specs.base.Limits.{most_hours, most_minutes, most_seconds}
use Rattle.spec_base.proofs.base.Laws.{yes! }
use Rattle.spec_text.specs.text.Number.{digits, value_from, natural, number}
use Rattle.spec_text.proofs.text.Laws.{digit_some, natural_value, unsigned_none}
use Rattle.spec_text.specs.pattern.Find.{starts, first, contains, up_to, past}
use Rattle.spec_text.specs.pattern.Piece.{comma}
use Rattle.spec_text.proofs.pattern.Free.{Free, first_free, up_byte, past_byte}
use Rattle.spec_text.specs.whitespace.White.{trim}
use Rattle.spec_time.specs.caption_time.Kind.{kind_bad, units_of, mark_of}
use Rattle.spec_time.specs.caption_stamp.Read.{stamp, colon, mark_in, time_with, time_in}
use Rattle.spec_time.proofs.caption_stamp.Reading.{read_some}
use Rattle.caption_stamp.specs.Plain.{Pair, Parts, Read}

-- ---- a list by its bytes
abbrev bytes_from : (k n : ℕ) → List ℕ → List ℕ
bytes_from k zero t = []
bytes_from k (suc n) t = get_or t k 0 ∷ bytes_from (suc k) n t

bytes_behind : (k n b : ℕ) (t : List ℕ) → bytes_from (suc k) n (b ∷ t) ≡ bytes_from k n t
bytes_behind k zero b t = refl
bytes_behind k (suc n) b t = ap (λ (l : List ℕ). get_or t k 0 ∷ l) (bytes_behind (suc k) n b t)

bytes_all : (t : List ℕ) → t ≡ bytes_from 0 (length t) t
bytes_all [] = refl
bytes_all (b ∷ t) = ap (λ (l : List ℕ). b ∷ l) (bytes_all t ∙ sym (bytes_behind 0 (length t) b t))

bytes_of : (n : ℕ) (t : List ℕ) → length t ≡ n → t ≡ bytes_from 0 n t
bytes_of n t e = bytes_all t ∙ ap (λ (m : ℕ). bytes_from 0 m t) e

-- ---- digits
abbrev Digits : List ℕ → Type 0
Digits [] = Unit
Digits (b ∷ s) = ((48 ≤ b) × (b ≤ 57)) × Digits s

abbrev Mark : ℕ → Type 0
Mark c = (b : ℕ) → 48 ≤ b → b ≤ 57 → c ≡ b → ⊥

digits_free : (c : ℕ) → Mark c → (s : List ℕ) → Digits s → Free c s
digits_free c m [] d = tt
digits_free c m (b ∷ s) d = (m b d.0.0 d.0.1, digits_free c m s d.1)

digits_true : (s : List ℕ) → Digits s → digits s ≡ true
unfolding digits
digits_true [] d = refl
digits_true (b ∷ s) d = sym (yes! _ (digit_some b d.0.0 d.0.1) (sym (digits_true s d.1)))

digits_number : (most v b : ℕ) (s : List ℕ) → Digits (b ∷ s) → value_from 0 (b ∷ s) ≡ v → v ≤ most → number most (b ∷ s) ≡ Some v
unfolding number
digits_number most v b s d e h =
    ap (natural most) (sym (unsigned_none (b ∷ s) b refl (λ q. omega (arith, d.0.0))))
    ∙ sym (natural_value most v (b ∷ s) (omega arith) (digits_true (b ∷ s) d) e h)

value_one : (a : ℕ) → value_from 0 (a ∷ []) ≡ a - 48
unfolding value_from
value_one a = omega arith

value_two : (a b : ℕ) → value_from 0 (a ∷ b ∷ []) ≡ (a - 48) * 10 + (b - 48)
unfolding value_from
value_two a b = omega arith

value_three : (a b c : ℕ) → value_from 0 (a ∷ b ∷ c ∷ []) ≡ (a - 48) * 100 + ((b - 48) * 10 + (c - 48))
unfolding value_from
value_three a b c = omega arith

-- ---- four parts of digits, with colons and the mark between them
module _ (U mark h m s f : ℕ) (H M S F : List ℕ) (dh : Digits H) (dm : Digits M) (ds : Digits S) (hm : Mark mark)
    (eh : number most_hours H ≡ Some h) (em : number most_minutes M ≡ Some m) (es : number most_seconds S ≡ Some s) (ef : number (U - 1) F ≡ Some f) where
  abbrev last : List ℕ
  last = S ++ mark ∷ F

  abbrev minutes : List ℕ
  minutes = M ++ 58 ∷ last

  abbrev row : List ℕ
  row = H ++ 58 ∷ minutes

  no_colon : Mark 58
  no_colon b l r e = omega arith

  behind_first_lem : past colon row ≡ minutes
  behind_first_lem = past_byte 58 H minutes (digits_free 58 no_colon H dh)

  behind_second : past colon (past colon row) ≡ last
  behind_second = ap (past colon) behind_first_lem ∙ past_byte 58 M last (digits_free 58 no_colon M dm)

  row_read : time_with U mark row ≡ stamp (((h * 60 + m) * 60 + s) * U + f) mark
  unfolding time_with
  row_read =
      let a : up_to colon row ≡ H = up_byte 58 H minutes (digits_free 58 no_colon H dh) in
      let b : up_to colon minutes ≡ M = up_byte 58 M last (digits_free 58 no_colon M dm) in
      let c : up_to (mark ∷ []) last ≡ S = up_byte mark S F (digits_free mark hm S ds) in
      let d : past (mark ∷ []) last ≡ F = past_byte mark S F (digits_free mark hm S ds) in
      rw (behind_second, behind_first_lem, a, b, c, d, eh, em, es, ef)

first_one : (c : ℕ) (t : List ℕ) → first (c ∷ []) (c ∷ t) ≡ 0
unfolding first starts
first_one c t = rw (eq-eqb c c refl)

has_comma : (s t : List ℕ) → Free 44 s → contains comma (s ++ 44 ∷ t) ≡ true
unfolding contains
has_comma s t f =
    lt-ltb (first comma (s ++ 44 ∷ t)) (length (s ++ 44 ∷ t)) (omega (arith, first_free 44 [] s (44 ∷ t) f, first_one 44 t, length-append s (44 ∷ t)))

-- ---- the marks of the two kinds
ass_mark : (t : List ℕ) → 46 ≡ mark_in 0 t
unfolding mark_in mark_of
ass_mark t = refl

srt_mark : (t : List ℕ) → contains comma (past colon (past colon t)) ≡ true → 44 ≡ mark_in 1 t
unfolding mark_in
srt_mark t e = sym (ap (λ (b : Bool). cond b 44 46) e)

pub read_ass : (t : List ℕ) (h m s f u : ℕ) → length t ≡ 10 → get_or t 1 0 ≡ 58 → get_or t 4 0 ≡ 58 → get_or t 7 0 ≡ 46
    → Pair 48 (get_or t 0 0) h → Pair (get_or t 2 0) (get_or t 3 0) m → Pair (get_or t 5 0) (get_or t 6 0) s → Pair (get_or t 8 0) (get_or t 9 0) f → Parts h m s f 100 u → Read 0 t u
unfolding units_of mark_of
read_ass t h m s f u l e1 e4 e7 a b c d p =
    let H : List ℕ = get_or t 0 0 ∷ [] in
    let M : List ℕ = get_or t 2 0 ∷ get_or t 3 0 ∷ [] in
    let S : List ℕ = get_or t 5 0 ∷ get_or t 6 0 ∷ [] in
    let F : List ℕ = get_or t 8 0 ∷ get_or t 9 0 ∷ [] in
    let dh : Digits H = ((a.2, a.3), tt) in
    let dm : Digits M = ((b.0, b.1), ((b.2, b.3), tt)) in
    let ds : Digits S = ((c.0, c.1), ((c.2, c.3), tt)) in
    let df : Digits F = ((d.0, d.1), ((d.2, d.3), tt)) in
    let eh : number most_hours H ≡ Some h = digits_number most_hours h (get_or t 0 0) [] dh (omega (arith, value_one (get_or t 0 0), a)) (omega (arith, p)) in
    let em : number most_minutes M ≡ Some m = digits_number most_minutes m (get_or t 2 0) (get_or t 3 0 ∷ []) dm (omega (arith, value_two (get_or t 2 0) (get_or t 3 0), b)) p.1 in
    let es : number most_seconds S ≡ Some s = digits_number most_seconds s (get_or t 5 0) (get_or t 6 0 ∷ []) ds (omega (arith, value_two (get_or t 5 0) (get_or t 6 0), c)) p.2 in
    let ef : number (100 - 1) F ≡ Some f = digits_number 99 f (get_or t 8 0) (get_or t 9 0 ∷ []) df (omega (arith, value_two (get_or t 8 0) (get_or t 9 0), d)) (omega (arith, p)) in
    let r : List ℕ = row 100 46 h m s f H M S F dh dm ds (λ b l r e. omega arith) eh em es ef in
    let er : t ≡ r = bytes_of 10 t l ∙ rw (e1, e4, e7) refl in
    ap (λ (n : ℕ). stamp n 46) p.4 ∙ sym (row_read 100 46 h m s f H M S F dh dm ds (λ b l r e. omega arith) eh em es ef)
    ∙ ap (time_with 100 46) (sym er) ∙ ap (λ (n : ℕ). time_with 100 n t) (ass_mark t)

pub read_srt : (t : List ℕ) (h m s x y u : ℕ) → length t ≡ 12 → get_or t 2 0 ≡ 58 → get_or t 5 0 ≡ 58 → get_or t 8 0 ≡ 44
    → Pair (get_or t 0 0) (get_or t 1 0) h → Pair (get_or t 3 0) (get_or t 4 0) m → Pair (get_or t 6 0) (get_or t 7 0) s → Pair 48 (get_or t 9 0) x → Pair (get_or t 10 0) (get_or t 11 0) y
    → Parts h m s (x * 100 + y) 1000 u → Read 1 t u
unfolding units_of mark_of
read_srt t h m s x y u l e2 e5 e8 a b c d e p =
    let H : List ℕ = get_or t 0 0 ∷ get_or t 1 0 ∷ [] in
    let M : List ℕ = get_or t 3 0 ∷ get_or t 4 0 ∷ [] in
    let S : List ℕ = get_or t 6 0 ∷ get_or t 7 0 ∷ [] in
    let F : List ℕ = get_or t 9 0 ∷ get_or t 10 0 ∷ get_or t 11 0 ∷ [] in
    let f = x * 100 + y in
    let dh : Digits H = ((a.0, a.1), ((a.2, a.3), tt)) in
    let dm : Digits M = ((b.0, b.1), ((b.2, b.3), tt)) in
    let ds : Digits S = ((c.0, c.1), ((c.2, c.3), tt)) in
    let df : Digits F = ((d.2, d.3), ((e.0, e.1), ((e.2, e.3), tt))) in
    let eh : number most_hours H ≡ Some h = digits_number most_hours h (get_or t 0 0) (get_or t 1 0 ∷ []) dh (omega (arith, value_two (get_or t 0 0) (get_or t 1 0), a)) (omega (arith, p)) in
    let em : number most_minutes M ≡ Some m = digits_number most_minutes m (get_or t 3 0) (get_or t 4 0 ∷ []) dm (omega (arith, value_two (get_or t 3 0) (get_or t 4 0), b)) p.1 in
    let es : number most_seconds S ≡ Some s = digits_number most_seconds s (get_or t 6 0) (get_or t 7 0 ∷ []) ds (omega (arith, value_two (get_or t 6 0) (get_or t 7 0), c)) p.2 in
    let ef : number (1000 - 1) F ≡ Some f =
    digits_number 999 f (get_or t 9 0) (get_or t 10 0 ∷ get_or t 11 0 ∷ []) df (omega (arith, value_three (get_or t 9 0) (get_or t 10 0) (get_or t 11 0), d, e)) (omega (arith, p)) in
    let no : Mark 44 = λ b l r e. omega arith in
    let r : List ℕ = row 1000 44 h m s f H M S F dh dm ds no eh em es ef in
    let er : t ≡ r = bytes_of 12 t l ∙ rw (e2, e5, e8) refl in
    let seen : contains comma (past colon (past colon t)) ≡ true =
    ap (λ (l : List ℕ). contains comma (past colon (past colon l))) er ∙ ap (contains comma) (behind_second 1000 44 h m s f H M S F dh dm ds no eh em es ef) ∙ has_comma S F (digits_free 44 no S ds) in
    ap (λ (n : ℕ). stamp n 44) p.4 ∙ sym (row_read 1000 44 h m s f H M S F dh dm ds no eh em es ef) ∙ ap (time_with 1000 44) (sym er)
    ∙ ap (λ (n : ℕ). time_with 1000 n t) (srt_mark t seen)

-- ---- the callers
-- what holds of a value that is there
pub if_some : {P Q : ℕ → Type 0} (o : Option ℕ) → ((v : ℕ) → P v → Q v) → IfSome o P → IfSome o Q
if_some None f h = h
if_some (Some v) f h = f v h

pub read_plain : (kind u m : ℕ) (text t : List ℕ) (b : Bool) → b ≡ kind_bad kind → b ≡ false → (kind ≡ 2 → ⊥) → t ≡ trim text → Read kind t u → m ≡ mark_of kind → stamp u m ≡ time_in kind text
read_plain kind u m text t b e h z et r em =
    read_some kind (units_of kind) (mark_in kind t) text t b (stamp u m) e h z et refl refl (ap (stamp u) em ∙ r)
