-- Laws of reading a time: what the reader's calls answered, and what is known of a time that was read.
use Prim.Native.Nat.{ℕ, ◌+◌, ◌-◌, ◌*◌, ◌≤◌, ◌<◌}
use mathlib.Core.Path.{◌≡◌, refl, ap, sym, subst, ◌∙◌}
use mathlib.Core.Bool.{Bool, true, false, cond}
use mathlib.Core.Logic.{◌⊎◌, inl, inr, ⊎_elim}
use mathlib.Core.List.{List, [], ◌∷◌}
use lib.Dec.{leb, ltb, eqb}
use lib.ListN.{length}
use native.Mathlib.Nat.{mul-le-mul, mul-le-mul_right}
use native.Mathlib.Omega.{arith}
use borrow.Author.Tests.{leb-true, ne_eqb, eq-eqb, eqb-true}
use Rattle.std.specs.Prelude.{Option, Some, None}
use Rattle.spec_base.specs.base.Limits.{most_hours, most_minutes, most_seconds, most_units}
use Rattle.spec_base.proofs.base.Laws.{yes!, no! }
use Rattle.spec_text.specs.text.Number.{digit, digits, value_from, natural, unsigned, number}
use Rattle.spec_text.specs.pattern.Find.{starts, first, contains, up_to, past}
use Rattle.spec_text.specs.pattern.Piece.{comma}
use Rattle.spec_text.proofs.pattern.Free.{Free}
use Rattle.spec_text.proofs.text.Laws.{digits_refused, digit_low}
use Rattle.spec_text.specs.whitespace.White.{trim}
use Rattle.spec_text.proofs.pattern.Laws.{up_past}
use Rattle.spec_text.proofs.text.LineLaws.{number_some, trim_length}
use Rattle.spec_time.specs.declared.caption_stamp.Stamp.{Stamp}
use Rattle.spec_time.specs.caption_time.Kind.{kind_bad, units_of, mark_of}
use Rattle.spec_time.specs.caption_stamp.Read.{stamp, colon, mark_in, point, time_from, time_with, wide_by, wide_from, minutes_on, vtt_time, time_in, time_units, time_mark, Below}
use Rattle.spec_time.proofs.caption_time.Limits.{by_kind, units_low, units_high}

natural_below : (most : ℕ) (s : List ℕ) → Below most (natural most s)
unfolding natural
natural_below most [] = tt
natural_below most (b ∷ r) = go (digits (b ∷ r)) (leb (value_from 0 (b ∷ r)) most) refl
  where
    go : (d t : Bool) → leb (value_from 0 (b ∷ r)) most ≡ t → Below most (cond d (cond t (Some (value_from 0 (b ∷ r))) None) None)
    go false t e = tt
    go true false e = tt
    go true true e = leb-true (value_from 0 (b ∷ r)) most e

below_more : {j k : ℕ} (x : Option ℕ) → j ≤ k → Below j x → Below k x
below_more (Some n) h b = omega arith
below_more None h b = tt

pub number_below : (most : ℕ) {k : ℕ} {x : Option ℕ} (s : List ℕ) → x ≡ number most s → most ≤ k → Below k x
unfolding number
number_below most {k} s e h = subst (Below k) (sym e) (below_more (natural most (unsigned s)) h (natural_below most (unsigned s)))

pub value_le : {most n : ℕ} {x : Option ℕ} → Below most x → x ≡ Some n → n ≤ most
value_le {most} b e = subst (Below most) e b

-- the units of four parts fit
pub parts_small : (U h m s : ℕ) → U ≤ 1000 → h ≤ most_hours → m ≤ most_minutes → s ≤ most_seconds → ((h * 60 + m) * 60 + s) * U ≤ 35999999 * 1000
parts_small U h m s a b c d = let t : (h * 60 + m) * 60 + s ≤ 35999999 = omega arith in mul-le-mul t a

-- ---- what the reader's calls answered
pub time_joined : (U mark a b c d x : ℕ) (h m s f : Option ℕ) → h ≡ Some a → m ≡ Some b → s ≡ Some c → f ≡ Some d → x ≡ ((a * 60 + b) * 60 + c) * U + d → stamp x mark ≡ time_from U mark h m s f
time_joined U mark a b c d x h m s f eh em es ef ex = rw (eh, em, es, ef, ex)

pub read_all : (U mark : ℕ) (text a1 r1 a2 r2 a3 a4 : List ℕ) (h m s f : Option ℕ) (r : Option Stamp)
    → a1 ≡ up_to colon text → h ≡ number most_hours a1 → r1 ≡ past colon text → a2 ≡ up_to colon r1 → m ≡ number most_minutes a2 → r2 ≡ past colon r1
    → a3 ≡ up_to (mark ∷ []) r2 → s ≡ number most_seconds a3 → a4 ≡ past (mark ∷ []) r2 → f ≡ number (U - 1) a4 → r ≡ time_from U mark h m s f → r ≡ time_with U mark text
unfolding time_with
read_all U mark text a1 r1 a2 r2 a3 a4 h m s f r e1 eh f1 e2 em f2 e3 es e4 ef er = rw (er, eh, em, es, ef, e1, e2, e3, e4, f2, f1)

-- ---- the mark that a text has: r1 and r2 are what stands behind its first and its second colon
module _ (kind : ℕ) (t r1 r2 : List ℕ) (f : Bool) (e1 : r1 ≡ past colon t) (e2 : r2 ≡ past colon r1) (ef : f ≡ contains comma r2) (k : kind ≡ 1) where
  marked_by : mark_in kind t ≡ cond f 44 46
  unfolding mark_in
  marked_by = rw (eq-eqb kind 1 k, ef, e2, e1)

  pub seen_comma : f ≡ true → 44 ≡ mark_in kind t
  seen_comma h = sym (marked_by ∙ ap (λ (b : Bool). cond b 44 46) h)

  pub seen_point : f ≡ false → 46 ≡ mark_in kind t
  seen_point h = sym (marked_by ∙ ap (λ (b : Bool). cond b 44 46) h)

pub seen_own : (kind m : ℕ) (t : List ℕ) → (kind ≡ 1 → ⊥) → m ≡ mark_of kind → m ≡ mark_in kind t
unfolding mark_in
seen_own kind m t n e = rw (ne_eqb kind 1 n) e

pub read_none : (kind : ℕ) (text : List ℕ) (b : Bool) → b ≡ kind_bad kind → b ≡ true → None ≡ time_in kind text
unfolding time_in
read_none kind text b e h = yes! _ (sym e ∙ h) refl

pub read_some : (kind u m : ℕ) (text t : List ℕ) (b : Bool) (r : Option Stamp) → b ≡ kind_bad kind → b ≡ false → (kind ≡ 2 → ⊥) → t ≡ trim text → u ≡ units_of kind → m ≡ mark_in kind t → r ≡ time_with u m t → r ≡ time_in kind text
unfolding time_in
read_some kind u m text t b r e h z et eu em er = no! _ (sym e ∙ h) (no! _ (ne_eqb kind 2 z) (rw (er, em, et, eu)))

pub read_two : (kind : ℕ) (text t : List ℕ) (b : Bool) (r : Option Stamp) → b ≡ kind_bad kind → b ≡ false → kind ≡ 2 → t ≡ trim text → r ≡ vtt_time t → r ≡ time_in kind text
unfolding time_in
read_two kind text t b r e h z et er = no! _ (sym e ∙ h) (yes! _ (eq-eqb kind 2 z) (rw (er, et)))

-- the units of a second, and the limits that the reader asks for
pub read_limits : (kind u : ℕ) (b : Bool) → b ≡ kind_bad kind → b ≡ false → u ≡ units_of kind → (1 ≤ u) × (u ≤ 1000)
read_limits kind u b e h eu = (omega (arith, units_low kind (sym e ∙ h)), omega (arith, units_high kind (sym e ∙ h)))

-- ---- what is known of a time that was read: its four parts are there, and its units
pub record Found (U n : ℕ) (h m s f : Option ℕ) : Type 0 where
  pub hours : ℕ
  pub minutes : ℕ
  pub seconds : ℕ
  pub fraction : ℕ
  pub is_hours : h ≡ Some hours
  pub is_minutes : m ≡ Some minutes
  pub is_seconds : s ≡ Some seconds
  pub is_fraction : f ≡ Some fraction
  pub is_units : n ≡ ((hours * 60 + minutes) * 60 + seconds) * U + fraction

pub not_at : {A : Type 0} {n k : ℕ} → None ≡ stamp n k → A
not_at e = absurd (let z : ◌≡◌ {A = ℕ} 0 1 = ap (λ (t : Option Stamp). elim t [ Some a ↦ 1 | None ↦ 0 ]) e in omega arith)

time_parts : (U n mark k : ℕ) (h m s f : Option ℕ) → time_from U mark h m s f ≡ stamp n k → Found U n h m s f
time_parts U n mark k (Some a) (Some b) (Some c) (Some d) e =
    record {
      hours = a;
      minutes = b;
      seconds = c;
      fraction = d;
      is_hours = refl;
      is_minutes = refl;
      is_seconds = refl;
      is_fraction = refl;
      is_units = sym (ap time_units e);
    }
time_parts U n mark k (Some a) (Some b) (Some c) None e = not_at e
time_parts U n mark k (Some a) (Some b) None f e = not_at e
time_parts U n mark k (Some a) None s f e = not_at e
time_parts U n mark k None m s f e = not_at e

from_mark : (U n mark k : ℕ) (h m s f : Option ℕ) → time_from U mark h m s f ≡ stamp n k → k ≡ mark
from_mark U n mark k (Some a) (Some b) (Some c) (Some d) e = sym (ap time_mark e)
from_mark U n mark k (Some a) (Some b) (Some c) None e = not_at e
from_mark U n mark k (Some a) (Some b) None f e = not_at e
from_mark U n mark k (Some a) None s f e = not_at e
from_mark U n mark k None m s f e = not_at e

module _ (U n mark k : ℕ) (text : List ℕ) (e : time_with U mark text ≡ stamp n k) where
  pub parts : Found U n (number most_hours (up_to colon text)) (number most_minutes (up_to colon (past colon text))) (number most_seconds (up_to (mark ∷ []) (past colon (past colon text)))) (number (U - 1) (past (mark ∷ []) (past colon (past colon text))))
  unfolding time_with
  parts = time_parts U n mark k _ _ _ _ e

  with_mark : k ≡ mark
  unfolding time_with
  with_mark =
      from_mark U n mark k (number most_hours (up_to colon text)) (number most_minutes (up_to colon (past colon text))) (number most_seconds (up_to (mark ∷ []) (past colon (past colon text))))
      (number (U - 1) (past (mark ∷ []) (past colon (past colon text)))) e

  with_long : 7 ≤ length text
  with_long =
      let p = parts in
      let sign : List ℕ = mark ∷ [] in
      let r1 = past colon text in
      let r2 = past colon r1 in
      let a = number_some most_hours p.hours (up_to colon text) p.is_hours in
      let b = number_some most_minutes p.minutes (up_to colon r1) p.is_minutes in
      let c = number_some most_seconds p.seconds (up_to sign r2) p.is_seconds in
      let d = number_some (U - 1) p.fraction (past sign r2) p.is_fraction in
      let z : length (up_to sign r2) + length sign + length (past sign r2) ≡ length r2 = up_past sign r2 d in
      let y : length (up_to colon r1) + length colon + length r2 ≡ length r1 = up_past colon r1 (omega arith) in
      let x : length (up_to colon text) + length colon + length r1 ≡ length text = up_past colon text (omega arith) in
      omega arith

  with_most : 1 ≤ U → n < 36000000 * U
  with_most h =
      let p = parts in
      let a : p.hours ≤ most_hours = value_le (number_below most_hours (up_to colon text) refl (omega arith)) p.is_hours in
      let b : p.minutes ≤ most_minutes = value_le (number_below most_minutes (up_to colon (past colon text)) refl (omega arith)) p.is_minutes in
      let c : p.seconds ≤ most_seconds = value_le (number_below most_seconds (up_to (mark ∷ []) (past colon (past colon text))) refl (omega arith)) p.is_seconds in
      let d : p.fraction ≤ U - 1 = value_le (number_below (U - 1) (past (mark ∷ []) (past colon (past colon text))) refl (omega arith)) p.is_fraction in
      let t : (p.hours * 60 + p.minutes) * 60 + p.seconds ≤ 35999999 = omega arith in
      omega (arith, mul-le-mul_right U t, p.is_units)

-- ---- WebVTT
no_value : {A : Type 0} {v : ℕ} → None ≡ Some v → A
no_value e = absurd (let z : ◌≡◌ {A = ℕ} 0 1 = ap (λ (x : Option ℕ). elim x [ Some k ↦ 1 | None ↦ 0 ]) e in omega arith)

-- digits alone are a number
natural_number : (most v : ℕ) (s : List ℕ) → natural most s ≡ Some v → number most s ≡ Some v
unfolding number unsigned
natural_number most v [] e = e
natural_number most v (b ∷ r) e = go (eqb b 0x2B) refl
  where
    go : (t : Bool) → eqb b 0x2B ≡ t → natural most (cond t r (b ∷ r)) ≡ Some v
    go true p = no_value (digits_refused most (b ∷ r) 0 refl (omega arith) (digit_low b (omega (arith, eqb-true b 0x2B p))) ∙ e)
    go false p = e

wide_parts : (w most v : ℕ) (s : List ℕ) → wide_by w most s ≡ Some v → (length s ≡ w) × (number most s ≡ Some v)
unfolding wide_by
wide_parts w most v s e = go (eqb (length s) w) refl e
  where
    go : (t : Bool) → eqb (length s) w ≡ t → cond t (natural most s) None ≡ Some v → (length s ≡ w) × (number most s ≡ Some v)
    go true p e = (eqb-true (length s) w p, natural_number most v s e)
    go false p e = no_value e

from_number : (most v : ℕ) (s : List ℕ) → wide_from most s ≡ Some v → number most s ≡ Some v
unfolding wide_from
from_number most v s e = go (ltb (length s) 2) e
  where
    go : (t : Bool) → cond t None (natural most s) ≡ Some v → number most s ≡ Some v
    go true e = no_value e
    go false e = natural_number most v s e

-- a row whose first colon parts the hours h from t reads as the same time
module _ (n k : ℕ) (h : Option ℕ) (t : List ℕ) (e : minutes_on h t ≡ stamp n k) where
  found : Found 1000 n h (wide_by 2 most_minutes (up_to colon t)) (wide_by 2 most_seconds (up_to point (past colon t))) (wide_by 3 999 (past point (past colon t)))
  found = time_parts 1000 n 46 k h _ _ _ e

  on_long : 9 ≤ length t
  on_long =
      let p = found in
      let b = (wide_parts 2 most_minutes p.minutes (up_to colon t) p.is_minutes).0 in
      let c = (wide_parts 2 most_seconds p.seconds (up_to point (past colon t)) p.is_seconds).0 in
      let d = (wide_parts 3 999 p.fraction (past point (past colon t)) p.is_fraction).0 in
      let z : length (up_to point (past colon t)) + length point + length (past point (past colon t)) ≡ length (past colon t) = up_past point (past colon t) (omega arith) in
      let y : length (up_to colon t) + length colon + length (past colon t) ≡ length t = up_past colon t (omega arith) in
      omega arith

  on_with : (row : List ℕ) → number most_hours (up_to colon row) ≡ h → past colon row ≡ t → time_with 1000 46 row ≡ stamp n k
  unfolding time_with
  on_with row hu pc =
      let p = found in
      let M : number most_minutes (up_to colon t) ≡ wide_by 2 most_minutes (up_to colon t) = (wide_parts 2 most_minutes p.minutes (up_to colon t) p.is_minutes).1 ∙ sym p.is_minutes in
      let S : number most_seconds (up_to point (past colon t)) ≡ wide_by 2 most_seconds (up_to point (past colon t)) = (wide_parts 2 most_seconds p.seconds (up_to point (past colon t)) p.is_seconds).1 ∙ sym p.is_seconds in
      let F : number 999 (past point (past colon t)) ≡ wide_by 3 999 (past point (past colon t)) = (wide_parts 3 999 p.fraction (past point (past colon t)) p.is_fraction).1 ∙ sym p.is_fraction in
      rw (hu, pc, M, S, F) e

-- a WebVTT time reads as an ASS or SRT one would, with U 1000 and the point: itself, or with `0:` before it
pub record Vtt (n k : ℕ) (t : List ℕ) : Type 0 where
  pub row : List ℕ
  pub reads : time_with 1000 46 row ≡ stamp n k
  pub inside : (c : ℕ) → Free c row → Free c t
  pub long : 9 ≤ length t

past_long : (t : List ℕ) → 9 ≤ length (past colon t) → 9 ≤ length t
past_long t h = omega (arith, up_past colon t (omega arith))

zero_hours : (t : List ℕ) → (number most_hours (up_to colon (48 ∷ 58 ∷ t)) ≡ Some 0) × (past colon (48 ∷ 58 ∷ t) ≡ t)
unfolding up_to past first starts number natural unsigned digits digit value_from
zero_hours t = (refl, refl)

pub vtt_found : (n k : ℕ) (t : List ℕ) → vtt_time t ≡ stamp n k → Vtt n k t
unfolding vtt_time
vtt_found n k t e = go (contains colon (past colon t)) e
  where
    go : (b : Bool) → cond b (minutes_on (wide_from most_hours (up_to colon t)) (past colon t)) (minutes_on (Some 0) t) ≡ stamp n k → Vtt n k t
    go true e =
        let H = wide_from most_hours (up_to colon t) in
        let p = found n k H (past colon t) e in
        record {
          row = t;
          reads = on_with n k H (past colon t) e t (from_number most_hours p.hours (up_to colon t) p.is_hours ∙ sym p.is_hours) refl;
          inside = λ c f. f;
          long = past_long t (on_long n k H (past colon t) e);
        }
    go false e =
        record {
          row = 48 ∷ 58 ∷ t;
          reads = on_with n k (Some 0) t e (48 ∷ 58 ∷ t) (zero_hours t).0 (zero_hours t).1;
          inside = λ c f. f.1.1;
          long = on_long n k (Some 0) t e;
        }

-- ---- every kind: some row reads as the time by the kind's units and the mark that stands in the text
pub record Known (kind n k : ℕ) (text : List ℕ) : Type 0 where
  pub good : kind_bad kind ≡ false
  pub row : List ℕ
  pub reads : time_with (units_of kind) (mark_in kind (trim text)) row ≡ stamp n k
  pub inside : (c : ℕ) → Free c row → Free c (trim text)
  pub long : 7 ≤ length (trim text)

pub read_known : (kind n k : ℕ) (text : List ℕ) → time_in kind text ≡ stamp n k → Known kind n k text
unfolding time_in units_of mark_in mark_of
read_known kind n k text e = go (kind_bad kind) refl (eqb kind 2) refl e
  where
    two : (i : ℕ) → i ≡ 2 → (row : List ℕ) → time_with 1000 46 row ≡ stamp n k → time_with (units_of i) (mark_in i (trim text)) row ≡ stamp n k
    two i q row r = subst (λ (j : ℕ). time_with (units_of j) (mark_in j (trim text)) row ≡ stamp n k) (sym q) r

    go : (b : Bool) → kind_bad kind ≡ b → (z : Bool) → eqb kind 2 ≡ z
        → cond b None (cond z (vtt_time (trim text)) (time_with (units_of kind) (mark_in kind (trim text)) (trim text))) ≡ stamp n k → Known kind n k text
    go true q z y e = not_at e
    go false q true y e =
        let v = vtt_found n k (trim text) e in
        record { good = q; row = v.row; reads = two kind (eqb-true kind 2 y) v.row v.reads; inside = v.inside; long = omega (arith, v.long) }
    go false q false y e =
        record { good = q; row = trim text; reads = e; inside = λ c f. f; long = with_long (units_of kind) n (mark_in kind (trim text)) k (trim text) e }

module _ (kind n k : ℕ) (text : List ℕ) (e : time_in kind text ≡ stamp n k) where
  -- its text has 7 bytes or more
  pub time_long : 7 ≤ length text
  time_long = omega (arith, (read_known kind n k text e).long, trim_length text)

  -- it is below 10,000 hours, and so within the limit of a conversion
  pub time_below : n < 36000000 * units_of kind
  time_below =
      let p = read_known kind n k text e in
      with_most (units_of kind) n (mark_in kind (trim text)) k p.row p.reads (omega (arith, units_low kind p.good))

  pub time_most : n ≤ most_units
  time_most = omega (arith, time_below, units_high kind (read_known kind n k text e).good)

  -- it was read with the mark that stands in it
  pub time_mark_lem : k ≡ mark_in kind (trim text)
  time_mark_lem = let p = read_known kind n k text e in with_mark (units_of kind) n (mark_in kind (trim text)) k p.row p.reads

-- a mark is a comma or a point
pub mark_one : (kind : ℕ) (t : List ℕ) → kind_bad kind ≡ false → (mark_in kind t ≡ 44) ⊎ (mark_in kind t ≡ 46)
unfolding mark_in mark_of
mark_one kind t e = by_kind (λ k. (mark_in k t ≡ 44) ⊎ (mark_in k t ≡ 46)) (inr refl) (go (contains comma (past colon (past colon t)))) (inr refl) kind e
  where
    go : (b : Bool) → (◌≡◌ {A = ℕ} (cond b 44 46) 44) ⊎ (◌≡◌ {A = ℕ} (cond b 44 46) 46)
    go true = inl refl
    go false = inr refl

pub time_marks : (kind n k : ℕ) (text : List ℕ) → time_in kind text ≡ stamp n k → (k ≡ 44) ⊎ (k ≡ 46)
time_marks kind n k text e =
    ⊎_elim (λ q. inl (time_mark_lem kind n k text e ∙ q)) (λ q. inr (time_mark_lem kind n k text e ∙ q)) (mark_one kind (trim text) (read_known kind n k text e).good)

-- ---- what the calls of WebVTT's reader answered
pub wide_below : (w most : ℕ) {k : ℕ} {x : Option ℕ} (s : List ℕ) → x ≡ wide_by w most s → most ≤ k → Below k x
unfolding wide_by
wide_below w most {k} s e h = subst (Below k) (sym e) (go (eqb (length s) w))
  where
    go : (t : Bool) → Below k (cond t (natural most s) None)
    go true = below_more (natural most s) h (natural_below most s)
    go false = tt

pub from_below : (most : ℕ) {k : ℕ} {x : Option ℕ} (s : List ℕ) → x ≡ wide_from most s → most ≤ k → Below k x
unfolding wide_from
from_below most {k} s e h = subst (Below k) (sym e) (go (ltb (length s) 2))
  where
    go : (t : Bool) → Below k (cond t None (natural most s))
    go true = tt
    go false = below_more (natural most s) h (natural_below most s)

pub minutes_all : (h m s f : Option ℕ) (text a2 r a3 a4 : List ℕ) (x : Option Stamp) → a2 ≡ up_to colon text → m ≡ wide_by 2 most_minutes a2 → r ≡ past colon text
    → a3 ≡ up_to point r → s ≡ wide_by 2 most_seconds a3 → a4 ≡ past point r → f ≡ wide_by 3 999 a4 → x ≡ time_from 1000 46 h m s f → x ≡ minutes_on h text
minutes_all h m s f text a2 r a3 a4 x e2 em er e3 es e4 ef ex = rw (ex, em, es, ef, e2, e3, e4, er)

pub vtt_hours : (text r a : List ℕ) (b : Bool) (h : Option ℕ) (x : Option Stamp) → r ≡ past colon text → b ≡ contains colon r → b ≡ true → a ≡ up_to colon text → h ≡ wide_from most_hours a → x ≡ minutes_on h r → x ≡ vtt_time text
unfolding vtt_time
vtt_hours text r a b h x er eb p ea eh ex = yes! _ (ap (contains colon) (sym er) ∙ sym eb ∙ p) (rw (ex, eh, ea, er))

pub vtt_none : (text r : List ℕ) (b : Bool) (h : Option ℕ) (x : Option Stamp) → r ≡ past colon text → b ≡ contains colon r → b ≡ false → h ≡ Some 0 → x ≡ minutes_on h text → x ≡ vtt_time text
unfolding vtt_time
vtt_none text r b h x er eb p eh ex = no! _ (ap (contains colon) (sym er) ∙ sym eb ∙ p) (rw (ex, eh))
