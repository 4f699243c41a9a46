-- What the functions of `src/list.rt` return.
use mathlib.Core.Path.{◌≡◌, refl, sym, ap, subst, ◌∙◌}
use mathlib.Core.Bool.{Bool, true, false, cond}
use mathlib.Core.List.{List, [], ◌∷◌}
use Prim.Native.Nat.{ℕ, suc, ◌+◌, ◌*◌, ◌-◌, ◌≤◌, ◌<◌}
use native.Mathlib.Omega.{arith}
use borrow.Author.Tests.{le-leb, lt-leb, eq-eqb, ne_eqb, eqb-true}
use lib.Dec.{eqb}
use lib.ListN.{length, take, drop, get_or, set, length-drop}
use lib.Seq.{sets}
use Rattle.std.specs.Prelude.{Result, Ok, Err}
use Rattle.spec_base.specs.base.Limits.{most_list_bytes, most_trims, most_places}
use Rattle.spec_base.specs.base.Refusal.{◌or_else◌, fault_unless}
use Rattle.spec_base.specs.base.Put.{put}
use Rattle.spec_base.proofs.base.Laws.{yes!, no! }
use Rattle.spec_base.proofs.base.RefusalLaws.{else_found, else_none}
use Rattle.spec_base.proofs.base.PutLaws.{put_nil, take_put, put_take, sets_put}
use Rattle.spec_text.specs.utf8.Utf8.{utf8}
use Rattle.spec_text.specs.text.Line.{blank}
use Rattle.spec_text.specs.pattern.Find.{first}
use Rattle.spec_trim.specs.declared.trim.Range.{Range}
use Rattle.spec_trim.specs.declared.trim.Parsed.{Parsed}
use Rattle.spec_trim.specs.trim.Token.{mark, step_of}
use Rattle.spec_trim.specs.trim.TrimList.{tokens_of, list_tokens, tokens_number, ranges_in, head_number, list_number, range_count, ranges_of, parsed, list_answer, parse_of, range_places}
use Rattle.spec_trim.proofs.trim.TokensLaws.{tokens_turn, tokens_last, tokens_next, tokens_one, fault_some, number_fault_lem, number_range, number_many, number_done, ranges_range, ranges_done, zero_taken}
use Rattle.spec_trim.proofs.trim.RangeLaws.{list_some, list_none, ranges_length, range_count_most, parse_lent, parse_short, places_written, places_kept}

-- ---- the tests before the tokens
module _ (s : List ℕ) where
  pub head_long : most_list_bytes < length s → 7 ≡ head_number s
  unfolding head_number fault_unless ◌or_else◌
  head_long h = rw (lt-leb (length s) most_list_bytes h)

  pub head_bytes_lem : (f : Bool) → length s ≤ most_list_bytes → f ≡ utf8 s → f ≡ false → 20 ≡ head_number s
  unfolding head_number fault_unless ◌or_else◌
  head_bytes_lem f h u q = rw (le-leb (length s) most_list_bytes h, ← u, q)

  pub head_passed : (f : Bool) → length s ≤ most_list_bytes → f ≡ utf8 s → f ≡ true → 0 ≡ head_number s
  unfolding head_number fault_unless ◌or_else◌
  head_passed f h u q = rw (le-leb (length s) most_list_bytes h, ← u, q)

-- ---- an answer
answered_fault : (s : List ℕ) (n : ℕ) → (n ≡ 0 → ⊥) → parsed n 0 ≡ list_answer n s
unfolding list_answer
answered_fault s n h = ap (parsed n) (no! _ (ne_eqb n 0 h) refl)

answered_zero : (s : List ℕ) (k : ℕ) → k ≡ range_count s → parsed 0 k ≡ list_answer 0 s
unfolding list_answer
answered_zero s k e = ap (parsed 0) e

answered_number : (s : List ℕ) (n : ℕ) → (list_answer n s).number ≡ n
unfolding list_answer
answered_number s n = refl

-- ---- a turn of the loop. The list's number, count and ranges are told by what is left of it
next_left : (count : ℕ) → count < most_trims → most_trims - count ≡ suc (most_trims - (count + 1))
next_left count h = omega arith

module _ (s t p : List ℕ) (prev count k : ℕ) (token : Result Range ℕ) (inv : tokens_number most_trims 0 (tokens_of s) ≡ tokens_number (most_trims - count) prev (tokens_of t)) (h : count < most_trims)
    (e : k ≡ first mark t) (d : p ≡ take k t) (f : token ≡ step_of prev p) where
  number_here : (ts : List (List ℕ)) → tokens_of t ≡ p ∷ ts → tokens_number most_trims 0 (tokens_of s) ≡ tokens_number (suc (most_trims - (count + 1))) prev (p ∷ ts)
  number_here ts q = inv ∙ ap (λ (l : ℕ). tokens_number l prev (tokens_of t)) (next_left count h) ∙ ap (tokens_number (suc (most_trims - (count + 1))) prev) q

  -- a refused token
  pub read_fault : (n : ℕ) (r : Parsed) → token ≡ Err n → r ≡ parsed n 0 → r ≡ list_answer (tokens_number most_trims 0 (tokens_of s)) s
  read_fault n r q g =
      let x : Err n ≡ step_of prev p = sym q ∙ f in
      let w : tokens_number most_trims 0 (tokens_of s) ≡ n = number_here _ (tokens_turn t p k e d) ∙ number_fault_lem (most_trims - (count + 1)) prev n p _ x in
      g ∙ answered_fault s n (fault_some prev n p x) ∙ ap (λ (m : ℕ). list_answer m s) (sym w)

  pub fault_unread : (n : ℕ) (r : Parsed) (x y : List ℕ) → token ≡ Err n → r ≡ parsed n 0 → r.number ≡ 0 → x ≡ y
  fault_unread n r x y q g z = absurd (fault_some prev n p (sym q ∙ f) (sym (ap (λ (u : Parsed). u.number) g) ∙ z))

  -- a range
  module _ (r : Range) (q : token ≡ Ok r) where
    abbrev a : ℕ
    a = r.start.0

    abbrev b : ℕ
    b = r.«end».0

    number_next : (ts : List (List ℕ)) → tokens_of t ≡ p ∷ ts → tokens_number most_trims 0 (tokens_of s) ≡ tokens_number (most_trims - (count + 1)) b ts
    number_next ts g = number_here ts g ∙ number_range (most_trims - (count + 1)) prev a b p ts (sym q ∙ f)

    -- the last one
    number_last : length t ≤ k → tokens_number most_trims 0 (tokens_of s) ≡ 0
    number_last l = number_next [] (tokens_last t p k e d l) ∙ number_done (most_trims - (count + 1)) b

    pub read_last_lem : (r : Parsed) → blank s ≡ false → length (tokens_of s) ≡ count + length (tokens_of t) → length t ≤ k → r ≡ parsed 0 (count + 1) → r ≡ list_answer (tokens_number most_trims 0 (tokens_of s)) s
    unfolding range_count
    read_last_lem r nb c l g =
        let w : length (tokens_of t) ≡ 1 = ap length (tokens_last t p k e d l) in
        g ∙ answered_zero s (count + 1) (omega (arith, w, c, ap length (list_some s nb))) ∙ ap (λ (m : ℕ). list_answer m s) (sym (number_last l))

    pub number_again : (u : List ℕ) → k < length t → u ≡ drop (k + 2) t → tokens_number most_trims 0 (tokens_of s) ≡ tokens_number (most_trims - (count + 1)) b (tokens_of u)
    number_again u l g = number_next (tokens_of u) (tokens_next t p u k e d l g)

    pub count_again : (u : List ℕ) → length (tokens_of s) ≡ count + length (tokens_of t) → k < length t → u ≡ drop (k + 2) t → length (tokens_of s) ≡ count + 1 + length (tokens_of u)
    count_again u c l g =
        let w : length (tokens_of t) ≡ suc (length (tokens_of u)) = ap length (tokens_next t p u k e d l g) in
        omega arith

    ranges_here : (ts : List (List ℕ)) → tokens_of t ≡ p ∷ ts → ranges_in (tokens_of t) ≡ a ∷ b ∷ ranges_in ts
    ranges_here ts g = ap ranges_in g ∙ ranges_range prev a b p ts (sym q ∙ f)

    -- the places: l₀ at first, l now, m with the range stored
    module _ (l₀ l m : List ℕ) (i : sets l₀ 0 (ranges_in (tokens_of s)) ≡ sets l (count * 2) (ranges_in (tokens_of t))) (st : m ≡ set (set l (count * 2) a) (count * 2 + 1) b) where
      places_next : (ts : List (List ℕ)) → tokens_of t ≡ p ∷ ts → sets l₀ 0 (ranges_in (tokens_of s)) ≡ sets m ((count + 1) * 2) (ranges_in ts)
      places_next ts g =
          let x : count * 2 + 1 ≡ suc (count * 2) = omega arith in
          let y : suc (suc (count * 2)) ≡ (count + 1) * 2 = omega arith in
          i ∙ ap (sets l (count * 2)) (ranges_here ts g)
          ∙ ap (λ (j : ℕ). sets (set (set l (count * 2) a) j b) (suc (suc (count * 2))) (ranges_in ts)) (sym x)
          ∙ ap (λ (z : List ℕ). sets z (suc (suc (count * 2))) (ranges_in ts)) (sym st)
          ∙ ap (λ (j : ℕ). sets m j (ranges_in ts)) y

      pub places_again : (u : List ℕ) → k < length t → u ≡ drop (k + 2) t → sets l₀ 0 (ranges_in (tokens_of s)) ≡ sets m ((count + 1) * 2) (ranges_in (tokens_of u))
      places_again u z g = places_next (tokens_of u) (tokens_next t p u k e d z g)

      pub read_filled : blank s ≡ false → most_places ≤ length l₀ → length t ≤ k → m ≡ put (ranges_of s) l₀
      unfolding ranges_of
      read_filled nb o z =
          let w = zero_taken most_trims 0 (tokens_of s) (number_last z) in
          let y : sets m ((count + 1) * 2) (ranges_in []) ≡ m = ap (sets m ((count + 1) * 2)) ranges_done in
          sym (sym (sets_put (ranges_in (tokens_of s)) l₀ (omega (arith, w.0, w.1))) ∙ places_next [] (tokens_last t p k e d z) ∙ y) ∙ ap (λ (x : List (List ℕ)). put (ranges_in x) l₀) (sym (list_some s nb))

pub read_many : (s t : List ℕ) (prev count : ℕ) (r : Parsed) → tokens_number most_trims 0 (tokens_of s) ≡ tokens_number (most_trims - count) prev (tokens_of t) → most_trims ≤ count → r ≡ parsed 7 0
    → r ≡ list_answer (tokens_number most_trims 0 (tokens_of s)) s
read_many s t prev count r inv h g =
    let z : most_trims - count ≡ 0 = omega arith in
    let w : tokens_number most_trims 0 (tokens_of s) ≡ 7 = inv ∙ ap (λ (l : ℕ). tokens_number l prev (tokens_of t)) z ∙ number_many prev (tokens_of t) (tokens_one t) in
    g ∙ answered_fault s 7 (λ e. omega arith) ∙ ap (λ (m : ℕ). list_answer m s) (sym w)

pub many_unread : (r : Parsed) (x y : List ℕ) → r ≡ parsed 7 0 → r.number ≡ 0 → x ≡ y
many_unread r x y g z = absurd (let n : 7 ≡ 0 = sym (ap (λ (u : Parsed). u.number) g) ∙ z in omega arith)

pub drop_shorter : (n k : ℕ) (t u : List ℕ) → length t ≤ n → u ≡ drop k t → length u ≤ n
drop_shorter n k t u h e = subst (λ (x : List ℕ). length x ≤ n) (sym e) (simp length-drop (omega arith))

-- ---- the whole list
pub read_head : (s : List ℕ) (n : ℕ) (r : Parsed) → n ≡ head_number s → (n ≡ 0 → ⊥) → r ≡ parsed n 0 → r ≡ list_answer (list_number s) s
unfolding list_number
read_head s n r e h g = g ∙ answered_fault s n h ∙ ap (λ (m : ℕ). list_answer m s) (e ∙ sym (else_found (head_number s) _ (λ z. h (e ∙ z))))

pub head_unread : (n : ℕ) (r : Parsed) (x y : List ℕ) → (n ≡ 0 → ⊥) → r ≡ parsed n 0 → r.number ≡ 0 → x ≡ y
head_unread n r x y h g z = absurd (h (sym (ap (λ (u : Parsed). u.number) g) ∙ z))

-- no answer counts more ranges than are allowed
count_most : (s : List ℕ) (r : Parsed) → r ≡ list_answer (list_number s) s → r.count ≤ most_trims
unfolding list_answer
count_most s r e = go (eqb (list_number s) 0) refl (ap (λ (u : Parsed). u.count) e)
  where
    go : (t : Bool) → eqb (list_number s) 0 ≡ t → r.count ≡ cond t (range_count s) 0 → r.count ≤ most_trims
    go true q f = omega (arith, range_count_most s (eqb-true (list_number s) 0 q))
    go false q f = omega arith

pub head_count : (n : ℕ) (r : Parsed) → r ≡ parsed n 0 → r.count ≤ most_trims
head_count n r g =
    let q : r.count ≡ 0 = ap (λ (u : Parsed). u.count) g in
    omega arith

module _ (s : List ℕ) (n : ℕ) (r : Parsed) (e : n ≡ head_number s) (z : n ≡ 0) (t : Bool) (et : t ≡ blank s) where
  -- a list that is not blank
  pub not_blank : t ≡ false → blank s ≡ false
  not_blank h = sym et ∙ h

  pub read_rest_lem : t ≡ false → r ≡ list_answer (tokens_number most_trims 0 (tokens_of s)) s → r ≡ list_answer (list_number s) s
  unfolding list_number
  read_rest_lem h g = g ∙ ap (λ (x : List (List ℕ)). list_answer (tokens_number most_trims 0 x) s) (sym (list_some s (not_blank h))) ∙ ap (λ (m : ℕ). list_answer m s) (sym (else_none _ (sym e ∙ z)))

  pub rest_count : t ≡ false → r ≡ list_answer (tokens_number most_trims 0 (tokens_of s)) s → r.count ≤ most_trims
  rest_count h g = count_most s r (read_rest_lem h g)

  -- a blank one
  pub read_blank : t ≡ true → r ≡ parsed 0 0 → r ≡ list_answer (list_number s) s
  unfolding list_number range_count tokens_number
  read_blank h g =
      let q : list_tokens s ≡ [] = list_none s (sym et ∙ h) in
      let c : 0 ≡ length (list_tokens s) = sym (ap length q) in
      let w : tokens_number most_trims 0 (list_tokens s) ≡ 0 = ap (tokens_number most_trims 0) q in
      g ∙ answered_zero s 0 c ∙ ap (λ (m : ℕ). list_answer m s) (sym (else_none _ (sym e ∙ z) ∙ w))

  pub blank_count : t ≡ true → r ≡ parsed 0 0 → r.count ≤ most_trims
  blank_count h g = count_most s r (read_blank h g)

  pub blank_filled : (l : List ℕ) → t ≡ true → l ≡ put (ranges_of s) l
  unfolding ranges_of ranges_in
  blank_filled l h = sym (ap (λ (x : List (List ℕ)). put (ranges_in x) l) (list_none s (sym et ∙ h)) ∙ put_nil l)

-- ---- the calls
pub check_told : (s : List ℕ) (r : Parsed) → r ≡ list_answer (list_number s) s → r.number ≡ list_number s
check_told s r e = ap (λ (u : Parsed). u.number) e ∙ answered_number s (list_number s)

module _ (s l : List ℕ) where
  pub short_told : (r : Parsed) → length l < most_places → r ≡ parsed 16 0 → r ≡ parse_of s (length l)
  unfolding parse_of
  short_told r h g = g ∙ answered_fault s 16 (λ e. omega arith) ∙ ap (λ (m : ℕ). list_answer m s) (sym (parse_short s (length l) h))

  pub short_kept : length l < most_places → l ≡ range_places s l
  short_kept h = sym (places_kept s l (λ z. let n : 16 ≡ 0 = sym (parse_short s (length l) h) ∙ z in omega arith))

  pub parse_told : (r : Parsed) → most_places ≤ length l → r ≡ list_answer (list_number s) s → r ≡ parse_of s (length l)
  unfolding parse_of
  parse_told r h e = e ∙ ap (λ (m : ℕ). list_answer m s) (sym (parse_lent s (length l) h))

  pub parse_kept : (r : Parsed) → most_places ≤ length l → r ≡ list_answer (list_number s) s → (r.number ≡ 0 → ⊥) → l ≡ range_places s l
  parse_kept r h e n = sym (places_kept s l (λ z. n (check_told s r e ∙ sym (parse_lent s (length l) h) ∙ z)))

-- ---- the copy
pub copy_again : (held l₀ l : List ℕ) (i n : ℕ) → l ≡ put (take i held) l₀ → i < n → n ≤ length held → length held ≤ length l₀ → set l i (get_or held i 0) ≡ put (take (i + 1) held) l₀
copy_again held l₀ l i n e h k m = ap (λ (x : List ℕ). set x i (get_or held i 0)) e ∙ put_take held l₀ i (omega arith) m

pub copy_done : (held l₀ l : List ℕ) (i n : ℕ) → l ≡ put (take i held) l₀ → i ≤ n → n ≤ i → l ≡ put (take n held) l₀
copy_done held l₀ l i n e h k =
    let q : i ≡ n = omega arith in
    e ∙ ap (λ (j : ℕ). put (take j held) l₀) q

-- how many numbers are copied
pub copy_count : (s : List ℕ) (r : Parsed) → r ≡ list_answer (list_number s) s → r.number ≡ 0 → r.count * 2 ≡ length (ranges_of s)
unfolding list_answer
copy_count s r e n =
    let z : list_number s ≡ 0 = sym (check_told s r e) ∙ n in
    let c : r.count ≡ range_count s = ap (λ (u : Parsed). u.count) e ∙ sym (yes! _ (eq-eqb _ 0 z) refl) in
    omega (arith, ranges_length s z)

pub parse_filled : (s l held zeros out : List ℕ) (r : Parsed) → most_places ≤ length l → r ≡ list_answer (list_number s) s → r.number ≡ 0 → (r.number ≡ 0 → held ≡ put (ranges_of s) zeros)
    → out ≡ put (take (r.count * 2) held) l → out ≡ range_places s l
parse_filled s l held zeros out r h e n f g =
    let z : list_number s ≡ 0 = sym (check_told s r e) ∙ n in
    let t : take (r.count * 2) held ≡ ranges_of s = ap (λ (k : ℕ). take k held) (copy_count s r e n) ∙ ap (take (length (ranges_of s))) (f n) ∙ take_put (ranges_of s) zeros in
    g ∙ ap (λ (x : List ℕ). put x l) t ∙ sym (places_written s l h z)
