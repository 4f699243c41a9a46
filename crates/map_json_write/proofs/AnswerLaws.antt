-- Laws of the writer's answer.
use mathlib.Core.Path.{◌≡◌, refl, sym, ap, ◌∙◌}
use mathlib.Core.Bool.{Bool, true, false, not, cond, true≢false}
use mathlib.Core.List.{List, []}
use Prim.Native.Nat.{ℕ, ◌*◌, ◌%◌, ◌≤◌, ◌<◌}
use native.Mathlib.Omega.{arith}
use borrow.Author.Tests.{le-leb, lt-leb, leb-true, ne_eqb, not-true, not-false, ltb-false}
use lib.Dec.{eqb, ltb, leb}
use lib.ListN.{length}
use Rattle.spec_base.specs.base.Limits.{most_segments}
use Rattle.spec_base.specs.base.Refusal.{◌or_else◌, fault_unless}
use Rattle.spec_base.specs.base.Put.{put}
use Rattle.spec_base.proofs.base.PutLaws.{put_nil, put_at_zero}
use Rattle.spec_text.specs.utf8.Utf8.{utf8}
use Rattle.spec_time.specs.caption_time.Convert.{timescale_bad}
use Rattle.spec_map.specs.segment.Segment.{segments_of, any_bad, map_bad}
use Rattle.spec_map_json.specs.map_json_write.Names.{most_path}
use Rattle.spec_map_json.specs.map_json_write.Text.{map_text}
use Rattle.map_json_write.specs.Written.{Written}
use Rattle.spec_map_json.specs.map_json_write.MapWritten.{asked_number, write_number, when_done, Writes}
use Rattle.spec_base.proofs.base.RefusalLaws.{else_found}

abbrev by_tests_lem : (a b c d : Bool) → ℕ
by_tests_lem a b c d = fault_unless (not a) 15 or_else fault_unless (not b) 15 or_else fault_unless c 16 or_else fault_unless d 20

asked_by_lem : (m : List ℕ) (T : ℕ) (path : List ℕ) → asked_number m T path ≡ by_tests_lem (timescale_bad T) (map_bad m) (leb (length path) most_path) (utf8 path)
unfolding asked_number
asked_by_lem m T path = refl

tests : (a b c d : Bool) (r : ℕ) {a' b' c' d' : Bool} → a ≡ a' → b ≡ b' → c ≡ c' → d ≡ d' → r ≡ by_tests_lem a' b' c' d' → r ≡ by_tests_lem a b c d
tests a b c d r {a'} {b'} {c'} {d'} ea eb ec ed h = h ∙ sym (ap (λ (x : Bool). by_tests_lem x b c d) ea ∙ ap (λ (x : Bool). by_tests_lem a' x c d) eb ∙ ap (λ (x : Bool). by_tests_lem a' b' x d) ec ∙ ap (λ (x : Bool). by_tests_lem a' b' c' x) ed)

module _ (m : List ℕ) (T : ℕ) (path : List ℕ) (f : Bool) (ef : f ≡ timescale_bad T) where
  pub asked_scale : f ≡ true → 15 ≡ asked_number m T path
  unfolding fault_unless ◌or_else◌
  asked_scale h = tests (timescale_bad T) (map_bad m) (leb (length path) most_path) (utf8 path) 15 (sym ef ∙ h) refl refl refl refl ∙ sym (asked_by_lem m T path)

  module _ (g : Bool) (h : f ≡ false) (eg : g ≡ map_bad m) where
    pub asked_map : g ≡ true → 15 ≡ asked_number m T path
    unfolding fault_unless ◌or_else◌
    asked_map k = tests (timescale_bad T) (map_bad m) (leb (length path) most_path) (utf8 path) 15 (sym ef ∙ h) (sym eg ∙ k) refl refl refl ∙ sym (asked_by_lem m T path)

    pub asked_long : g ≡ false → 1024 < length path → 16 ≡ asked_number m T path
    unfolding fault_unless ◌or_else◌
    asked_long k l = tests (timescale_bad T) (map_bad m) (leb (length path) most_path) (utf8 path) 16 (sym ef ∙ h) (sym eg ∙ k) (lt-leb _ _ l) refl refl ∙ sym (asked_by_lem m T path)

    pub asked_utf8 : (u : Bool) → g ≡ false → length path ≤ 1024 → u ≡ utf8 path → not u ≡ true → 20 ≡ asked_number m T path
    unfolding fault_unless ◌or_else◌
    asked_utf8 u k l eu q = tests (timescale_bad T) (map_bad m) (leb (length path) most_path) (utf8 path) 20 (sym ef ∙ h) (sym eg ∙ k) (le-leb _ _ l) (sym eu ∙ not-true u q) refl ∙ sym (asked_by_lem m T path)

    pub asked_none : (u : Bool) → g ≡ false → length path ≤ 1024 → u ≡ utf8 path → not u ≡ false → 0 ≡ asked_number m T path
    unfolding fault_unless ◌or_else◌
    asked_none u k l eu q = tests (timescale_bad T) (map_bad m) (leb (length path) most_path) (utf8 path) 0 (sym ef ∙ h) (sym eg ∙ k) (le-leb _ _ l) (sym eu ∙ not-false u q) refl ∙ sym (asked_by_lem m T path)

-- what holds where it is 0
good_tests : (a b c d : Bool) → by_tests_lem a b c d ≡ 0 → (b ≡ false) × (c ≡ true)
unfolding fault_unless ◌or_else◌
good_tests true b c d e = absurd (omega arith)
good_tests false true c d e = absurd (omega arith)
good_tests false false false d e = absurd (omega arith)
good_tests false false true d e = (refl, refl)

map_short : (m : List ℕ) → map_bad m ≡ false → length m ≤ 6144
unfolding map_bad
map_short m = go (eqb (length m % 6) 0) (ltb (6 * most_segments) (length m)) refl
  where
    go : (p q : Bool) → ltb (6 * most_segments) (length m) ≡ q → cond p (cond q true (any_bad (segments_of m))) true ≡ false → length m ≤ 6144
    go true true e h = absurd (true≢false h)
    go true false e h = ltb-false _ _ e
    go false q e h = absurd (true≢false h)

pub asked_short : (m : List ℕ) (T n : ℕ) (path : List ℕ) → n ≡ asked_number m T path → n ≡ 0 → length m ≤ 6144
asked_short m T n path e z = map_short m (good_tests (timescale_bad T) (map_bad m) (leb (length path) most_path) (utf8 path) (sym (asked_by_lem m T path) ∙ sym e ∙ z)).0

pub asked_path : (m : List ℕ) (T n : ℕ) (path : List ℕ) → n ≡ asked_number m T path → n ≡ 0 → length path ≤ 1024
asked_path m T n path e z = leb-true _ _ (good_tests (timescale_bad T) (map_bad m) (leb (length path) most_path) (utf8 path) (sym (asked_by_lem m T path) ∙ sym e ∙ z)).1

-- ---- the room is asked last
room_last : (a b c d : Bool) (r : ℕ) → (fault_unless (not a) 15 or_else fault_unless (not b) 15 or_else fault_unless c 16 or_else fault_unless d 20 or_else r) ≡ (by_tests_lem a b c d or_else r)
unfolding fault_unless ◌or_else◌
room_last true b c d r = refl
room_last false true c d r = refl
room_last false false false d r = refl
room_last false false true false r = refl
room_last false false true true r = refl

number_is : (m : List ℕ) (T : ℕ) (path text : List ℕ) (lent : ℕ) → write_number m T path text lent ≡ asked_number m T path or_else fault_unless (leb (length text) lent) 16
unfolding write_number asked_number
number_is m T path text lent = room_last (timescale_bad T) (map_bad m) (leb (length path) most_path) (utf8 path) (fault_unless (leb (length text) lent) 16)

none_then : (a b : ℕ) → a ≡ 0 → a or_else b ≡ b
unfolding ◌or_else◌
none_then a b e = ap (λ (x : ℕ). x or_else b) e

not_done : (n : ℕ) (v : List ℕ) → (n ≡ 0 → ⊥) → when_done n v ≡ []
not_done n v h = ap (λ (t : Bool). cond t v []) (ne_eqb n 0 h)

unless_yes : (t : Bool) (k : ℕ) → t ≡ true → fault_unless t k ≡ 0
unfolding fault_unless
unless_yes t k e = ap (λ (x : Bool). fault_unless x k) e

unless_no : (t : Bool) (k : ℕ) → t ≡ false → fault_unless t k ≡ k
unfolding fault_unless
unless_no t k e = ap (λ (x : Bool). fault_unless x k) e

module _ (m : List ℕ) (T num den : ℕ) (path : List ℕ) (frames n : ℕ) (text : List ℕ) (en : n ≡ asked_number m T path) where
  abbrev pub X : List ℕ
  X = map_text T num den path frames (segments_of m)

  refused : (k : ℕ) → (k ≡ 0 → ⊥) → k ≡ write_number m T path X (length text) → Writes m T num den path frames (record { number = k; written = 0 }) text text
  refused k h e =
      let z : when_done k X ≡ [] = not_done k X h in
      record { number = e; written = sym (ap length z); bytes = sym (ap (λ (v : List ℕ). put v text) z ∙ put_nil text) }

  pub write_refused : (n ≡ 0 → ⊥) → Writes m T num den path frames (record { number = n; written = 0 }) text text
  write_refused h = refused n h (en ∙ sym (number_is m T path X (length text) ∙ else_found (asked_number m T path) _ (λ q. h (en ∙ q))))

  module _ (size : ℕ) (none none' : List ℕ) (z : n ≡ 0) (w : Written 0 X none size none') where
    size_is : size ≡ length X
    size_is = let p = w.place in omega arith

    last : write_number m T path X (length text) ≡ fault_unless (leb (length X) (length text)) 16
    last = number_is m T path X (length text) ∙ none_then (asked_number m T path) _ (sym en ∙ z)

    pub write_short : length text < size → Writes m T num den path frames (record { number = 16; written = 0 }) text text
    write_short h = refused 16 (λ q. omega arith) (sym (last ∙ unless_no _ 16 (lt-leb (length X) (length text) (omega (arith, size_is)))))

    pub write_done : (r : ℕ) (text' : List ℕ) → size ≤ length text → Written 0 X text r text' → Writes m T num den path frames (record { number = 0; written = r }) text text'
    write_done r text' h v =
        record {
          number = sym (last ∙ unless_yes _ 16 (le-leb (length X) (length text) (omega (arith, size_is))));
          written = let p = v.place in omega arith;
          bytes = v.bytes (let p = v.place in omega (arith, size_is)) ∙ put_at_zero X text;
        }
