-- Laws of the loop over the pieces of a `Format:` line: what `split` gives is what stands up to the next comma.
use mathlib.Core.Path.{◌≡◌, refl, sym, ap, ◌∙◌}
use mathlib.Core.Bool.{Bool, true, false, cond, true≢false}
use mathlib.Core.List.{List, [], ◌∷◌, ◌++◌}
use Prim.Native.Nat.{ℕ, zero, suc, ◌+◌, ◌≤◌, ◌<◌}
use native.Mathlib.Omega.{arith}
use borrow.Author.Tests.{eq-eqb, ne_eqb, eqb-true, eqb-false}
use lib.Dec.{eqb}
use lib.ListN.{length, take, drop, length-append}
use lib.Seq.{take_all, take-append_seam, drop-append-add}
use Rattle.std.specs.Bool.{MatchBool}
use Rattle.std.specs.List.{IsFirstMatchOrLen}
use Rattle.spec_text.specs.whitespace.White.{trim}
use Rattle.spec_text.specs.pattern.Find.{equals, first}
use Rattle.spec_text.specs.pattern.Piece.{comma}
use Rattle.spec_ass.specs.declared.ass_columns.Columns.{Columns}
use Rattle.spec_ass.specs.ass_columns.Columns.{start_name, end_name, names_in, columns_in}
use Rattle.spec_ass.proofs.ass_columns.ColumnLaws.{Left, left_all, left_done, left_trims, left_again}
use Rattle.ass_columns.proofs.CommaLaws.{first_comma, first_other}

abbrev is_comma : ℕ → Bool
is_comma b = eqb b 44

first_nil : first comma [] ≡ 0
unfolding first
first_nil = refl

-- the first byte that passes is the first comma
first_is : (t : List ℕ) (i : ℕ) → i ≤ length t → IsFirstMatchOrLen is_comma t i → i ≡ first comma t
first_is [] i h m = omega (arith, first_nil)
first_is (b ∷ t) zero h m = sym (first_comma b t (eq-eqb 44 b (sym (eqb-true b 44 (m.1 (omega arith) 0)))))
first_is (b ∷ t) (suc i) h m =
    let n : eqb 44 b ≡ false = ne_eqb 44 b (λ q. eqb-false b 44 (m.0 0 0 (omega arith) (omega arith)) (sym q)) in
    let r : i ≡ first comma t = first_is t i (omega arith) (λ k d l g. m.0 (suc k) d (omega arith) (omega arith), λ l d. m.1 (omega arith) d) in
    ap suc r ∙ sym (first_other b t n)

-- what is left of the line, or the whole answer
pub record Parts (s t : List ℕ) (done : Bool) (k trims start stop : ℕ) : Type 0 where
  pub left : done ≡ false → Left s t k trims start stop
  pub whole : done ≡ true → (◌≡◌ {A = Columns} (record { events = true; columns = k; start = start; «end» = stop }) (columns_in s)) × (trims ≡ length (names_in s))

pub parts_all : (s t : List ℕ) (done : Bool) → t ≡ s → done ≡ false → Parts s t done 0 0 0 0
parts_all s t done e d = record { left = λ q. rw e (left_all s); whole = λ q. absurd (true≢false (sym q ∙ d)) }

module _ (s t x n : List ℕ) (k trims start stop start' stop' : ℕ) (a b d : Bool) (p : Parts s t d k trims start stop) (hd : d ≡ false) (m : IsFirstMatchOrLen is_comma t (length x)) (en : n ≡ trim x)
    (ea : a ≡ equals start_name n) (eb : b ≡ equals end_name n) (es : start' ≡ cond (eqb start 0) (cond a (k + 1) 0) start) (ee : stop' ≡ cond (eqb stop 0) (cond b (k + 1) 0) stop) where
  inv : Left s t k trims start stop
  inv = p.left hd

  ends : t ≡ x → Parts s t true (k + 1) (trims + 1) start' stop'
  ends e =
      let ei : length x ≡ first comma t = first_is t (length x) (omega (arith, ap length e)) m in
      let h : length t ≤ length x = omega (arith, ap length e) in
      let ep : x ≡ take (length x) t = sym (take_all (length x) t h ∙ e) in
      record {
        left = λ q. absurd (true≢false q);
        whole = λ q. (
          left_done s t x n (length x) k trims start stop start' stop' a b inv ei ep en ea eb es ee h,
          left_trims s t x n (length x) k trims start stop start' stop' a b inv ei ep en ea eb es ee h,
        );
      }

  goes : (y : ℕ) (u : List ℕ) → t ≡ x ++ (y ∷ u) → Parts s u false (k + 1) (trims + 1) start' stop'
  goes y u e =
      let l : length x < length t = omega (arith, ap length e ∙ length-append x (y ∷ u)) in
      let ei : length x ≡ first comma t = first_is t (length x) (omega arith) m in
      let ep : x ≡ take (length x) t = sym (ap (take (length x)) e ∙ take-append_seam x (y ∷ u)) in
      let eu : u ≡ drop (length x + 1) t = sym (ap (drop (length x + 1)) e ∙ drop-append-add x (y ∷ u) 1) in
      record {
        left = λ q. left_again s t x n (length x) k trims start stop start' stop' a b inv ei ep en ea eb es ee u l eu;
        whole = λ q. absurd (true≢false (sym q));
      }

  pub parts_again : (d' : Bool) (u : List ℕ) → MatchBool d' (t ≡ x) ((y : ℕ) × (t ≡ x ++ (y ∷ u))) → Parts s u d' (k + 1) (trims + 1) start' stop'
  parts_again true u e = record { left = λ q. absurd (true≢false q); whole = (ends e).whole }
  parts_again false u e = goes e.0 u e.1

pub parts_few : (s t : List ℕ) (d : Bool) (k trims start stop : ℕ) → Parts s t d k trims start stop → d ≡ false → (k ≤ length s) × (trims ≤ k)
parts_few s t d k trims start stop p h = let inv = p.left h in (omega (arith, inv.room), omega (arith, inv.count, inv.trimmed))
