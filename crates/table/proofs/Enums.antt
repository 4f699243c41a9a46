-- The number and values of each answer that is an enum, from the contract of the function that gives it.
use mathlib.Core.Path.{◌≡◌, refl, sym, ap, ◌∙◌}
use mathlib.Core.Logic.{inl, inr}
use mathlib.Core.Bool.{Bool, true, false, ◌&&◌, cond}
use mathlib.Core.List.{List, [], ◌∷◌}
use Prim.Native.Nat.{ℕ, suc}
use native.Mathlib.Omega.{arith}
use lib.Dec.{leb}
use lib.ListN.{length}
use borrow.Author.Tests.{lt-ltb}
use Rattle.std.specs.Prelude.{Option, Some, None}
use Rattle.spec_text.specs.text.Number.{digits, value_from, natural, unsigned, number, number_fault, number_values}
use Rattle.spec_time.specs.declared.caption_stamp.Stamp.{Stamp}
use Rattle.spec_time.specs.caption_stamp.Read.{time_in}
use Rattle.spec_time.proofs.caption_stamp.Reading.{time_below}
use Rattle.spec_sheet.specs.sheet.Sheet.{number_of, values_of}
use Rattle.spec_sheet.proofs.sheet.SheetLaws.{number_is}
use Rattle.spec_sheet.proofs.sheet.AnswerLaws.{sheet_values}
use Rattle.spec_time.specs.caption_time.Convert.{ticks_within}
use Rattle.spec_map.specs.segment.Segment.{source_of, output_start_of, end_bad}
use Rattle.spec_caption.specs.declared.caption_fate.Config.{Config}
use Rattle.spec_caption.specs.declared.caption_fate.Decision.TheVariants.{Strange, Kept}
use Rattle.spec_caption.specs.declared.caption_fate.Retimed.{Retimed}
use Rattle.spec_caption.specs.caption_fate.Hit.{Found, miss, hit, find_hit, hit_of}
use Rattle.spec_caption.specs.caption_fate.Decide.{limited_hit, decide_in}
use Rattle.spec_caption.specs.caption_fate.Cases.{told, hit_case, decision_case}
use Rattle.table.specs.Enums.{is_natural, SaysNumber, SaysTime, found_case, decided_case, Enums}

-- ---- decimal numbers
natural_is : (most : ℕ) (s : List ℕ) → natural most s ≡ cond (is_natural most s) (Some (value_from 0 s)) None
unfolding natural
natural_is most [] = refl
natural_is most (b ∷ r) =
    go (digits (b ∷ r)) (leb (value_from 0 (b ∷ r)) most)
    ∙ sym (ap (λ (t : Bool). cond (t && (digits (b ∷ r) && leb (value_from 0 (b ∷ r)) most)) (Some (value_from 0 (b ∷ r))) None) (lt-ltb 0 (suc (length r)) (omega arith)))
  where
    go : (x y : Bool) → cond x (cond y (Some (value_from 0 (b ∷ r))) None) None ≡ cond (x && y) (Some (value_from 0 (b ∷ r))) None
    go true true = refl
    go true false = refl
    go false y = refl

says_number_lem : (k most : ℕ) (s : List ℕ) (r : Option ℕ) → r ≡ natural most s → SaysNumber k most s r
says_number_lem k most s r e =
    let q : r ≡ cond (is_natural most s) (Some (value_from 0 s)) None = e ∙ natural_is most s in
    record { number = ap (number_fault k) q ∙ fault (is_natural most s); values = ap number_values q ∙ values (is_natural most s) }
  where
    fault : (t : Bool) → number_fault k (cond t (Some (value_from 0 s)) None) ≡ cond t 0 k
    fault true = refl
    fault false = refl

    values : (t : Bool) → number_values (cond t (Some (value_from 0 s)) None) ≡ cond t (value_from 0 s ∷ []) []
    values true = refl
    values false = refl

signed : (k most : ℕ) (s : List ℕ) (r : Option ℕ) → r ≡ number most s → SaysNumber k most (unsigned s) r
unfolding number
signed k most s r e = says_number_lem k most (unsigned s) r e

-- ---- times
says_time : (kind : ℕ) (s : List ℕ) (r : Option Stamp) → r ≡ time_in kind s → SaysTime kind r
says_time kind s (Some n) e = inl (refl, time_below kind n.units n.mark s (sym e))
says_time kind s None e = inr (refl, (refl, refl))

-- ---- hits and decisions
hit_case_lem : (f : Found) → hit_case (hit_of f) ≡ found_case f
hit_case_lem miss = refl
hit_case_lem (hit i x xs) = refl

kept_case : (x y : Bool) (r : Retimed) → decision_case (cond x Strange (cond y Strange (Kept r))) ≡ cond x (told 15 []) (cond y (told 15 []) (told 0 (r.start ∷ r.stop ∷ [])))
kept_case true y r = refl
kept_case false true r = refl
kept_case false false r = refl

decided : (c : Config) (a b : ℕ) (f : Found) → decision_case (limited_hit c a b f) ≡ decided_case c a b f
decided c a b miss = refl
decided c a b (hit i x xs) = kept_case (end_bad (source_of x) x.duration) (end_bad (output_start_of x) x.duration) _

pub enums : Enums
unfolding decide_in
enums =
    record {
      digits_to = says_number_lem;
      number_to = signed;
      read_time = says_time;
      check = λ s lent r e. record { number = ap number_of e ∙ number_is s lent; values = ap values_of e ∙ sheet_values s lent };
      found_hit = λ m a b r e. ap hit_case e ∙ hit_case_lem (find_hit m a b);
      decide = λ c m S E r e. ap decision_case e ∙ decided c (ticks_within c.kind c.timescale S) (ticks_within c.kind c.timescale E) (find_hit m (ticks_within c.kind c.timescale S) (ticks_within c.kind c.timescale E));
    }
