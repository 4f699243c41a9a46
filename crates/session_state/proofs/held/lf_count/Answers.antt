use Rattle.std.proofs.Common.{ap, ◌≡◌, ℕ, List, ◌∷◌, refl, sym, ◌∙◌, ◌+◌, eqb, cond, true, false, Bool, arith}
use lib.Seq.{take_all}
use Rattle.std.specs.List.{count_by}
use Rattle.std.proofs.lemmas.List.Recursion.{is_count_by}
use Rattle.spec_session.proofs.session_state.MarkLaws.{lfs, lf_again}
use Rattle.session_state.proofs.held.lf_count.Goals as goal

one_more : (b : ℕ) (t : List ℕ) → lfs (b ∷ t) ≡ cond (eqb b 10) (1 + lfs t) (lfs t)
one_more b t = let g = lf_again (b ∷ t) 0 0 (cond (eqb b 10) 1 0) (omega arith) (omega arith) refl in sym g ∙ go (eqb b 10)
  where
    go : (x : Bool) → 0 + cond x 1 0 + lfs t ≡ cond x (1 + lfs t) (lfs t)
    go true = omega arith
    go false = omega arith

pub returns : goal.returns
returns c = c.loop-b.invariant ∙ ap (count_by (λ x. eqb x 10)) (take_all _ c.args.held.now c.loop-b-test.false) ∙ sym (is_count_by lfs (λ x. eqb x 10) refl one_more c.args.held.now)
