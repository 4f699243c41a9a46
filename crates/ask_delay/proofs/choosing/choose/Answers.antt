use mathlib.Core.Path.{◌≡◌, refl, sym, ap, ◌∙◌}
use mathlib.Core.List.{List}
use Prim.Native.Nat.{ℕ, ◌+◌, ◌-◌, ◌<◌}
use native.Mathlib.Omega.{arith}
use lib.ListN.{drop, take, get_or}
use lib.Seq.{get_or-drop}
use Rattle.std.proofs.lemmas.List.{get_or-take, length-take}
use Rattle.ask_delay.specs.declared.choosing.Chosen.{Chosen}
use Rattle.ask_delay.specs.Choice.{better_of}
use Rattle.ask_delay.proofs.ChoiceLaws.{choose_start, better_tried, choose_again}
use Rattle.ask_delay.proofs.choosing.choose.Goals as goal

-- the loss at an index of those behind the first
loss_at : (s : List ℕ) (n i : ℕ) → i < n → get_or (take n (drop 1 s)) i 0 ≡ get_or s (i + 1) 0
loss_at s n i h = get_or-take n (drop 1 s) i 0 h ∙ get_or-drop 1 s i 0 ∙ ap (λ (j : ℕ). get_or s j 0) (omega arith)

pub loop-loss-init : goal.loop-loss-init
loop-loss-init c = (choose_start _ _ c.requires.1, refl)

pub loop-loss-preserved : goal.loop-loss-preserved
loop-loss-preserved c =
    let l = c.loop-loss.invariant in
    let b = c.loop-loss.best in
    let s = c.args.losses.now in
    let n = c.args.tries - 1 in
    let i : c.loop-loss.loss-index < n = omega (arith, length-take n (drop 1 s), c.loop-loss-test.true) in
    let v = loss_at s n c.loop-loss.loss-index i ∙ ap (λ (j : ℕ). get_or s j 0) (sym l.1) in
    let e = c.better-best.ensures ∙ ap (better_of b) v in
    (choose_again _ _ _ l.0 _ (omega (arith, l.1, i)) e, ap (λ (x : Chosen). x.tried) e ∙ better_tried b _ ∙ ap (λ (j : ℕ). j + 1) l.1)
