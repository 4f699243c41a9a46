use Rattle.std.proofs.Common.{rules, ◌≡◌, ℕ, ◌-◌, ◌∙◌, ap, sym, length, take, drop, replicate}
use lib.ListN.{length-replicate}
use Rattle.parked_blocks.proofs.Parts.{part_put}
use Rattle.parked_blocks.proofs.writing.put_zeros.Goals as goal

pub returns : goal.returns
returns c =
    let n : length (take (c.args.end - c.args.at) (drop c.args.at c.args.out.now)) ≡ c.args.end - c.args.at = search rules in
    let e : c.fill.new.self ≡ replicate (c.args.end - c.args.at) 0 = c.fill.ensures.after (λ y e. e) ∙ ap (λ (k : ℕ). replicate k 0) n in
    rw e (part_put _ _ _ _ (sym (length-replicate {A = ℕ} (c.args.end - c.args.at) 0)))
