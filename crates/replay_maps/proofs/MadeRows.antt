-- Work bytes of a case, worked out by hand.
use mathlib.Core.Path.{◌≡◌, refl}
use Rattle.replay_maps.specs.Made.{work_lent}

pub none_lent : work_lent 0 ≡ 131072
unfolding work_lent
none_lent = refl

pub few_lent : work_lent 3 ≡ 3
unfolding work_lent
few_lent = refl

pub most_lent : work_lent 131072 ≡ 131072
unfolding work_lent
most_lent = refl

pub more_lent : work_lent 131073 ≡ 131072
unfolding work_lent
more_lent = refl
