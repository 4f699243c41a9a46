-- How far the written time of an uncut time may lie from where it belongs, for any T and U.
-- The stretch has source start q and output start o, and moves times by d = o − q; S and E are the units read, s and e those written.
--     S×T + U×d − U − T < s×T ≤ S×T + U×d
--     E×T + U×d − U < e×T < E×T + U×d + T
-- d may be below zero: U×q is added on both sides of each, so that every number is at least zero.
use Rattle.std.specs.Prelude.{ℕ, ◌+◌, ◌*◌, ◌≤◌, ◌<◌}

pub record NearStart (T U q o S s : ℕ) : Type 0 where
  pub low : S * T + U * o < s * T + U * q + U + T
  pub high : s * T + U * q ≤ S * T + U * o

pub record NearEnd (T U q o E e : ℕ) : Type 0 where
  pub low : E * T + U * o < e * T + U * q + U
  pub high : e * T + U * q < E * T + U * o + T
