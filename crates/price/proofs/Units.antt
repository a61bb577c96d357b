-- What an objective tells: how far it can come, and how many times it counts in a cost's worth and in an entry's price.
use mathlib.Core.Path.{◌≡◌, refl}
use Prim.Native.Nat.{ℕ, ◌*◌, ◌≤◌, ◌<◌}
use Rattle.std.specs.Prelude.{Option, Some, None}
use native.Mathlib.Nat.{mul-le-mul}
use native.Mathlib.Omega.{arith}
use Rattle.pacsolve.specs.declared.Cost.{Cost}
use Rattle.pacsolve.specs.declared.Objective.{Objective}
use Rattle.pacsolve.specs.declared.Objective.TheVariants.{Weight, Dependencies, Duplicates}
use Rattle.price.specs.declared.Scale.{Scale}
use Rattle.price.specs.Worth.{part_of, Small}

-- products of bounded numbers
pub times_le : {a b m n : ℕ} (k : ℕ) → a ≤ m → b ≤ n → m * n ≡ k → a * b ≤ k
times_le k h l e = rw (← e) (mul-le-mul h l)

pub part_le : (o : Option Objective) (unit weight : ℕ) → unit ≤ 536870912 → weight ≤ 65535 → part_of o unit weight ≤ 35184372088832
part_le (Some Weight) unit weight h l = omega (arith, times_le 35183835217920 h l refl)
part_le (Some Dependencies) unit weight h l = omega arith
part_le (Some Duplicates) unit weight h l = omega arith
part_le None unit weight h l = omega arith

-- a cost's numbers, of 32 bits each, times what they count for
pub record Digits (scale : Scale) (cost : Cost) : Type 0 where
  pub first : cost.first * scale.first ≤ 2305843008676823040
  pub second : cost.second * scale.second ≤ 18014398505287680
  pub third : cost.third * scale.third ≤ 4294967295

pub digits : (scale : Scale) (cost : Cost) → Small scale → cost.first < 4294967296 → cost.second < 4294967296 → cost.third < 4294967296 → Digits scale cost
digits scale cost s a b c =
    let one : scale.third ≤ 1 = omega (arith, s.third) in
    let first : cost.first ≤ 4294967295 = omega arith in
    let second : cost.second ≤ 4294967295 = omega arith in
    let third : cost.third ≤ 4294967295 = omega arith in
    record {
      first = times_le 2305843008676823040 first s.first refl;
      second = times_le 18014398505287680 second s.second refl;
      third = times_le 4294967295 third one refl;
    }
