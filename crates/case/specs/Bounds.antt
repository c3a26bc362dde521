-- What the checks of §1.2 and §1.4 imply for a sound case: proved in proofs/Bounds.antt.
use Rattle.std.specs.Prelude.{ℕ, ◌≤◌, ◌<◌}
use mathlib.Core.{Path.{◌≡◌}, Logic.{◌⊎◌}, List.{List}}
use Rattle.std.specs.Prelude.{length, get_or}
use Rattle.case.specs.declared.Case.{Case}

-- columns that a sound header gives: one for each of n names, each from 1 to n
pub record Placed (n : ℕ) (at : List ℕ) : Type 0 where
  pub count : length at ≡ n
  pub some : (i : ℕ) → i < n → 1 ≤ get_or at i 0
  pub within : (i : ℕ) → get_or at i 0 ≤ n

pub record Between (a x b : ℕ) : Type 0 where
  pub low : a ≤ x
  pub high : x ≤ b

-- a layer
pub record Layered (c : Case) : Type 0 where
  pub layer : Between 100 c.layer 10000
  pub thick : Between 20 c.thick 300

-- bare soil
pub record Bare (c : Case) : Type 0 where
  pub layer : c.layer ≡ 0
  pub thick : c.thick ≡ 0

pub record Rodded (c : Case) : Type 0 where
  pub rods : Between 1 c.rods 200
  pub rodlen : Between 1000 c.rodlen 10000
  pub place : Between 1 c.place 2

pub record Rodless (c : Case) : Type 0 where
  pub rods : c.rods ≡ 0
  pub rodlen : c.rodlen ≡ 0
  pub place : c.place ≡ 0

pub record Bounds (c : Case) : Type 0 where
  pub station : Between 1 c.station 65535
  pub season : Between 1 c.season 4
  pub soil : Between 10 c.soil 5000
  pub surface : Bare c ⊎ Layered c
  pub shock : Between 9 c.shock 3000
  pub clear : Between 9 c.clear 3000
  pub wire : Between 9 c.wire 3000
  pub body : (c.body ≡ 50) ⊎ (c.body ≡ 70)
  pub fault : Between 100 c.fault 80000
  pub split : Between 1 c.split 1000
  pub xr : Between 1 c.xr 40
  pub across : Between 2 c.across 25
  pub along : Between 2 c.along 25
  pub space : Between 2500 c.space 30000
  pub depth : Between 250 c.depth 2500
  pub dia : Between 50 c.dia 300
  pub rods : Rodless c ⊎ Rodded c
  pub metal : Between 1 c.metal 11
  pub hz : (c.hz ≡ 50) ⊎ (c.hz ≡ 60)
