-- §3.1: places in a row of the numbers that are read from it again, by the order of `numbers`.
use Rattle.std.specs.Prelude.{ℕ}

abbrev pub station_place : ℕ
station_place = 0

abbrev pub season_place : ℕ
season_place = 1

abbrev pub verdict_place : ℕ
verdict_place = 2

abbrev pub tolerable_touch_lower_place : ℕ
tolerable_touch_lower_place = 8

abbrev pub tolerable_step_lower_place : ℕ
tolerable_step_lower_place = 10

abbrev pub mesh_upper_place : ℕ
mesh_upper_place = 13

abbrev pub step_upper_place : ℕ
step_upper_place = 15
