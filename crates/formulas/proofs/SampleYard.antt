-- The two lines of the sample sheet (§3.3) at numbers, each part of a formula by its line.
use Prim.Native.Nat.{ℕ}
use Rattle.exact.specs.Ends.{minus_ends}
use Rattle.case.specs.declared.Case.{Case}
use Rattle.formulas.specs.{Lengths.{s, n, Ki}, Tolerable.{ρs, hs, Q, k, root_time, tolerable_touch, tolerable_step}}
use Rattle.formulas.specs.{Mesh.{inner_weight, Kii, Km, LM, mesh}, Step.{half_power, Ks, step}, Resistance.{resistance}}
use Rattle.formulas.specs.Yards.{grid, sample, wet}
use Rattle.formulas.proofs.Known.{Known, digits, rounded, known_exactly, known_sum, known_difference, known_product, known_quotient}
use Rattle.formulas.proofs.KnownFunctions.{known_root, known_ln_down, known_π, tests}
use Rattle.formulas.proofs.KnownGrid.{known_voltage, lengths, turn, root_20, current, kh, log_argument}

-- ---- what the two lines of the sample sheet have in common

module _ (season soil : ℕ) where
  abbrev line : Case
  line = grid season soil 11 11 0 0 0

  Ki-sample : Known (Ki line) (digits 12 2272000000000 2272000000000)
  unfolding tests Ki n
  Ki-sample =
      known_sum (digits 12 2272000000000 2272000000000) (known_exactly _)
      (known_product (digits 12 1628000000000 1628000000000) (known_exactly _) (known_exactly _) tt) tt

  Kii-sample : Known (Kii line) (digits 12 570063387159 570063387161)
  unfolding tests Kii inner_weight
  Kii-sample =
      known_quotient (digits 12 570063387159 570063387161) (known_exactly _)
      (known_root _ 1754190889160 1754190889161 (known_exactly _) tt) tt

  Km-sample : Known (Km line) (digits 12 889558591669 889558591673)
  unfolding tests Km n
  Km-sample =
      known_quotient (digits 12 889558591669 889558591673)
      (known_sum (digits 12 5589261473056 5589261473070) (log_argument season soil 11 11 0 0 0)
      (known_product (minus_ends (digits 12 982021569291 982021569303))
      (known_quotient (digits 12 465454806527 465454806530) Kii-sample (kh season soil 11 11 0 0 0) tt)
      (known_ln_down 3 (minus_ends (digits 12 2109810781887 2109810781897))
      (known_quotient (digits 12 121260909022 121260909023) (known_exactly _)
      (known_product (digits 12 65973445725385 65973445725386) known_π
      (known_difference (digits 12 21000000000000 21000000000000)
      (known_product (digits 12 22000000000000 22000000000000) (known_exactly _) (known_exactly _) tt)
      (known_exactly _) tt) tt) tt) tt) tt) tt)
      turn tt

  Ks-sample : Known (Ks line) (digits 12 406135231082 406135231083)
  unfolding tests lengths Ks half_power
  Ks-sample =
      known_quotient (digits 12 406135231082 406135231083)
      (known_sum (digits 12 1275911458333 1275911458334) (rounded (digits 12 1133333333333 1133333333334) (known_exactly _) tt)
      (known_quotient (digits 12 142578125000 142578125000)
      (known_difference (digits 12 998046875000 998046875000) (known_exactly _) (known_exactly _) tt)
      (known_exactly _) tt) tt)
      known_π tt

  -- √t
  root_time_lem : Known (root_time line) (digits 12 707106781186 707106781187)
  unfolding tests root_time
  root_time_lem = known_root _ 707106781186 707106781187 (known_exactly _) tt

-- what Q and k are made of, opened by name
unfoldable tolerable : ℕ
unfolding ρs hs Q k
tolerable = 0

-- ---- season 1

pub touch_sample : Known (tolerable_touch sample) (digits 3 840547 840548)
unfolding tests lengths tolerable tolerable_touch
touch_sample = known_quotient (digits 3 840547 840548) (known_exactly _) (root_time_lem 1 400) tt

pub tolerable_step_sample : Known (tolerable_step sample) (digits 3 2696097 2696098)
unfolding tests lengths tolerable tolerable_step
tolerable_step_sample = known_quotient (digits 3 2696097 2696098) (known_exactly _) (root_time_lem 1 400) tt

pub mesh_sample : Known (mesh sample) (digits 3 1027839 1027841)
unfolding tests lengths mesh LM
mesh_sample =
    known_voltage _ (digits 9 355823436667 355823436670) (digits 9 808430848107 808430848115) (digits 6 1582873044457 1582873044477)
    (digits 3 1027839 1027841) (Km-sample 1 400) (Ki-sample 1 400) (current 1 400 11 11 0 0 0)
    (rounded (digits 0 1540 1540) (known_exactly _) tt) tt tt tt tt

pub step_sample : Known (step sample) (digits 3 625691 625692)
unfolding tests lengths step
step_sample =
    known_voltage _ (digits 9 162454092432 162454092434) (digits 9 369095698005 369095698011) (digits 6 722673599808 722673599822)
    (digits 3 625691 625692) (Ks-sample 1 400) (Ki-sample 1 400) (current 1 400 11 11 0 0 0)
    (rounded (digits 0 1155 1155) (known_exactly _) tt) tt tt tt tt

pub resistance_sample : Known (resistance sample) (digits 6 2775693 2775694)
unfolding tests lengths resistance s
resistance_sample =
    known_product (digits 6 2775693 2775694) (known_exactly _)
    (known_sum (digits 15 6939234157186 6939234157196)
    (known_quotient (digits 15 649350649350 649350649351) (known_exactly _) (rounded (digits 0 1540 1540) (known_exactly _) tt) tt)
    (known_quotient (digits 15 6289883507836 6289883507845)
    (known_sum (digits 12 1969044993171 1969044993173) (known_exactly _)
    (known_quotient (digits 12 969044993171 969044993173) (known_exactly _)
    (known_sum (digits 12 1031943828249 1031943828250) (known_exactly _)
    (known_quotient (digits 12 31943828249 31943828250)
    (known_product (digits 12 2236067977499 2236067977500) (known_exactly _) root_20 tt)
    (rounded (digits 0 70 70) (known_exactly _) tt) tt) tt) tt) tt)
    (known_product (digits 12 313049516849930 313049516850000) (rounded (digits 0 70 70) (known_exactly _) tt) root_20 tt) tt) tt) tt

-- ---- season 2

pub touch_wet : Known (tolerable_touch wet) (digits 3 809961 809962)
unfolding tests lengths tolerable tolerable_touch
touch_wet = known_quotient (digits 3 809961 809962) (known_exactly _) (root_time_lem 2 100) tt

pub tolerable_step_wet : Known (tolerable_step wet) (digits 3 2573753 2573754)
unfolding tests lengths tolerable tolerable_step
tolerable_step_wet = known_quotient (digits 3 2573753 2573754) (known_exactly _) (root_time_lem 2 100) tt

pub mesh_wet : Known (mesh wet) (digits 3 256959 256960)
unfolding tests lengths mesh LM
mesh_wet =
    known_voltage _ (digits 9 88955859166 88955859168) (digits 9 202107712025 202107712030) (digits 6 395718261110 395718261122)
    (digits 3 256959 256960) (Km-sample 2 100) (Ki-sample 2 100) (current 2 100 11 11 0 0 0)
    (rounded (digits 0 1540 1540) (known_exactly _) tt) tt tt tt tt

pub step_wet : Known (step wet) (digits 3 156422 156423)
unfolding tests lengths step
step_wet =
    known_voltage _ (digits 9 40613523108 40613523109) (digits 9 92273924501 92273924504) (digits 6 180668399950 180668399958)
    (digits 3 156422 156423) (Ks-sample 2 100) (Ki-sample 2 100) (current 2 100 11 11 0 0 0)
    (rounded (digits 0 1155 1155) (known_exactly _) tt) tt tt tt tt
