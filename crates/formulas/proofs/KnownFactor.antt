-- The decrement factor at numbers, for the times and the X/R of the yards computed by hand (§4.10).
use Prim.Native.Nat.{ℕ, ◌<◌}
use mathlib.Core.Bool.{◌&&◌}
use lib.Dec.{T, lit<}
use Rattle.exact.{specs.{Fraction.{whole, ◌·f◌}, Ends.{Ends, ◌+e◌, ◌−e◌, ◌·e◌, ◌÷e◌}, Depth.{Consistent}}, proofs.Order.{whole_pos}}
use Rattle.exact.proofs.{Products.{mul-pos}, Quantity.{quantity_exactly, quantity_product, quantity_quotient, quantity_π}}
use Rattle.case.specs.declared.Case.{Case}
use Rattle.formulas.specs.Decrement.{Ta, tf, Df}
use Rattle.formulas.proofs.{Positive.{decimal_pos}, Decrement.{two_pos, exponent}}
use Rattle.formulas.proofs.Known.{Known, digits, positive, inside, both_ends, known_exactly, known_sum, known_difference}
use Rattle.formulas.proofs.Known.{known_product, known_quotient}
use Rattle.formulas.proofs.KnownFunctions.{root_test, exp_test, known_root, known_exp_minus, known_π, tests}

module _ (c : Case) where
  -- the case at so many ms to clear, and X/R, at 60 Hz
  abbrev pub at : ℕ → ℕ → Case
  at ms xr =
      record {
        station = c.station;
        season = c.season;
        soil = c.soil;
        layer = c.layer;
        thick = c.thick;
        shock = c.shock;
        clear = ms;
        wire = c.wire;
        body = c.body;
        fault = c.fault;
        split = c.split;
        xr = xr;
        across = c.across;
        along = c.along;
        space = c.space;
        depth = c.depth;
        dia = c.dia;
        rods = c.rods;
        rodlen = c.rodlen;
        place = c.place;
        metal = c.metal;
        hz = 60;
      }

  consistent_exponent : (ms xr : ℕ) → 0 < ms → 0 < xr → Consistent (exponent (at ms xr))
  unfolding Ta tf
  consistent_exponent ms xr m x =
      (quantity_quotient (quantity_exactly (mul-pos two_pos (decimal_pos 3 m)))
      (quantity_quotient (quantity_exactly (whole_pos x))
      (quantity_product (quantity_product (quantity_exactly two_pos) quantity_π) (quantity_exactly (whole_pos (lit< tt)))))
      ).consistent

  -- Ta by pairs around 2π and 2π·hz
  module _ (ms xr : ℕ) (A B C : Ends) where
    ta_by : T (inside (both_ends (whole 2) ·e digits 15 3141592653589793 3141592653589794) A) → T (inside (A ·e both_ends (whole 60)) B)
        → T (positive B && inside (both_ends (whole xr) ÷e B) C) → Known (Ta (at ms xr)) C
    unfolding Ta
    ta_by t u v = known_quotient C (known_exactly _) (known_product B (known_product A (known_exactly _) known_π t) (known_exactly _) u) v

  -- Df by pairs around Ta, the exponent 2tf/Ta, a root of the power and the power, 1 less the power, Ta/tf, their product, and 1 more
  module _ (ms xr : ℕ) {A : Ends} (ta : Known (Ta (at ms xr)) A) (m : ℕ) (E C P Q R O U : Ends) (lo hi : ℕ) where
    factor_by : 0 < ms → 0 < xr → T (positive A && inside (both_ends (whole 2 ·f tf (at ms xr)) ÷e A) E) → T (exp_test m E C P)
        → T (inside (both_ends (whole 1) −e P) Q) → T (positive (both_ends (tf (at ms xr))) && inside (A ÷e both_ends (tf (at ms xr))) R)
        → T (inside (R ·e Q) O) → T (inside (both_ends (whole 1) +e O) U) → T (root_test 2 U lo hi) → Known (Df (at ms xr)) (digits 12 lo hi)
    unfolding Df
    factor_by p q t1 t2 t3 t4 t5 t6 t7 =
        known_root 2 lo hi
        (known_sum U (known_exactly _)
        (known_product O (known_quotient R ta (known_exactly _) t4)
        (known_difference Q (known_exactly _) (known_exp_minus m C P (consistent_exponent ms xr p q)
        (known_quotient E (known_exactly _) ta t1) t2) t3) t5) t6)
        t7

  ta_10 : (ms : ℕ) → Known (Ta (at ms 10)) (digits 15 26525823848649 26525823848650)
  unfolding tests
  ta_10 ms =
      ta_by ms 10 (digits 15 6283185307179586 6283185307179588) (digits 15 376991118430775160 376991118430775280)
      (digits 15 26525823848649 26525823848650) tt tt tt

  ta_11 : (ms : ℕ) → Known (Ta (at ms 11)) (digits 15 29178406233514 29178406233515)
  unfolding tests
  ta_11 ms =
      ta_by ms 11 (digits 15 6283185307179586 6283185307179588) (digits 15 376991118430775160 376991118430775280)
      (digits 15 29178406233514 29178406233515) tt tt tt

  ta_40 : (ms : ℕ) → Known (Ta (at ms 40)) (digits 15 106103295394596 106103295394597)
  unfolding tests
  ta_40 ms =
      ta_by ms 40 (digits 15 6283185307179586 6283185307179588) (digits 15 376991118430775160 376991118430775280)
      (digits 15 106103295394596 106103295394597) tt tt tt

  pub factor_3000_10 : Known (Df (at 3000 10)) (digits 12 1004411241116 1004411241118)
  unfolding tests tf
  factor_3000_10 =
      factor_by 3000 10 (ta_10 3000) 9 (digits 0 226 227) (digits 3 641 644)
      (digits 15 0 1) (digits 15 999999999999999 1000000000000000) (digits 12 8841941282 8841941283)
      (digits 12 8841941281 8841941283) (digits 12 1008841941281 1008841941283) 1004411241116 1004411241118 (lit< tt) (lit< tt) tt tt tt tt
      tt tt tt

  pub factor_1000_10 : Known (Df (at 1000 10)) (digits 12 1013176107025 1013176107027)
  unfolding tests tf
  factor_1000_10 =
      factor_by 1000 10 (ta_10 1000) 8 (digits 0 75 76) (digits 3 743 747)
      (digits 15 0 1) (digits 15 999999999999999 1000000000000000) (digits 12 26525823848 26525823849)
      (digits 12 26525823847 26525823849) (digits 12 1026525823847 1026525823849) 1013176107025 1013176107027 (lit< tt) (lit< tt) tt tt tt
      tt tt tt tt

  pub factor_500_10 : Known (Df (at 500 10)) (digits 12 1026183047850 1026183047852)
  unfolding tests tf
  factor_500_10 =
      factor_by 500 10 (ta_10 500) 7 (digits 0 37 38) (digits 3 743 749)
      (digits 15 0 1) (digits 15 999999999999999 1000000000000000) (digits 12 53051647697 53051647698)
      (digits 12 53051647696 53051647698) (digits 12 1053051647696 1053051647698) 1026183047850 1026183047852 (lit< tt) (lit< tt) tt tt tt
      tt tt tt tt

  pub factor_99_11 : Known (Df (at 99 11)) (digits 12 1137716322449 1137716322450)
  unfolding tests tf
  factor_99_11 =
      factor_by 99 11 (ta_11 99) 4 (digits 12 6785840131753 6785840131754) (digits 15 654348622100699 654348622102075)
      (digits 15 1129658243062 1129658243101) (digits 15 998870341756899 998870341756938) (digits 12 294731376096 294731376097)
      (digits 12 294398430367 294398430369) (digits 12 1294398430367 1294398430369) 1137716322449 1137716322450 (lit< tt) (lit< tt) tt tt tt
      tt tt tt tt

  pub factor_100_11 : Known (Df (at 100 11)) (digits 12 1136431380378 1136431380380)
  unfolding tests tf
  factor_100_11 =
      factor_by 100 11 (ta_11 100) 4 (digits 12 6854383971468 6854383971469) (digits 15 651551395083050 651551395084421)
      (digits 15 1054821235448 1054821235484) (digits 15 998945178764516 998945178764552) (digits 12 291784062335 291784062336)
      (digits 12 291476282309 291476282311) (digits 12 1291476282309 1291476282311) 1136431380378 1136431380380 (lit< tt) (lit< tt) tt tt tt
      tt tt tt tt

  pub factor_499_40 : Known (Df (at 499 40)) (digits 12 1101187708202 1101187708204)
  unfolding tests tf
  factor_499_40 =
      factor_by 499 40 (ta_40 499) 5 (digits 12 9405928404847 9405928404848) (digits 15 745324740228217 745324740229760)
      (digits 15 82235094643 82235094649) (digits 15 999917764905351 999917764905357) (digits 12 212631854498 212631854499)
      (digits 12 212614368697 212614368699) (digits 12 1212614368697 1212614368699) 1101187708202 1101187708204 (lit< tt) (lit< tt) tt tt tt
      tt tt tt tt

  pub factor_500_40 : Known (Df (at 500 40)) (digits 12 1100994761939 1100994761941)
  unfolding tests tf
  factor_500_40 =
      factor_by 500 40 (ta_40 500) 5 (digits 12 9424777960769 9424777960770) (digits 15 744885836996986 744885836998529)
      (digits 15 80699517567 80699517573) (digits 15 999919300482427 999919300482433) (digits 12 212206590789 212206590790)
      (digits 12 212189465819 212189465821) (digits 12 1212189465819 1212189465821) 1100994761939 1100994761941 (lit< tt) (lit< tt) tt tt tt
      tt tt tt tt
