-- The rectangle of IEEE Std 80-2013, B.3, with its rods and without, at numbers, each part of a formula by its line.
use Prim.Native.Nat.{ℕ}
use lib.Dec.{lit<}
use Rattle.exact.{specs.Ends.{minus_ends}, proofs.Order.{whole_pos}}
use Rattle.case.specs.Bounds.{Bounds}
use Rattle.formulas.specs.{Lengths.{√area, s, nb, n, Ki}, Mesh.{inner_weight, Kii, Km, diagonal, LM, mesh}, Step.{half_power, Ks, step}}
use Rattle.formulas.specs.{Resistance.{resistance}, Yards.{grid, rectangle, rodless}}
use Rattle.formulas.proofs.Quantities.{consistent_logarithm, consistent_halvings}
use Rattle.formulas.proofs.Known.{Known, digits, rounded, known_exactly, known_sum, known_difference, known_product, known_quotient}
use Rattle.formulas.proofs.KnownFunctions.{known_root, known_ln_up, known_ln_down, known_exp_minus, known_π, tests}
use Rattle.formulas.proofs.KnownGrid.{known_voltage, lengths, turn, root_20, current, kh, log_argument}

-- ---- with any rods

module _ (rods rodlen place : ℕ) where
  √area_rectangle : Known (√area (grid 1 400 10 13 rods rodlen place)) (digits 12 72746133917892 72746133917893)
  unfolding tests lengths √area
  √area_rectangle = known_root _ 72746133917892 72746133917893 (rounded (digits 0 5292 5292) (known_exactly _) tt) tt

  nb_rectangle : Known (nb (grid 1 400 10 13 rods rodlen place)) (digits 12 1005168130752 1005168130754)
  unfolding tests lengths nb
  nb_rectangle =
      known_root _ 1005168130752 1005168130754
      (known_quotient (digits 12 1010362971081 1010362971082) (rounded (digits 0 294 294) (known_exactly _) tt)
      (known_product (digits 12 290984535671568 290984535671572) (known_exactly _) √area_rectangle tt) tt) tt

  pub n_rectangle : Known (n (grid 1 400 10 13 rods rodlen place)) (digits 12 11344040332772 11344040332796)
  unfolding tests lengths n
  n_rectangle =
      known_product (digits 12 11344040332772 11344040332796)
      (rounded (digits 12 11285714285714 11285714285715) (known_exactly _) tt)
      nb_rectangle tt

  Ki-rectangle : Known (Ki (grid 1 400 10 13 rods rodlen place)) (digits 12 2322917969250 2322917969254)
  unfolding tests Ki
  Ki-rectangle =
      known_sum (digits 12 2322917969250 2322917969254) (known_exactly _)
      (known_product (digits 12 1678917969250 1678917969254) (known_exactly _) n_rectangle tt) tt

  half_power_rectangle : Bounds (grid 1 400 10 13 rods rodlen place)
      → Known (half_power (grid 1 400 10 13 rods rodlen place)) (digits 12 1538734102 1538734103)
  unfolding tests half_power
  half_power_rectangle b =
      known_exp_minus 4 (digits 15 667110419204972 667110419207459) (digits 12 1538734102 1538734103)
      (consistent_halvings b _ (whole_pos (lit< tt)))
      (known_product (digits 12 6476795211690 6476795211717)
      (known_difference (digits 12 9344040332772 9344040332796) n_rectangle (known_exactly _) tt)
      (known_ln_up 1 (digits 12 693147180559 693147180560) (known_exactly _) tt) tt) tt

  Ks-rectangle : Bounds (grid 1 400 10 13 rods rodlen place)
      → Known (Ks (grid 1 400 10 13 rods rodlen place)) (digits 12 406154074613 406154074615)
  unfolding tests lengths Ks
  Ks-rectangle b =
      known_quotient (digits 12 406154074613 406154074615)
      (known_sum (digits 12 1275970657032 1275970657034) (rounded (digits 12 1133333333333 1133333333334) (known_exactly _) tt)
      (known_quotient (digits 12 142637323699 142637323700)
      (known_difference (digits 12 998461265897 998461265898) (known_exactly _) (half_power_rectangle b) tt)
      (known_exactly _) tt) tt)
      known_π tt

-- ---- 38 rods along the perimeter, and none

Km-rods : Known (Km rectangle) (digits 12 767493770347 767493770351)
unfolding tests Km Kii
Km-rods =
    known_quotient (digits 12 767493770347 767493770351)
    (known_sum (digits 12 4822305581199 4822305581215) (log_argument 1 400 10 13 38 10000 1)
    (known_product (minus_ends (digits 12 1748977461146 1748977461160))
    (known_quotient (digits 12 816496580927 816496580929) (known_exactly _) (kh 1 400 10 13 38 10000 1) tt)
    (known_ln_down 3 (minus_ends (digits 12 2142051175721 2142051175731))
    (known_quotient (digits 12 117413759600 117413759601) (known_exactly _)
    (known_product (digits 12 68135114889335 68135114889487) known_π
    (known_difference (digits 12 21688080665544 21688080665592)
    (known_product (digits 12 22688080665544 22688080665592) (known_exactly _) (n_rectangle 38 10000 1) tt)
    (known_exactly _) tt) tt) tt) tt) tt) tt)
    turn tt

LM_rods : Known (LM rectangle) (digits 9 2292152380952 2292152380953)
unfolding tests lengths LM diagonal
LM_rods =
    known_sum (digits 9 2292152380952 2292152380953) (rounded (digits 0 1659 1659) (known_exactly _) tt)
    (known_product (digits 9 633152380952 633152380953)
    (known_sum (digits 12 1666190476190 1666190476191) (known_exactly _)
    (known_quotient (digits 12 116190476190 116190476191) (known_exactly _)
    (known_root _ 105000000000000 105000000000001 (rounded (digits 0 11025 11025) (known_exactly _) tt) tt) tt) tt)
    (rounded (digits 0 380 380) (known_exactly _) tt) tt) tt

pub mesh_rectangle : Known (mesh rectangle) (digits 3 609155 609156)
unfolding tests lengths mesh
mesh_rectangle =
    known_voltage _ (digits 9 306997508138 306997508141) (digits 9 713130028168 713130028177) (digits 6 1396278112622 1396278112643)
    (digits 3 609155 609156) Km-rods (Ki-rectangle 38 10000 1) (current 1 400 10 13 38 10000 1) LM_rods tt tt tt tt

pub step_rectangle : Bounds rectangle → Known (step rectangle) (digits 3 471465 471466)
unfolding tests lengths step
step_rectangle b =
    known_voltage _ (digits 9 162461629845 162461629846) (digits 9 377385039280 377385039284) (digits 6 738903775699 738903775709)
    (digits 3 471465 471466) (Ks-rectangle 38 10000 1 b) (Ki-rectangle 38 10000 1) (current 1 400 10 13 38 10000 1)
    (rounded (digits 2 156725 156725) (known_exactly _) tt) tt tt tt tt

pub resistance_rectangle : Known (resistance rectangle) (digits 6 2618545 2618546)
unfolding tests lengths resistance s
resistance_rectangle =
    known_product (digits 6 2618545 2618546) (known_exactly _)
    (known_sum (digits 15 6546364448865 6546364448874)
    (known_quotient (digits 15 490436488474 490436488475) (known_exactly _) (rounded (digits 0 2039 2039) (known_exactly _) tt) tt)
    (known_quotient (digits 15 6055927960391 6055927960399)
    (known_sum (digits 12 1970178683460 1970178683462) (known_exactly _)
    (known_quotient (digits 12 970178683460 970178683462) (known_exactly _)
    (known_sum (digits 12 1030737963065 1030737963066) (known_exactly _)
    (known_quotient (digits 12 30737963065 30737963066)
    (known_product (digits 12 2236067977499 2236067977500) (known_exactly _) root_20 tt)
    (√area_rectangle 38 10000 1) tt) tt) tt) tt)
    (known_product (digits 12 325330601081377 325330601081455) (√area_rectangle 38 10000 1) root_20 tt) tt) tt) tt

Kii-rodless : Bounds rodless → Known (Kii rodless) (digits 12 576723163440 576723163446)
unfolding tests Kii inner_weight
Kii-rodless b =
    known_exp_minus 1 (digits 15 759422914745144 759422914748592) (digits 12 576723163440 576723163446)
    (consistent_logarithm b (whole_pos (lit< tt)) (whole_pos (lit< tt)))
    (known_product (digits 12 550392913667 550392913672)
    (known_quotient (digits 12 176304027606 176304027607) (known_exactly _) (n_rectangle 0 0 0) tt)
    (known_ln_up 4 (digits 12 3121839705770 3121839705774)
    (known_product (digits 12 22688080665544 22688080665592) (known_exactly _) (n_rectangle 0 0 0) tt) tt) tt) tt

Km-rodless : Bounds rodless → Known (Km rodless) (digits 12 885316436840 885316436845)
unfolding tests Km
Km-rodless b =
    known_quotient (digits 12 885316436840 885316436845)
    (known_sum (digits 12 5562607228163 5562607228184) (log_argument 1 400 10 13 0 0 0)
    (known_product (minus_ends (digits 12 1008675814177 1008675814196))
    (known_quotient (digits 12 470892491090 470892491096) (Kii-rodless b) (kh 1 400 10 13 0 0 0) tt)
    (known_ln_down 3 (minus_ends (digits 12 2142051175721 2142051175731))
    (known_quotient (digits 12 117413759600 117413759601) (known_exactly _)
    (known_product (digits 12 68135114889335 68135114889487) known_π
    (known_difference (digits 12 21688080665544 21688080665592)
    (known_product (digits 12 22688080665544 22688080665592) (known_exactly _) (n_rectangle 0 0 0) tt)
    (known_exactly _) tt) tt) tt) tt) tt) tt)
    turn tt

pub mesh_rodless : Bounds rodless → Known (mesh rodless) (digits 3 970843 970844)
unfolding tests lengths mesh LM
mesh_rodless b =
    known_voltage _ (digits 9 354126574736 354126574738) (digits 9 822606983843 822606983850) (digits 6 1610629312274 1610629312291)
    (digits 3 970843 970844) (Km-rodless b) (Ki-rectangle 0 0 0) (current 1 400 10 13 0 0 0)
    (rounded (digits 0 1659 1659) (known_exactly _) tt) tt tt tt tt

pub step_rodless : Bounds rodless → Known (step rodless) (digits 3 593854 593855)
unfolding tests lengths step
step_rodless b =
    known_voltage _ (digits 9 162461629845 162461629846) (digits 9 377385039280 377385039284) (digits 6 738903775699 738903775709)
    (digits 3 593854 593855) (Ks-rectangle 0 0 0 b) (Ki-rectangle 0 0 0) (current 1 400 10 13 0 0 0)
    (rounded (digits 2 124425 124425) (known_exactly _) tt) tt tt tt tt

pub resistance_rodless : Known (resistance rodless) (digits 6 2663480 2663481)
unfolding tests lengths resistance s
resistance_rodless =
    known_product (digits 6 2663480 2663481) (known_exactly _)
    (known_sum (digits 15 6658700715062 6658700715071)
    (known_quotient (digits 15 602772754671 602772754672) (known_exactly _) (rounded (digits 0 1659 1659) (known_exactly _) tt) tt)
    (known_quotient (digits 15 6055927960391 6055927960399)
    (known_sum (digits 12 1970178683460 1970178683462) (known_exactly _)
    (known_quotient (digits 12 970178683460 970178683462) (known_exactly _)
    (known_sum (digits 12 1030737963065 1030737963066) (known_exactly _)
    (known_quotient (digits 12 30737963065 30737963066)
    (known_product (digits 12 2236067977499 2236067977500) (known_exactly _) root_20 tt)
    (√area_rectangle 0 0 0) tt) tt) tt) tt)
    (known_product (digits 12 325330601081377 325330601081455) (√area_rectangle 0 0 0) root_20 tt) tt) tt) tt
