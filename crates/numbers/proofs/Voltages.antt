-- The mesh and the step voltage of a case within its bounds are one number each, and with them all that a row reports.
use native.Mathlib.Omega.{arith}
use lib.Dec.{eqb}
use Prim.Native.Nat.{◌≤◌}
use Rattle.exact.{specs.{Exact.{Exact, exactly, ◌·x◌, ◌÷x◌}, Depth.{PositiveAt}}, proofs.Positive.{positive_exactly}}
use Rattle.exact.proofs.Quantity.{quantity_product, quantity_π}
use Rattle.case.specs.{declared.Case.{Case}, Bounds.{Bounds}}
use Rattle.formulas.specs.{Lengths.{ρ, equal_counts, Ki}, Current.{IG}, Mesh.{Kh, inner_weight, Kii, Km, diagonal, LM, mesh}}
use Rattle.formulas.{specs.Step.{half_power, Ks, step}, proofs.{Positive.{D_pos, LS_pos}, MeshArgument.{G_pos}}}
use Rattle.formulas.proofs.Conductors.{by_place, quantity_n}
use Rattle.formulas.proofs.Quantities.{two, quantity_turn, quantity-Kh, quantity_line_root, twice_n, quantity_odd, quantity_spread}
use Rattle.formulas.proofs.Quantities.{quantity_diagonal, quantity_LM}
use Rattle.numbers.specs.{Number.{Number}, Formulas.{CaseNumbers}}
use Rattle.numbers.proofs.Rules.{number_exactly, number_root_exactly, numbers}
use Rattle.numbers.proofs.Formulas.{number-Df, number_IG, number_n, number-Ki, number_tolerable_touch, number_tolerable_step}
use Rattle.numbers.proofs.Formulas.{number_resistance, number_rise}

module _ {c : Case} (b : Bounds c) where
  -- ρ·x·Ki·IG/l
  number_voltage : {x l : Exact} → Number x → Number l → PositiveAt l → Number (exactly (ρ c) ·x x ·x Ki c ·x IG c ÷x l)
  number_voltage x l p = let k = number-Ki b in let i = number_IG b in search numbers

  -- ---- the step voltage

  number_half_power : Number (half_power c)
  unfolding half_power
  number_half_power =
      let m = number_n b in
      let p = two.positive in
      by_place Number (equal_counts c) (λ e. number_exactly _) (λ e. search numbers)

  number-Ks : Number (Ks c)
  unfolding Ks
  number-Ks =
      let p = number_half_power in
      let d = positive_exactly (D_pos b) in
      let t = quantity_π.positive in
      search numbers

  number_step : Number (step c)
  unfolding step
  number_step = number_voltage number-Ks (number_exactly _) (positive_exactly (LS_pos b))

  -- ---- the mesh voltage

  number-Kh : Number (Kh c)
  unfolding Kh
  number-Kh = number_root_exactly 2 _ (omega arith)

  number_inner_weight : Number (inner_weight c)
  unfolding inner_weight
  number_inner_weight =
      let m = number_n b in
      let lines : 1 ≤ c.across = omega (arith, b.across.low) in
      let r = (quantity_line_root b).positive in
      let p = (quantity_n b).positive in
      let q = (twice_n b).positive in
      by_place Number (equal_counts c) (λ e. search numbers) (λ e. search numbers depth 10)

  number-Kii : Number (Kii c)
  unfolding Kii
  number-Kii = by_place Number (eqb c.place 1) (λ e. number_exactly _) (λ e. number_inner_weight)

  number-Km : Number (Km c)
  unfolding Km
  number-Km =
      let m = number_n b in
      let w = number-Kii in
      let h = number-Kh in
      let g = positive_exactly (G_pos b) in
      let p = (quantity-Kh b).positive in
      let odd = (quantity_product quantity_π (quantity_odd b)).positive in
      let spread = (quantity_spread b).positive in
      let turn = quantity_turn.positive in
      search numbers depth 10

  number_LM : Number (LM c)
  unfolding LM diagonal
  number_LM =
      let p = (quantity_diagonal b).positive in
      let root : 1 ≤ 2 = omega arith in
      by_place Number (eqb c.place 1) (λ e. search numbers) (λ e. number_exactly _)

  number_mesh : Number (mesh c)
  unfolding mesh
  number_mesh = number_voltage number-Km number_LM (quantity_LM b).positive

-- all that a row reports
pub case_numbers : {c : Case} → Bounds c → CaseNumbers c
case_numbers b =
    record {
      factor = number-Df b;
      current = number_IG b;
      tolerable_touch_lem = number_tolerable_touch b;
      tolerable_step_lem = number_tolerable_step b;
      mesh = number_mesh b;
      step = number_step b;
      resistance = number_resistance b;
      rise = number_rise b;
      conductors = number_n b;
    }
