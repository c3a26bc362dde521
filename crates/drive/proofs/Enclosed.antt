-- The ends of ρ·Ki·IG include the exact value's ends. The code computes Ki·(ρ·IG).
use Prim.Native.Nat.{◌^◌}
use mathlib.Core.Path.{refl}
use lib.Dec.{lit≤}
use Rattle.exact.{specs.{Exact.{exactly, ◌·x◌}, Depth.{work_depth, Consistent, SameEnds}, Reported.{ten}}, proofs.Consistency.{proper_at}}
use Rattle.exact.proofs.{KnownEnds.{same_refl, same_trans}, Alike.{product_same}, Factors.{product_turned, product_grouped}}
use Rattle.exact.proofs.Quantity.{quantity_product}
use Rattle.enclosure.{specs.Enclosure.{Encloses}, proofs.{Basics.{encloses_same}, Sums.{encloses_times}, Products.{encloses_product}}}
use Rattle.case.specs.{declared.Case.{Case}, Bounds.{Bounds}}
use Rattle.formulas.{specs.{Lengths.{ρ, Ki}, Current.{IG}, Width.{μA}}, proofs.Quantities.{quantity_ρ, quantity-Ki, quantity_IG}}
use Rattle.effective_number.proofs.NumberEnclosed.{Ki-encloses}
use Rattle.current.proofs.GridCurrent.{current_encloses}
use Rattle.drive.specs.Ends.{soil_current, drive_ends}

module _ {c : Case} (b : Bounds c) where
  pub drive_consistent : Consistent (exactly (ρ c) ·x Ki c ·x IG c)
  drive_consistent = (quantity_product (quantity_product (quantity_ρ b) (quantity-Ki b)) (quantity_IG b)).consistent

  soil_current_encloses : Encloses (exactly (ρ c) ·x IG c) (ten 6) (soil_current c)
  unfolding ρ soil_current μA
  soil_current_encloses = encloses_times c.soil (quantity_IG b).consistent (current_encloses b)

  -- ρ·Ki·IG is Ki·(ρ·IG)
  turned : SameEnds ((exactly (ρ c) ·x Ki c ·x IG c) work_depth) ((Ki c ·x (exactly (ρ c) ·x IG c)) work_depth)
  unfolding ◌·x◌
  turned =
      let R = proper_at (quantity_ρ b).consistent (lit≤ tt) in
      let K = proper_at (quantity-Ki b).consistent (lit≤ tt) in
      let I = proper_at (quantity_IG b).consistent (lit≤ tt) in
      same_trans (product_same (product_turned (exactly (ρ c) work_depth) (Ki c work_depth)) (same_refl (IG c work_depth)))
      (product_grouped K R I)

  pub drive_encloses : Encloses (exactly (ρ c) ·x Ki c ·x IG c) (ten 9) (drive_ends c)
  unfolding drive_ends ten
  drive_encloses =
      encloses_same turned
      (encloses_product (ten 9) (10 ^ 7) refl (quantity-Ki b).consistent (quantity_product (quantity_ρ b) (quantity_IG b)).consistent
      (Ki-encloses b) soil_current_encloses)
