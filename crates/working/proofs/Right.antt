-- The working of a case within its bounds is right, and the answer to a record.
use Prim.Native.Nat.{◌*◌}
use mathlib.Core.Path.{◌≡◌, refl, sym, ◌∙◌}
use lib.{Dec.{lit≤}, IntN.{pos}}
use Rattle.std.specs.Prelude.{Result, Ok, Err}
use Rattle.refusal.specs.declared.Refused.{Refused}
use Rattle.exact.{specs.Reported.{ten}, proofs.Consistency.{consistent_exactly, consistent_quotient}}
use Rattle.enclosure.proofs.{Basics.{encloses_count}, Reporting.{reports}}
use Rattle.case.specs.{declared.Case.{Case}, Check.{record_judged, record_answer}}
use Rattle.case.{specs.Bounds.{Bounds}, proofs.Bounds.{record_bounds}}
use Rattle.formulas.proofs.{Conductors.{quantity_n, quantity_s}, Quantities.{quantity-Ki, quantity-Kh, quantity-Kii, quantity_LM}}
use Rattle.formulas.proofs.Consistent.{quantity_root_time, consistent-Km, consistent-Ks}
use Rattle.effective_number.proofs.{NumberSpans.{n_span, Ki-span}, NumberEnclosed.{counts, n_encloses, Ki-encloses}}
use Rattle.tolerable.proofs.{Spans.{time_span}, Enclosed.{time_encloses}}
use Rattle.lengths.{specs.Lengths.{lc_mm, lr_mm, lt_mm}, proofs.Lengths.{conductor_is, rod_is, total_is}}
use Rattle.drive.proofs.Enclosed.{drive_consistent}
use Rattle.resistance.proofs.{Spans.{side_span}, Enclosed.{side_encloses}}
use Rattle.step.{specs.Ends.{ls_twentieths}, proofs.Enclosed.{length_is}}
use Rattle.step.proofs.FactorEnclosed as SE
use Rattle.mesh.{specs.Ends.{mesh_ends}, proofs.FactorSpans.{depth_span}}
use Rattle.mesh.proofs.Enclosed.{length_encloses, lm_encloses, driven_encloses}
use Rattle.mesh.proofs.FactorEnclosed as ME
use Rattle.working.specs.{declared.Quantities.{Quantities}, Ends.{working_of}}
use Rattle.working.specs.Working.{millionth, hundred_thousandth, driven_width, RightWorking, working_answer, RightWorked}
use Rattle.working.specs.Working.{WorkingAnswered}
use Rattle.working.proofs.{Layer.{factor_encloses, effect_is_derated, factor_span}, Leasts.{Kii-span, Km-span, Ks-span}}
use Rattle.working.proofs.Widths.{millionth_narrow, hundred_thousandth_narrow, point_narrow, lm_narrow, driven_narrow}

pub right_working : {c : Case} → Bounds c → RightWorking c (working_of c)
unfolding working_of mesh_ends ten
right_working {c} b =
    let m = quantity_LM b in
    record {
      cs = reports millionth (consistent_exactly _) (factor_encloses b) (millionth_narrow (ten 9) (lit≤ tt) (factor_span b));
      root_time_lem = reports millionth (quantity_root_time b).consistent (time_encloses b) (millionth_narrow (ten 8) (lit≤ tt) (time_span b));
      side = reports millionth (quantity_s b).consistent (side_encloses b) (millionth_narrow (ten 6) (lit≤ tt) (side_span b));
      lc =
          reports millionth (consistent_exactly _) (length_encloses (lc_mm c) (conductor_is c))
          (point_narrow (ten 6) (1000 * lc_mm c));
      lr = reports millionth (consistent_exactly _) (length_encloses (lr_mm c) (rod_is c)) (point_narrow (ten 6) (1000 * lr_mm c));
      lt =
          reports millionth (consistent_exactly _) (length_encloses (lt_mm c) (total_is c))
          (point_narrow (ten 6) (1000 * lt_mm c));
      lm = reports millionth m.consistent (lm_encloses b) (lm_narrow b);
      ls =
          reports millionth (consistent_exactly _) (encloses_count (pos (50 * ls_twentieths c)) (ten 6) (length_is c))
          (point_narrow (ten 6) (50 * ls_twentieths c));
      n = reports millionth (quantity_n b).consistent (n_encloses b) (millionth_narrow (ten 7) (lit≤ tt) (n_span (counts b)));
      ki = reports millionth (quantity-Ki b).consistent (Ki-encloses b) (millionth_narrow (ten 10) (lit≤ tt) (Ki-span (counts b)));
      kii =
          reports hundred_thousandth (quantity-Kii b).consistent (ME.kii_encloses b)
          (hundred_thousandth_narrow (ten 9) (lit≤ tt) (Kii-span b));
      kh = reports millionth (quantity-Kh b).consistent (ME.depth_encloses b) (millionth_narrow (ten 9) (lit≤ tt) (depth_span b));
      km = reports hundred_thousandth (consistent-Km b) (ME.factor_encloses b) (hundred_thousandth_narrow (ten 7) (lit≤ tt) (Km-span b));
      ks = reports hundred_thousandth (consistent-Ks b) (SE.factor_encloses b) (hundred_thousandth_narrow (ten 7) (lit≤ tt) (Ks-span b));
      driven =
          reports driven_width (consistent_quotient m.positive (drive_consistent b) m.consistent) (driven_encloses b)
          (driven_narrow b);
      layer_effect = effect_is_derated b;
      mesh_follows = refl;
    }

module _ (c : Case) {j : Result (Unit {0}) Refused} (judged : j ≡ record_judged c) where
  pub sound_bounds : j ≡ Ok tt → Bounds c
  sound_bounds sound = record_bounds (sym judged ∙ sound)

  pub working_told : {w : Quantities} → j ≡ Ok tt → w ≡ working_of c → WorkingAnswered c (Ok w)
  unfolding working_answer record_answer RightWorked
  working_told sound e = record { answer = rw (e, ← judged, sound); right = rw e (right_working (sound_bounds sound)) }

  pub working_refused : {why : Refused} → j ≡ Err why → WorkingAnswered c (Err why)
  unfolding working_answer record_answer RightWorked
  working_refused fault = record { answer = rw (← judged, fault); right = tt }
