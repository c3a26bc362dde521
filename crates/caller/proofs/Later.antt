-- §10.1: less fault current cannot upset a released yard.
use Prim.Native.Nat.{ℕ, ◌≤◌}
use mathlib.Core.{Path.{refl, sym}, Bool.{Bool, false}}
use Rattle.text.proofs.Clash.{clash}
use Rattle.case.{specs.declared.Case.{Case}, proofs.Bounds.{record_bounds}}
use Rattle.hocsimbur.proofs.{Answers.{row_told, row_sound}, LessFault.{row_stays_safe}}
use Rattle.caller.specs.{Release.{Released}, Later.{StaysReleased}}

module _ {c : Case} {fault : ℕ} where
  -- nothing is claimed for a current that is out of range or higher
  pub not_less : (100 ≤ fault → fault ≤ c.fault → ⊥) → StaysReleased c fault false
  not_less n =
      record { safe = λ e. clash cc; none_held_back = λ low less row e s. absurd (n low less) }

  pub stays_released_lem : {r : Bool} → 100 ≤ fault → fault ≤ c.fault → Released c r → StaysReleased c fault r
  stays_released_lem low less h =
      record {
        safe =
            λ e later.
            let w = h.safe e in
            let t = row_sound c (sym w.is) in
            let b = record_bounds t.0 in
            row_stays_safe (row_told c refl t.0 t.1) w.verdict (record { all_else = refl; less = less }) b.station b.season
            low later;
        none_held_back = λ low' less' row e s. h.none_held_back row e s;
      }
