-- The search for the headroom: with less fault current a safe case stays safe, so one verdict decides every fault current on one side.
use Prim.Native.Nat.{ℕ, zero, suc, ◌+◌, ◌≤◌, ◌<◌}
use mathlib.Core.{Path.{◌≡◌, refl, sym, ◌∙◌}, Bool.{true, false}}
use native.Mathlib.Omega.{arith}
use Rattle.std.specs.Prelude.{Some, Ok}
use Rattle.case.specs.{declared.Case.{Case}, Bounds.{Bounds}, Fault.{with_fault}}
use Rattle.case.proofs.Eased.{eased_bounds}
use Rattle.row.{specs.LessFault.{LessFault}, proofs.{Right.{row_verdict}, StaysSafe.{safe_stays}}}
use Rattle.yards.{specs.Yards.{is_safe}, proofs.{Found.{means_safe_lem}, Answers.{answered_yard, not_safe_lem}}}
use Rattle.headroom.specs.Headroom.{InRange, SafeWith, AnsweredWithin, Headroom, RightFault, room_of, RightRoom}

-- a fault current above 0
some_fault : {c : Case} (F : ℕ) → 1 ≤ F → Headroom c F → RightFault c F
unfolding RightFault
some_fault zero l h = absurd (omega arith)
some_fault (suc k) l h = h

-- the answer of the number
pub room_some : (F : ℕ) → 1 ≤ F → Some F ≡ room_of F
unfolding room_of
room_some zero l = absurd (omega arith)
room_some (suc k) l = refl

pub right_room : (c : Case) (F : ℕ) → RightFault c F → RightRoom c (Ok (room_of F))
unfolding RightFault RightRoom room_of
right_room c zero r = r
right_room c (suc k) r = r

-- every fault current in range up to `safe` is safe, and none from `over` on
pub record Bracket (c : Case) (safe over : ℕ) : Type 0 where
  pub low : 99 ≤ safe
  pub order : safe < over
  pub high : over ≤ 80001
  pub below : (f : ℕ) → InRange f → f ≤ safe → SafeWith c f
  pub above : (f : ℕ) → InRange f → over ≤ f → ¬ SafeWith c f

pub bracket_start : (c : Case) → Bracket c 99 80001
bracket_start c =
    record {
      low = omega arith;
      order = omega arith;
      high = omega arith;
      below = λ f h l. absurd (omega arith);
      above = λ f h l s. omega arith;
    }

module _ {c : Case} (b : Bounds c) where
  pub fault_bounds : (f : ℕ) → InRange f → Bounds (with_fault f c)
  fault_bounds f h =
      eased_bounds c c.station c.season f c.split c.shock c.body b b.station b.season h b.split b.shock b.body

  -- §10.1
  less : {f g : ℕ} → InRange g → f ≤ g → SafeWith c g → SafeWith c f
  less {f} {g} h l s =
      let lower : LessFault (with_fault g c) (with_fault f c) = record { all_else = refl; less = l } in
      row_verdict (with_fault f c) ∙ safe_stays (fault_bounds g h) lower (sym (row_verdict (with_fault g c)) ∙ s)

  -- ---- one turn

  module _ {safe over fault : ℕ} (i : Bracket c safe over) (l : safe < fault) (u : fault < over) where
    pub fault_in_range : InRange fault
    fault_in_range = record { low = omega (arith, i.low); high = omega (arith, i.high) }

    pub bracket_safe : is_safe (with_fault fault c) ≡ true → Bracket c fault over
    unfolding is_safe
    bracket_safe e =
        record {
          low = omega (arith, i.low);
          order = u;
          high = i.high;
          below = λ f h m. less fault_in_range m (row_verdict (with_fault fault c) ∙ means_safe_lem _ e);
          above = i.above;
        }

    pub bracket_over : is_safe (with_fault fault c) ≡ false → Bracket c safe fault
    bracket_over e =
        record {
          low = i.low;
          order = l;
          high = omega (arith, i.high);
          below = i.below;
          above = λ f h m s. not_safe_lem (with_fault fault c) e (less h m s);
        }

  -- ---- the end

  answered : AnsweredWithin c
  answered f h = answered_yard (fault_bounds f h)

  module _ {safe over : ℕ} (i : Bracket c safe over) (e : over ≤ safe + 1) where
    pub bracket_none : safe < 100 → RightFault c 0
    unfolding RightFault
    bracket_none l = record { answered = answered; none_safe = λ f h s. i.above f h (omega arith) s }

    found : 100 ≤ safe → Headroom c safe
    found l =
        record {
          in_range_lem = record { low = l; high = omega (arith, i.order, i.high) };
          answered = answered;
          safe = i.below;
          greatest = λ f h s. let not-over : over ≤ f → ⊥ = λ m. i.above f h m s in omega arith;
        }

    pub bracket_found : 100 ≤ safe → RightFault c safe
    bracket_found l = some_fault safe (omega arith) (found l)
