-- The greatest fault current at which every one of some lines is answered safe: with less fault current a safe line stays safe, so it is
-- the least of what each line has alone.
use Prim.Native.Nat.{ℕ, zero, suc, ◌≤◌, ◌<◌, min}
use mathlib.Core.{Path.{◌≡◌, refl, sym, ap, ◌∙◌}, Bool.{Bool, true, false, cond, ◌&&◌}, Logic.{◌⊎◌, inl, inr}, List.{List, [], ◌∷◌}}
use native.Mathlib.{Nat.{eq-or-lt_of_le, min-eq_left, min-eq_right, min-le_left, min-le_right}, Omega.{arith}}
use lib.Dec.{leb}
use borrow.Author.Tests.{leb-true, leb-false}
use Rattle.text.proofs.Clash.{clash}
use Rattle.case.specs.{declared.Case.{Case}, Bounds.{Bounds}, Fault.{with_fault}}
use Rattle.row.{specs.LessFault.{LessFault}, proofs.{Right.{row_verdict}, StaysSafe.{safe_stays}}}
use Rattle.yards.{specs.Yards.{means_safe, is_safe}, proofs.Found.{means_safe_lem}}
use Rattle.headroom.{specs.Headroom.{InRange, SafeWith, Headroom, NoHeadroom, RightFault}, proofs.Bracket.{fault_bounds}}
use Rattle.tally.specs.{Fault.{every_safe, greatest_fault, common_fault}, Tally.{EveryBounds}}

-- ---- answered safe, as a test and as a verdict

pub test_safe : (c : Case) (f : ℕ) → is_safe (with_fault f c) ≡ true → SafeWith c f
unfolding is_safe
test_safe c f e = row_verdict (with_fault f c) ∙ means_safe_lem _ e

pub safe_test : (c : Case) (f : ℕ) → SafeWith c f → is_safe (with_fault f c) ≡ true
unfolding is_safe means_safe
safe_test c f e = ap means_safe (sym (row_verdict (with_fault f c)) ∙ e)

pub left : (a b : Bool) → (a && b) ≡ true → a ≡ true
left true b e = refl
left false b e = e

pub right : (a b : Bool) → (a && b) ≡ true → b ≡ true
right true b e = e
right false b e = clash cc

-- ---- with less fault current

module _ {f g : ℕ} (h : InRange g) (l : f ≤ g) where
  safe_less : {c : Case} → Bounds c → is_safe (with_fault g c) ≡ true → is_safe (with_fault f c) ≡ true
  unfolding is_safe means_safe
  safe_less {c} b e =
      let lower : LessFault (with_fault g c) (with_fault f c) = record { all_else = refl; less = l } in
      ap means_safe (safe_stays (fault_bounds b g h) lower (means_safe_lem _ e))

  every_less : (cs : List Case) → EveryBounds cs → every_safe g cs ≡ true → every_safe f cs ≡ true
  unfolding every_safe EveryBounds
  every_less [] b e = refl
  every_less (c ∷ cs) b e = rw (safe_less b.0 (left _ (every_safe g cs) e)) (every_less cs b.1 (right (is_safe (with_fault g c)) _ e))

-- ---- what the greatest fault current is

-- every fault current in range is safe for every line if and only if it is at most F
pub record UpTo (lines : List Case) (F : ℕ) : Type 0 where
  pub in_range_lem : (F ≡ 0) ⊎ InRange F
  pub safe : (f : ℕ) → InRange f → f ≤ F → every_safe f lines ≡ true
  pub greatest : (f : ℕ) → InRange f → every_safe f lines ≡ true → f ≤ F

up_to_below : {lines : List Case} {F G : ℕ} → UpTo lines F → UpTo lines G → F ≤ G
up_to_below {lines} {F} {G} u v = go u.in_range_lem
  where
    go : (F ≡ 0) ⊎ InRange F → F ≤ G
    go (inl e) = omega arith
    go (inr r) = v.greatest F r (u.safe F r (omega arith))

pub up_to_one : {lines : List Case} {F G : ℕ} → UpTo lines F → UpTo lines G → F ≡ G
up_to_one u v = omega (arith, up_to_below u v, up_to_below v u)

-- ---- the search from a fault current down

record Greatest (lines : List Case) (n F : ℕ) : Type 0 where
  most : F ≤ n
  own : (F ≡ 0) ⊎ ((100 ≤ F) × (every_safe F lines ≡ true))
  above : (f : ℕ) → 100 ≤ f → f ≤ n → every_safe f lines ≡ true → f ≤ F

-- a fault current that is below 100 or not safe is passed
module _ {lines : List Case} {n F : ℕ} (no : 100 ≤ suc n → every_safe (suc n) lines ≡ true → ⊥) (g : Greatest lines n F) where
  passed_at : (f : ℕ) → 100 ≤ f → every_safe f lines ≡ true → (f ≡ suc n) ⊎ (f < suc n) → f ≤ F
  passed_at f l e (inl q) = absurd (no (omega arith) (rw q at e))
  passed_at f l e (inr k) = g.above f l (omega arith) e

  passed : Greatest lines (suc n) F
  passed = record { most = omega (arith, g.most); own = g.own; above = λ f l h e. passed_at f l e (eq-or-lt_of_le h) }

greatest_is : (lines : List Case) (n : ℕ) → Greatest lines n (greatest_fault lines n)
unfolding greatest_fault
greatest_is lines zero = record { most = omega arith; own = inl refl; above = λ f l h e. h }
greatest_is lines (suc n) = go (leb 100 (suc n)) refl (every_safe (suc n) lines) refl (greatest_is lines n)
  where
    go : (a : Bool) → leb 100 (suc n) ≡ a → (b : Bool) → every_safe (suc n) lines ≡ b → {F : ℕ} → Greatest lines n F
        → Greatest lines (suc n) (cond (a && b) (suc n) F)
    go true l true e g = record { most = omega arith; own = inr (leb-true 100 (suc n) l, e); above = λ f k h s. h }
    go true l false e g = passed (λ k s. clash cc) g
    go false l b e g = passed (λ k s. omega (arith, leb-false 100 (suc n) l)) g

module _ {lines : List Case} {F : ℕ} (b : EveryBounds lines) (g : Greatest lines 80000 F) where
  found_in_range : (F ≡ 0) ⊎ ((100 ≤ F) × (every_safe F lines ≡ true)) → (F ≡ 0) ⊎ InRange F
  found_in_range (inl e) = inl e
  found_in_range (inr p) = inr (record { low = p.0; high = g.most })

  safe_below : (f : ℕ) → InRange f → f ≤ F → (F ≡ 0) ⊎ ((100 ≤ F) × (every_safe F lines ≡ true)) → every_safe f lines ≡ true
  safe_below f h l (inl e) = absurd (omega (arith, h.low))
  safe_below f h l (inr p) = every_less (record { low = p.0; high = g.most }) l lines b p.1

  found_up_to : UpTo lines F
  found_up_to =
      record {
        in_range_lem = found_in_range g.own;
        safe = λ f h l. safe_below f h l g.own;
        greatest = λ f h e. g.above f h.low h.high e;
      }

pub common_up_to : (lines : List Case) → EveryBounds lines → UpTo lines (common_fault lines)
unfolding common_fault
common_up_to lines b = found_up_to b (greatest_is lines 80000)

-- ---- of no line, and of one line more

pub common_none : common_fault [] ≡ 80000
unfolding every_safe EveryBounds
common_none = up_to_one (common_up_to [] tt) all
  where
    all : UpTo [] 80000
    all = record { in_range_lem = inr (record { low = omega arith; high = omega arith }); safe = λ f h l. refl; greatest = λ f h e. h.high }

module _ {c : Case} {cs : List Case} {F G : ℕ} (u : UpTo (c ∷ []) F) (v : UpTo cs G) where
  lesser_of : (P : ℕ → Type 0) → P F → P G → P (min F G)
  lesser_of P p q = go (leb F G) refl
    where
      go : (t : Bool) → leb F G ≡ t → P (min F G)
      go true e = let k : min F G ≡ F = min-eq_left (leb-true F G e) in rw k p
      go false e =
          let l : G ≤ F = omega (arith, leb-false F G e) in
          let k : min F G ≡ G = min-eq_right l in
          rw k q

  up_to_both : UpTo (c ∷ cs) (min F G)
  unfolding every_safe
  up_to_both =
      record {
        in_range_lem = lesser_of (λ x. (x ≡ 0) ⊎ InRange x) u.in_range_lem v.in_range_lem;
        safe =
            λ f h l.
            rw (left (is_safe (with_fault f c)) true (u.safe f h (omega (arith, min-le_left F G))))
            (v.safe f h (omega (arith, min-le_right F G)));
        greatest =
            λ f h e.
            lesser_of (λ x. f ≤ x) (u.greatest f h (rw (left (is_safe (with_fault f c)) (every_safe f cs) e)))
            (v.greatest f h (right (is_safe (with_fault f c)) _ e));
      }

pub common_step : {c : Case} (cs : List Case) → Bounds c → EveryBounds cs
    → common_fault (c ∷ cs) ≡ min (common_fault (c ∷ [])) (common_fault cs)
unfolding EveryBounds
common_step {c} cs b d = up_to_one (common_up_to (c ∷ cs) (b, d)) (up_to_both (common_up_to (c ∷ []) (b, tt)) (common_up_to cs d))

-- ---- the headroom of one line

module _ {c : Case} (b : Bounds c) where
  headroom_common : {F : ℕ} → Headroom c F → F ≡ common_fault (c ∷ [])
  unfolding every_safe EveryBounds
  headroom_common {F} r = up_to_one up (common_up_to (c ∷ []) (b, tt))
    where
      up : UpTo (c ∷ []) F
      up =
          record {
            in_range_lem = inr r.in_range_lem;
            safe = λ f h l. rw (safe_test c f (r.safe f h l));
            greatest = λ f h e. r.greatest f h (test_safe c f (left _ true e));
          }

  no_headroom_common : NoHeadroom c → 0 ≡ common_fault (c ∷ [])
  unfolding every_safe EveryBounds
  no_headroom_common r = up_to_one up (common_up_to (c ∷ []) (b, tt))
    where
      up : UpTo (c ∷ []) 0
      up =
          record {
            in_range_lem = inl refl;
            safe = λ f h l. absurd (omega (arith, h.low));
            greatest = λ f h e. absurd (r.none_safe f h (test_safe c f (left _ true e)));
          }

  -- as a number, with 0 for none
  pub fault_common : (F : ℕ) → RightFault c F → F ≡ common_fault (c ∷ [])
  unfolding RightFault
  fault_common zero r = no_headroom_common r
  fault_common (suc k) r = headroom_common r
