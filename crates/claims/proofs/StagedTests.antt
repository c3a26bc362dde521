-- §9.2: every answer to the numbers of a staged test.
use Prim.Native.Nat.{ℕ, zero, suc, ◌%◌, ◌<◌}
use mathlib.Core.{Path.{◌≡◌, refl, ap}, Bool.{Bool, true, false, cond, not, ◌||◌}, Logic.{inl, inr}, List.{List, [], ◌∷◌}}
use native.Mathlib.Omega.{arith}
use lib.{Dec.{T, eqb, ltb}, IntN.{ℤ, pos, negsuc, neg_ℤ, nat_abs}, ListN.{length, get_or}, Signed.{lt_z, lt_z_yes, lt_z_no, clash_ℤ}}
use borrow.Author.Tests.{eqb-true, eqb-false, ltb-true, ltb-false}
use Rattle.text.proofs.Clash.{clash}
use Rattle.staged.specs.Check.{fewest_numbers, most_numbers, largest_part, bad_count, outside, any_outside, none_injected}
use Rattle.staged.{specs.Answer.{injected_square, grid_split, answer}, proofs.Reporting.{reported}}
use Rattle.claims.specs.Measured.{WrongParts, PartInside, AllParts, NoneInjected, Staged, SplitOutcome, count, part, none, grid}
use Rattle.claims.proofs.Betweens.{and_yes}
use Rattle.std.specs.Prelude.{Result, Ok}
use Rattle.refusal.specs.{declared.Refused.{Refused}, Refused.{refuse}}
use Rattle.staged.specs.declared.GridShare.{GridShare}

-- ---- the count

count_wrong : (n : ℕ) → bad_count n ≡ true → WrongParts n
unfolding bad_count fewest_numbers most_numbers
count_wrong n h = go (eqb (n % 2) 0) refl (ltb n 4) refl (ltb 34 n) refl h
  where
    go : (a : Bool) → eqb (n % 2) 0 ≡ a → (b : Bool) → ltb n 4 ≡ b → (d : Bool) → ltb 34 n ≡ d → not a || b || d ≡ true → WrongParts n
    go false e b f d g k = let l = eqb-false (n % 2) 0 e in inl (omega arith)
    go true e true f d g k = inr (inl (ltb-true n 4 f))
    go true e false f true g k = inr (inr (ltb-true 34 n g))
    go true e false f false g k = clash cc

count_right : (n : ℕ) → bad_count n ≡ false → ¬ WrongParts n
unfolding bad_count fewest_numbers most_numbers
count_right n h = go (eqb (n % 2) 0) refl (ltb n 4) refl (ltb 34 n) refl h
  where
    go : (a : Bool) → eqb (n % 2) 0 ≡ a → (b : Bool) → ltb n 4 ≡ b → (d : Bool) → ltb 34 n ≡ d → not a || b || d ≡ false → ¬ WrongParts n
    go false e b f d g k w = clash cc
    go true e true f d g k w = clash cc
    go true e false f true g k w = clash cc
    go true e false f false g k (inl w) = omega (arith, eqb-true (n % 2) 0 e)
    go true e false f false g k (inr (inl w)) = omega (arith, ltb-false n 4 f)
    go true e false f false g k (inr (inr w)) = omega (arith, ltb-false 34 n g)

-- ---- the parts

none_of : (a b : Bool) → a || b ≡ false → T (not a) × T (not b)
none_of true b h = clash cc
none_of false true h = clash cc
none_of false false h = (tt, tt)

inside : (z : ℤ) → outside z ≡ false → PartInside z
unfolding outside largest_part
inside z h = let p = none_of (lt_z z (neg_ℤ (pos 1000000))) (lt_z (pos 1000000) z) h in (lt_z_no p.0, lt_z_no p.1)

not_inside : (z : ℤ) → outside z ≡ true → ¬ PartInside z
unfolding outside largest_part
not_inside z h p = go (lt_z z (neg_ℤ (pos 1000000))) refl (lt_z (pos 1000000) z) refl h
  where
    go : (a : Bool) → lt_z z (neg_ℤ (pos 1000000)) ≡ a → (b : Bool) → lt_z (pos 1000000) z ≡ b → a || b ≡ true → ⊥
    go true e b f k = clash_ℤ (lt_z_yes (rw e tt)) p.0
    go false e true f k = clash_ℤ (lt_z_yes (rw f tt)) p.1
    go false e false f k = clash cc

all_inside : (s : List ℤ) → any_outside s ≡ false → AllParts s
unfolding any_outside
all_inside [] h i l = absurd (omega arith)
all_inside (z ∷ s) h i l = go (outside z) refl h (all_inside s) i l
  where
    go : (b : Bool) → outside z ≡ b → b || any_outside s ≡ false → (any_outside s ≡ false → AllParts s) → AllParts (z ∷ s)
    go true e k later i l = clash cc
    go false e k later zero l = inside z e
    go false e k later (suc i) l = later k i (omega arith)

abbrev Outside : List ℤ → Type 0
Outside s = (i : ℕ) × (i < length s) × (¬ PartInside (get_or s i (pos 0)))

one_outside : (s : List ℤ) → any_outside s ≡ true → Outside s
unfolding any_outside
one_outside [] h = clash cc
one_outside (z ∷ s) h = go (outside z) refl h (one_outside s)
  where
    go : (b : Bool) → outside z ≡ b → b || any_outside s ≡ true → (any_outside s ≡ true → Outside s) → Outside (z ∷ s)
    go true e k later = (0, omega arith, not_inside z e)
    go false e k later = let p = later k in (suc p.0, omega (arith, p.1), p.2)

-- ---- the injected current

zero_is : (z : ℤ) → nat_abs z ≡ 0 → z ≡ pos 0
zero_is (pos n) e = ap pos e
zero_is (negsuc n) e = absurd (omega arith)

injected_none : (s : List ℤ) → none_injected s ≡ true → NoneInjected s
unfolding none_injected
injected_none s h = let p = and_yes _ _ h in (zero_is _ (eqb-true _ 0 p.0), zero_is _ (eqb-true _ 0 p.1))

injected_some : (s : List ℤ) → none_injected s ≡ false → ¬ NoneInjected s
unfolding none_injected
injected_some s h n =
    let e : true ≡ false = rw (n.0, n.1) at h in
    clash cc

-- ---- the claim

staged : (s : List ℤ) {g : GridShare} → answer s ≡ Ok g → Staged s g.in_phase g.quadrature g.per_mille
unfolding injected_square
staged s {g} e =
    let r = reported {a = g.in_phase} {b = g.quadrature} {n = g.per_mille} s e in
    record {
      in_phase_whole = r.in_phase_whole;
      quadrature_whole = r.quadrature_whole;
      enough = r.not_below;
      smallest = r.smaller_below;
    }

pub split_outcome : {s : List ℤ} {r : Result GridShare Refused} → r ≡ answer s → SplitOutcome s r
unfolding answer
split_outcome {s} {r} q = rw q (go (bad_count (length s)) refl (any_outside s) refl (none_injected s) refl refl)
  where
    go : (a : Bool) → bad_count (length s) ≡ a → (b : Bool) → any_outside s ≡ b → (d : Bool) → none_injected s ≡ d
        → answer s ≡ cond a (refuse 17 0 0) (cond b (refuse 18 0 0) (cond d (refuse 19 0 0) (Ok (grid_split s))))
        → SplitOutcome s (cond a (refuse 17 0 0) (cond b (refuse 18 0 0) (cond d (refuse 19 0 0) (Ok (grid_split s)))))
    go true e b f d g k = count (count_wrong (length s) e)
    go false e true f d g k = let p = one_outside s f in part p.0 (count_right (length s) e) p.1 p.2
    go false e false f true g k = none (count_right (length s) e) (all_inside s f) (injected_none s g)
    go false e false f false g k = grid (count_right (length s) e) (all_inside s f) (injected_some s g) (staged s k)
