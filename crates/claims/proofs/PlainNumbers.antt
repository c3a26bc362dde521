-- The logarithm asked alone (§6.3), and the margins of a row's numbers (§6.5).
use Prim.Native.Nat.{ℕ}
use mathlib.Core.{Path.{◌≡◌, refl, sym, ◌∙◌}, Bool.{Bool, true, false, cond, ◌&&◌, false≢true}, List.{List}}
use lib.{Dec.{eqb}, IntN.{ℤ, pos, nat_abs}, ListN.{length, get_or}}
use borrow.Author.Tests.{eqb-true, eqb-false}
use Rattle.exact.specs.{Fraction.{whole, ◌÷f◌}, Logarithm.{ln_of}, Reported.{ten}, Answered.{RightPair}}
use Rattle.numbers.proofs.Formulas.{number_logarithm}
use Rattle.logarithm.specs.{Ends.{ln_ends}, Asked.{width, inside, refused, answer_of, Answered}}
use Rattle.margin.{specs.{Margin.{margin, in_range, comparable, four_margins, margins_of}, Meaning.{IsMargin}}, proofs.Voltages.{voltages}}
use Rattle.margin.proofs.Least.{is_margin}
use Rattle.claims.specs.Measured.{LogarithmOutcome, upper, lower, ends, Comparable, MarginsOutcome, margins, none}
use Rattle.claims.proofs.Betweens.{and_yes, between_yes, between_no, betweenℤ_yes, betweenℤ_is}
use Rattle.std.specs.Prelude.{Some, Result, Ok}
use Rattle.refusal.specs.{declared.Refused.{Refused}}
use Rattle.interval.specs.declared.Interval.{Interval}
use Rattle.std.specs.Prelude.{Option, None}
use Rattle.refusal.specs.{declared.Refused.{Refused}}

pub logarithm : {p q : ℕ} {r : Result Interval Refused} → Answered p q r → LogarithmOutcome p q r
unfolding answer_of refused RightPair width inside
logarithm {p} {q} {r} a = rw a.answer (go (inside p) refl (inside q) refl (rw a.answer at a.right))
  where
    go : (b : Bool) → inside p ≡ b → (d : Bool) → inside q ≡ d
        → RightPair (ln_of (whole p ÷f whole q)) (ten 9) (λ i. width) (cond b (cond d (Ok (ln_ends p q)) (refused 2)) (refused 1))
        → LogarithmOutcome p q (cond b (cond d (Ok (ln_ends p q)) (refused 2)) (refused 1))
    go false e d f h = upper (between_no _ _ _ e)
    go true e false f h = lower (between_yes _ _ _ e) (between_no _ _ _ f)
    go true e true f h =
        let p-in = between_yes _ _ _ e in
        let q-in = between_yes _ _ _ f in
        ends p-in q-in (number_logarithm p q p-in.low q-in.low) h

-- ---- margins

comparable_yes : (v t : ℤ) → comparable v t ≡ true → Comparable v t
unfolding comparable in_range
comparable_yes v t e = let p = and_yes _ _ e in (betweenℤ_yes _ _ _ p.0, betweenℤ_yes _ _ _ p.1)

comparable_is : (v t : ℤ) → Comparable v t → comparable v t ≡ true
unfolding comparable in_range
comparable_is v t h = rw (betweenℤ_is (pos 0) v _ h.0, betweenℤ_is (pos 1) t _ h.1)

one_margin : (v t : ℤ) → comparable v t ≡ true → IsMargin (nat_abs v) (nat_abs t) (margin (nat_abs v) (nat_abs t))
one_margin v t e =
    let n = (voltages v t (rw e tt)).t in
    is_margin (nat_abs v) (rw n.is n.from)

pub row_margins : {row : List ℤ} {r : Option (ℤ × ℤ)} → r ≡ margins_of row → MarginsOutcome row r
unfolding margins_of four_margins
row_margins {row} q = rw q (go (eqb (length row) 20) refl (comparable (at 13) (at 8)) refl (comparable (at 15) (at 10)) refl)
  where
    at : ℕ → ℤ
    at place = get_or row place (pos 0)

    told : Option (ℤ × ℤ)
    told = Some ((margin (nat_abs (at 13)) (nat_abs (at 8))), (margin (nat_abs (at 15)) (nat_abs (at 10))))

    go : (n : Bool) → eqb (length row) 20 ≡ n → (m : Bool) → comparable (at 13) (at 8) ≡ m → (s : Bool) → comparable (at 15) (at 10) ≡ s
        → MarginsOutcome row (cond n (cond (m && s) told None) None)
    go false e m f s g = none (λ h. eqb-false (length row) 20 e h.0)
    go true e false f s g = none (λ h. false≢true (sym f ∙ comparable_is _ _ h.1.0))
    go true e true f false g = none (λ h. false≢true (sym g ∙ comparable_is _ _ h.1.1))
    go true e true f true g =
        margins (eqb-true (length row) 20 e, (comparable_yes _ _ f, comparable_yes _ _ g)) (one_margin _ _ f) (one_margin _ _ g)
