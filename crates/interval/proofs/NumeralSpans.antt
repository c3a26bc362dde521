-- Spans between numerals: the side conditions of each law of Span.antt and SpanFits.antt as one test that computes, `lits tt`.
use Prim.Native.Nat.{ℕ, suc, ◌+◌, ◌*◌, ◌^◌, ◌<◌}
use mathlib.Core.List.{[], ◌∷◌}
use lib.{IntN.{pos}, Signed.{◌≤ℤ◌}}
use Rattle.interval.specs.{Operations.{natural, point, size, outward_of, product_of, quotient_of}, declared.Interval.{Interval}}
use Rattle.interval.specs.Span.{Span}
use Rattle.interval.proofs.Rules.{◌≼◌, Kept}
use Rattle.interval.proofs.Span.{span_natural, span_point, span_wider, span_outward, span_product, span_quotient}
use Rattle.interval.proofs.SpanFits.{quotient_fits}

pub numeral_natural : (a b : ℕ) {l h w : ℕ} → Kept ((l ≼ a) ∷ (a ≼ b) ∷ (b ≼ h) ∷ (b ≼ a + w) ∷ []) → Span (natural a b) l h w
numeral_natural a b k = span_natural a b (k.at 0) (k.at 1) (k.at 2) (k.at 3)

pub numeral_point : (n : ℕ) {l h : ℕ} → Kept ((l ≼ n) ∷ (n ≼ h) ∷ []) → Span (point (pos n)) l h 0
numeral_point n k = span_point n (k.at 0) (k.at 1)

-- weaker bounds
pub numeral_wider : {i : Interval} {l h w l' h' w' : ℕ} → Span i l h w → Kept ((l' ≼ l) ∷ (h ≼ h') ∷ (w ≼ w') ∷ []) → Span i l' h' w'
numeral_wider s k = span_wider s (k.at 0) (k.at 1) (k.at 2)

pub numeral_outward : {i : Interval} {l h w : ℕ} (d low high m : ℕ)
    → Kept ((1 ≼ d) ∷ (low * d ≼ l) ∷ (h ≼ high * d) ∷ (w ≼ m * d) ∷ []) → Span i l h w → Span (outward_of i d) low high (m + 1)
numeral_outward d low high m k = span_outward d low high m (k.at 0) (k.at 1) (k.at 2) (k.at 3)

pub numeral_product : {i j : Interval} {l h w l' h' w' : ℕ} (d low high m : ℕ)
    → Kept ((1 ≼ d) ∷ (low * d ≼ l * l') ∷ (h * h' ≼ high * d) ∷ (h * w' + h' * w ≼ m * d) ∷ []) → Span i l h w → Span j l' h' w'
    → Span (product_of i j d) low high (m + 1)
numeral_product d low high m k = span_product d low high m (k.at 0) (k.at 1) (k.at 2) (k.at 3)

pub numeral_quotient : {i j : Interval} {l h w l' h' w' : ℕ} (d low high m : ℕ)
    → Kept ((1 ≼ l') ∷ (low * h' ≼ l * d) ∷ (h * d ≼ high * l') ∷ ((h * w' + h' * w) * d ≼ m * (l' * l')) ∷ [])
    → Span i l h w → Span j l' h' w' → Span (quotient_of i j d) low high (m + 1)
numeral_quotient d low high m k = span_quotient d low high m (k.at 0) (k.at 1) (k.at 2) (k.at 3)

pub numeral_quotient_fits : {i j : Interval} {l h w l' h' w' d : ℕ} → Kept ((suc d ≼ 2 ^ 63) ∷ (suc (h * d) ≼ 2 ^ 63) ∷ (1 ≼ l') ∷ [])
    → Span i l h w → Span j l' h' w' → ((pos 1 ≤ℤ j.lower) × (j.lower ≤ℤ j.upper)) × ((d < 2 ^ 63) × (size i * d < 2 ^ 63))
numeral_quotient_fits k = quotient_fits (k.at 0) (k.at 1) (k.at 2)
