-- π. §5.4: "π is 16·arctan(1/5) − 4·arctan(1/239), each by its alternating series, 2k terms from below and 2k+1 from above."
use Rattle.std.specs.Prelude.{ℕ, zero, suc, ◌+◌, ◌*◌, ◌^◌}
use Rattle.exact.specs.{Fraction.{Fraction, whole, ◌−f◌, inv}, Exact.{Exact, exactly, ◌−x◌, ◌·x◌}}

-- n terms of t 0 − t 1 + t 2 − ..
unfoldable pub alternating : (ℕ → Fraction) → ℕ → Fraction
alternating t zero = whole 0
alternating t (suc n) = t zero −f alternating (λ i. t (suc i)) n

-- 1 / ((2i+1) n^(2i+1))
unfoldable pub arctan_term : ℕ → ℕ → Fraction
arctan_term n i = inv (whole ((2 * i + 1) * n ^ (2 * i + 1)))

-- arctan (1/n)
unfoldable pub arctan_over : ℕ → Exact
arctan_over n k = record { lower = alternating (arctan_term n) (2 * k); upper = alternating (arctan_term n) (2 * k + 1) }

unfoldable pub π : Exact
π = exactly (whole 16) ·x arctan_over 5 −x exactly (whole 4) ·x arctan_over 239
