-- The conductor size (§4.9) and the half-powers (§4.7) computed on examples.
use Rattle.std.specs.Prelude.{ℕ}
use mathlib.Core.{Path.{◌≡◌, refl}, List.{[], ◌∷◌, map}}
use Rattle.exact.specs.{Fraction.{Fraction, whole, inv}, Exact.{exactly}}
use Rattle.case.specs.Case.{case_of}
use Rattle.formulas.specs.{Step.{half_power}, Size.{constants, Kf, smallest, duty, enough, size}}

-- the size by fault, wire, metal and the reported upper end of the factor
size_of : ℕ → ℕ → ℕ → ℕ → ℕ
unfolding size smallest enough duty Kf constants
size_of fault wire metal =
    size (case_of (7 ∷ 1 ∷ 400 ∷ 0 ∷ 0 ∷ 500 ∷ 500 ∷ wire ∷ 70 ∷ fault ∷ 600 ∷ 10 ∷ 11 ∷ 11 ∷ 7000 ∷ 500 ∷ 100 ∷ 0 ∷ 0 ∷ 0 ∷ metal ∷ 60 ∷
    []))

-- every metal at 20,000 A, 1000 ms and a factor of 1
metals : map (λ metal. size_of 20000 1000 metal 1000000000) (1 ∷ 2 ∷ 3 ∷ 4 ∷ 5 ∷ 6 ∷ 7 ∷ 8 ∷ 9 ∷ 10 ∷ 11 ∷ [])
    ≡ 140 ∷ 142 ∷ 236 ∷ 209 ∷ 242 ∷ 293 ∷ 346 ∷ 368 ∷ 295 ∷ 580 ∷ 601 ∷ []
unfolding size_of
metals = refl

-- the asymmetrical current sizes the conductor: a factor of 1, and of 1.576 and 1.688 (those of Table 10 for 8.33 ms), at 80,000 A and 9
-- ms; just enough, and a billionth more
asymmetrical : map (size_of 80000 9 11) (1000000000 ∷ 1576000000 ∷ 1688000000 ∷ [])
    ∷ map (size_of 20000 1000 1) (1000000000 ∷ 1000000001 ∷ []) ∷ []
    ≡ (229 ∷ 360 ∷ 385 ∷ []) ∷ (140 ∷ 141 ∷ []) ∷ []
unfolding size_of
asymmetrical = refl

-- the 24 half-powers of the former table, one over each number: 2^(n−2) for n from 2 to 25
half_power_at : ℕ → Fraction
unfolding half_power exactly
half_power_at n =
    (half_power (case_of (7 ∷ 1 ∷ 400 ∷ 0 ∷ 0 ∷ 500 ∷ 500 ∷ 500 ∷ 70 ∷ 3180 ∷ 600 ∷ 10 ∷ n ∷ n ∷ 7000 ∷ 500 ∷ 100 ∷ 0 ∷ 0 ∷ 0 ∷ 1 ∷ 60 ∷ []))
    3).lower

half_powers : map half_power_at (2 ∷ 3 ∷ 4 ∷ 5 ∷ 6 ∷ 7 ∷ 8 ∷ 9 ∷ 10 ∷ 11 ∷ 12 ∷ 13 ∷ 14 ∷ 15 ∷ 16 ∷ 17 ∷ 18 ∷ 19 ∷ 20 ∷ 21 ∷ 22 ∷ 23 ∷ 24 ∷ 25
    ∷ [])
    ≡ map (λ p. inv (whole p)) (1 ∷ 2 ∷ 4 ∷ 8 ∷ 16 ∷ 32 ∷ 64 ∷ 128 ∷ 256 ∷ 512 ∷ 1024 ∷ 2048 ∷ 4096 ∷ 8192 ∷ 16384 ∷ 32768 ∷ 65536 ∷ 131072
    ∷ 262144 ∷ 524288 ∷ 1048576 ∷ 2097152 ∷ 4194304 ∷ 8388608 ∷ [])
unfolding half_power_at
half_powers = refl
