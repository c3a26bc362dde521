-- Every answer with a grid current means what it should: branches and grid make the injected current, and the split is the smallest.
use Prim.Native.Nat.{ℕ}
use mathlib.Core.{Path.{◌≡◌, refl, ap}, Bool.{Bool, true, false, cond}, List.{List}}
use lib.{IntN.{ℤ}, ListN.{length}}
use Rattle.staged.specs.{Check.{bad_count, any_outside, none_injected}}
use Rattle.staged.specs.{Current.{in_phase, quadrature, grid_part}, declared.GridShare.{GridShare}, Answer.{grid, grid_square, injected_square, grid_split, answer}}
use Rattle.staged.specs.{Reported.{Reported}, Parts.{Sound}}
use Rattle.long_root.{specs.Split.{split_of}, proofs.Smallest.{split_enough, split_least}}
use Rattle.staged.proofs.{GridCurrent.{together}, SoundTest.{injected_some}}
use Rattle.std.specs.Prelude.{Result, Ok}
use Rattle.refusal.specs.{declared.Refused.{Refused}, Refused.{refuse}}

module _ {a b : ℤ} {n : ℕ} where
  -- a check with another answer than its refusal is passed
  passed : (t : Bool) (k : ℕ) (r : Result GridShare Refused) → cond t (refuse k 0 0) r ≡ Ok (grid a b n) → (t ≡ false) × (r ≡ Ok (grid a b n))
  passed true k r e = (cc, cc)
  passed false k r e = (refl, e)

  module _ (s : List ℤ) (e : answer s ≡ Ok (grid a b n)) where
    checked : Sound s × (◌≡◌ {A = Result GridShare Refused} (Ok (grid_split s)) (Ok (grid a b n)))
    unfolding answer
    checked =
        let count = passed (bad_count (length s)) _ _ e in
        let range = passed (any_outside s) _ _ count.1 in
        let current = passed (none_injected s) _ _ range.1 in
        (record { count = count.0; range = range.0; injected = current.0 }, current.1)

    same : grid a b n ≡ grid_split s
    same = cc checked.1

    in_phase_is : a ≡ grid_part (in_phase s)
    unfolding grid_split
    in_phase_is = ap (λ r. r.in_phase) same

    quadrature_is : b ≡ grid_part (quadrature s)
    unfolding grid_split
    quadrature_is = ap (λ r. r.quadrature) same

    split_is : n ≡ split_of (grid_square s) (injected_square s)
    unfolding grid_split
    split_is = ap (λ r. r.per_mille) same

    pub reported : Reported s a b n
    unfolding grid_square
    reported =
        rw (in_phase_is, quadrature_is, split_is)
        (record {
          in_phase_whole = together (in_phase s);
          quadrature_whole = together (quadrature s);
          not_below = split_enough (grid_square s) (injected_square s) (injected_some checked.0);
          smaller_below = split_least (grid_square s) (injected_square s) (injected_some checked.0);
        })
