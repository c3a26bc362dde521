-- Two refusals that are equal have the same number, line and column.
use mathlib.Core.Path.{◌≡◌, ap}
use Rattle.std.specs.Prelude.{ℕ, Result, Err}
use Rattle.refusal.specs.{declared.Refused.{Refused}, Refused.{refuse}}

pub same_refused : {A : Type 0} {x y : Refused} → ◌≡◌ {A = Result A Refused} (Err x) (Err y) → x ≡ y
same_refused h = cc

pub same_place : {A : Type 0} {n l k n' l' k' : ℕ} → ◌≡◌ {A = Result A Refused} (refuse n l k) (refuse n' l' k')
    → (n ≡ n') × (l ≡ l') × (k ≡ k')
same_place h =
    let e = same_refused h in
    (ap (λ (r : Refused). r.0) e, ap (λ (r : Refused). r.1) e, ap (λ (r : Refused). r.2) e)
