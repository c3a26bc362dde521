-- The n-th root of 4n² for n from 2 to 25: one test computed over the table.
use Prim.Native.Nat.{ℕ, ◌+◌, ◌*◌, ◌^◌, ◌≤◌, ◌<◌}
use mathlib.Core.List.{List, [], ◌∷◌}
use native.Mathlib.Omega.{arith}
use Rattle.interval.{specs.{Operations.{natural}, Span.{Span}}, proofs.{Span.{span_natural}, Rules.{Rule, ◌≼◌, Kept}}}
use Rattle.case.specs.Bounds.{Between}
use Rattle.effective_number.proofs.Rules.{at_count}
use Rattle.conductors.specs.Weights.{roots, root_of}

-- r is the n-th root of 4n² in 10^−9, rounded down
pub record LinesRoot (n r : ℕ) : Type 0 where
  pub low : r ^ n ≤ 4 * (n * n) * 1000000000 ^ n
  pub high : 4 * (n * n) * 1000000000 ^ n < (r + 1) ^ n
  pub from : 1360000000 ≤ r
  pub to : r ≤ 4000000000

root_rules : ℕ → List Rule
root_rules n =
    (root_of n ^ n ≼ 4 * (n * n) * 1000000000 ^ n)
    ∷ (4 * (n * n) * 1000000000 ^ n + 1 ≼ (root_of n + 1) ^ n)
    ∷ (1360000000 ≼ root_of n)
    ∷ (root_of n ≼ 4000000000)
    ∷ []

root_rules_lem : {n : ℕ} → Between 2 n 25 → Kept (root_rules n)
unfolding root_rules root_of roots
root_rules_lem h = at_count root_rules tt h

pub root_known : {n : ℕ} → Between 2 n 25 → LinesRoot n (root_of n)
unfolding root_rules
root_known {n} h =
    let k = (root_rules_lem h).at in
    record { low = k 0; high = omega (arith, k 1); from = k 2; to = k 3 }

pub line_root_span : {n : ℕ} → Between 2 n 25 → Span (natural (root_of n) (root_of n + 1)) 1360000000 4000000001 1
line_root_span {n} h =
    let r = root_known h in
    span_natural (root_of n) (root_of n + 1) r.from (omega arith) (omega (arith, r.to)) (omega arith)
