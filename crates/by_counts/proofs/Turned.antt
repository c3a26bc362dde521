-- The two counts may be exchanged.
use Prim.Native.Nat.{ℕ, ◌-◌, ◌<◌}
use mathlib.Core.Path.{◌≡◌}
use native.Mathlib.{Omega.{arith}, Nat.{mul_comm}}
use borrow.Author.Tests.{ne_eqb}
use Rattle.interval.specs.declared.Interval.{Interval}
use Rattle.effective_number.specs.{Counts.{spacings, half_perimeter, meshes}, Number.{mesh_root, nb_ends, product_ends, n_ends}}
use Rattle.conductors.specs.Weights.{inner_ends}
use Rattle.by_counts.specs.{declared.Entry.{Entry}, Entries.{Holds}}

module _ (a b : ℕ) where
  spacings_turned : spacings a b ≡ spacings b a
  unfolding spacings
  spacings_turned = omega arith

  half_turned : half_perimeter a b ≡ half_perimeter b a
  unfolding half_perimeter
  half_turned = omega arith

  meshes_turned : meshes a b ≡ meshes b a
  unfolding meshes
  meshes_turned = mul_comm (a - 1) (b - 1)

  product_turned : product_ends a b ≡ product_ends b a
  unfolding product_ends nb_ends mesh_root
  product_turned = rw (spacings_turned, half_turned, meshes_turned)

module _ {a b : ℕ} (l : b < a) where
  n_turned : n_ends a b ≡ n_ends b a
  unfolding n_ends
  n_turned = rw (ne_eqb a b (λ e. omega arith), ne_eqb b a (λ e. omega arith)) (product_turned a b)

  inner_turned : (n : Interval) → inner_ends a b n ≡ inner_ends b a n
  unfolding inner_ends
  inner_turned n = rw (ne_eqb a b (λ e. omega arith), ne_eqb b a (λ e. omega arith))

  pub turned : {e : Entry} → Holds b a e → Holds a b e
  turned h =
      record {
        number = rw n_turned h.number;
        spread = rw n_turned h.spread;
        inner = rw (n_turned, inner_turned (n_ends b a)) h.inner;
        half = rw n_turned h.half;
      }
