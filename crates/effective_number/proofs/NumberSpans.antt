-- Sizes and widths of n and Ki, from the test.
use Prim.Native.Nat.{ℕ, ◌+◌, ◌*◌, ◌/◌, ◌^◌, ◌≤◌, ◌<◌}
use mathlib.Core.{Path.{◌≡◌}, Bool.{Bool, true, false, cond}}
use native.Mathlib.Omega.{arith}
use lib.{Dec.{eqb}, IntN.{pos}}
use Rattle.whole.specs.Whole.{ceil_div}
use Rattle.interval.specs.{Operations.{natural, point}, Span.{Span}}
use Rattle.interval.proofs.Natural.{point_natural, natural_sum, natural_scaled, natural_outward}
use Rattle.interval.proofs.Span.{span_natural}
use Rattle.enclosure.proofs.SquareRoot.{square_root_is}
use Rattle.case.specs.Bounds.{Between}
use Rattle.effective_number.specs.Counts.{Counts, spacings, half_perimeter}
use Rattle.effective_number.specs.Number.{mesh_root, nb_ends, product_ends, n_ends, ki_ends}
use Rattle.effective_number.proofs.Table.{root_at, nb_low, nb_high, n_low, n_high, roots_known, number_known}

module _ {a b : ℕ} (h : Counts a b) where
  pub half_bounds : Between 2 (half_perimeter a b) 48
  unfolding half_perimeter
  half_bounds = record { low = omega (arith, h.across.low, h.along.low); high = omega (arith, h.across.high, h.along.high) }

  -- ---- the roots

  pub mesh_root_is : mesh_root a b ≡ root_at a b
  unfolding mesh_root
  mesh_root_is = square_root_is (roots_known h).mesh

  nb_is : nb_ends a b ≡ natural (nb_low a b) (nb_high a b + 1)
  unfolding nb_ends
  nb_is = rw (mesh_root_is, square_root_is (roots_known h).low, square_root_is (roots_known h).high)

  -- ---- n

  half_pos : 0 < 100 * half_perimeter a b
  half_pos = omega (arith, half_bounds.low)

  product_is : product_ends a b
      ≡ natural (nb_low a b * spacings a b / (100 * half_perimeter a b)) (ceil_div ((nb_high a b + 1) * spacings a b) (100 * half_perimeter a b))
  unfolding product_ends
  product_is =
      rw (nb_is, natural_scaled (nb_low a b) (nb_high a b + 1) (spacings a b))
      (natural_outward (nb_low a b * spacings a b) ((nb_high a b + 1) * spacings a b) half_pos)

  pub n_is : n_ends a b ≡ natural (n_low a b) (n_high a b)
  unfolding n_ends n_low n_high
  n_is = go (eqb a b)
    where
      go : (t : Bool)
          → cond t (point (pos (a * 10 ^ 7))) (product_ends a b)
          ≡ natural (cond t (a * 10 ^ 7) (nb_low a b * spacings a b / (100 * half_perimeter a b)))
          (cond t (a * 10 ^ 7) (ceil_div ((nb_high a b + 1) * spacings a b) (100 * half_perimeter a b)))
      go true = point_natural (a * 10 ^ 7)
      go false = product_is

  pub n_least : 20000000 ≤ n_low a b
  n_least = go (eqb a b) (number_known h).least
    where
      go : (t : Bool) → cond t 20000000 24000000 ≤ n_low a b → 20000000 ≤ n_low a b
      go true k = k
      go false k = omega arith

  pub n_span : Span (n_ends a b) 20000000 250000000 2
  n_span =
      let k = number_known h in
      rw n_is (span_natural (n_low a b) (n_high a b) n_least k.order k.most k.near)

  -- of unequal counts
  pub n_more : eqb a b ≡ false → Span (n_ends a b) 24000000 250000000 2
  n_more e =
      let k = number_known h in
      rw n_is (span_natural (n_low a b) (n_high a b) (rw e at k.least) k.order k.most k.near)

  -- ---- Ki

  pub Ki-is : ki_ends (n_ends a b) ≡ natural (6440000000 + n_low a b * 148) (6440000000 + n_high a b * 148)
  unfolding ki_ends
  Ki-is =
      rw (n_is, natural_scaled (n_low a b) (n_high a b) 148, point_natural 6440000000)
      (natural_sum 6440000000 6440000000 (n_low a b * 148) (n_high a b * 148))

  pub Ki-span : Span (ki_ends (n_ends a b)) 9400000000 43440000000 296
  Ki-span =
      let k = number_known h in
      rw Ki-is
      (span_natural (6440000000 + n_low a b * 148) (6440000000 + n_high a b * 148) (omega (arith, n_least)) (omega (arith, k.order))
      (omega (arith, k.most)) (omega (arith, k.near)))
