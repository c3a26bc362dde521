-- Parts of a table are written one after the other.
use Prim.Native.Nat.{ℕ, ◌+◌, ◌<◌}
use mathlib.Core.{Path.{◌≡◌, refl, subst, ◌∙◌}, Logic.{◌⊎◌, inl, inr}, List.{List}}
use native.Mathlib.{Nat.{eq-or-lt_of_le}, Omega.{arith}}
use Rattle.tables.specs.Parts.{part_at, Written, Filled}
use Rattle.tables.proofs.Writing.{part_kept, rest_kept}

module _ {A : Type 0} {width : ℕ} {Right : ℕ → List A → Type 0} where
  pub filled_start : (t : List A) → Filled width Right 0 t t
  filled_start t = record { size = refl; parts = λ i h. absurd (omega arith); rest = refl }

  -- one part more
  pub filled_step : {n : ℕ} {part t u w : List A} → Filled width Right n t u → Written width n part u w → Right n part
      → Filled width Right (n + 1) t w
  filled_step {n} {part} {t} {u} {w} f r p =
      record { size = r.size ∙ f.size; parts = λ i h. at i (eq-or-lt_of_le (omega arith)); rest = rest_kept t r f.rest }
    where
      at : (i : ℕ) → (i ≡ n) ⊎ (i < n) → Right i (part_at width w i)
      at i (inl e) = rw (e, r.part_is) p
      at i (inr h) = rw (part_kept i r h) (f.parts i h)

  -- the same count by another name
  pub filled_end : {n m : ℕ} {t u : List A} → Filled width Right n t u → n ≡ m → Filled width Right m t u
  filled_end {t = t} {u} f e = subst (λ (k : ℕ). Filled width Right k t u) e f
