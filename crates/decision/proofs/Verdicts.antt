-- What the verdict of four pairs says of the exact values that they enclose.
use mathlib.Core.{Path.{◌≡◌, refl}, Bool.{Bool, true, false, cond, ◌&&◌}, Logic.{◌⊎◌, inl, inr, ⊎_elim}}
use lib.{Dec.{T}, Signed.{◌≤ℤ◌, le_z, lt_z, le_z_yes, lt_z_yes}}
use mir.Facts.{and_yes, or_yes}
use Rattle.interval.specs.declared.Interval.{Interval}
use Rattle.exact.specs.{Exact.{Exact, Above, AtOrBelow}, Reported.{Scale}, Depth.{Consistent}}
use Rattle.enclosure.{specs.Enclosure.{Encloses}, proofs.Verdicts.{encloses_at_or_below, encloses_above}}
use Rattle.text.proofs.Clash.{clash}
use Rattle.decision.specs.{declared.Verdict.TheVariants.{Safe, Unsafe, Undecided}, Verdict.{safe, unsafe, verdict}}

-- ---- the tests that led to a verdict

safe_tested : (s u : Bool) → cond s Safe (cond u Unsafe Undecided) ≡ Safe → T s
safe_tested true u e = tt
safe_tested false true e = clash cc
safe_tested false false e = clash cc

unsafe_tested : (s u : Bool) → cond s Safe (cond u Unsafe Undecided) ≡ Unsafe → T u
unsafe_tested true u e = clash cc
unsafe_tested false true e = tt
unsafe_tested false false e = clash cc

-- two tests that pass
joined : (p q : Bool) → T p → T q → p && q ≡ true
joined true true s t = refl
joined true false s t = absurd t
joined false q s t = absurd s

module _ (t l m s : Interval) where
  -- safe exactly where mesh and step voltage are not above what is tolerable
  pub safe_ends_lem : verdict t l m s ≡ Safe → (m.upper ≤ℤ t.lower) × (s.upper ≤ℤ l.lower)
  unfolding verdict safe
  safe_ends_lem e =
      let p = and_yes (le_z m.upper t.lower) (le_z s.upper l.lower) (safe_tested (safe t l m s) (unsafe t l m s) e) in
      (le_z_yes p.0, le_z_yes p.1)

  pub ends_safe : m.upper ≤ℤ t.lower → s.upper ≤ℤ l.lower → verdict t l m s ≡ Safe
  unfolding verdict safe
  ends_safe p q = rw (joined (le_z m.upper t.lower) (le_z s.upper l.lower) p.le q.le)

-- ---- the exact values

-- an exact value and a pair in m_v that encloses it
pub record Enclosed (u : Scale) (x : Exact) (i : Interval) : Type 0 where
  pub consistent : Consistent x
  pub encloses : Encloses x u i

module _ {u : Scale} {tolerable_touch tolerable_step mesh step : Exact} {t l m s : Interval}
    (et : Enclosed u tolerable_touch t) (el : Enclosed u tolerable_step l) (em : Enclosed u mesh m) (es : Enclosed u step s) where
  pub safe_true : verdict t l m s ≡ Safe → AtOrBelow mesh tolerable_touch × AtOrBelow step tolerable_step
  safe_true e =
      let p = safe_ends_lem t l m s e in (
        encloses_at_or_below em.consistent et.consistent em.encloses et.encloses p.0,
        encloses_at_or_below es.consistent el.consistent es.encloses el.encloses p.1,
      )

  pub unsafe_true : verdict t l m s ≡ Unsafe → Above mesh tolerable_touch ⊎ Above step tolerable_step
  unfolding verdict unsafe
  unsafe_true e =
      ⊎_elim (λ h. inl (encloses_above em.encloses et.encloses (lt_z_yes h)))
      (λ h. inr (encloses_above es.encloses el.encloses (lt_z_yes h)))
      (or_yes (lt_z t.upper m.lower) (lt_z l.upper s.lower) (unsafe_tested (safe t l m s) (unsafe t l m s) e))
