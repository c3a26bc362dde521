-- A case without disagreement: layer and thick are both 0 or both not 0, and so are rods, rodlen and place.
use Prim.Native.Nat.{ℕ, zero, suc, ◌≤◌}
use mathlib.Core.{Path.{◌≡◌, refl, sym, ◌∙◌}, Bool.{Bool, true, false, cond, ◌&&◌, false≢true}, Logic.{◌⊎◌, inl, inr}, List.{List}}
use native.Mathlib.Omega.{arith}
use lib.Dec.{eqb-suc-zero}
use Rattle.text.{specs.Text.{same}, proofs.Clash.{clash}}
use Rattle.case.specs.{declared.{Case.{Case}, Finding.TheVariants.{Sound, Disagreement}}, Columns.{columns, name_index, named}}
use Rattle.case.specs.{Case.{values}, Check.{agree, disagreement}}

-- both 0 or both not 0
abbrev pub Agree : ℕ → ℕ → Type 0
Agree a b = ((a ≡ 0) × (b ≡ 0)) ⊎ ((1 ≤ a) × (1 ≤ b))

pub agreed : (a b : ℕ) → agree a b ≡ true → Agree a b
unfolding agree
agreed zero zero h = inl (refl, refl)
agreed zero (suc b) h = absurd (false≢true (sym (eqb-suc-zero b) ∙ h))
agreed (suc a) zero h = absurd (false≢true (rw (eqb-suc-zero a) at h))
agreed (suc a) (suc b) h = inr (omega arith, omega arith)

pub record Agreed (c : Case) : Type 0 where
  pub layer : Agree c.layer c.thick
  pub rodlen : Agree c.rods c.rodlen
  pub place : Agree c.rods c.place

-- the finding by the fields of a case
pub disagreement_is : (at : List ℕ) (c : Case) → disagreement columns at (values c)
    ≡ cond (agree c.layer c.thick)
    (cond (agree c.rods c.rodlen && agree c.rods c.place) Sound (Disagreement (named columns at "rods")))
    (Disagreement (named columns at "layer"))
unfolding disagreement named name_index columns same
disagreement_is at c = refl

pub agreements : (at : List ℕ) (c : Case) → disagreement columns at (values c) ≡ Sound → Agreed c
agreements at c h =
    go (agree c.layer c.thick) refl (agree c.rods c.rodlen) refl (agree c.rods c.place) refl
    (sym (disagreement_is at c) ∙ h)
  where
    go : (p : Bool) → agree c.layer c.thick ≡ p → (q : Bool) → agree c.rods c.rodlen ≡ q
        → (r : Bool) → agree c.rods c.place ≡ r
        → cond p (cond (q && r) Sound (Disagreement (named columns at "rods"))) (Disagreement (named columns at "layer")) ≡ Sound → Agreed c
    go true e true f true g k =
        record { layer = agreed c.layer c.thick e; rodlen = agreed c.rods c.rodlen f; place = agreed c.rods c.place g }
    go true e true f false g k = clash cc
    go true e false f r g k = clash cc
    go false e q f r g k = clash cc
