-- Tests joined by 'or', a test as an equation, and proofs joined to a product.
use mathlib.Core.{Path.{◌≡◌, refl}, Bool.{Bool, true, false, ◌||◌}}
use lib.Dec.{T}

pub or_left : (a b : Bool) → T a → T (a || b)
or_left true b t = tt
or_left false b t = absurd t

pub or_right : (a b : Bool) → T b → T (a || b)
or_right true b t = tt
or_right false b t = t

pub passed : (a : Bool) → T a → a ≡ true
passed true t = refl
passed false t = absurd t

-- two proofs one after the other: a product of many parts is written as a flat list
infixr 4 ◌then◌
pub ◌then◌ : {A B : Type 0} → A → B → A × B
◌then◌ a b = (a, b)
