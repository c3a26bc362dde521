-- §6.4: the working of a case as numbers in a row.
use Rattle.std.specs.Prelude.{List, [], ◌∷◌, ℤ}
use Rattle.working.specs.declared.Quantities.{Quantities}

-- the lower and the upper end of each quantity, in the order of the working
unfoldable pub working_numbers : Quantities → List ℤ
working_numbers w =
    w.cs.lower ∷ w.cs.upper ∷ w.root_time.lower ∷ w.root_time.upper ∷ w.side.lower ∷ w.side.upper
    ∷ w.lc.lower ∷ w.lc.upper ∷ w.lr.lower ∷ w.lr.upper ∷ w.lt.lower ∷ w.lt.upper
    ∷ w.lm.lower ∷ w.lm.upper ∷ w.ls.lower ∷ w.ls.upper ∷ w.n.lower ∷ w.n.upper
    ∷ w.ki.lower ∷ w.ki.upper ∷ w.kii.lower ∷ w.kii.upper ∷ w.kh.lower ∷ w.kh.upper
    ∷ w.km.lower ∷ w.km.upper ∷ w.ks.lower ∷ w.ks.upper ∷ w.driven.lower ∷ w.driven.upper ∷ []
