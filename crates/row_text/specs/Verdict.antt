-- What the verdict program prints of a row. §3.3: it "prints the header shown, then each row's station, season, verdict (safe, unsafe or
-- undecided) and kcmil".
use Rattle.std.specs.Prelude.{ℕ, List, [], ◌∷◌}
use Rattle.text.specs.Text.{bytes}
use Rattle.writing.specs.Decimal.{signed}
use Rattle.decision.specs.declared.Verdict.{TheVariants.{Safe, Unsafe, Undecided}, Verdict}
use Rattle.row.specs.declared.Row.{Row}

unfoldable pub word : Verdict → List ℕ
word Safe = bytes "safe"
word Unsafe = bytes "unsafe"
word Undecided = bytes "undecided"

unfoldable pub verdict_names : List (List ℕ)
verdict_names = bytes "station" ∷ bytes "season" ∷ bytes "verdict" ∷ bytes "kcmil" ∷ []

unfoldable pub verdict_fields : Row → List (List ℕ)
verdict_fields r = signed r.station ∷ signed r.season ∷ word r.verdict ∷ signed r.size ∷ []
