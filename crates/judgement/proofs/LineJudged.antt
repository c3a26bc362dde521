-- What the refusal of a line says of its finding.
use Prim.Native.Nat.{ℕ}
use mathlib.Core.Path.{◌≡◌, refl, sym, ◌∙◌}
use Rattle.text.proofs.Clash.{clash}
use Rattle.line_finding.specs.declared.LineFinding.{LineFinding}
use Rattle.line_finding.specs.declared.LineFinding.TheVariants.{Sound, Form as WrongForm, OutOfRange, Disagreement, Repeated}
use Rattle.judgement.specs.Refusal.{line_judgement}
use Rattle.std.specs.Prelude.{Result, Ok, Err}
use Rattle.refusal.specs.{declared.Refused.{Refused}, Refused.{refuse}}

-- a refused line is refused whatever follows
pub refused_line : {A : Type 0} {why : Refused} {a : Result (Unit {0}) Refused} (n : ℕ) (sound : Result A Refused) (f : LineFinding)
    → a ≡ line_judgement n (Ok tt) f → a ≡ Err why → line_judgement n sound f ≡ Err why
unfolding line_judgement
refused_line n sound Sound p q = clash cc
refused_line n sound (WrongForm column) p q = cc
refused_line n sound (OutOfRange column) p q = cc
refused_line n sound (Disagreement column) p q = cc
refused_line n sound Repeated p q = cc

-- an answer that is no refusal says that the line is sound, and is what follows
pub sound_line : {A : Type 0} {m : A} {a : Result A Refused} (n : ℕ) (sound : Result A Refused) (f : LineFinding) → a ≡ line_judgement n sound f → a ≡ Ok m
    → (f ≡ Sound) × (sound ≡ Ok m)
unfolding line_judgement
sound_line n sound Sound p q = (refl, sym p ∙ q)
sound_line n sound (WrongForm column) p q = clash cc
sound_line n sound (OutOfRange column) p q = clash cc
sound_line n sound (Disagreement column) p q = clash cc
sound_line n sound Repeated p q = clash cc
