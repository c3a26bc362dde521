-- §6.4: what a right working is: the quantities that IEEE Std 80-2013, Annex B, prints of a case between its record and its row.
use Rattle.std.specs.Prelude.{◌≡◌, Result, Ok, Err}
use Rattle.refusal.specs.declared.Refused.{Refused}
use Rattle.interval.specs.Operations.{product_of}
use Rattle.exact.specs.{Fraction.{Fraction, ◌≈f◌, decimal, ◌+f◌, ◌·f◌}, Ends.{Ends}, Exact.{exactly, ◌·x◌, ◌÷x◌}, Reported.{ten, Reports}}
use Rattle.case.specs.{declared.Case.{Case}, Check.{record_judged, record_answer}}
use Rattle.formulas.specs.Lengths
use Rattle.formulas.specs.{Current.{IG}, Tolerable.{Q, root_time}, Width.{m_v}}
use Rattle.formulas.specs.Mesh
use Rattle.formulas.specs.Step
use Rattle.mesh.specs.Ends.{mesh_ends}
use Rattle.working.specs.{declared.Quantities.{Quantities}, Surface.{Cs, surface}, Ends.{working_of}}

-- ---- widths

-- at most a millionth of the lower end apart: Cs, √t, √area, the lengths, n, Ki and Kh
unfoldable pub millionth : Ends → Fraction
millionth A = decimal 1 6 ·f A.lower

-- at most 1/100,000 of the lower end: Kii, Km and Ks
unfoldable pub hundred_thousandth : Ends → Fraction
hundred_thousandth A = decimal 1 5 ·f A.lower

-- at most a millionth of the lower end and 3 mV: ρ·Ki·IG/LM
unfoldable pub driven_width : Ends → Fraction
driven_width A = decimal 1 6 ·f A.lower +f decimal 3 3

-- ---- the pairs

pub record RightWorking (c : Case) (w : Quantities) : Type 0 where
  pub cs : Reports (exactly (Cs c)) (ten 9) millionth w.cs
  pub root_time_lem : Reports (root_time c) (ten 8) millionth w.root_time
  pub side : Reports (Lengths.s c) (ten 6) millionth w.side
  pub lc : Reports (exactly (Lengths.Lc c)) (ten 6) millionth w.lc
  pub lr : Reports (exactly (Lengths.LR c)) (ten 6) millionth w.lr
  pub lt : Reports (exactly (Lengths.LT c)) (ten 6) millionth w.lt
  pub lm : Reports (Mesh.LM c) (ten 6) millionth w.lm
  pub ls : Reports (exactly (Step.LS c)) (ten 6) millionth w.ls
  pub n : Reports (Lengths.n c) (ten 7) millionth w.n
  pub ki : Reports (Lengths.Ki c) (ten 10) millionth w.ki
  pub kii : Reports (Mesh.Kii c) (ten 9) hundred_thousandth w.kii
  pub kh : Reports (Mesh.Kh c) (ten 9) millionth w.kh
  pub km : Reports (Mesh.Km c) (ten 7) hundred_thousandth w.km
  pub ks : Reports (Step.Ks c) (ten 7) hundred_thousandth w.ks
  pub driven : Reports (exactly (Lengths.ρ c) ·x Lengths.Ki c ·x IG c ÷x Mesh.LM c) m_v driven_width w.driven
  -- §4.5: "Q is Cs·ρs"; "for bare soil Q is ρ"
  pub layer_effect : Q c ≈f Cs c ·f surface c
  -- the mesh voltage of the row is the product of the pairs of ρ·Ki·IG/LM and Km, rounded outward
  pub mesh_follows : mesh_ends c ≡ product_of w.driven w.km 10000000

-- ---- the answer

-- the working, or refusal 5 or 6 with line 0
unfoldable pub working_answer : Case → Result Quantities Refused
working_answer c = record_answer (Ok (working_of c)) (record_judged c)

-- a working is right; nothing is required of a refusal here
unfoldable pub RightWorked : Case → Result Quantities Refused → Type 0
RightWorked c (Ok w) = RightWorking c w
RightWorked c (Err why) = Unit {0}

-- the answer by the name of its working, and what holds of it. Two wrong programs: one that refuses every record breaks `answer`; one whose
-- Cs is 1 with a layer too, by that name, breaks `right`.
pub record WorkingAnswered (c : Case) (r : Result Quantities Refused) : Type 0 where
  pub answer : r ≡ working_answer c
  pub right : RightWorked c r
