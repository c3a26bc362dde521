-- §2.1–§2.3: what a judgement says of a sheet, in the specification's words: the first rule that it breaks, or that it breaks none.
use Prim.Native.{Nat.{ℕ, ◌+◌, ◌-◌, ◌≤◌, ◌<◌}, String.{String}}
use mathlib.Core.{Path.{◌≡◌, refl, sym, ap, ◌∙◌}, Bool.{Bool, true, false, ◌&&◌}, Logic.{◌⊎◌, inl, inr}, List.{List, []}}
use native.Mathlib.Omega.{arith}
use lib.ListN.{length, get_or}
use borrow.Author.Tests.{eq-eqb, eqb-true, ne_eqb}
use Rattle.text.{specs.Text.{bytes, same}, proofs.Clash.{clash}}
use Rattle.case.specs.declared.Form.{Form as CodeForm, TheVariants.{Present, Former}}
use Rattle.case.specs.Columns.{Form, columns, former_columns, name_index, named, in_range}
use Rattle.case.specs.{Check.{out_of_range, agree}, Parts.{range_at, form_of}}
use Rattle.case.proofs.{Ranges.{Some, in_range_lem, in_range_at, some_columns}, Tests.{passed}, Agreement.{Agree, agreed}}
use Rattle.header.{specs.{Names.{WrongName, Leftmost, None}}}
use Rattle.header.proofs.{NamesStand.{Named, names_stand, name_stands, no_wrong_name, wrong_name_lem}, HeaderAccepted.{header_accepted}}
use Rattle.line_finding.specs.{declared.LineFinding.{LineFinding, TheVariants.{Sound}}, Findings.{same_key, repeats}}
use Rattle.line_finding.proofs.LineFound as line
use Rattle.judgement.specs.{Limits.{today}, Refusal.{line_judgement}}
use Rattle.judgement.specs.Sheet.{names, value_lines, bad_text, judgement}
use Rattle.judgement.proofs.{Whole.{text_right, text_wrong}, ValueFields.{right_values, no_wrong_value, wrong_values}}
use Rattle.judgement.proofs.{RangeBroken.{RangeBroken, range_broken, range_leftmost}, Causes.{wrong_column}}
use Rattle.judgement.proofs.LinesInTurn.{before, finding_at, RefusedAt, refused_at_lem, sound_at, SeenBefore, repeats_line, none_before}
use Rattle.judgement.proofs.Causes as cause
use Rattle.judgement.proofs.Accepted as judged
use Rattle.claims.specs.Rules.{fields_at, Under}
use Rattle.claims.specs.Order.{WrongText, WrongCount, OutOfRange, LayerAgreesAt, RodsAgreeAt, Repeats, LineKept, LineBroken}
use Rattle.claims.specs.Order.{Agrees, FirstBroken, NoneBroken}
use Rattle.claims.specs.Order as rule
use Rattle.claims.proofs.{OnePlace.{yes_or_no, one_column, one_number, one_place, none_or_first}, OwnLines.{value_at}}
use Rattle.claims.proofs.OwnLines.{columns_in, values_in, stand, columns_count, values_count, names_right, stands_at, under}
use Rattle.std.specs.Prelude.{Result, Ok, Err}
use Rattle.refusal.proofs.Same.{same_place}
use Rattle.refusal.specs.{declared.Refused.{Refused}, Refused.{refuse}}

both : (a b : Bool) → (a && b) ≡ true → (a ≡ true) × (b ≡ true)
both true b e = (refl, e)
both false b e = clash cc

-- numbers that are both 0, or both not 0, agree
module _ (a b : ℕ) where
  zeros_agree : a ≡ 0 → b ≡ 0 → agree a b ≡ true
  unfolding agree
  zeros_agree p q = rw (p, q)

  others_agree : (a ≡ 0 → ⊥) → (b ≡ 0 → ⊥) → agree a b ≡ true
  unfolding agree
  others_agree p q = rw (ne_eqb a 0 p, ne_eqb b 0 q)

-- the names that the rules speak of are names of the form
pub record Known (form : Form) : Type 0 where
  pub station : name_index form (bytes "station") < length form
  pub season : name_index form (bytes "season") < length form
  pub layer : name_index form (bytes "layer") < length form
  pub thick : name_index form (bytes "thick") < length form
  pub rods : name_index form (bytes "rods") < length form
  pub rodlen : name_index form (bytes "rodlen") < length form
  pub place : name_index form (bytes "place") < length form

pub known : (form : CodeForm) → Known (form_of form)
unfolding columns former_columns name_index same form_of
known Present = omega arith
known Former = omega arith

-- ---- a text that is right

pub text_kept : (s : List ℕ) → bad_text today s ≡ false → ¬ WrongText s
text_kept s b = let t = text_right today s b in go t.some t.most t.last
  where
    go : 1 ≤ length s → length s ≤ 65536 → get_or s (length s - 1) 0 ≡ 10 → ¬ WrongText s
    go p q r (inl e) = omega arith
    go p q r (inr (inl h)) = omega arith
    go p q r (inr (inr h)) = h r

-- ---- a line of a sheet whose names are right

module _ (form : Form) (k : Known form) (s : List ℕ) (right : wrong_column form s ≡ 0) where
  abbrev at : List ℕ
  at = columns_in form s

  abbrev values_at : ℕ → List ℕ
  values_at i = values_in form s i

  stood : Named form (names s) at
  stood = stand form s right

  counted : length at ≡ length form
  counted = columns_count form s right

  columns_some : Some at
  columns_some = some_columns at (length form) counted (header_accepted form (names s) right).some

  right_names : None (WrongName form (names s))
  right_names = names_right form s right

  under_name : (i : ℕ) (name : String) → name_index form (bytes name) < length form → Under s i name (named form (values_at i) name)
  under_name i name h = under form s right name h i

  module _ (i : ℕ) where
    abbrev v : List ℕ
    v = values_at i

    module _ (name : String) (h : name_index form (bytes name) < length form) where
      zero_under : named form v name ≡ 0 → Under s i name 0
      zero_under e = rw e at (under_name i name h)

      under_zero : Under s i name 0 → named form v name ≡ 0
      under_zero u = one_number right_names (under_name i name h) u

    -- ---- 5

    outside_at : {c : ℕ} (o : OutOfRange form s i c)
        → (c ≡ get_or at o.index 0) × (in_range (range_at form o.index) (get_or v o.index 0) ≡ false)
    outside_at o =
        let e = one_column right_names o.named (name_stands stood o.index o.known) in
        let q = value_at at (fields_at s i) o.index (omega (arith, counted, o.known)) in
        (e, rw (q, ← e) o.outside)

    ranges_kept : out_of_range form at v ≡ 0 → None (OutOfRange form s i)
    ranges_kept z c o =
        yes_or_no (passed _ (in_range_at form v (values_count form s right i) (in_range_lem form at v counted columns_some z) o.index))
        (outside_at o).1

    leftmost_outside : (out_of_range form at v ≡ 0 → ⊥) → Leftmost (OutOfRange form s i) (out_of_range form at v)
    leftmost_outside z = record { here = here (range_broken form at v z); first = first }
      where
        here : RangeBroken form at v (out_of_range form at v) → OutOfRange form s i (out_of_range form at v)
        here r =
            let q = value_at at (fields_at s i) r.name (omega (arith, counted, r.known)) in
            record {
              index = r.name;
              known = r.known;
              named = rw r.column_is (name_stands stood r.name r.known);
              outside = rw (r.column_is, ← q) r.outside;
            }

        first : (left : ℕ) → left < out_of_range form at v → ¬ OutOfRange form s i left
        first left h o =
            let e = outside_at o in
            omega (arith, e.0, range_leftmost form at v counted (values_count form s right i) columns_some o.index o.known e.1)

    -- ---- 6

    layer_kept : line.layer_agrees form v ≡ true → LayerAgreesAt s i
    layer_kept e = go (agreed _ _ e)
      where
        go : Agree (named form v "layer") (named form v "thick") → LayerAgreesAt s i
        go (inl p) = inl (zero_under "layer" k.layer p.0, zero_under "thick" k.thick p.1)
        go (inr p) =
            inr (λ u. omega (arith, under_zero "layer" k.layer u, p.0), λ u. omega (arith, under_zero "thick" k.thick u, p.1))

    layer_broken : line.layer_agrees form v ≡ false → ¬ LayerAgreesAt s i
    layer_broken e (inl p) = yes_or_no (zeros_agree _ _ (under_zero "layer" k.layer p.0) (under_zero "thick" k.thick p.1)) e
    layer_broken e (inr p) =
        yes_or_no (others_agree _ _ (λ z. p.0 (zero_under "layer" k.layer z)) (λ z. p.1 (zero_under "thick" k.thick z))) e

    rods_kept : line.rods_agree form v ≡ true → RodsAgreeAt s i
    rods_kept e = let q = both _ _ e in go (agreed _ _ q.0) (agreed _ _ q.1)
      where
        go : Agree (named form v "rods") (named form v "rodlen") → Agree (named form v "rods") (named form v "place") → RodsAgreeAt s i
        go (inl p) (inl q) =
            inl (zero_under "rods" k.rods p.0, zero_under "rodlen" k.rodlen p.1, zero_under "place" k.place q.1)
        go (inl p) (inr q) = absurd (omega (arith, p.0, q.0))
        go (inr p) (inl q) = absurd (omega (arith, p.0, q.0))
        go (inr p) (inr q) =
            inr (
              λ u. omega (arith, under_zero "rods" k.rods u, p.0),
              λ u. omega (arith, under_zero "rodlen" k.rodlen u, p.1),
              λ u.
                  omega (arith, under_zero "place" k.place u, q.1),
            )

    rods_broken : line.rods_agree form v ≡ false → ¬ RodsAgreeAt s i
    rods_broken e (inl p) =
        let z = under_zero "rods" k.rods p.0 in
        yes_or_no
        (rw (zeros_agree _ _ z (under_zero "rodlen" k.rodlen p.1), zeros_agree _ _ z (under_zero "place" k.place p.2))) e
    rods_broken e (inr p) =
        let z : named form v "rods" ≡ 0 → ⊥ = λ q. p.0 (zero_under "rods" k.rods q) in
        yes_or_no
        (rw (
          others_agree _ _ z (λ q. p.1 (zero_under "rodlen" k.rodlen q)),
          others_agree _ _ z (λ q. p.2 (zero_under "place" k.place q)),
        )) e

    -- ---- 7

    keys_equal : (j : ℕ) → same_key form v (values_at j) ≡ true
        → (named form v "station" ≡ named form (values_at j) "station") × (named form v "season" ≡ named form (values_at j) "season")
    unfolding same_key
    keys_equal j e = let q = both _ _ e in (eqb-true _ _ q.0, eqb-true _ _ q.1)

    repeats_at : (j : ℕ) → j < i → same_key form v (values_at j) ≡ true → Repeats s i
    repeats_at j h e =
        let q = keys_equal j e in
        record {
          line = j;
          earlier = h;
          station = named form (values_at j) "station";
          season = named form (values_at j) "season";
          here = (rw q.0 at (under_name i "station" k.station), rw q.1 at (under_name i "season" k.season));
          there = (under_name j "station" k.station, under_name j "season" k.season);
        }

    new_key : ((j : ℕ) → j < i → same_key form v (values_at j) ≡ false) → ¬ Repeats s i
    unfolding same_key
    new_key h r =
        let p = one_number right_names (under_name i "station" k.station) r.here.0
        ∙ one_number right_names r.there.0 (under_name r.line "station" k.station) in
        let q = one_number right_names (under_name i "season" k.season) r.here.1
        ∙ one_number right_names r.there.1 (under_name r.line "season" k.season) in
        yes_or_no (rw (eq-eqb _ _ p, eq-eqb _ _ q)) (h r.line r.earlier)

    -- ---- the line

    agrees : {earlier : List (List ℕ)} → line.Agreed form at earlier (fields_at s i) → Agrees form s i
    agrees a =
        record {
          in_range_lem = record {
            values = no_wrong_value (right_values (length form) (fields_at s i) a.right_form);
            ranges = ranges_kept a.none_outside;
          };
          layer = layer_kept a.layer;
          rods = rods_kept a.rods;
        }

  -- a sound line keeps its rules
  line_kept : (i : ℕ) → i < length (value_lines s) → finding_at form at [] (value_lines s) i ≡ Sound → LineKept form s i
  line_kept i h e =
      let q = line.sound_says form at _ (fields_at s i) e in
      record { agrees = agrees i q.0; new = new_key i (none_before form at (values_at i) [] (value_lines s) i h q.1).1 }

  -- a refusal by its number and column
  told : {i n m d number l c : ℕ} → ◌≡◌ {A = Result (Unit {0}) Refused} (refuse n m d) (refuse number l c) → LineBroken form s i n d
      → LineBroken form s i number c
  told e b =
      let p = same_place e in
      rw (← p.0, ← p.2) b

  -- the first line that is not sound
  module _ {number l c : ℕ} (r : RefusedAt form at [] 2 (value_lines s) number l c) where
    abbrev i : ℕ
    i = r.index

    repeated_at : SeenBefore form at (values_at i) (value_lines s) i ⊎ (repeats form (values_at i) [] ≡ true) → Repeats s i
    unfolding repeats
    repeated_at (inl b) = repeats_at i b.index b.earlier b.same
    repeated_at (inr e) = absurd (yes_or_no e refl)

    by_finding : {f : LineFinding} → line.LineFound form at (before form at [] (value_lines s) i) (fields_at s i) f
        → line_judgement {A = Unit {0}} (i + 2) (Ok tt) f ≡ refuse number l c → LineBroken form s i number c
    unfolding line_judgement
    by_finding (line.all_sound a q) e = clash cc
    by_finding (line.wrong_form_lem q) e = told e (rule.value (wrong_values (length form) (fields_at s i) q))
    by_finding (line.out_of_range_lem f q) e =
        told e (rule.range (no_wrong_value (right_values (length form) (fields_at s i) f)) (leftmost_outside i q))
    by_finding (line.layer_differs f o q) e =
        told e
        (rule.layer (record { values = no_wrong_value (right_values (length form) (fields_at s i) f); ranges = ranges_kept i o })
        (layer_broken i q) (stands_at form s right "layer" k.layer))
    by_finding (line.rods_differ f o a q) e =
        told e
        (rule.rods (record { values = no_wrong_value (right_values (length form) (fields_at s i) f); ranges = ranges_kept i o })
        (layer_kept i a) (rods_broken i q) (stands_at form s right "rods" k.rods))
    by_finding (line.repeated a q) e =
        told e (rule.repeated (agrees i a) (repeated_at (repeats_line form at (values_at i) [] (value_lines s) i r.within q)))

    line_broken : LineBroken form s i number c
    line_broken = by_finding (line.line_found form at _ (fields_at s i)) (rw (← r.line) r.judged)

-- ---- the sheet

count_kept : {s : List ℕ} → (length (value_lines s) ≡ 0 → ⊥) → length (value_lines s) ≤ 256 → None (WrongCount s)
count_kept p q place (rule.none e) = p e
count_kept p q place (rule.many h) = omega arith

module _ (form : Form) (k : Known form) (s : List ℕ) where
  pub first_broken : {number line column : ℕ} → judgement form s ≡ refuse number line column
      → FirstBroken form s number line column
  unfolding judgement
  first_broken e = go (rw e at (cause.cause form s today))
    where
      at_line : {n l c : ℕ} → bad_text today s ≡ false → (right : wrong_column form s ≡ 0) → (length (value_lines s) ≡ 0 → ⊥)
          → length (value_lines s) ≤ 256
          → RefusedAt form (columns_in form s) [] 2 (value_lines s) n l c → FirstBroken form s n l c
      at_line b right some most r =
          rw r.line
          (rule.line r.index r.within
          (record {
            text = text_kept s b;
            name = no_wrong_name (names_stand form (names s) right);
            count = count_kept some most;
            lines = λ j h. line_kept form k s right j (omega (arith, r.within)) (r.sound_before j h);
          })
          (line_broken form k s right r))

      go : {n l c : ℕ} → cause.Cause form s today (refuse n l c) → FirstBroken form s n l c
      go (cause.text h) = rule.text (text_wrong today s h)
      go (cause.name b h) = rule.name (text_kept s b) (wrong_name_lem form (names s) h)
      go (cause.no_line b w h) = rule.count (text_kept s b) (no_wrong_name (names_stand form (names s) w)) (rule.none h)
      go (cause.many_lines b w h) = rule.count (text_kept s b) (no_wrong_name (names_stand form (names s) w)) (rule.many h)
      go (cause.lines b right some most h) =
          at_line b right some most (refused_at_lem form (columns_in form s) (length (value_lines s)) [] 2 (value_lines s) h)

  pub none_broken : {n : ℕ} → judgement form s ≡ Ok n → NoneBroken form s n
  none_broken {n} e =
      let a = judged.accepted form s n e in
      record {
        count = a.count;
        reached = record {
          text = text_kept s a.text;
          name = no_wrong_name (names_stand form (names s) a.names_sound);
          count = count_kept (λ z. omega (arith, z, a.count, a.some)) (omega (arith, a.count, a.most));
          lines = λ j h.
              line_kept form k s a.names_sound j (omega (arith, a.count))
              (sound_at form (columns_in form s) [] 2 (Ok n) (value_lines s) a.judged j (omega (arith, a.count)));
        };
      }

  -- ---- and the other way

  pub refused_by : {number line column : ℕ} → FirstBroken form s number line column
      → judgement form s ≡ refuse number line column
  refused_by {number} {line} {column} b = go (judgement form s) refl
    where
      go : (j : Result ℕ Refused) → judgement form s ≡ j → judgement form s ≡ refuse number line column
      go (Ok n) e = absurd (none_or_first (none_broken e) b)
      go (Err why) e = let q = one_place (first_broken e) b in e ∙ rw (q.0, q.1, q.2)

  pub accepted_by : {n : ℕ} → NoneBroken form s n → judgement form s ≡ Ok n
  accepted_by {n} a = go (judgement form s) refl
    where
      go : (j : Result ℕ Refused) → judgement form s ≡ j → judgement form s ≡ Ok n
      go (Ok m) e = let q : m ≡ n = (none_broken e).count ∙ sym a.count in e ∙ ap Ok q
      go (Err why) e = absurd (none_or_first a (first_broken e))
