-- §8.1–§8.3: every answer to a sheet that is to be carried over, and back.
use Prim.Native.{Nat.{ℕ, zero, suc, ◌+◌, ◌≤◌, ◌<◌}, String.{String}}
use mathlib.Core.{Path.{◌≡◌, refl, sym, ap, ◌∙◌}, Bool.{Bool, true, false, cond, ◌&&◌}, List.{List, [], ◌∷◌, ◌++◌}}
use native.Mathlib.Omega.{arith}
use lib.{Dec.{eqb, ltb}, ListN.{length, get_or, take, drop, length-append, length-drop, length-map}, Seq.{take_at, drop_at}}
use borrow.Author.Tests.{eqb-true, eqb-false, ne_eqb, ltb-true, ltb-false}
use Rattle.text.{proofs.Clash.{clash}}
use Rattle.case.specs.declared.Form.{Form, TheVariants.{Present, Former}}
use Rattle.case.specs.{Columns.{columns, former_columns, name_count_lem, former_name_count_lem, named}, Parts.{form_of}}
use Rattle.case.{specs.Counted.{refused_or}, proofs.Passed.{passed}}
use Rattle.header.{specs.Header.{no_columns, wrong_name}, proofs.NamesStand.{names_stand}}
use Rattle.judgement.specs.Refusal.{name_refused}
use Rattle.judgement.{specs.Sheet.{names, value_lines, names_judgement, judgement_within, judgement}, proofs.Accepted.{accepted}}
use Rattle.carried_values.specs.{Values.{other, carried as carried_values, cases_in}, Changes.{line_change}}
use Rattle.carried_values.specs.Changes.{changes_from, changes}
use Rattle.conversion.specs.Answer.{carried_text, room_answer, answer, buffer_after, Answered}
use Rattle.conversion.proofs.RoundTrip as trip
use Rattle.claims.specs.Words.{Breaks}
use Rattle.claims.specs.Carried.{AcceptedIn, Goes, NewSheet, Written, CarryOutcome, rule, held, short, carried, Restored, BackOutcome}
use Rattle.claims.specs.Carried as claim
use Rattle.claims.proofs.OwnLines.{values_in}
use Rattle.claims.proofs.CarriedLines.{map_at, line_values_lem, into, own_kept, others_kept, TimesIn, CountsIn, HertzIn, HeldIn}
use Rattle.claims.proofs.CarriedLines.{times, counts, hertz, returns_at, held_at}
use Rattle.std.specs.Prelude.{Result, Ok, Err}
use Rattle.refusal.specs.{declared.Refused.{Refused}, Refused.{refuse}}

-- ---- the lines on the way back

abbrev ReturnsIn : List ℕ → Type 0
ReturnsIn v = TimesIn v × CountsIn v × HertzIn v

data Changed (vs : List (List ℕ)) (k : ℕ) : Result (Unit {0}) Refused → Type 0 where
  none : ((i : ℕ) → i < length vs → ReturnsIn (get_or vs i [])) → Changed vs k (Ok tt)
  first : {n : ℕ} (line i : ℕ) → line ≡ i + k → i < length vs → ((j : ℕ) → j < i → ReturnsIn (get_or vs j [])) → HeldIn (get_or vs i []) n
      → Changed vs k (refuse n line 0)

-- one line, and what the later ones leave
line_changed : (v : List ℕ) (vs : List (List ℕ)) (k : ℕ) {later : Result (Unit {0}) Refused} → Changed vs (suc k) later
    → Changed (v ∷ vs) k (line_change k later v)
unfolding line_change
line_changed v vs k {later} c =
    go (eqb (the "shock") (the "clear")) refl (eqb (the "clear") (the "wire")) refl (eqb (the "across") (the "along")) refl
    (eqb (the "hz") 60) refl
  where
    the : String → ℕ
    the name = named columns v name

    here : {n : ℕ} → HeldIn v n → Changed (v ∷ vs) k (refuse n k 0)
    here h = first k 0 (omega arith) (omega arith) (λ j l. absurd (omega arith)) h

    past : ReturnsIn v → {j : Result (Unit {0}) Refused} → Changed vs (suc k) j → Changed (v ∷ vs) k j
    past r (none all) = none each
      where
        each : (i : ℕ) → i < suc (length vs) → ReturnsIn (get_or (v ∷ vs) i [])
        each zero l = r
        each (suc i) l = all i (omega arith)
    past r (first line i e l b h) = first line (suc i) (omega arith) (omega arith) before h
      where
        before : (j : ℕ) → j < suc i → ReturnsIn (get_or (v ∷ vs) j [])
        before zero g = r
        before (suc j) g = b j (omega arith)

    go : (a : Bool) → eqb (the "shock") (the "clear") ≡ a → (b : Bool) → eqb (the "clear") (the "wire") ≡ b → (d : Bool)
        → eqb (the "across") (the "along") ≡ d → (h : Bool) → eqb (the "hz") 60 ≡ h
        → Changed (v ∷ vs) k (cond (a && b) (cond d (cond h later (refuse 11 k 0)) (refuse 10 k 0)) (refuse 9 k 0))
    go false e b f d g h i = here (times (λ t. eqb-false _ _ e t.0))
    go true e false f d g h i = here (times (λ t. eqb-false _ _ f t.1))
    go true e true f false g h i = here (counts (eqb-true _ _ e, eqb-true _ _ f) (eqb-false _ _ g))
    go true e true f true g false i = here (hertz (eqb-true _ _ e, eqb-true _ _ f) (eqb-true _ _ g) (eqb-false _ 60 i))
    go true e true f true g true i = past ((eqb-true _ _ e, eqb-true _ _ f), eqb-true _ _ g, eqb-true _ 60 i) c

changed : (k : ℕ) (vs : List (List ℕ)) → Changed vs k (changes_from k vs)
unfolding changes_from
changed k [] = none (λ i l. absurd (omega arith))
changed k (v ∷ vs) = line_changed v vs k (changed (suc k) vs)

-- ---- a sheet that its own form accepts

module _ (form : Form) (s : List ℕ) (n : ℕ) (e : AcceptedIn (other form) s n) where
  lines_count : length (cases_in (form_of (other form)) s) ≡ n
  unfolding cases_in
  lines_count = length-map (value_lines s) _ ∙ sym (accepted (form_of (other form)) s n e).count

  abbrev text : List ℕ
  text = carried_text form s

  line_into : (i : ℕ) → i < n → values_in (form_of form) text i ≡ carried_values form (values_in (form_of (other form)) s i)
  line_into i l =
      let a = accepted (form_of form) text n (trip.carried_accepted form s n e) in
      let b = accepted (form_of (other form)) s n e in
      sym (line_values_lem (form_of form) text i (omega (arith, a.count)))
      ∙ ap (λ (vs : List (List ℕ)). get_or vs i []) (trip.carried_over form s n e)
      ∙ map_at (carried_values form) (cases_in (form_of (other form)) s) i (omega (arith, lines_count))
      ∙ ap (carried_values form) (line_values_lem (form_of (other form)) s i (omega (arith, b.count)))

  new_sheet : NewSheet form s text n
  new_sheet =
      let a = trip.carried_accepted form s n e in
      record {
        accepted = a;
        few_bytes = trip.carried_short form s n e;
        order = trip.carried_names form s n e;
        values = λ i l.
            into form s text (accepted (form_of (other form)) s n e).names_sound (accepted (form_of form) text n a).names_sound i
            (line_into i l);
      }

-- ---- the buffer

written : {text before after : List ℕ} → length text ≤ length before → after ≡ text ++ drop (length text) before
    → Written text before after (length text)
written {text} {before} {after} h e =
    record {
      count_is = refl;
      fits = h;
      bytes = ap (take (length text)) e ∙ take_at text (drop (length text) before) (length text) refl;
      rest_kept = ap (drop (length text)) e ∙ drop_at text (drop (length text) before) (length text) refl;
      same_length = ap length e ∙ simp (length-append, length-drop) (omega arith);
    }

-- ---- the claim

module _ {form : Form} {s before after : List ℕ} where
  -- room for the text, after all checks
  roomed : {n : ℕ} → Goes form s n → after ≡ buffer_after form s before (room_answer (carried_text form s) (length before))
      → CarryOutcome form s before after (room_answer (carried_text form s) (length before))
  unfolding room_answer buffer_after
  roomed {n} g b = go (ltb (length before) (length (carried_text form s))) refl b
    where
      go : (t : Bool) → ltb (length before) (length (carried_text form s)) ≡ t
          → after ≡ buffer_after form s before (cond t (refuse 8 0 0) (Ok (length (carried_text form s))))
          → CarryOutcome form s before after (cond t (refuse 8 0 0) (Ok (length (carried_text form s))))
      go true q b = short g (ltb-true (length before) (length (carried_text form s)) q) b
      go false q b = carried g (new_sheet form s n g.accepted) (written (ltb-false (length before) (length (carried_text form s)) q) b)

-- the checks of the way back, then the room
back_way : {s before after : List ℕ} {n : ℕ} {j : Result (Unit {0}) Refused} → AcceptedIn Present s n → Changed (cases_in columns s) 2 j
    → after ≡ buffer_after Former s before (refused_or j (room_answer (carried_text Former s) (length before)))
    → CarryOutcome Former s before after (refused_or j (room_answer (carried_text Former s) (length before)))
unfolding refused_or buffer_after form_of other
back_way {s} {n = n} a (none all) b =
    let c = accepted columns s n a in
    roomed (record {
      accepted = a;
      returns = λ e i l.
          returns_at s c.names_sound i
          (rw (line_values_lem columns s i (omega (arith, c.count))) at (all i (omega (arith, lines_count Former s n a))));
    }) b
back_way {s} {n = n} a (first line i e l before h) b =
    let c = accepted columns s n a in
    let within : i < n = omega (arith, lines_count Former s n a) in
    rw e
    (held {i = i}
    (record {
      back = refl;
      lines = n;
      accepted = a;
      within = within;
      before = λ j k. returns_at s c.names_sound j (rw (line_values_lem columns s j (omega (arith, c.count))) at (before j k));
    })
    (held_at s c.names_sound i (rw (line_values_lem columns s i (omega (arith, c.count))) at h)) b)

not_back : Present ≡ Former → ⊥
not_back e = clash cc

way : (form : Form) {s before after : List ℕ} {n : ℕ} → AcceptedIn (other form) s n
    → after
    ≡ buffer_after form s before
    (refused_or (changes form (cases_in (form_of (other form)) s)) (room_answer (carried_text form s) (length before)))
    → CarryOutcome form s before after
    (refused_or (changes form (cases_in (form_of (other form)) s)) (room_answer (carried_text form s) (length before)))
unfolding changes refused_or form_of other
way Present a b = roomed (record { accepted = a; returns = λ e. absurd (not_back e) }) b
way Former {s} a b = back_way a (changed 2 (cases_in columns s)) b

pub carry_outcome : {form : Form} {s before after : List ℕ} {r : Result ℕ Refused} → Answered form s before after r
    → CarryOutcome form s before after r
unfolding answer refused_or buffer_after
carry_outcome {form} {s} {before} {after} {r} a =
    rw a.answer_is (go (judgement (form_of (other form)) s) refl (rw a.answer_is at a.buffer_is))
  where
    go : (j : Result ℕ Refused) → judgement (form_of (other form)) s ≡ j
        → after ≡ buffer_after form s before
        (refused_or j (refused_or (changes form (cases_in (form_of (other form)) s)) (room_answer (carried_text form s) (length before))))
        → CarryOutcome form s before after
        (refused_or j (refused_or (changes form (cases_in (form_of (other form)) s)) (room_answer (carried_text form s) (length before))))
    go (Err why) e b = rule e b
    go (Ok n) e b = way form e b

-- ---- there and back

other_twice : (form : Form) → other (other form) ≡ form
unfolding other
other_twice Present = refl
other_twice Former = refl

-- the sheet that comes back has the values of the first
sheet_restored : (form : Form) (s : List ℕ) (n : ℕ) → AcceptedIn (other form) s n
    → changes form (cases_in (form_of (other form)) s) ≡ Ok tt
    → Restored (other form) s (carried_text (other form) (carried_text form s)) n
sheet_restored form s n e c =
    let text = carried_text (other form) (carried_text form s) in
    let back : AcceptedIn (other form) text n
    = trip.carried_accepted (other form) (carried_text form s) n (rw (other_twice form) (trip.carried_accepted form s n e)) in
    let a = accepted (form_of (other form)) s n e in
    let b = accepted (form_of (other form)) text n back in
    let same : (i : ℕ) → i < n → values_in (form_of (other form)) text i ≡ values_in (form_of (other form)) s i
    = λ i l.
    sym (line_values_lem (form_of (other form)) text i (omega (arith, b.count)))
    ∙ ap (λ (vs : List (List ℕ)). get_or vs i []) (trip.sheet_restored form s n e c)
    ∙ line_values_lem (form_of (other form)) s i (omega (arith, a.count)) in
    record {
      source = e;
      accepted = back;
      own = λ i l. own_kept s text i (other form) a.names_sound b.names_sound (same i l);
      others = λ i l. others_kept s text i (other form) a.names_sound b.names_sound (same i l);
    }

-- the bytes of the way there
text_of : {form : Form} {s before after : List ℕ} {k : ℕ} → CarryOutcome form s before after (Ok k) → take k after ≡ carried_text form s
text_of (carried g n w) = w.bytes

module _ {form : Form} {s before after : List ℕ} {k : ℕ} (h : Answered form s before after (Ok k)) where
  source : (n : ℕ) × (judgement (form_of (other form)) s ≡ Ok n)
      × (Ok k ≡ refused_or (changes form (cases_in (form_of (other form)) s)) (room_answer (carried_text form s) (length before)))
  unfolding answer
  source = passed (judgement (form_of (other form)) s) _ h.answer_is

  changed_none : (x : Unit {0}) × (changes form (cases_in (form_of (other form)) s) ≡ Ok x)
      × (Ok k ≡ room_answer (carried_text form s) (length before))
  changed_none = passed (changes form (cases_in (form_of (other form)) s)) _ source.2

  -- the way back of the text is answered by its room alone
  back_answer : (room : ℕ) → answer (other form) (carried_text form s) room ≡ room_answer (carried_text (other form) (carried_text form s)) room
  unfolding answer refused_or
  back_answer room =
      let a : judgement (form_of (other (other form))) (carried_text form s) ≡ Ok source.0
      = rw (other_twice form) (trip.carried_accepted form s source.0 source.1) in
      rw (a, trip.back_not_refused form s source.0 source.1 changed_none.1)

  pub there_and_back : {before' after' : List ℕ} {r : Result ℕ Refused} → Answered (other form) (take k after) before' after' r
      → BackOutcome form s (take k after) before' after' r
  unfolding room_answer buffer_after
  there_and_back {before'} {after'} {r} b =
      rw (text_of (carry_outcome h)) (back (rw (text_of (carry_outcome h)) at b))
    where
      text : List ℕ
      text = carried_text form s

      back : Answered (other form) text before' after' r → BackOutcome form s text before' after' r
      back b = rw (is b) (go (ltb (length before') (length (carried_text (other form) text))) refl (rw (is b) at b.buffer_is))
        where
          is : Answered (other form) text before' after' r → r ≡ room_answer (carried_text (other form) text) (length before')
          is b = b.answer_is ∙ back_answer (length before')

          go : (t : Bool) → ltb (length before') (length (carried_text (other form) text)) ≡ t
              → after' ≡ buffer_after (other form) text before' (cond t (refuse 8 0 0) (Ok (length (carried_text (other form) text))))
              → BackOutcome form s text before' after' (cond t (refuse 8 0 0) (Ok (length (carried_text (other form) text))))
          go true q e = claim.short (ltb-true (length before') (length (carried_text (other form) text)) q)
          go false q e =
              claim.restored {lines = source.0} {count = length (carried_text (other form) text)}
              (rw (ap (take (length (carried_text (other form) text))) e ∙ take_at (carried_text (other form) text) _ _ refl)
              (sheet_restored form s source.0 source.1 changed_none.1))

-- ---- §8.1: a sheet of the former names is none of today's

pub ms_refused : (s : List ℕ) (n : ℕ) → AcceptedIn Former s n → (column : ℕ) × Breaks s 2 1 column
unfolding judgement judgement_within names_judgement name_refused form_of
ms_refused s n e =
    let a = accepted former_columns s n e in
    let wrong : wrong_name columns 1 (no_columns columns) (names s) ≡ 0 → ⊥
    = λ z. omega (
      arith,
      (names_stand columns (names s) z).count,
      (names_stand former_columns (names s) a.names_sound).count,
      name_count_lem,
      former_name_count_lem,
    ) in
    (wrong_name columns 1 (no_columns columns) (names s), rw (a.text, ne_eqb (wrong_name columns 1 (no_columns columns) (names s)) 0 wrong))
