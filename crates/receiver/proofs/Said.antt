-- The table and the board that are made of a sheet are the control and the board that it says.
use Rattle.std.proofs.Common.{◌≡◌, ℕ, ◌+◌, ◌*◌, ◌/◌, ◌%◌, ◌<◌, Bool, true, false, cond, List, Ok, Err, map, length, get_or, replicate, Result, refl, sym, ap, ap₂, ◌∙◌, subst, ⊎_elim, arith}
use Rattle.std.proofs.lemmas.List.{get_or_past}
use Rattle.std.proofs.lemmas.Bool.{cases_lt, cond-true, and_from, le-leb}
use Rattle.std.proofs.Math.Nat.{div-lt_iff_lt-mul}
use Rattle.mark.specs.declared.cause.Cause.{Cause}
use Rattle.policy.specs.Board.{value_of}
use Rattle.policy.specs.declared.refusal.Refusal.{Refusal}
use Rattle.policy.specs.declared.refusal.Refusal.TheVariants.{SheetTooLong}
use Rattle.theory.specs.Boards.{BoardValue}
use Rattle.theory.specs.Control.{ControlValue, Lawful}
use Rattle.theory.specs.Limits.{Count, counts, most_states, most_commands, most_consoles, count_read, number_read}
use Rattle.theory.specs.Reading.{number_within}
use Rattle.control.specs.Tables.{Contents, table_value}
use Rattle.sheet.specs.Calls.{Agrees, FoundAs, overwritten, store_after, read_answer, refused_as}
use Rattle.sheet.specs.Exact.{ReadIsWritten, control_of}
use Rattle.sheet.specs.Reading.{Sheet, sheet_read}
use Rattle.sheet.specs.declared.fault.SheetFault.{SheetFault}
use Rattle.sheet.specs.declared.found.Found.{Found}
use Rattle.receiver.specs.Answers.{board_said, AnsweredAs}
use Rattle.receiver.proofs.Behind.{numbers_in_front, displays_in_front}

pub board_same : {D : Type 0} (f : Found) (x : Sheet D) → Agrees f x → value_of f.board ≡ board_said x
board_same f x agrees i = record {
  consoles = agrees.board_consoles i;
  commands = agrees.board_commands i;
  flows = λ u v. agrees.flows u v i;
  locked = λ c. agrees.lockouts c i;
}

count_within : (most n : ℕ) → Count most n → count_read most n ≡ n
count_within most n h = cond-true (counts most n) n 1 (and_from _ _ (le-leb 1 n h.0) (le-leb n most h.1))

-- a list of numbers below k has such a number at every place, as what is not there is 0
below_everywhere : (xs : List ℕ) (k : ℕ) → 0 < k → ((i : ℕ) → i < length xs → get_or xs i 0 < k) → (i : ℕ) → get_or xs i 0 < k
below_everywhere xs k some each i = ⊎_elim (each i) (λ past. subst (λ (n : ℕ). n < k) (sym (get_or_past xs i 0 past)) some) (cases_lt i (length xs))

module _ {C D : Type 0} (stored : C → D) (cell : D → C) (zero : D) (keeps : (x : D) → stored (cell x) ≡ x) where
  -- what a table is made of that was filled from the sheet
  abbrev pub filled : Sheet D → Contents C
  filled x = record {
    states = x.counted.states;
    commands = x.counted.commands;
    consoles = x.counted.consoles;
    start = x.counted.start;
    steps = overwritten x.entries.steps (replicate 2400 0);
    owners = overwritten x.entries.owners (replicate 24 0);
    displays = overwritten (map cell x.entries.displays) (replicate 1200 (cell zero));
  }

  module _ (x : Sheet D) (lawful : Lawful (control_of zero x)) (owners_many : length x.entries.owners ≡ x.counted.commands) (steps_many : length x.entries.steps ≡ x.counted.states * x.counted.commands) where
    states_same : count_read most_states x.counted.states ≡ x.counted.states
    states_same = count_within most_states x.counted.states lawful.states_count

    commands_same : count_read most_commands x.counted.commands ≡ x.counted.commands
    commands_same = count_within most_commands x.counted.commands lawful.commands_count

    consoles_same : count_read most_consoles x.counted.consoles ≡ x.counted.consoles
    consoles_same = count_within most_consoles x.counted.consoles lawful.consoles_count

    owner_below : (c : ℕ) → get_or x.entries.owners c 0 < x.counted.consoles
    owner_below = below_everywhere x.entries.owners x.counted.consoles lawful.consoles_count.0 (λ c h. lawful.owned c (omega (arith, owners_many)))

    step_below : (i : ℕ) → get_or x.entries.steps i 0 < x.counted.states
    step_below = below_everywhere x.entries.steps x.counted.states lawful.states_count.0 each
      where
        each : (i : ℕ) → i < length x.entries.steps → get_or x.entries.steps i 0 < x.counted.states
        each i h =
            let some : 0 < x.counted.commands = lawful.commands_count.0 in
            let state : i / x.counted.commands < x.counted.states = (div-lt_iff_lt-mul some).1 (omega (arith, steps_many)) in
            let command : i % x.counted.commands < x.counted.commands = omega arith in
            let place : i / x.counted.commands * x.counted.commands + i % x.counted.commands ≡ i = omega arith in
            subst (λ (n : ℕ). get_or x.entries.steps n 0 < x.counted.states) place (lawful.stays (i / x.counted.commands) (i % x.counted.commands) state command)

    owner_same : (c : ℕ) → number_read (count_read most_consoles x.counted.consoles) (get_or (overwritten x.entries.owners (replicate 24 0)) c 0) ≡ get_or x.entries.owners c 0
    owner_same c = ap₂ number_read consoles_same (numbers_in_front x.entries.owners 24 c) ∙ number_within _ _ (owner_below c)

    step_same : (s c : ℕ) → number_read (count_read most_states x.counted.states) (get_or (overwritten x.entries.steps (replicate 2400 0)) (s * count_read most_commands x.counted.commands + c) 0) ≡ get_or x.entries.steps (s * x.counted.commands + c) 0
    step_same s c =
        ap₂ number_read states_same (numbers_in_front x.entries.steps 2400 _ ∙ ap (λ m. get_or x.entries.steps (s * m + c) 0) commands_same)
        ∙ number_within _ _ (step_below (s * x.counted.commands + c))

    shown_same : (s u : ℕ) → get_or (map stored (overwritten (map cell x.entries.displays) (replicate 1200 (cell zero)))) (s * count_read most_consoles x.counted.consoles + u) zero ≡ get_or x.entries.displays (s * x.counted.consoles + u) zero
    shown_same s u =
        displays_in_front stored cell keeps x.entries.displays 1200 _ zero
        ∙ ap (λ k. get_or x.entries.displays (s * k + u) zero) consoles_same

    pub control_same : table_value stored zero (filled x) ≡ control_of zero x
    control_same i = record {
      states = states_same i;
      commands = commands_same i;
      consoles = consoles_same i;
      start = start_same i;
      owner = λ c. owner_same c i;
      step = λ s c. step_same s c i;
      shows = λ s u. shown_same s u i;
    }
      where
        start_same : number_read (count_read most_states x.counted.states) x.counted.start ≡ x.counted.start
        start_same = ap (λ n. number_read n x.counted.start) states_same ∙ number_within _ _ lawful.starts

-- what a table is made of, with the counts and the start that were found
abbrev pub made : {C : Type 0} → Found → List ℕ → List ℕ → List C → Contents C
made f steps owners displays = record {
  states = f.counts.states;
  commands = f.counts.commands;
  consoles = f.counts.consoles;
  start = f.start;
  steps = steps;
  owners = owners;
  displays = displays;
}

read_said : {D : Type 0} (x : Sheet D) (long : Bool) (r : Result (Sheet D) SheetFault) → Ok x ≡ cond long (Err SheetTooLong) (refused_as r) → r ≡ Ok x
read_said x true r is = absurd (cc)
read_said x false (Ok y) is = cc
read_said x false (Err f) is = absurd (cc)

module _ {A D : Type 0} (answered : BoardValue → (E : Type 0) → (E → List ℕ) → ControlValue E → A → Type 0) (mark : D → List ℕ) (zero : D) where
  -- a refused sheet's refusal is the answer
  pub refused : (r : Result Found Refusal) (e : Refusal) (result : Result A Refusal) (answer : Result (Sheet D) Refusal) → FoundAs r answer → r ≡ Err e → result ≡ Err e → AnsweredAs answered mark zero answer result
  refused r e result (Ok x) found was up = absurd (subst (λ (z : Result Found Refusal). FoundAs {D = D} z (Ok x)) was found)
  refused r e result (Err d) found was up =
      subst (λ (z : Result A Refusal). AnsweredAs answered mark zero (Err d) z) (sym up) (sym (subst (λ (z : Result Found Refusal). FoundAs {D = D} z (Err d)) was found))

  module _ {C : Type 0} (stored : C → D) (cell : D → C) (keeps : (x : D) → stored (cell x) ≡ x) (kind : List ℕ) (reads : List ℕ → Result D Cause) (sheet : List ℕ) where
    made_said : (f : Found) (t : Contents C) (steps owners : List ℕ) (displays : List C) (a : A) (answer : Result (Sheet D) Refusal) → answer ≡ read_answer kind reads 2400 24 1200 sheet
        → ReadIsWritten kind mark reads → FoundAs (Ok f) answer
        → steps ≡ store_after (λ x. x.entries.steps) answer (replicate 2400 0) → owners ≡ store_after (λ x. x.entries.owners) answer (replicate 24 0)
        → displays ≡ store_after (λ x. map cell x.entries.displays) answer (replicate 1200 (cell zero)) → t ≡ made f steps owners displays
        → answered (value_of f.board) D mark (table_value stored zero t) a → AnsweredAs answered mark zero answer (Ok a)
    made_said f t steps owners displays a (Err e) is theorem found es eo ed made_of right = found
    made_said f t steps owners displays a (Ok x) is theorem agrees es eo ed made_of right =
        let written = theorem zero sheet x (read_said x _ (sheet_read kind reads sheet) is) in
        let whole : t ≡ filled stored cell zero keeps x = made_of ∙ contents_same in
        let control = ap (table_value stored zero) whole ∙ control_same stored cell zero keeps x written.lawful written.owners_many written.steps_many in
        subst (λ (b : BoardValue). answered b D mark (control_of zero x) a) (board_same f x agrees)
        (subst (λ (v : ControlValue D). answered (value_of f.board) D mark v a) control right)
      where
        contents_same : made f steps owners displays ≡ filled stored cell zero keeps x
        contents_same i = record {
          states = agrees.states i;
          commands = agrees.commands i;
          consoles = agrees.consoles i;
          start = agrees.start i;
          steps = es i;
          owners = eo i;
          displays = ed i;
        }

    -- an answer on what was made of the sheet is one on what the sheet says
    pub said : (f : Found) (t : Contents C) (steps owners were_steps were_owners : List ℕ) (displays were_displays : List C) (a : A) (n m k : ℕ)
        → n ≡ 2400 → m ≡ 24 → k ≡ 1200 → were_steps ≡ replicate 2400 0 → were_owners ≡ replicate 24 0 → were_displays ≡ replicate 1200 (cell zero)
        → ReadIsWritten kind mark reads → FoundAs (Ok f) (read_answer kind reads n m k sheet)
        → steps ≡ store_after (λ x. x.entries.steps) (read_answer kind reads n m k sheet) were_steps → owners ≡ store_after (λ x. x.entries.owners) (read_answer kind reads n m k sheet) were_owners
        → displays ≡ store_after (λ x. map cell x.entries.displays) (read_answer kind reads n m k sheet) were_displays → t ≡ made f steps owners displays
        → answered (value_of f.board) D mark (table_value stored zero t) a → AnsweredAs answered mark zero (read_answer kind reads 2400 24 1200 sheet) (Ok a)
    said f t steps owners were_steps were_owners displays were_displays a n m k en em ek ws wo wd theorem found es eo ed made_of right =
        let is : read_answer kind reads n m k sheet ≡ read_answer kind reads 2400 24 1200 sheet = λ i. read_answer kind reads (en i) (em i) (ek i) sheet in
        made_said f t steps owners displays a (read_answer kind reads 2400 24 1200 sheet) refl theorem (subst (λ (z : Result (Sheet D) Refusal). FoundAs {D = D} (Ok f) z) is found)
        (es ∙ ap₂ (store_after (λ x. x.entries.steps)) is ws) (eo ∙ ap₂ (store_after (λ x. x.entries.owners)) is wo) (ed ∙ ap₂ (store_after (λ x. map cell x.entries.displays)) is wd) made_of right
