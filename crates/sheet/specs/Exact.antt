-- Only what was written is read: the reader accepts exactly the sheets of controls and flows.
use Rattle.std.specs.Prelude.{◌≡◌, ℕ, ◌+◌, ◌*◌, ◌/◌, ◌%◌, ◌≤◌, Bool, true, false, ◌&&◌, ◌||◌, List, [], ◌∷◌, length, Ok, Result, ◌==◌, nat_lt, slice_index, slice_index_or}
use Rattle.mark.specs.Runs.{is_name, each}
use Rattle.mark.specs.declared.cause.Cause.{Cause}
use Rattle.display.specs.Marks.{mark_byte}
use Rattle.theory.specs.Control.{ControlValue, Lawful}
use Rattle.theory.specs.Flows.{Flow, SelfFlows, FlowsWithin}
use Rattle.sheet.specs.Plan.{tabulate}
use Rattle.sheet.specs.Text.{sheet_text, flow_pairs}
use Rattle.sheet.specs.Reading.{Sheet, sheet_read}

-- what is asked of a display kind
pub record KindLaws {D : Type 0} (kind : List ℕ) (mark : D → List ℕ) (reads : List ℕ → Result D Cause) : Type 0 where
  pub named : is_name kind ≡ true
  pub some : (x : D) → 1 ≤ length (mark x)
  pub short : (x : D) → length (mark x) ≤ 8
  pub bytes : (x : D) → each mark_byte (mark x) ≡ true
  pub back : (x : D) → reads (mark x) ≡ Ok x
  pub alone : (bs : List ℕ) (x : D) → reads bs ≡ Ok x → bs ≡ mark x

-- what the sheet of a control and its flows says
abbrev pub sheet_of : {D : Type 0} → ControlValue D → Flow → Sheet D
sheet_of v F = record {
  counted = record { states = v.states; commands = v.commands; consoles = v.consoles; start = v.start };
  entries = record {
    owners = tabulate 0 v.commands v.owner;
    steps = tabulate 0 (v.states * v.commands) (λ r. v.step (r / v.commands) (r % v.commands));
    displays = tabulate 0 (v.states * v.consoles) (λ r. v.shows (r / v.consoles) (r % v.consoles));
  };
  flows = flow_pairs v.consoles F;
}

-- the control that a sheet says; `zero` is what an entry that is not there is read as
abbrev pub control_of : {D : Type 0} → D → Sheet D → ControlValue D
control_of zero x = record {
  states = x.counted.states;
  commands = x.counted.commands;
  consoles = x.counted.consoles;
  start = x.counted.start;
  owner = λ c. slice_index x.entries.owners c;
  step = λ s c. slice_index x.entries.steps (s * x.counted.commands + c);
  shows = λ s u. slice_index_or x.entries.displays (s * x.counted.consoles + u) zero;
}

abbrev pub among : ℕ → List ℕ → Bool
among p [] = false
among p (q ∷ qs) = p == q || among p qs

-- the flows that a sheet says, with all self flows
abbrev pub flows_said : {D : Type 0} → Sheet D → Flow
flows_said x u v = (u == v && nat_lt u x.counted.consoles) || (nat_lt v x.counted.consoles && among (u * x.counted.consoles + v) x.flows)

module _ {D : Type 0} (kind : List ℕ) (mark : D → List ℕ) (reads : List ℕ → Result D Cause) where
  -- every sheet that is written is read, as that control and those flows
  abbrev pub WrittenIsRead : Type 0
  WrittenIsRead = (v : ControlValue D) (F : Flow) → Lawful v → SelfFlows v.consoles F → FlowsWithin v.consoles F → sheet_read kind reads (sheet_text kind mark v F) ≡ Ok (sheet_of v F)

  -- whatever is read is the sheet of the control and the flows that it is read as
  pub record Said (zero : D) (sheet : List ℕ) (x : Sheet D) : Type 0 where
    pub text : sheet ≡ sheet_text kind mark (control_of zero x) (flows_said x)
    pub lawful : Lawful (control_of zero x)
    pub selves : SelfFlows x.counted.consoles (flows_said x)
    pub within : FlowsWithin x.counted.consoles (flows_said x)
    pub owners_many : length x.entries.owners ≡ x.counted.commands
    pub steps_many : length x.entries.steps ≡ x.counted.states * x.counted.commands
    pub displays_many : length x.entries.displays ≡ x.counted.states * x.counted.consoles

  abbrev pub ReadIsWritten : Type 0
  ReadIsWritten = (zero : D) (sheet : List ℕ) (x : Sheet D) → sheet_read kind reads sheet ≡ Ok x → Said zero sheet x

-- no sheet of a control is longer than a sheet may be
abbrev pub most_bytes : ℕ
most_bytes = 40960

abbrev pub SheetsFit : {D : Type 0} → List ℕ → (D → List ℕ) → Type 0
SheetsFit {D} kind mark = (v : ControlValue D) (F : Flow) → Lawful v → length (sheet_text kind mark v F) ≤ most_bytes
