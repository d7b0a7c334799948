-- What the calls say one after the other is what the sheet says; until all is read no store changes.
use Rattle.std.proofs.Common.{◌≡◌, ℕ, ◌+◌, ◌*◌, ◌≤◌, true, leb, map, length, Ok, Err, sym, refl, ap, ◌∙◌, subst, arith}
use Rattle.std.proofs.lemmas.Bool.{and_from, le-leb}
use Rattle.control.specs.Tables.{store_suffices}
use Rattle.sheet.specs.Calls.{read_answer, refusal_of}
use Rattle.sheet.specs.Faults.{on}
use Rattle.sheet.specs.Reading.{Sheet, plan_of, rows_at, flows_at}
use Rattle.sheet.specs.Due.{highest_line}
use Rattle.sheet.specs.Entries.{counted, rows_behind}
use Rattle.sheet.specs.Boards.{BoardAs}
use Rattle.sheet.proofs.Going.{left_as}
use Rattle.sheet.proofs.Whole.{line_bound, first_fault, rows_fault, flows_fault, all_read, answer_ok, answer_err, rows_passed, rows_stopped, board_from, refusal_from, found_ok, kept, store_filled, filled_ok}
use Rattle.sheet.proofs.reader.read.Goals as goal

-- stores of these lengths suffice
suffices : (a b d : ℕ) → 2400 ≤ a → 24 ≤ b → 1200 ≤ d → store_suffices a b d ≡ true
suffices a b d p q r = and_from (leb 2400 a) _ (le-leb 2400 a p) (and_from (leb 24 b) (leb 1200 d) (le-leb 24 b q) (le-leb 1200 d r))

pub returns-in_err-heading : goal.returns-in_err-heading
returns-in_err-heading g c =
    let kind = g.D.DisplayKind.kind in
    let reads = g.D.DisplayKind.reads in
    let s = c.args.sheet.now in
    let steps = c.args.steps.now in
    let owners = c.args.owners.now in
    let displays = c.args.displays.now in
    let f = c.in_err-heading.field-0.0 in
    let room = suffices (length steps) (length owners) (length displays) (omega arith) (omega arith) (omega arith) in
    let all = kept g.D.DisplayKind.cell (read_answer kind reads (length steps) (length owners) (length displays) s) c.from_residual.result (refusal_of f) steps owners displays
    (left_as c.from_residual.result (refusal_of f) c.from_residual.ensures.1)
    (answer_err kind reads s (length steps) (length owners) (length displays) (omega arith) room f (first_fault kind reads s f c.in_err-heading.ensures.read)) in
    record { found = all.0; steps = all.1; owners = all.2; displays = all.3 }

pub returns-in_err-line : goal.returns-in_err-line
returns-in_err-line g c =
    let kind = g.D.DisplayKind.kind in
    let reads = g.D.DisplayKind.reads in
    let s = c.args.sheet.now in
    let steps = c.args.steps.now in
    let owners = c.args.owners.now in
    let displays = c.args.displays.now in
    let h = c.in_ok-heading.heading in
    let i = c.first_block.new.cursor.at in
    let f = c.in_err-line.field-0.0 in
    let n = 3 + length (plan_of (counted h)) in
    let room = suffices (length steps) (length owners) (length displays) (omega arith) (omega arith) (omega arith) in
    let stopped = rows_stopped n (rows_at reads (counted h) s (plan_of (counted h)) 3 i) f
    (c.in_err-line.ensures.read ∙ ap (λ b. on {B = ℕ × ℕ} (rows_at reads (counted h) b.now (plan_of (counted h)) 3 i) (λ z. Ok (n, z.1))) c.in_ok-heading.ensures.sheet) in
    let all = kept g.D.DisplayKind.cell (read_answer kind reads (length steps) (length owners) (length displays) s) c.from_residual-in_err-line.result (refusal_of f) steps owners displays
    (left_as c.from_residual-in_err-line.result (refusal_of f) c.from_residual-in_err-line.ensures.1)
    (answer_err kind reads s (length steps) (length owners) (length displays) (omega arith) room f (rows_fault kind reads s (counted h) i c.in_ok-heading.ensures.read f stopped)) in
    record { found = all.0; steps = all.1; owners = all.2; displays = all.3 }

pub all_flows-requires : goal.all_flows-requires
all_flows-requires g c =
    let h = c.in_ok-heading.heading in
    let before = c.first_block.new.cursor in
    let passed = rows_passed (3 + length (plan_of (counted h))) (rows_at g.D.DisplayKind.reads (counted h) before.sheet.now (plan_of (counted h)) 3 before.at) c.in_ok-line.line c.pass_rows.new.cursor.at c.in_ok-line.ensures.read in
    subst (λ n. n ≤ highest_line) (sym passed.2) (line_bound h h.within)

pub returns-in_err-board : goal.returns-in_err-board
returns-in_err-board g c =
    let kind = g.D.DisplayKind.kind in
    let reads = g.D.DisplayKind.reads in
    let s = c.args.sheet.now in
    let steps = c.args.steps.now in
    let owners = c.args.owners.now in
    let displays = c.args.displays.now in
    let h = c.in_ok-heading.heading in
    let i = c.first_block.new.cursor.at in
    let k = h.counts.consoles in
    let j = c.pass_rows.new.cursor.at in
    let n = 3 + length (plan_of (counted h)) in
    let e = c.in_err-board.field-0.0 in
    let room = suffices (length steps) (length owners) (length displays) (omega arith) (omega arith) (omega arith) in
    let passed = rows_passed n (rows_at reads (counted h) s (plan_of (counted h)) 3 i) c.in_ok-line.line j
    (c.in_ok-line.ensures.read ∙ ap (λ b. on {B = ℕ × ℕ} (rows_at reads (counted h) b.now (plan_of (counted h)) 3 i) (λ z. Ok (n, z.1))) c.in_ok-heading.ensures.sheet) in
    let refused = refusal_from h.counts e (flows_at k s (k * k) 0 c.in_ok-line.line j)
    (subst (λ b. BoardAs h.counts (Err e) (flows_at k b.now (k * k) 0 c.in_ok-line.line j)) (c.in_ok-line.ensures.sheet ∙ c.in_ok-heading.ensures.sheet) c.in_err-board.ensures) in
    let all = kept g.D.DisplayKind.cell (read_answer kind reads (length steps) (length owners) (length displays) s) c.from_residual-in_err-board.result (refusal_of refused.0) steps owners displays
    (left_as c.from_residual-in_err-board.result e c.from_residual-in_err-board.ensures.1 ∙ ap Err refused.2)
    (answer_err kind reads s (length steps) (length owners) (length displays) (omega arith) room refused.0 (flows_fault kind reads s (counted h) i c.in_ok-heading.ensures.read passed.0 j passed.1 refused.0 (ap (λ m. flows_at k s (k * k) 0 m j) (sym passed.2) ∙ refused.1))) in
    record { found = all.0; steps = all.1; owners = all.2; displays = all.3 }

-- the rows that were read once are read again
pub returns-in_err-fill : goal.returns-in_err-fill
returns-in_err-fill g c =
    let h = c.in_ok-heading.heading in
    let V = rows_behind g.D.DisplayKind.reads h c.first_block.new.cursor in
    let passed = rows_passed (3 + length (plan_of (counted h))) V c.in_ok-line.line c.pass_rows.new.cursor.at c.in_ok-line.ensures.read in
    let never : Err c.in_err-fill.field-0.0 ≡ Ok tt = c.in_err-fill.ensures.read ∙ ap (λ R. on R (λ z. Ok tt)) passed.1 in
    grind arith

pub returns : goal.returns
returns g c =
    let kind = g.D.DisplayKind.kind in
    let reads = g.D.DisplayKind.reads in
    let cell = g.D.DisplayKind.cell in
    let s = c.args.sheet.now in
    let steps = c.args.steps.now in
    let owners = c.args.owners.now in
    let displays = c.args.displays.now in
    let h = c.in_ok-heading.heading in
    let before = c.first_block.new.cursor in
    let i = before.at in
    let k = h.counts.consoles in
    let j = c.pass_rows.new.cursor.at in
    let n = 3 + length (plan_of (counted h)) in
    let b = c.in_ok-board.board in
    let V = rows_at reads (counted h) before.sheet.now (plan_of (counted h)) 3 i in
    let X = read_answer kind reads (length steps) (length owners) (length displays) s in
    let room = suffices (length steps) (length owners) (length displays) (omega arith) (omega arith) (omega arith) in
    let same = ap (λ b. rows_at reads (counted h) b.now (plan_of (counted h)) 3 i) c.in_ok-heading.ensures.sheet in
    let passed = rows_passed n V c.in_ok-line.line j c.in_ok-line.ensures.read in
    let listed = board_from h.counts b (flows_at k s (k * k) 0 c.in_ok-line.line j)
    (subst (λ t. BoardAs h.counts (Ok b) (flows_at k t.now (k * k) 0 c.in_ok-line.line j)) (c.in_ok-line.ensures.sheet ∙ c.in_ok-heading.ensures.sheet) c.in_ok-board.ensures) in
    let x : Sheet g.row.D.Denot = record { counted = counted h; entries = passed.0; flows = listed.0 } in
    let answer = answer_ok kind reads s (length steps) (length owners) (length displays) (omega arith) room x (all_read kind reads s (counted h) i c.in_ok-heading.ensures.read passed.0 j (sym same ∙ passed.1) listed.0 (ap (λ m. flows_at k s (k * k) 0 m j) (sym passed.2) ∙ listed.1)) in
    record {
      found = found_ok X (record { counts = h.counts; start = h.start; board = b }) x answer (record {
        states = refl;
        commands = refl;
        consoles = refl;
        start = refl;
        board_consoles = listed.2.consoles;
        board_commands = listed.2.commands;
        flows = listed.2.flows;
        lockouts = listed.2.lockouts;
      });
      steps = store_filled X (λ y. y.entries.steps) steps x c.fill.new.steps answer (filled_ok (λ e. e.steps) V steps c.fill.new.steps passed.0 j passed.1 c.fill.ensures.steps);
      owners = store_filled X (λ y. y.entries.owners) owners x c.fill.new.owners answer (filled_ok (λ e. e.owners) V owners c.fill.new.owners passed.0 j passed.1 c.fill.ensures.owners);
      displays = store_filled X (λ y. map cell y.entries.displays) displays x c.fill.new.displays answer (filled_ok (λ e. map cell e.displays) V displays c.fill.new.displays passed.0 j passed.1 c.fill.ensures.displays);
    }
