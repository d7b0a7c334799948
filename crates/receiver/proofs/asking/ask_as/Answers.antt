-- A refused sheet's refusal is handed up; what is asked of any other is asked of what it says.
use Rattle.std.proofs.Common.{◌≡◌, ℕ, Err, length, refl, ap, ◌∙◌, rules}
use Rattle.std.proofs.lemmas.List.{length-replicate}
use Rattle.receiver.proofs.Said.{refused, said}
use Rattle.receiver.proofs.asking.ask_as.Goals as goal

pub returns-in_err-found : goal.returns-in_err-found
returns-in_err-found g c =
    let up : c.from_residual.result ≡ Err c.in_err-found.field-0.0 = search rules in
    refused (g.Q.Question.answered c.args.question.now) g.D.DisplayKind.marked g.D.DisplayKind.zero c.read.result _ c.from_residual.result _ (search rules) c.in_err-found.was up

pub returns : goal.returns
returns g c =
    said (g.Q.Question.answered c.args.question.now) g.D.DisplayKind.marked g.D.DisplayKind.zero g.D.DisplayKind.stored g.D.DisplayKind.cell g.met.D.DisplayKind.keeps g.D.DisplayKind.kind g.D.DisplayKind.reads
    c.args.sheet.now c.in_ok-found.found _ _ _ _ _ _ c.args.displays.now c.ask.result _ _ (length c.args.displays.now)
    (length-replicate {A = ℕ} 2400 0) (length-replicate {A = ℕ} 24 0) (ap length c.requires ∙ length-replicate {A = g.row.D-Cell.Denot} 1200 (g.D.DisplayKind.cell g.D.DisplayKind.zero)) refl refl c.requires
    c.read_is_written.ensures c.in_ok-found.ensures.found c.in_ok-found.ensures.steps c.in_ok-found.ensures.owners c.in_ok-found.ensures.displays c.in_ok-table.ensures.contents c.ask.ensures
