-- The lines of a transcript, one command after another.
use Rattle.std.proofs.Common.{◌≡◌, ℕ, ◌+◌, ◌<◌, ◌≤◌, List, ◌++◌, length, get_or, drop, decimal, Result, sym, ap, ◌∙◌, append_assoc}
use Rattle.std.specs.Prelude.{OnOk}
use Rattle.std.proofs.lemmas.List.{at_drop_more, at_drop_all}
use Rattle.std.proofs.lemmas.Result.{on_ok_weaker}
use Rattle.theory.specs.Control.{ControlValue, next_of}
use Rattle.theory.specs.Flows.{Lockout}
use Rattle.theory.specs.Runs.{moved}
use Rattle.report.specs.Transcripts.{line, effect_of, closing, lines}

module _ {D : Type 0} (mark : D → List ℕ) (v : ControlValue D) (L : Lockout) (p : List ℕ) (i s : ℕ) where
  -- one command's line more
  pub lines_more : (a b x : List ℕ) → i < length p → b ≡ a ++ line mark v (decimal (i + 1)) (decimal (get_or p i 0)) (effect_of (L (get_or p i 0))) (moved (next_of v) L s (get_or p i 0))
      → a ++ lines mark v L (i + 1) s (drop i p) ≡ x → b ++ lines mark v L (i + 1 + 1) (moved (next_of v) L s (get_or p i 0)) (drop (i + 1) p) ≡ x
  lines_more a b x inside after before =
      let c = get_or p i 0 in
      let t = moved (next_of v) L s c in
      let rest = lines mark v L (i + 1 + 1) t (drop (i + 1) p) in
      ap (λ text. text ++ rest) after
      ∙ append_assoc a (line mark v (decimal (i + 1)) (decimal c) (effect_of (L c)) t) rest
      ∙ ap (λ text. a ++ text) (sym (at_drop_more (lines mark v L (i + 1) s) p i 0 inside))
      ∙ before

  -- and the closing state at the end
  pub lines_end : {T E : Type 0} (done : Result T E) (a b x : List ℕ) → length p ≤ i → OnOk done (b ≡ a ++ closing s) → a ++ lines mark v L (i + 1) s (drop i p) ≡ x → OnOk done (b ≡ x)
  lines_end done a b x past written before =
      on_ok_weaker done (λ after. after ∙ ap (λ text. a ++ text) (sym (at_drop_all (lines mark v L (i + 1) s) p i past)) ∙ before) written
