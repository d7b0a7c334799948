-- Going on with what was read, or stopping at its fault.
use Rattle.std.proofs.Common.{◌≡◌, IsErrAnd, Ok, Err, Result, sym, refl, ap, ◌∙◌, subst, MatchResult}
use Rattle.std.proofs.lemmas.Result.{err_from_is_err_and}
use Rattle.sheet.specs.Faults.{on}

module _ {A B F : Type 0} (r : Result A F) (next : A → Result B F) where
  pub on_ok : (x : A) → Ok x ≡ r → on r next ≡ next x
  on_ok x e = ap (λ t. on t next) (sym e)

  pub on_err : (f : F) → Err f ≡ r → on r next ≡ Err f
  on_err f e = ap (λ t. on t next) (sym e)

-- going on to just what was read
pub on_itself : {A F : Type 0} (r : Result A F) → r ≡ on r (λ x. Ok x)
on_itself (Ok x) = refl
on_itself (Err f) = refl

-- what is returned where the fault itself is handed on
pub left_as : {A F : Type 0} (r : Result A F) (f : F) → IsErrAnd r (λ y. y ≡ f) → r ≡ Err f
left_as r f h = let p = err_from_is_err_and r h in p.1 ∙ ap Err p.2

-- the same, under a clause on what is returned
pub left_with : {A F : Type 0} (P : A → Type 0) (Q : F → Type 0) (r : Result A F) (f : F) → IsErrAnd r (λ y. y ≡ f) → Q f → MatchResult r P Q
left_with {A} {F} P Q r f h q = subst (λ (t : Result A F). MatchResult t P Q) (sym (left_as r f h)) q
