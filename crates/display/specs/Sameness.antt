-- When two displays are the same: what sameness is, and when it is equality.
use Rattle.std.specs.Prelude.{◌≡◌, Bool, true}

-- each is the same as itself, in either order, and as what is the same as one that is the same
pub record IsSameness {D : Type 0} (same : D → D → Bool) : Type 0 where
  pub reflexive : (x : D) → same x x ≡ true
  pub symmetric : (x y : D) → same x y ≡ true → same y x ≡ true
  pub transitive : (x y z : D) → same x y ≡ true → same y z ≡ true → same x z ≡ true

-- two are the same exactly when they are equal
abbrev pub SamenessIsEquality : {D : Type 0} → (D → D → Bool) → Type 0
SamenessIsEquality {D} same = (x y : D) → (same x y ≡ true → x ≡ y) × (x ≡ y → same x y ≡ true)
