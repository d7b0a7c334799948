-- For TA: which consoles were told the same of two sequences, in a table over the prefixes of both.
use Rattle.std.specs.Prelude.{◌≡◌, ℕ, ◌<◌, ◌≤◌, Bool, cond, ◌&&◌, ◌==◌, List, [], ◌∷◌, ◌++◌, length, take, slice_index_or}
use Rattle.policy.specs.Flows.{consoles_of}
use Rattle.policy.specs.Members.{holds}
use Rattle.policy.specs.Rows.{nobody}
use Rattle.policy.specs.declared.members.Members.{Members}
use Rattle.links.specs.Transmitted.{ta, same_told}
use Rattle.meaning.specs.Reach.{flow_of, giver_of}
use Rattle.meaning.specs.declared.reach.Reach.{Reach}
use Rattle.meaning.specs.declared.transmitted.Corner.{Corner}

module _ (r : Reach) where
  -- console x was told the same of p and of q
  abbrev pub told_alike : ℕ → List ℕ → List ℕ → Bool
  told_alike x p q = same_told (ta (flow_of r) (giver_of r) x p) (ta (flow_of r) (giver_of r) x q)

  -- the set holds the consoles that were
  abbrev pub AgreeingSet : List ℕ → List ℕ → Members → Type 0
  AgreeingSet p q set = (x : ℕ) → x < consoles_of r.flows.now → holds set x ≡ told_alike x p q

  -- a row of the table has that set for p and each front of q, at the front's length
  abbrev pub RowOf : List ℕ → List ℕ → List Members → Type 0
  RowOf p q row = (j : ℕ) → j ≤ length q → AgreeingSet p (take j q) (slice_index_or row j nobody)

  -- Whether console x is told the same at a corner, read off its neighbours. A last command that
  -- does not reach it makes no difference; two that do have to be one command, given by a console
  -- that was told the same.
  abbrev pub corner_alike : Corner → ℕ → Bool
  corner_alike corner x =
      cond (flow_of r (giver_of r corner.left) x)
      (cond (flow_of r (giver_of r corner.right) x)
      (corner.left == corner.right && (holds corner.across x && holds corner.across (giver_of r corner.left)))
      (holds corner.beside x))
      (holds corner.above x)

  -- the three neighbours of a corner are right, where p and q come before its two commands
  pub record Known (p q : List ℕ) (corner : Corner) : Type 0 where
    pub above : AgreeingSet p (q ++ (corner.right ∷ [])) corner.above
    pub beside : AgreeingSet (p ++ (corner.left ∷ [])) q corner.beside
    pub across : AgreeingSet p q corner.across
