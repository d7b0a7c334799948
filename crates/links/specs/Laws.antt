-- The laws that every meaning owes.
use Rattle.std.specs.Prelude.{◌≡◌, ℕ, ◌<◌, true, false, List}
use Rattle.theory.specs.Flows.{Flow, SelfFlows}
use Rattle.links.specs.Sequences.{Below}
use Rattle.links.specs.Meaning.{MeaningValue}
use Rattle.links.specs.Links.{Linked}

-- What the laws are owed for: flows among k consoles with all self flows, n commands that each
-- belong to one of them, and one of them, u.
pub record Setting (k n : ℕ) (F : Flow) (owner : ℕ → ℕ) (u : ℕ) : Type 0 where
  pub selves : SelfFlows k F
  pub owned : (c : ℕ) → c < n → owner c < k
  pub there : u < k

-- every flow of the first is one of the second
abbrev pub Fewer : Flow → Flow → Type 0
Fewer F G = (u v : ℕ) → F u v ≡ true → G u v ≡ true

-- alike are just the sequences that a chain of links joins
pub record Faithful (m : MeaningValue) : Type 0 where
  pub linked : (k n : ℕ) (F : Flow) (owner : ℕ → ℕ) (u : ℕ)
      → Setting k n F owner u → (p q : List ℕ) → Below n p → Below n q → m.alike F owner u p q ≡ true → Linked m n F owner u p q
  pub likened : (k n : ℕ) (F : Flow) (owner : ℕ → ℕ) (u : ℕ)
      → Setting k n F owner u → (p q : List ℕ) → Below n p → Below n q → Linked m n F owner u p q → m.alike F owner u p q ≡ true

-- taking flows away turns no yes into a no
pub record Antitone (m : MeaningValue) : Type 0 where
  pub alike : (k n : ℕ) (F G : Flow) (owner : ℕ → ℕ) (u : ℕ)
      → Setting k n F owner u → Setting k n G owner u → Fewer F G → (p q : List ℕ) → Below n p → Below n q → m.alike G owner u p q ≡ true → m.alike F owner u p q ≡ true
  pub drop : (k : ℕ) (F G : Flow) → SelfFlows k F → SelfFlows k G → Fewer F G
      → (u v : ℕ) → u < k → v < k → m.drop G u v ≡ true → m.drop F u v ≡ true
  pub after_drop : (k : ℕ) (F G : Flow) → SelfFlows k F → SelfFlows k G → Fewer F G
      → (u v z : ℕ) → u < k → v < k → z < k → m.after_drop G u v z ≡ true → m.after_drop F u v z ≡ true
  pub exchange : (k : ℕ) (F G : Flow) → SelfFlows k F → SelfFlows k G → Fewer F G
      → (u v w : ℕ) → u < k → v < k → w < k → m.exchange G u v w ≡ true → m.exchange F u v w ≡ true
  pub after_exchange : (k : ℕ) (F G : Flow) → SelfFlows k F → SelfFlows k G → Fewer F G
      → (u v w z : ℕ) → u < k → v < k → w < k → z < k → m.after_exchange G u v w z ≡ true → m.after_exchange F u v w z ≡ true

-- the exchange questions do not care which of the two consoles is named first, and a console
-- is never exchanged with itself
pub record Evenhanded (m : MeaningValue) : Type 0 where
  pub exchange : (k : ℕ) (F : Flow) → SelfFlows k F → (u v w : ℕ) → u < k → v < k → w < k → m.exchange F u v w ≡ m.exchange F u w v
  pub after_exchange : (k : ℕ) (F : Flow) → SelfFlows k F → (u v w z : ℕ) → u < k → v < k → w < k → z < k → m.after_exchange F u v w z ≡ m.after_exchange F u w v z
  pub never_itself : (k : ℕ) (F : Flow) → SelfFlows k F → (u v : ℕ) → u < k → v < k → m.exchange F u v v ≡ false

pub record MeaningLaws (m : MeaningValue) : Type 0 where
  pub faithful : Faithful m
  pub antitone : Antitone m
  pub evenhanded : Evenhanded m
