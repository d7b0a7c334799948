-- The flows are read one after the other, each in its turn, and are those of the board.
use Rattle.std.proofs.Common.{◌≡◌, ℕ, zero, suc, ◌+◌, ◌*◌, ◌/◌, ◌%◌, ◌<◌, ◌≤◌, Bool, true, false, cond, ◌&&◌, ◌||◌, eqb, ltb, leb, List, [], ◌∷◌, ◌++◌, length, Some, None, Ok, Err, Option, Result, sym, refl, ap, ◌∙◌, arith}
use Rattle.std.proofs.Math.Bool.{or_assoc, or-false, and-false}
use Rattle.std.proofs.lemmas.Nat.{div-add-mod', div-mul-add, mod-mul-add, mod_below, div_below}
use Rattle.std.proofs.lemmas.List.{append_assoc, append-nil}
use Rattle.std.proofs.lemmas.Bool.{leb-true, leb-false, lt-ltb, lt-leb, le-leb, and_from, cond-true, cond-false}
use Rattle.std.proofs.lemmas.Bool.Decides.{same_from_decides, Decides-and, Decides-eqb, Decides-ltb, Decides-like}
use Rattle.mark.specs.declared.cause.Cause.TheVariants.{NotDue}
use Rattle.policy.specs.Board.{flows_of, lockouts_of}
use Rattle.policy.specs.Flows.{consoles_of, may_affect, allow_answer}
use Rattle.policy.specs.Lockouts.{commands_of, locks}
use Rattle.policy.specs.declared.board.Board.{Board}
use Rattle.policy.specs.declared.refusal.Refusal.{Refusal}
use Rattle.theory.specs.Flows.{bare_flows, this_flow, with_flow}
use Rattle.control.specs.declared.table.Counts.{Counts}
use Rattle.sheet.specs.Calls.{refusal_of}
use Rattle.sheet.specs.Exact.{among}
use Rattle.sheet.specs.Faults.{mark_fault, on, on_line}
use Rattle.sheet.specs.Reading.{flow_at, may_come, flows_at}
use Rattle.sheet.specs.Boards.{flow_due, flow_next, Lists, BoardAs}
use Rattle.sheet.specs.declared.fault.MarkFault.{MarkFault}
use Rattle.sheet.specs.declared.fault.SheetFault.{SheetFault}
use Rattle.sheet.proofs.Going.{on_itself}

among_more : (x p : ℕ) (ps : List ℕ) → among x (ps ++ (p ∷ [])) ≡ (among x ps || eqb x p)
among_more x p [] = or-false (eqb x p)
among_more x p (q ∷ ps) = ap (λ b. eqb x q || b) (among_more x p ps) ∙ sym (or_assoc (eqb x q) (among x ps) (eqb x p))

-- the pair of u and v is p exactly when they are its consoles
same_pair : (k u v p : ℕ) → 0 < k → (ltb v k && eqb (u * k + v) p) ≡ (eqb u (p / k) && eqb v (p % k))
same_pair k u v p h =
    same_from_decides _ _ (Decides-and (ltb v k) (eqb (u * k + v) p) (Decides-ltb v k) (Decides-eqb (u * k + v) p))
    (Decides-like (eqb u (p / k) && eqb v (p % k)) whole parts (Decides-and (eqb u (p / k)) (eqb v (p % k)) (Decides-eqb u (p / k)) (Decides-eqb v (p % k))))
  where
    whole : (u ≡ p / k) × (v ≡ p % k) → (v < k) × (u * k + v ≡ p)
    whole e = (omega (arith, mod_below p k h, e.1), ap (λ n. n * k + v) e.0 ∙ ap (λ n. p / k * k + n) e.1 ∙ div-add-mod' p k)

    parts : (v < k) × (u * k + v ≡ p) → (u ≡ p / k) × (v ≡ p % k)
    parts e = (sym (div-mul-add u k v e.0) ∙ ap (λ n. n / k) e.1, sym (mod-mul-add u k v e.0) ∙ ap (λ n. n % k) e.1)

with_pair : (s v m n e : Bool) → (v && n) ≡ e → ((s || (v && m)) || e) ≡ (s || (v && (m || n)))
with_pair s v m n e h = grind arith

pub allowed : (k p : ℕ) → 0 < k → p < k * k → allow_answer k (p / k) (p % k) ≡ Ok tt
allowed k p h l = cond-true _ _ _ (and_from _ _ (lt-ltb (p / k) k (div_below p k k h l)) (lt-ltb (p % k) k (mod_below p k h)))

-- one flow more is allowed
pub lists_more : (c : Counts) (a b : Board) (ps : List ℕ) (p : ℕ) → Lists c a ps → 0 < c.consoles → consoles_of (flows_of b) ≡ consoles_of (flows_of a) → lockouts_of b ≡ lockouts_of a → ((u v : ℕ) → may_affect (flows_of b) u v ≡ with_flow (may_affect (flows_of a)) (p / c.consoles) (p % c.consoles) u v) → Lists c b (ps ++ (p ∷ []))
lists_more c a b ps p l h consoles lockouts flows = record {
  consoles = consoles ∙ l.consoles;
  commands = ap commands_of lockouts ∙ l.commands;
  flows = λ u v. flows u v ∙ ap (λ m. m || this_flow (p / c.consoles) (p % c.consoles) u v) (l.flows u v) ∙ with_pair (eqb u v && ltb u c.consoles) (ltb v c.consoles) (among (u * c.consoles + v) ps) (eqb (u * c.consoles + v) p) _ (same_pair c.consoles u v p h) ∙ ap (λ m. (eqb u v && ltb u c.consoles) || (ltb v c.consoles && m)) (sym (among_more (u * c.consoles + v) p ps));
  lockouts = λ n. ap (λ t. locks t n) lockouts ∙ l.lockouts n;
}

-- a bare board lists nothing
pub lists_none : (c : Counts) (b : Board) → consoles_of (flows_of b) ≡ c.consoles → commands_of (lockouts_of b) ≡ c.commands → ((u v : ℕ) → may_affect (flows_of b) u v ≡ bare_flows c.consoles u v) → ((n : ℕ) → locks (lockouts_of b) n ≡ false) → Lists c b []
lists_none c b consoles commands flows lockouts = record {
  consoles = consoles;
  commands = commands;
  flows = λ u v. flows u v ∙ sym (simp (and-false, or-false));
  lockouts = lockouts;
}

-- A row of block 5 was read, or its fault; `may` says whether the pair may come, and `g` is the
-- fault if it may not.
module _ (line : ℕ) (may : ℕ → Bool) (g : MarkFault) where
  abbrev due : Result (ℕ × ℕ) MarkFault → Result (ℕ × ℕ) SheetFault
  due F = on_line line 5 (on F (λ z. cond (may z.0) (Ok z) (Err g)))

  goes_on : {B : Type 0} (next : ℕ × ℕ → Result B SheetFault) (F : Result (ℕ × ℕ) MarkFault) → on (on_line line 5 F) (λ z. cond (may z.0) (next z) (on_line line 5 (Err g))) ≡ on (due F) next
  goes_on next (Ok z) = grind arith
  goes_on next (Err f) = refl

  stops : {B : Type 0} (F : Result (ℕ × ℕ) MarkFault) (f : SheetFault) → Err f ≡ due F → on {B = B} (on_line line 5 F) (λ z. on_line line 5 (Err g)) ≡ Err f
  stops (Ok z) f e = grind arith
  stops (Err h) f e = cc

module _ (k : ℕ) (s : List ℕ) (low line i : ℕ) where
  abbrev here : Result (ℕ × ℕ) SheetFault
  here = on_line line 5 (flow_due k low s i)

  abbrev after : ℕ → ℕ × ℕ → Result (List ℕ) SheetFault
  after room y = on (flows_at k s room (y.0 + 1) (line + 1) y.1) (λ ps. Ok (y.0 ∷ ps))

  flows_next : (room : ℕ) (R : Result (ℕ × ℕ) SheetFault) → i < length s → R ≡ here → flows_at k s (suc room) low line i ≡ on R (after room)
  flows_next room R h e =
      cond-false (leb (length s) i) _ _ (lt-leb (length s) i h)
      ∙ goes_on line (may_come k low) (mark_fault NotDue i) (after room) (flow_at k s i)
      ∙ ap (λ r. on r (after room)) (sym e)

  flows_fault : (room : ℕ) (f : SheetFault) → i < length s → Err f ≡ here → flows_at k s room low line i ≡ Err f
  flows_fault zero f h e = cond-false (leb (length s) i) _ _ (lt-leb (length s) i h) ∙ stops line (may_come k low) (mark_fault NotDue i) (flow_at k s i) f e
  flows_fault (suc room) f h e = flows_next room (Err f) h e

  flows_end : (room : ℕ) → length s ≤ i → flows_at k s room low line i ≡ Ok []
  flows_end zero h = cond-true (leb (length s) i) _ _ (le-leb (length s) i h)
  flows_end (suc room) h = cond-true (leb (length s) i) _ _ (le-leb (length s) i h)

-- what the next flow says: that the sheet goes on, and the flow; the end; the fault
next_some : (b : Bool) (n : ℕ) (R : Result (ℕ × ℕ) SheetFault) (p j : ℕ) → Ok (Some p, j) ≡ cond b (Ok (None, n)) (on {B = Option ℕ × ℕ} R (λ y. Ok (Some y.0, y.1))) → (b ≡ false) × (Ok (p, j) ≡ R)
next_some true n R p j e = grind arith
next_some false n (Ok y) p j e = (refl, grind arith)
next_some false n (Err f) p j e = grind arith

next_none : (b : Bool) (n : ℕ) (R : Result (ℕ × ℕ) SheetFault) (j : ℕ) → Ok (None, j) ≡ cond b (Ok (None, n)) (on {B = Option ℕ × ℕ} R (λ y. Ok (Some y.0, y.1))) → b ≡ true
next_none true n R j e = refl
next_none false n (Ok y) j e = grind arith
next_none false n (Err f) j e = grind arith

next_err : (b : Bool) (n : ℕ) (R : Result (ℕ × ℕ) SheetFault) (f : SheetFault) → Err f ≡ cond b (Ok (None, n)) (on {B = Option ℕ × ℕ} R (λ y. Ok (Some y.0, y.1))) → (b ≡ false) × (Err f ≡ R)
next_err true n R f e = grind arith
next_err false n (Ok y) f e = grind arith
next_err false n (Err g) f e = (refl, cc)

module _ (k low line : ℕ) (s : List ℕ) (i : ℕ) where
  pub came : (p j : ℕ) → Ok (Some p, j) ≡ flow_next k low line s i → (i < length s) × (Ok (p, j) ≡ on_line line 5 (flow_due k low s i))
  came p j e = let t = next_some (leb (length s) i) i (on_line line 5 (flow_due k low s i)) p j e in (leb-false (length s) i t.0, t.1)

  pub none_came : (j : ℕ) → Ok (None, j) ≡ flow_next k low line s i → length s ≤ i
  none_came j e = leb-true (length s) i (next_none (leb (length s) i) i (on_line line 5 (flow_due k low s i)) j e)

  pub refused : (f : SheetFault) → Err f ≡ flow_next k low line s i → (i < length s) × (Err f ≡ on_line line 5 (flow_due k low s i))
  refused f e = let t = next_err (leb (length s) i) i (on_line line 5 (flow_due k low s i)) f e in (leb-false (length s) i t.0, t.1)

in_front : (ps : List ℕ) (p : ℕ) (R : Result (List ℕ) SheetFault) → on (on R (λ qs. Ok (p ∷ qs))) (λ qs. Ok (ps ++ qs)) ≡ on {B = List ℕ} R (λ qs. Ok ((ps ++ (p ∷ [])) ++ qs))
in_front ps p (Ok qs) = ap Ok (sym (append_assoc ps (p ∷ []) qs))
in_front ps p (Err f) = refl

-- How far the reading of the flows has come: `so_far` were read, and `low` is the pair behind
-- the last.
pub record Listing (c : Counts) (s : List ℕ) (line₀ at₀ : ℕ) (b : Board) (low line at : ℕ) : Type 0 where
  pub so_far : List ℕ
  pub room : ℕ
  pub lists : Lists c b so_far
  pub rooms : c.consoles * c.consoles ≤ room + low
  pub below : low ≤ c.consoles * c.consoles
  pub lines : line ≤ line₀ + low
  pub rest : flows_at c.consoles s (c.consoles * c.consoles) 0 line₀ at₀ ≡ on (flows_at c.consoles s room low line at) (λ ps. Ok (so_far ++ ps))

module _ (c : Counts) (s : List ℕ) (line₀ at₀ : ℕ) where
  pub listing_start : (b : Board) → Lists c b [] → Listing c s line₀ at₀ b 0 line₀ at₀
  listing_start b l = record {
    so_far = [];
    room = c.consoles * c.consoles;
    lists = l;
    rooms = omega arith;
    below = omega arith;
    lines = omega arith;
    rest = on_itself (flows_at c.consoles s (c.consoles * c.consoles) 0 line₀ at₀);
  }

  module _ (a : Board) (low line at : ℕ) (l : Listing c s line₀ at₀ a low line at) where
    pub listing_more : (b : Board) (y : ℕ × ℕ) → at < length s → Ok y ≡ on_line line 5 (flow_due c.consoles low s at) → low ≤ y.0 → y.0 < c.consoles * c.consoles → Lists c b (l.so_far ++ (y.0 ∷ [])) → Listing c s line₀ at₀ b (y.0 + 1) (line + 1) y.1
    listing_more b y h e least most more = by l.room l.rooms l.rest
      where
        by : (room : ℕ) → c.consoles * c.consoles ≤ room + low → flows_at c.consoles s (c.consoles * c.consoles) 0 line₀ at₀ ≡ on (flows_at c.consoles s room low line at) (λ ps. Ok (l.so_far ++ ps)) → Listing c s line₀ at₀ b (y.0 + 1) (line + 1) y.1
        by zero rooms rest = absurd (omega arith)
        by (suc room) rooms rest = record {
          so_far = l.so_far ++ (y.0 ∷ []);
          room = room;
          lists = more;
          rooms = omega arith;
          below = omega arith;
          lines = omega (arith, l.lines);
          rest = rest ∙ ap (λ R. on R (λ ps. Ok (l.so_far ++ ps))) (flows_next c.consoles s low line at room (Ok y) h e) ∙ in_front l.so_far y.0 (flows_at c.consoles s room (y.0 + 1) (line + 1) y.1);
        }

    pub listing_fault : (f : SheetFault) → at < length s → Err f ≡ on_line line 5 (flow_due c.consoles low s at) → flows_at c.consoles s (c.consoles * c.consoles) 0 line₀ at₀ ≡ Err f
    listing_fault f h e = l.rest ∙ ap (λ R. on R (λ ps. Ok (l.so_far ++ ps))) (flows_fault c.consoles s low line at l.room f h e)

    pub listing_end : length s ≤ at → flows_at c.consoles s (c.consoles * c.consoles) 0 line₀ at₀ ≡ Ok l.so_far
    listing_end h = l.rest ∙ ap (λ R. on R (λ ps. Ok (l.so_far ++ ps))) (flows_end c.consoles s low line at l.room h) ∙ ap Ok (append-nil l.so_far)

-- the board, or the refusal that the fault turns into
module _ (c : Counts) (r : Result Board Refusal) (W : Result (List ℕ) SheetFault) where
  pub board_refused : (f : SheetFault) → r ≡ Err (refusal_of f) → W ≡ Err f → BoardAs c r W
  board_refused f e w = rw e (rw w refl)

  pub board_listed : (b : Board) (ps : List ℕ) → r ≡ Ok b → W ≡ Ok ps → Lists c b ps → BoardAs c r W
  board_listed b ps e w l = rw e (rw w l)
