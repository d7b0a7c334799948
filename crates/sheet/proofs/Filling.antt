-- The stores are filled from their front, entry by entry, as the rows say.
use Rattle.std.proofs.Common.{◌≡◌, ℕ, ◌+◌, ◌*◌, ◌<◌, true, cond, ltb, leb, List, [], ◌∷◌, ◌++◌, map, length, get_or, drop, set, Some, Option, Result, sym, refl, ap, ◌∙◌, arith}
use Rattle.std.proofs.lemmas.Nat.{mul-le}
use Rattle.std.proofs.lemmas.List.{append_assoc, append-nil, drop_more, length-append, length-map, length_push, map-append, set_at}
use Rattle.std.proofs.lemmas.Bool.{and_parts, cond_both, leb-true, ltb-false}
use Rattle.mark.specs.declared.cause.Cause.{Cause}
use Rattle.control.specs.Tables.{store_suffices}
use Rattle.control.specs.declared.table.Counts.{Counts}
use Rattle.sheet.specs.Calls.{overwritten}
use Rattle.sheet.specs.Reading.{Entries, with_value, no_entries}
use Rattle.sheet.specs.Due.{Within, Stands, next_due}
use Rattle.sheet.specs.Entries.{value_of, Kinded}
use Rattle.sheet.specs.Passes.{Ready, Stepped, left_at, started}
use Rattle.sheet.specs.Stores.{Holds, steps_with, owners_with, displays_with, steps_done, owners_done, displays_done}
use Rattle.sheet.specs.declared.due.Block.{Block}
use Rattle.sheet.specs.declared.due.Block.TheVariants as block
use Rattle.sheet.specs.declared.due.Due.{Due}
use Rattle.sheet.specs.declared.due.Due.TheVariants as due
use Rattle.sheet.specs.declared.fault.SheetFault.{SheetFault}
use Rattle.sheet.specs.declared.marks.Cursor.{Cursor}
use Rattle.sheet.specs.declared.progress.Progress.{Progress}
use Rattle.sheet.specs.declared.heading.Heading.{Heading}
use Rattle.sheet.specs.declared.rows.Entry.{Entry}
use Rattle.sheet.specs.declared.rows.Entry.TheVariants.{Nothing, Owner, Step, Shown}
use Rattle.sheet.proofs.Passed.{Passing, passing_start, passing_more}

-- one entry more in front
overwritten_more : {A : Type 0} (front store : List A) (n : ℕ) (w : A) → length front ≡ n → n < length store → set (overwritten front store) n w ≡ overwritten (front ++ (w ∷ [])) store
overwritten_more front store n w e h =
    ap (λ t. set (front ++ t) n w) (ap (λ m. drop m store) e ∙ drop_more store n w h)
    ∙ set_at front (get_or store n w) (drop (n + 1) store) w n e
    ∙ ap (λ m. front ++ (w ∷ drop m store)) (ap (λ m. m + 1) (sym e) ∙ sym (length_push front w))
    ∙ sym (append_assoc front (w ∷ []) (drop (length (front ++ (w ∷ []))) store))

overwritten_same : {A : Type 0} (front store : List A) → overwritten front store ≡ overwritten (front ++ []) store
overwritten_same front store = ap (λ f. overwritten f store) (sym (append-nil front))

-- an entry with the row that it is of
data Paired {D : Type 0} : Due → Entry D → Type 0 where
  titled : (b : Block) → Paired (due.Title b) Nothing
  owned_by : (n w : ℕ) → Paired (due.Owner n) (Owner w)
  stepped_to : (n t : ℕ) → Paired (due.Step n) (Step t)
  shown_as : (n : ℕ) (d : D) → Paired (due.Shown n) (Shown d)

paired : {D : Type 0} (d : Due) (v : Entry D) → Kinded d v → Paired d v
paired (due.Title b) Nothing k = titled b
paired (due.Title b) (Owner w) k = absurd k
paired (due.Title b) (Step t) k = absurd k
paired (due.Title b) (Shown x) k = absurd k
paired (due.Owner n) Nothing k = absurd k
paired (due.Owner n) (Owner w) k = owned_by n w
paired (due.Owner n) (Step t) k = absurd k
paired (due.Owner n) (Shown x) k = absurd k
paired (due.Step n) Nothing k = absurd k
paired (due.Step n) (Owner w) k = absurd k
paired (due.Step n) (Step t) k = stepped_to n t
paired (due.Step n) (Shown x) k = absurd k
paired (due.Shown n) Nothing k = absurd k
paired (due.Shown n) (Owner w) k = absurd k
paired (due.Shown n) (Step t) k = absurd k
paired (due.Shown n) (Shown x) k = shown_as n x

-- the entry alone
abbrev alone : {D : Type 0} → Entry D → Entries D
alone v = with_value (value_of v) no_entries

-- at row n of `many`, the number of entries before the next row: F counts them
counted_on : (F : Option Due → ℕ) (many n : ℕ) (more last : Due) → F (Some more) ≡ n + 1 → F (Some last) ≡ many → n < many → F (cond (ltb (n + 1) many) (Some more) (Some last)) ≡ n + 1
counted_on F many n more last m l h = cond_both (ltb (n + 1) many) (Some more) (Some last) (λ d. F d ≡ n + 1) (λ e. m) (λ e. omega (arith, l, ltb-false (n + 1) many e))

counted_still : (F : Option Due → ℕ) (many n k : ℕ) (more last : Due) → F (Some more) ≡ k → F (Some last) ≡ k → F (cond (ltb (n + 1) many) (Some more) (Some last)) ≡ k + 0
counted_still F many n k more last m l = cond_both (ltb (n + 1) many) (Some more) (Some last) (λ d. F d ≡ k + 0) (λ e. omega (arith, m)) (λ e. omega (arith, l))

module _ {D : Type 0} (c : Counts) where
  owners_next : (d : Due) (v : Entry D) → Stands c d → Paired d v → owners_done c (next_due c d) ≡ owners_done c (Some d) + length (alone v).owners
  owners_next _ _ h (titled block.Owners) = omega arith
  owners_next _ _ h (titled block.Steps) = omega arith
  owners_next _ _ h (titled block.Displays) = omega arith
  owners_next _ _ h (titled block.Flows) = omega arith
  owners_next _ _ h (owned_by n w) = counted_on (owners_done c) c.commands n _ _ refl refl h
  owners_next _ _ h (stepped_to n t) = counted_still (owners_done c) (c.states * c.commands) n c.commands _ _ refl refl
  owners_next _ _ h (shown_as n x) = counted_still (owners_done c) (c.states * c.consoles) n c.commands _ _ refl refl

  steps_next : (d : Due) (v : Entry D) → Stands c d → Paired d v → steps_done c (next_due c d) ≡ steps_done c (Some d) + length (alone v).steps
  steps_next _ _ h (titled block.Owners) = omega arith
  steps_next _ _ h (titled block.Steps) = omega arith
  steps_next _ _ h (titled block.Displays) = omega arith
  steps_next _ _ h (titled block.Flows) = omega arith
  steps_next _ _ h (owned_by n w) = counted_still (steps_done c) c.commands n 0 _ _ refl refl
  steps_next _ _ h (stepped_to n t) = counted_on (steps_done c) (c.states * c.commands) n _ _ refl refl h
  steps_next _ _ h (shown_as n x) = counted_still (steps_done c) (c.states * c.consoles) n (c.states * c.commands) _ _ refl refl

  displays_next : (d : Due) (v : Entry D) → Stands c d → Paired d v → displays_done c (next_due c d) ≡ displays_done c (Some d) + length (alone v).displays
  displays_next _ _ h (titled block.Owners) = omega arith
  displays_next _ _ h (titled block.Steps) = omega arith
  displays_next _ _ h (titled block.Displays) = omega arith
  displays_next _ _ h (titled block.Flows) = omega arith
  displays_next _ _ h (owned_by n w) = counted_still (displays_done c) c.commands n 0 _ _ refl refl
  displays_next _ _ h (stepped_to n t) = counted_still (displays_done c) (c.states * c.commands) n 0 _ _ refl refl
  displays_next _ _ h (shown_as n x) = counted_on (displays_done c) (c.states * c.consoles) n _ _ refl refl h

-- the stores of these sizes with the entry kept
module _ {D : Type 0} (c : Counts) (a b : ℕ) where
  owners_kept : (front store : List ℕ) (d : Due) (v : Entry D) → Holds a (length store) b d → length front ≡ owners_done c (Some d) → Paired d v → owners_with d v (overwritten front store) ≡ overwritten (front ++ (alone v).owners) store
  owners_kept front store _ _ h e (titled t) = overwritten_same front store
  owners_kept front store _ _ h e (owned_by n w) = overwritten_more front store n w e h
  owners_kept front store _ _ h e (stepped_to n t) = overwritten_same front store
  owners_kept front store _ _ h e (shown_as n x) = overwritten_same front store

  steps_kept : (front store : List ℕ) (d : Due) (v : Entry D) → Holds (length store) a b d → length front ≡ steps_done c (Some d) → Paired d v → steps_with d v (overwritten front store) ≡ overwritten (front ++ (alone v).steps) store
  steps_kept front store _ _ h e (titled t) = overwritten_same front store
  steps_kept front store _ _ h e (owned_by n w) = overwritten_same front store
  steps_kept front store _ _ h e (stepped_to n t) = overwritten_more front store n t e h
  steps_kept front store _ _ h e (shown_as n x) = overwritten_same front store

  displays_kept : {C : Type 0} (cell : D → C) (front : List D) (store : List C) (d : Due) (v : Entry D) → Holds a b (length store) d → length front ≡ displays_done c (Some d) → Paired d v → displays_with cell d v (overwritten (map cell front) store) ≡ overwritten (map cell (front ++ (alone v).displays)) store
  displays_kept cell front store _ _ h e (titled t) = ap (λ f. overwritten (map cell f) store) (sym (append-nil front))
  displays_kept cell front store _ _ h e (owned_by n w) = ap (λ f. overwritten (map cell f) store) (sym (append-nil front))
  displays_kept cell front store _ _ h e (stepped_to n t) = ap (λ f. overwritten (map cell f) store) (sym (append-nil front))
  displays_kept cell front store _ _ h e (shown_as n x) = overwritten_more (map cell front) store n (cell x) (length-map front cell ∙ e) h ∙ ap (λ f. overwritten f store) (sym (map-append cell front (x ∷ [])))

-- How far the stores are filled: they held `steps₀`, `owners₀` and `displays₀`, W is what all
-- rows say, and what was read of it stands in their front.
module _ {D C : Type 0} (reads : List ℕ → Result D Cause) (h : Heading) (cell : D → C) (W : Result (Entries D × ℕ) SheetFault) (steps₀ owners₀ : List ℕ) (displays₀ : List C) where
  pub record Filling (p : Progress) (steps owners : List ℕ) (displays : List C) : Type 0 where
    pub passing : Passing reads h W p
    pub steps_many : length passing.so_far.steps ≡ steps_done h.counts p.due
    pub owners_many : length passing.so_far.owners ≡ owners_done h.counts p.due
    pub displays_many : length passing.so_far.displays ≡ displays_done h.counts p.due
    pub steps_hold : steps ≡ overwritten passing.so_far.steps steps₀
    pub owners_hold : owners ≡ overwritten passing.so_far.owners owners₀
    pub displays_hold : displays ≡ overwritten (map cell passing.so_far.displays) displays₀

  pub filling_start : (a : Cursor) → Ready h.counts (started a) → W ≡ left_at reads h (started a) → Filling (started a) steps₀ owners₀ displays₀
  unfolding passing_start
  filling_start a ready whole = record {
    passing = passing_start reads h W a ready whole;
    steps_many = refl;
    owners_many = refl;
    displays_many = refl;
    steps_hold = refl;
    owners_hold = refl;
    displays_hold = refl;
  }

  module _ (p : Progress) (steps owners : List ℕ) (displays : List C) (l : Filling p steps owners displays) where
    pub filling_more : (q : Progress) (d : Due) (v : Entry D) (steps' owners' : List ℕ) (displays' : List C) → Stepped reads h p q d v → Holds (length steps₀) (length owners₀) (length displays₀) d → Stands h.counts d → steps' ≡ steps_with d v steps → owners' ≡ owners_with d v owners → displays' ≡ displays_with cell d v displays → Filling q steps' owners' displays'
    unfolding passing_more
    filling_more q d v steps' owners' displays' t room stands es eo ed =
        let k = paired d v t.kind in
        let ns = l.steps_many ∙ ap (steps_done h.counts) t.was in
        let no = l.owners_many ∙ ap (owners_done h.counts) t.was in
        let nd = l.displays_many ∙ ap (displays_done h.counts) t.was in
        record {
          passing = passing_more reads h W p q d v l.passing t;
          steps_many = length-append l.passing.so_far.steps (alone v).steps ∙ ap (λ n. n + length (alone v).steps) ns ∙ sym (steps_next h.counts d v stands k) ∙ ap (steps_done h.counts) (sym t.next);
          owners_many = length-append l.passing.so_far.owners (alone v).owners ∙ ap (λ n. n + length (alone v).owners) no ∙ sym (owners_next h.counts d v stands k) ∙ ap (owners_done h.counts) (sym t.next);
          displays_many = length-append l.passing.so_far.displays (alone v).displays ∙ ap (λ n. n + length (alone v).displays) nd ∙ sym (displays_next h.counts d v stands k) ∙ ap (displays_done h.counts) (sym t.next);
          steps_hold = es ∙ ap (steps_with d v) l.steps_hold ∙ steps_kept h.counts (length owners₀) (length displays₀) l.passing.so_far.steps steps₀ d v room ns k;
          owners_hold = eo ∙ ap (owners_with d v) l.owners_hold ∙ owners_kept h.counts (length steps₀) (length displays₀) l.passing.so_far.owners owners₀ d v room no k;
          displays_hold = ed ∙ ap (displays_with cell d v) l.displays_hold ∙ displays_kept h.counts (length steps₀) (length owners₀) cell l.passing.so_far.displays displays₀ d v room nd k;
        }

-- stores that suffice have a place for every row
module _ (c : Counts) (w : Within c) (a b d a' b' d' : ℕ) (room : store_suffices a b d ≡ true) (p : a' ≡ a) (q : b' ≡ b) (r : d' ≡ d) where
  pub room_for : (t : Due) → Stands c t → Holds a' b' d' t
  room_for (due.Title t) h = tt
  room_for (due.Owner n) h = let e = leb-true 24 b (and_parts (leb 24 b) (leb 1200 d) (and_parts (leb 2400 a) _ room).1).0 in omega (arith, w.commands.1)
  room_for (due.Step n) h = let e = leb-true 2400 a (and_parts (leb 2400 a) _ room).0 in omega (arith, mul-le c.states c.commands 100 24 w.states.1 w.commands.1)
  room_for (due.Shown n) h = let e = leb-true 1200 d (and_parts (leb 24 b) (leb 1200 d) (and_parts (leb 2400 a) _ room).1).1 in omega (arith, mul-le c.states c.consoles 100 12 w.states.1 w.consoles.1)
